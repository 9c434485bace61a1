-- Two valid plans with one spelling differ in needs and local marks at most.
use Rattle.std.proofs.Common.{◌≡◌, ℕ, zero, suc, ◌+◌, ◌<◌, ◌≤◌, ◌^◌, Bool, true, false, List, [], ◌∷◌, ◌++◌, length, take, drop, get_or, Option, Some, None, refl, ap, sym, ◌∙◌, arith, subst, All, append_assoc, append-nil}
use Rattle.std.specs.Prelude.{flat_map, map, nat_lt, nat_le, ◌==◌, min, sum_by, slice_get}
use Rattle.std.specs.List.{list_all, range_with_len}
use Rattle.std.specs.Option.{option_map_or}
use Rattle.std.specs.Int.{to_be_bytes, from_be_bytes, w32, w64}
use Rattle.std.proofs.Math.Seq.{take-append_seam, drop-append_seam}
use Rattle.std.proofs.lemmas.Nat.{from_be_bytes-to_be_bytes_4, from_be_bytes-to_be_bytes_8}
use Rattle.std.proofs.lemmas.List.{map-id}
use Rattle.std.proofs.lemmas.List.Folds.{list_all-append}
use Rattle.std.proofs.lemmas.List.Concat.{flat_map-cons}
use Rattle.std.proofs.lemmas.List.Elements.{All-head, All-tail, All-from_get_or, All-get_or}
use Rattle.std.proofs.lemmas.Option.{slice_get-get_or}
use Rattle.std.proofs.lemmas.Bool.{and_parts, leb-true, ltb-true, eqb-true}
use Rattle.flow_types.specs.declared.plan.Plan.{Plan}
use Rattle.flow_types.specs.declared.plan.Rule.{Rule}
use Rattle.flow_types.specs.declared.plan.FileRow.{FileRow}
use Rattle.flow_types.specs.declared.plan.Port.{Port}
use Rattle.flow_types.specs.declared.flow.Pair.{Pair}
use Rattle.flow_types.specs.declared.numbers.RuleNo.{RuleNo}
use Rattle.flow_types.specs.Plans.{IsValid, makes, maker_of, contains_number, bound_of, most_bytes}
use Rattle.flow_types.proofs.SerialRun.{all_in_range, in_plan}
use Rattle.rule_graph.specs.Spelling.{text_bytes, counted_bytes, pair_bytes, port_bytes, rule_bytes, maker_bytes, flag_bytes, file_bytes, plan_bytes}
use Rattle.rule_graph.specs.Hashing.{IsCountable, IsPairCountable, IsPortCountable, IsRuleCountable, IsFileCountable}
use Rattle.rule_graph.specs.Laws.{Spelled, spelled_part, SpellingTells}
use Rattle.rule_graph.proofs.Counts.{all_from, all_from_two, rules_countable, files_countable}

-- where two spellings begin two texts that are equal, they are of items that are the same, and the rests are equal
abbrev Tells : {A : Type 0} → (A → Type 0) → (A → List ℕ) → (A → A → Type 0) → Type 0
Tells {A} Fits spell Same = (x y : A) (r s : List ℕ) → Fits x → Fits y → spell x ++ r ≡ spell y ++ s → (Same x y) × (r ≡ s)

split_equal : (xs ys r s : List ℕ) → length xs ≡ length ys → xs ++ r ≡ ys ++ s → (xs ≡ ys) × (r ≡ s)
split_equal xs ys r s long same = (
  sym (take-append_seam xs r) ∙ ap (take (length xs)) same ∙ ap (λ n. take n (ys ++ s)) long ∙ take-append_seam ys s,
  sym (drop-append_seam xs r) ∙ ap (drop (length xs)) same ∙ ap (λ n. drop n (ys ++ s)) long ∙ drop-append_seam ys s,
)

number_tells : Tells (λ n. n < 2 ^ 32) (to_be_bytes w32) (λ n m. n ≡ m)
number_tells n m r s fits_n fits_m same =
    let split = split_equal (to_be_bytes w32 n) (to_be_bytes w32 m) r s refl same in
    (sym (from_be_bytes-to_be_bytes_4 n fits_n) ∙ ap (from_be_bytes w32) split.0 ∙ from_be_bytes-to_be_bytes_4 m fits_m, split.1)

long_number_tells : Tells (λ n. n < 2 ^ 64) (to_be_bytes w64) (λ n m. n ≡ m)
long_number_tells n m r s fits_n fits_m same =
    let split = split_equal (to_be_bytes w64 n) (to_be_bytes w64 m) r s refl same in
    (sym (from_be_bytes-to_be_bytes_8 n fits_n) ∙ ap (from_be_bytes w64) split.0 ∙ from_be_bytes-to_be_bytes_8 m fits_m, split.1)

-- one part behind another
both_tell : {A : Type 0} (Fits : A → Type 0) (f g : A → List ℕ) (S T : A → A → Type 0) → Tells Fits f S → Tells Fits g T
    → Tells Fits (λ x. f x ++ g x) (λ x y. S x y × T x y)
both_tell Fits f g S T first second x y r s fits_x fits_y same =
    let one = first x y (g x ++ r) (g y ++ s) fits_x fits_y (sym (append_assoc (f x) (g x) r) ∙ same ∙ append_assoc (f y) (g y) s) in
    let two = second x y r s fits_x fits_y one.1 in
    ((one.0, two.0), two.1)

-- a part of an item
part_tells : {A B : Type 0} (Fits : A → Type 0) (Whole : B → Type 0) (f : A → List ℕ) (S : A → A → Type 0) (part : B → A)
    → ((x : B) → Whole x → Fits (part x)) → Tells Fits f S → Tells Whole (λ x. f (part x)) (λ x y. S (part x) (part y))
part_tells Fits Whole f S part fits tells x y r s fits_x fits_y same = tells (part x) (part y) r s (fits x fits_x) (fits y fits_y) same

text_tells : Tells IsCountable text_bytes (λ x y. x ≡ y)
text_tells x y r s fits_x fits_y same =
    let one = number_tells (length x) (length y) (x ++ r) (y ++ s) fits_x fits_y
    (sym (append_assoc (to_be_bytes w32 (length x)) x r) ∙ same ∙ append_assoc (to_be_bytes w32 (length y)) y s) in
    split_equal x y r s one.0 one.1

module _ {A K : Type 0} (Fits : A → Type 0) (spell : A → List ℕ) (key : A → K) (tells : Tells Fits spell (λ x y. key x ≡ key y)) where
  items_tell : (xs ys : List A) (r s : List ℕ) → length xs ≡ length ys → All Fits xs → All Fits ys → flat_map spell xs ++ r ≡ flat_map spell ys ++ s
      → (map key xs ≡ map key ys) × (r ≡ s)
  items_tell [] [] r s long fit_xs fit_ys same = (refl, same)
  items_tell [] (y ∷ ys) r s long fit_xs fit_ys same = absurd (let wrong : ⊥ = cc in wrong)
  items_tell (x ∷ xs) [] r s long fit_xs fit_ys same = absurd (let wrong : ⊥ = cc in wrong)
  items_tell (x ∷ xs) (y ∷ ys) r s long fit_xs fit_ys same =
      let rest_long : length xs ≡ length ys = omega (arith, long) in
      let whole : spell x ++ (flat_map spell xs ++ r) ≡ spell y ++ (flat_map spell ys ++ s) =
      sym (ap (λ bytes. bytes ++ r) (flat_map-cons spell x xs) ∙ append_assoc (spell x) (flat_map spell xs) r)
      ∙ same ∙ ap (λ bytes. bytes ++ s) (flat_map-cons spell y ys) ∙ append_assoc (spell y) (flat_map spell ys) s in
      let one = tells x y (flat_map spell xs ++ r) (flat_map spell ys ++ s) (All-head Fits x xs fit_xs) (All-head Fits y ys fit_ys) whole in
      let rest = items_tell xs ys r s rest_long (All-tail Fits x xs fit_xs) (All-tail Fits y ys fit_ys) one.1 in
      (ap (λ k. k ∷ map key xs) one.0 ∙ ap (λ ks. key y ∷ ks) rest.0, rest.1)

  list_tells : Tells (λ xs. IsCountable xs × All Fits xs) (counted_bytes spell) (λ xs ys. map key xs ≡ map key ys)
  list_tells xs ys r s fits_xs fits_ys same =
      let one = number_tells (length xs) (length ys) (flat_map spell xs ++ r) (flat_map spell ys ++ s) fits_xs.0 fits_ys.0
      (sym (append_assoc (to_be_bytes w32 (length xs)) (flat_map spell xs) r) ∙ same ∙ append_assoc (to_be_bytes w32 (length ys)) (flat_map spell ys) s) in
      items_tell xs ys r s one.0 fits_xs.1 fits_ys.1 one.1

-- a list whose items are told whole
rows_tell : {A : Type 0} (Fits : A → Type 0) (spell : A → List ℕ) → Tells Fits spell (λ x y. x ≡ y)
    → Tells (λ xs. IsCountable xs × All Fits xs) (counted_bytes spell) (λ xs ys. xs ≡ ys)
rows_tell Fits spell tells xs ys r s fits_xs fits_ys same =
    let one = list_tells Fits spell (λ x. x) tells xs ys r s fits_xs fits_ys same in
    (sym (map-id xs) ∙ one.0 ∙ map-id ys, one.1)

pair_tells : Tells IsPairCountable pair_bytes (λ x y. x ≡ y)
pair_tells x y r s fits_x fits_y same =
    let one = both_tell IsPairCountable (λ pair. text_bytes pair.name) (λ pair. text_bytes pair.value) (λ x y. x.name ≡ y.name) (λ x y. x.value ≡ y.value)
    (part_tells IsCountable IsPairCountable text_bytes (λ x y. x ≡ y) (λ pair. pair.name) (λ pair fits. fits.0) text_tells)
    (part_tells IsCountable IsPairCountable text_bytes (λ x y. x ≡ y) (λ pair. pair.value) (λ pair fits. fits.1) text_tells)
    x y r s fits_x fits_y same in
    (pair_same x y one.0.0 one.0.1, one.1)
  where
    pair_same : (x y : Pair) → x.name ≡ y.name → x.value ≡ y.value → x ≡ y
    pair_same x y names values = ap (λ n. record x { name = n }) names ∙ ap (λ v. record y { value = v }) values

-- a port whose numbers and texts fit their bytes
IsPortFit : Port → Type 0
IsPortFit port = (port.file.0 < 2 ^ 32) × IsCountable port.remote

port_tells : Tells IsPortFit port_bytes (λ x y. x ≡ y)
unfolding IsPortFit
port_tells x y r s fits_x fits_y same =
    let one = both_tell IsPortFit (λ port. to_be_bytes w32 port.file.0) (λ port. text_bytes port.remote) (λ x y. x.file.0 ≡ y.file.0) (λ x y. x.remote ≡ y.remote)
    (part_tells (λ n. n < 2 ^ 32) IsPortFit (to_be_bytes w32) (λ x y. x ≡ y) (λ port. port.file.0) (λ port fits. fits.0) number_tells)
    (part_tells IsCountable IsPortFit text_bytes (λ x y. x ≡ y) (λ port. port.remote) (λ port fits. fits.1) text_tells)
    x y r s fits_x fits_y same in
    (port_same x y one.0.0 one.0.1, one.1)
  where
    port_same : (x y : Port) → x.file.0 ≡ y.file.0 → x.remote ≡ y.remote → x ≡ y
    port_same x y files remotes = ap (λ f. record x { file = record { 0 = f } }) files ∙ ap (λ n. record y { remote = n }) remotes

-- a rule whose numbers, counts and texts fit their bytes
record IsRuleFit (rule : Rule) : Type 0 where
  counts : IsRuleCountable rule
  inputs : All IsPortFit rule.inputs
  outputs : All IsPortFit rule.outputs
  bound : rule.bound < 2 ^ 64

rule_tells : Tells IsRuleFit rule_bytes (λ x y. spelled_part x ≡ spelled_part y)
rule_tells x y r s fits_x fits_y same =
    let ports : Tells (λ xs. IsCountable xs × All IsPortFit xs) (counted_bytes port_bytes) (λ xs ys. xs ≡ ys) = rows_tell IsPortFit port_bytes port_tells in
    let command : Tells IsRuleFit (λ rule. text_bytes rule.command) (λ x y. x.command ≡ y.command) =
    part_tells IsCountable IsRuleFit text_bytes (λ x y. x ≡ y) (λ rule. rule.command) (λ rule fits. fits.counts.command) text_tells in
    let env : Tells IsRuleFit (λ rule. counted_bytes pair_bytes rule.env) (λ x y. x.env ≡ y.env) =
    part_tells (λ xs. IsCountable xs × All IsPairCountable xs) IsRuleFit (counted_bytes pair_bytes) (λ xs ys. xs ≡ ys) (λ rule. rule.env)
    (λ rule fits. (fits.counts.pairs, fits.counts.each_pair)) (rows_tell IsPairCountable pair_bytes pair_tells) in
    let inputs : Tells IsRuleFit (λ rule. counted_bytes port_bytes rule.inputs) (λ x y. x.inputs ≡ y.inputs) =
    part_tells (λ xs. IsCountable xs × All IsPortFit xs) IsRuleFit (counted_bytes port_bytes) (λ xs ys. xs ≡ ys) (λ rule. rule.inputs)
    (λ rule fits. (fits.counts.inputs, fits.inputs)) ports in
    let outputs : Tells IsRuleFit (λ rule. counted_bytes port_bytes rule.outputs) (λ x y. x.outputs ≡ y.outputs) =
    part_tells (λ xs. IsCountable xs × All IsPortFit xs) IsRuleFit (counted_bytes port_bytes) (λ xs ys. xs ≡ ys) (λ rule. rule.outputs)
    (λ rule fits. (fits.counts.outputs, fits.outputs)) ports in
    let bound : Tells IsRuleFit (λ rule. to_be_bytes w64 rule.bound) (λ x y. x.bound ≡ y.bound) =
    part_tells (λ n. n < 2 ^ 64) IsRuleFit (to_be_bytes w64) (λ x y. x ≡ y) (λ rule. rule.bound) (λ rule fits. fits.bound) long_number_tells in
    let f = λ (rule : Rule). text_bytes rule.command in
    let g = λ (rule : Rule). counted_bytes pair_bytes rule.env in
    let h = λ (rule : Rule). counted_bytes port_bytes rule.inputs in
    let i = λ (rule : Rule). counted_bytes port_bytes rule.outputs in
    let j = λ (rule : Rule). to_be_bytes w64 rule.bound in
    let C : Rule → Rule → Type 0 = λ x y. x.command ≡ y.command in
    let E : Rule → Rule → Type 0 = λ x y. x.env ≡ y.env in
    let I : Rule → Rule → Type 0 = λ x y. x.inputs ≡ y.inputs in
    let O : Rule → Rule → Type 0 = λ x y. x.outputs ≡ y.outputs in
    let B : Rule → Rule → Type 0 = λ x y. x.bound ≡ y.bound in
    let CE : Rule → Rule → Type 0 = λ x y. C x y × E x y in
    let CEI : Rule → Rule → Type 0 = λ x y. CE x y × I x y in
    let CEIO : Rule → Rule → Type 0 = λ x y. CEI x y × O x y in
    let two = both_tell IsRuleFit f g C E command env in
    let three = both_tell IsRuleFit (λ rule. f rule ++ g rule) h CE I two inputs in
    let four = both_tell IsRuleFit (λ rule. f rule ++ g rule ++ h rule) i CEI O three outputs in
    let one = both_tell IsRuleFit (λ rule. f rule ++ g rule ++ h rule ++ i rule) j CEIO B four bound x y r s fits_x fits_y same in
    (part_same (spelled_part x) (spelled_part y) one.0.0.0.0.0 one.0.0.0.0.1 one.0.0.0.1 one.0.0.1 one.0.1, one.1)
  where
    part_same : (x y : Spelled) → x.command ≡ y.command → x.env ≡ y.env → x.inputs ≡ y.inputs → x.outputs ≡ y.outputs → x.bound ≡ y.bound → x ≡ y
    part_same x y command env inputs outputs bound =
        ap (λ v. record x { command = v }) command
        ∙ ap (λ v. record y { env = v; inputs = x.inputs; outputs = x.outputs; bound = x.bound }) env
        ∙ ap (λ v. record y { inputs = v; outputs = x.outputs; bound = x.bound }) inputs
        ∙ ap (λ v. record y { outputs = v; bound = x.bound }) outputs
        ∙ ap (λ v. record y { bound = v }) bound

-- the maker of a file has a number that fits its bytes
abbrev IsMakerFit : Option RuleNo → Type 0
IsMakerFit None = Unit {0}
IsMakerFit (Some rule) = rule.0 < 2 ^ 32

maker_tells : Tells IsMakerFit maker_bytes (λ x y. x ≡ y)
maker_tells None None r s fits_x fits_y same = (refl, ap (drop 1) same)
maker_tells None (Some y) r s fits_x fits_y same = absurd (let wrong : ⊥ = cc in wrong)
maker_tells (Some x) None r s fits_x fits_y same = absurd (let wrong : ⊥ = cc in wrong)
maker_tells (Some x) (Some y) r s fits_x fits_y same =
    let one = number_tells x.0 y.0 r s fits_x fits_y (ap (drop 1) same) in (ap (λ n. Some (record { 0 = n })) one.0, one.1)

flag_tells : Tells (λ flag. Unit {0}) flag_bytes (λ x y. x ≡ y)
flag_tells true true r s fits_x fits_y same = (refl, ap (drop 1) same)
flag_tells true false r s fits_x fits_y same = absurd (let wrong : ⊥ = cc in wrong)
flag_tells false true r s fits_x fits_y same = absurd (let wrong : ⊥ = cc in wrong)
flag_tells false false r s fits_x fits_y same = (refl, ap (drop 1) same)

-- a file's row whose numbers and name fit their bytes
record IsRowFit (row : FileRow) : Type 0 where
  name : IsCountable row.name
  maker : IsMakerFit row.maker
  bound : row.bound < 2 ^ 64

file_tells : Tells IsRowFit file_bytes (λ x y. x ≡ y)
file_tells x y r s fits_x fits_y same =
    let name : Tells IsRowFit (λ row. text_bytes row.name) (λ x y. x.name ≡ y.name) =
    part_tells IsCountable IsRowFit text_bytes (λ x y. x ≡ y) (λ row. row.name) (λ row fits. fits.name) text_tells in
    let maker : Tells IsRowFit (λ row. maker_bytes row.maker) (λ x y. x.maker ≡ y.maker) =
    part_tells IsMakerFit IsRowFit maker_bytes (λ x y. x ≡ y) (λ row. row.maker) (λ row fits. fits.maker) maker_tells in
    let kept : Tells IsRowFit (λ row. flag_bytes row.kept) (λ x y. x.kept ≡ y.kept) =
    part_tells (λ flag. Unit {0}) IsRowFit flag_bytes (λ x y. x ≡ y) (λ row. row.kept) (λ row fits. tt) flag_tells in
    let bound : Tells IsRowFit (λ row. to_be_bytes w64 row.bound) (λ x y. x.bound ≡ y.bound) =
    part_tells (λ n. n < 2 ^ 64) IsRowFit (to_be_bytes w64) (λ x y. x ≡ y) (λ row. row.bound) (λ row fits. fits.bound) long_number_tells in
    let f = λ (row : FileRow). text_bytes row.name in
    let g = λ (row : FileRow). maker_bytes row.maker in
    let h = λ (row : FileRow). flag_bytes row.kept in
    let i = λ (row : FileRow). to_be_bytes w64 row.bound in
    let N : FileRow → FileRow → Type 0 = λ x y. x.name ≡ y.name in
    let M : FileRow → FileRow → Type 0 = λ x y. x.maker ≡ y.maker in
    let K : FileRow → FileRow → Type 0 = λ x y. x.kept ≡ y.kept in
    let B : FileRow → FileRow → Type 0 = λ x y. x.bound ≡ y.bound in
    let NM : FileRow → FileRow → Type 0 = λ x y. N x y × M x y in
    let NMK : FileRow → FileRow → Type 0 = λ x y. NM x y × K x y in
    let two = both_tell IsRowFit f g N M name maker in
    let three = both_tell IsRowFit (λ row. f row ++ g row) h NM K two kept in
    let one = both_tell IsRowFit (λ row. f row ++ g row ++ h row) i NMK B three bound x y r s fits_x fits_y same in
    (row_same x y one.0.0.0.0 one.0.0.0.1 one.0.0.1 one.0.1, one.1)
  where
    row_same : (x y : FileRow) → x.name ≡ y.name → x.maker ≡ y.maker → x.kept ≡ y.kept → x.bound ≡ y.bound → x ≡ y
    row_same x y name maker kept bound =
        ap (λ v. record x { name = v }) name
        ∙ ap (λ v. record y { maker = v; kept = x.kept; bound = x.bound }) maker
        ∙ ap (λ v. record y { kept = v; bound = x.bound }) kept
        ∙ ap (λ v. record y { bound = v }) bound

-- what two lists of facts tell of each item
all_both : {A : Type 0} (P Q R : A → Type 0) → ((x : A) → P x → Q x → R x) → (xs : List A) → All P xs → All Q xs → All R xs
all_both P Q R tells xs all_p all_q k d inside = tells (get_or xs k d) (all_p k d inside) (all_q k d inside)

-- each port of a list that lies inside these files fits
ports_fit : (n : ℕ) (ports : List Port) → n ≤ 65536 → list_all (λ port. nat_lt port.file.0 n) ports ≡ true → All IsPortCountable ports → All IsPortFit ports
unfolding IsPortFit
ports_fit n ports few inside short =
    let Low : Port → Type 0 = λ port. port.file.0 < 2 ^ 32 in
    all_both Low IsPortCountable IsPortFit (λ port low short. (low, short)) ports
    (all_from (λ port. nat_lt port.file.0 n) Low (λ port is. let lt : port.file.0 < n = ltb-true port.file.0 n is in omega (arith, lt, few)) ports inside)
    short

rule_fit : (n : ℕ) (rule : Rule) → n ≤ 65536 → list_all (λ port. nat_lt port.file.0 n) (rule.inputs ++ rule.outputs) ≡ true → IsRuleCountable rule → rule.bound < 2 ^ 64
    → IsRuleFit rule
rule_fit n rule few inside counts bound =
    let split = and_parts _ _ (sym (list_all-append (λ port. nat_lt port.file.0 n) rule.inputs rule.outputs) ∙ inside) in
    record {
      counts = counts;
      inputs = ports_fit n rule.inputs few split.0 counts.each_input;
      outputs = ports_fit n rule.outputs few split.1 counts.each_output;
      bound = bound;
    }

rules_fit : (P : Plan) → IsValid P → All IsRuleFit P.rules
rules_fit P valid =
    let few : length P.files ≤ 65536 = leb-true (length P.files) 65536 valid.few_files in
    let Inside : Rule → Type 0 = λ rule. list_all (λ port. nat_lt port.file.0 (length P.files)) (rule.inputs ++ rule.outputs) ≡ true in
    let Bounded : Rule → Type 0 = λ rule. rule.bound < 2 ^ 64 in
    let both : All (λ rule. Inside rule × Bounded rule) P.rules =
    all_from_two (λ rule. list_all (λ port. nat_lt port.file.0 (length P.files)) (rule.inputs ++ rule.outputs))
    (λ rule. rule.bound == min (sum_by (λ port. bound_of P port.file.0) rule.outputs) most_bytes)
    (λ rule. Inside rule × Bounded rule)
    (λ rule inside bound.
    let e : rule.bound ≡ min (sum_by (λ port. bound_of P port.file.0) rule.outputs) 67108864 = eqb-true rule.bound (min (sum_by (λ port. bound_of P port.file.0) rule.outputs) 67108864) bound in
    let low : rule.bound < 2 ^ 64 = omega (arith, e) in
    (inside, low)) P.rules valid.ports_inside valid.rule_bounds in
    all_both (λ rule. Inside rule × Bounded rule) IsRuleCountable IsRuleFit (λ rule two counts. rule_fit (length P.files) rule few two.0 counts two.1) P.rules both (rules_countable P valid)

maker_fit : (P : Plan) (f : ℕ) (maker : Option RuleNo) → IsValid P → option_map_or (λ r. Some r.0) maker None ≡ maker_of P f
    → option_map_or (λ r. contains_number f (makes P r)) (maker_of P f) true ≡ true → IsMakerFit maker
maker_fit P f None valid is makes_it = tt
maker_fit P f (Some r) valid is makes_it =
    let made : contains_number f (makes P r.0) ≡ true = ap (λ m. option_map_or (λ r. contains_number f (makes P r)) m true) is ∙ makes_it in
    let inside : r.0 < length P.rules = in_plan P r.0 f (nat_lt r.0 (length P.rules)) refl made in
    let few : length P.rules ≤ 20000 = leb-true (length P.rules) 20000 valid.few_rules in
    omega (arith, inside, few)

files_fit : (P : Plan) → IsValid P → All IsRowFit P.files
files_fit P valid k d inside =
    let row : FileRow = get_or P.files k d in
    let found : slice_get P.files k ≡ Some row = slice_get-get_or P.files k d inside in
    let maker : option_map_or (λ r. Some r.0) row.maker None ≡ maker_of P k = ap (λ found. option_map_or (λ row. option_map_or (λ r. Some r.0) row.maker None) found None) (sym found) in
    let makes_it : option_map_or (λ r. contains_number k (makes P r)) (maker_of P k) true ≡ true =
    all_in_range (λ f. option_map_or (λ r. contains_number f (makes P r)) (maker_of P f) true) 0 (length P.files) k valid.makers (omega arith) (omega (arith, inside)) in
    let bound : row.bound ≤ 67108864 = all_from (λ row. nat_le row.bound 67108864) (λ row. row.bound ≤ 67108864) (λ row is. leb-true row.bound 67108864 is) P.files valid.file_bounds k d inside in
    record {
      name = files_countable P valid k d inside;
      maker = maker_fit P k row.maker valid maker makes_it;
      bound = omega (arith, bound);
    }

pub spelling_tells : SpellingTells
spelling_tells P Q valid_P valid_Q same =
    let few_P : length P.rules ≤ 20000 = leb-true (length P.rules) 20000 valid_P.few_rules in
    let few_Q : length Q.rules ≤ 20000 = leb-true (length Q.rules) 20000 valid_Q.few_rules in
    let files_P : length P.files ≤ 65536 = leb-true (length P.files) 65536 valid_P.few_files in
    let files_Q : length Q.files ≤ 65536 = leb-true (length Q.files) 65536 valid_Q.few_files in
    let one = list_tells IsRuleFit rule_bytes spelled_part rule_tells P.rules Q.rules (counted_bytes file_bytes P.files) (counted_bytes file_bytes Q.files)
    (omega (arith, few_P), rules_fit P valid_P) (omega (arith, few_Q), rules_fit Q valid_Q) same in
    let two = rows_tell IsRowFit file_bytes file_tells P.files Q.files [] []
    (omega (arith, files_P), files_fit P valid_P) (omega (arith, files_Q), files_fit Q valid_Q)
    (append-nil (counted_bytes file_bytes P.files) ∙ one.1 ∙ sym (append-nil (counted_bytes file_bytes Q.files))) in
    (one.0, two.0)
