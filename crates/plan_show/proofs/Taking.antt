-- The index of the takers, rule by rule.
use Rattle.std.proofs.Common.{◌≡◌, ℕ, zero, suc, ◌+◌, ◌-◌, ◌<◌, ◌≤◌, Bool, true, false, cond, List, [], ◌∷◌, ◌++◌, length, get_or, take, filter, Some, refl, ap, sym, ◌∙◌, arith, All, subst, append-nil}
use Rattle.std.specs.Prelude.{◌==◌, ◌||◌, ◌&&◌, nat_lt, slice_get, slice_set}
use Rattle.std.specs.List.{enumerate_from, flat_map, list_all, range_with_len}
use Rattle.std.specs.Option.{option_map_or}
use Rattle.std.proofs.lemmas.Bool.{and_parts, eqb-true, eq-eqb, true≢false, ltb-true, lt-ltb, leb-true, ne_eqb}
use Rattle.std.proofs.lemmas.List.{take_more, map-append, get_or-set_same, get_or-set_other, length-append}
use Rattle.std.proofs.lemmas.List.Elements.{filter-append, All-cons, All-nil}
use Rattle.std.proofs.lemmas.List.Folds.{list_all-append}
use Rattle.std.proofs.lemmas.Option.{slice_get_read}
use Rattle.flow_types.specs.declared.plan.Plan.{Plan}
use Rattle.flow_types.specs.declared.plan.FileRow.{FileRow}
use Rattle.flow_types.specs.declared.plan.Rule.{Rule}
use Rattle.flow_types.specs.declared.plan.Port.{Port}
use Rattle.flow_types.specs.Plans.{IsValid, contains_number, files_of, takers_of, takes}
use Rattle.plan_show.specs.Files.{IsIndexBelow, IsWired, are_below, ends_with, file_line, files_text, joined_by, numbered_lines, takers_below, with_rule}

-- what stands last
last_of : (xs : List ℕ) (x : ℕ) → slice_get (xs ++ x ∷ []) (length xs) ≡ Some x
last_of [] x = refl
last_of (y ∷ ys) x = last_of ys x

ends-last : (xs : List ℕ) (x : ℕ) → ends_with (xs ++ x ∷ []) x ≡ true
ends-last xs x =
    let at : length (xs ++ x ∷ []) - 1 ≡ length xs = (let e = length-append xs (x ∷ []) in omega (arith, e)) in
    ap (λ i. option_map_or (λ last. last == x) (slice_get (xs ++ x ∷ []) i) false) at
    ∙ ap (λ o. option_map_or (λ last. last == x) o false) (last_of xs x) ∙ eq-eqb x x refl

-- none of the numbers below is this one
none_is : (n : ℕ) (xs : List ℕ) (i : ℕ) → are_below n xs ≡ true → option_map_or (λ last. last == n) (slice_get xs i) false ≡ false
none_is n [] i below = refl
none_is n (x ∷ xs) zero below =
    let low : x < n = ltb-true x n (and_parts (nat_lt x n) (are_below n xs) below).0 in
    ne_eqb x n (λ e. omega (arith, e, low))
none_is n (x ∷ xs) (suc i) below = none_is n xs i (and_parts (nat_lt x n) (are_below n xs) below).1

-- a rule stands behind lesser ones once
once : (b : Bool) (old : List ℕ) (rule : ℕ) → are_below rule old ≡ true → with_rule (joined_by b old rule) rule ≡ old ++ rule ∷ []
once true old rule below = ap (λ b. cond b (old ++ rule ∷ []) ((old ++ rule ∷ []) ++ rule ∷ [])) (ends-last old rule)
once false old rule below = ap (λ b. cond b old (old ++ rule ∷ [])) (none_is rule old (length old - 1) below)

-- one number more in a list
contains-more : (f g : ℕ) (files : List ℕ) → contains_number f (files ++ g ∷ []) ≡ (contains_number f files || (g == f))
contains-more f g [] = go (g == f)
  where
    go : (b : Bool) → (b || false) ≡ b
    go true = refl
    go false = refl
contains-more f g (x ∷ xs) = ap (λ b. (x == f) || b) (contains-more f g xs) ∙ go (x == f) (contains_number f xs) (g == f)
  where
    go : (a b c : Bool) → (a || (b || c)) ≡ ((a || b) || c)
    go true b c = refl
    go false b c = refl

joined-true : (b : Bool) (old : List ℕ) (rule : ℕ) → joined_by (b || true) old rule ≡ old ++ rule ∷ []
joined-true true old rule = refl
joined-true false old rule = refl

joined-false : (b : Bool) (old : List ℕ) (rule : ℕ) → joined_by (b || false) old rule ≡ joined_by b old rule
joined-false true old rule = refl
joined-false false old rule = refl

-- the takers of a file once those of one input more were noted
noted : (index : List (List ℕ)) (old : List ℕ) (rule f g : ℕ) (b is : Bool) → (g == f) ≡ is → g < length index → are_below rule old ≡ true
    → get_or index f [] ≡ joined_by b old rule
    → get_or (slice_set index g (with_rule (get_or index g []) rule)) f [] ≡ joined_by (b || is) old rule
noted index old rule f g b true is inside below before =
    let e : g ≡ f = eqb-true g f is in
    let same : get_or index g [] ≡ joined_by b old rule = ap (λ k. get_or index k []) e ∙ before in
    ap (λ k. get_or (slice_set index g (with_rule (get_or index g []) rule)) k []) (sym e)
    ∙ get_or-set_same index g (with_rule (get_or index g []) rule) [] inside
    ∙ ap (λ takers. with_rule takers rule) same ∙ once b old rule below ∙ sym (joined-true b old rule)
noted index old rule f g b false is inside below before =
    get_or-set_other index g f (with_rule (get_or index g []) rule) [] (λ e. true≢false (sym (eq-eqb g f (sym e)) ∙ is))
    ∙ before ∙ sym (joined-false b old rule)

files-more : (items : List Port) (i : ℕ) (port : Port) → i < length items → port ≡ get_or items i port
    → files_of (take (i + 1) items) ≡ files_of (take i items) ++ port.file.0 ∷ []
files-more items i port inside is =
    ap files_of (take_more items i port inside ∙ ap (λ x. take i items ++ x ∷ []) (sym is)) ∙ map-append (λ port. port.file.0) (take i items) (port ∷ [])

-- one input more
pub taken-more : (index new : List (List ℕ)) (old : List ℕ) (rule f : ℕ) (items : List Port) (i : ℕ) (port : Port) → i < length items → port ≡ get_or items i port
    → port.file.0 < length index → new ≡ slice_set index port.file.0 (with_rule (get_or index port.file.0 []) rule) → are_below rule old ≡ true
    → get_or index f [] ≡ joined_by (contains_number f (files_of (take i items))) old rule
    → get_or new f [] ≡ joined_by (contains_number f (files_of (take (i + 1) items))) old rule
taken-more index new old rule f items i port at is inside now below before =
    ap (λ index. get_or index f []) now
    ∙ noted index old rule f port.file.0 (contains_number f (files_of (take i items))) (port.file.0 == f) refl inside below before
    ∙ ap (λ b. joined_by b old rule) (sym (ap (contains_number f) (files-more items i port at is) ∙ contains-more f port.file.0 (files_of (take i items))))

-- the numbers below the next one
range-more : (a n : ℕ) → range_with_len a (suc n) ≡ range_with_len a n ++ (a + n) ∷ []
range-more a zero = ap (λ x. x ∷ []) (let e : a ≡ a + 0 = omega arith in e)
range-more a (suc n) =
    ap (λ l. a ∷ l) (range-more (a + 1) n ∙ ap (λ x. range_with_len (a + 1) n ++ x ∷ []) (let e : (a + 1) + n ≡ a + suc n = omega arith in e))

takers-more : (P : Plan) (n f : ℕ) → takers_below P (suc n) f ≡ joined_by (contains_number f (takes P n)) (takers_below P n f) n
takers-more P n f =
    let p : ℕ → Bool = λ r. contains_number f (takes P r) in
    ap (filter p) (range-more 0 n ∙ ap (λ x. range_with_len 0 n ++ x ∷ []) (let e : 0 + n ≡ n = omega arith in e)) ∙ filter-append p (range_with_len 0 n) (n ∷ []) ∙ go (p n) (takers_below P n f)
  where
    go : (b : Bool) (xs : List ℕ) → xs ++ cond b (n ∷ []) [] ≡ joined_by b xs n
    go true xs = refl
    go false xs = append-nil xs

below-more : (n : ℕ) (xs : List ℕ) → are_below n xs ≡ true → are_below (suc n) xs ≡ true
below-more n [] below = refl
below-more n (x ∷ xs) below =
    let parts = and_parts (nat_lt x n) (are_below n xs) below in
    let low : x < n = ltb-true x n parts.0 in
    ap (λ b. b && are_below (suc n) xs) (lt-ltb x (suc n) (omega (arith, low))) ∙ below-more n xs parts.1

joined-below : (b : Bool) (n : ℕ) (xs : List ℕ) → are_below n xs ≡ true → are_below (suc n) (joined_by b xs n) ≡ true
joined-below true n xs below =
    list_all-append (λ x. nat_lt x (suc n)) xs (n ∷ [])
    ∙ ap (λ b. b && (nat_lt n (suc n) && true)) (below-more n xs below)
    ∙ ap (λ b. b && true) (lt-ltb n (suc n) (omega arith))
joined-below false n xs below = below-more n xs below

-- the takers of a file have numbers below the one that comes
pub takers-below : (P : Plan) (n f : ℕ) → are_below n (takers_below P n f) ≡ true
takers-below P zero f = refl
takers-below P (suc n) f =
    ap (are_below (suc n)) (takers-more P n f) ∙ joined-below (contains_number f (takes P n)) n (takers_below P n f) (takers-below P n f)

takes_of : (P : Plan) (r : ℕ) (rule : Rule) (rules : List Rule) → r < length P.rules → rules ≡ P.rules → rule ≡ get_or rules r rule → takes P r ≡ files_of rule.inputs
takes_of P r rule rules inside same is =
    ap (λ found. option_map_or (λ rule. files_of rule.inputs) found [])
    (slice_get_read P.rules (length P.rules) r rule refl inside (is ∙ ap (λ rules. get_or rules r rule) same))

next-takers : (P : Plan) (n m f : ℕ) → m ≡ suc n → takers_below P m f ≡ joined_by (contains_number f (takes P n)) (takers_below P n f) n
next-takers P n m f e = ap (λ m. takers_below P m f) e ∙ takers-more P n f

-- the index with one rule more
pub index-more : (P : Plan) (r : ℕ) (rule : Rule) (rules : List Rule) (old new : List (List ℕ)) → r < length P.rules → rules ≡ P.rules → rule ≡ get_or rules r rule
    → IsIndexBelow P r old → length new ≡ length old
    → ((f : ℕ) → are_below r (get_or old f []) ≡ true → get_or new f [] ≡ joined_by (contains_number f (files_of rule.inputs)) (get_or old f []) r)
    → IsIndexBelow P (r + 1) new
index-more P r rule rules old new inside same is before len each = record {
  files = len ∙ before.files;
  takers = λ f f_inside.
      let was = before.takers f f_inside in
      let below : are_below r (get_or old f []) ≡ true = ap (are_below r) was ∙ takers-below P r f in
      each f below
      ∙ ap (λ takers. joined_by (contains_number f (files_of rule.inputs)) takers r) was
      ∙ ap (λ files. joined_by (contains_number f files) (takers_below P r f) r) (sym (takes_of P r rule rules inside same is))
      ∙ sym (next-takers P r (r + 1) f (let e : r + 1 ≡ suc r = omega arith in e));
}

-- the index of no rule
pub index-start : (P : Plan) (index : List (List ℕ)) → length index ≡ length P.files → All (λ takers. takers ≡ []) index → IsIndexBelow P 0 index
index-start P index len empty = record {
  files = len;
  takers = λ f inside. empty_at index f empty (let lt : f < length index = omega (arith, inside, len) in lt);
}
  where
    empty_at : (index : List (List ℕ)) (f : ℕ) → All (λ takers. takers ≡ []) index → f < length index → get_or index f [] ≡ []
    empty_at index f empty inside = empty f [] inside

all_from : {A : Type 0} (p : A → Bool) (P : A → Type 0) → ((x : A) → p x ≡ true → P x) → (xs : List A) → list_all p xs ≡ true → All P xs
all_from p P tells [] all = All-nil P
all_from p P tells (x ∷ xs) all =
    let parts = and_parts _ _ all in All-cons P x xs (tells x parts.0) (all_from p P tells xs parts.1)

inputs_inside : (P : Plan) (rule : Rule) → list_all (λ port. nat_lt port.file.0 (length P.files)) (rule.inputs ++ rule.outputs) ≡ true
    → All (λ port. port.file.0 < length P.files) rule.inputs
inputs_inside P rule inside =
    let test : Port → Bool = λ port. nat_lt port.file.0 (length P.files) in
    all_from test (λ port. port.file.0 < length P.files) (λ port low. ltb-true port.file.0 (length P.files) low) rule.inputs
    (and_parts (list_all test rule.inputs) (list_all test rule.outputs) (sym (list_all-append test rule.inputs rule.outputs) ∙ inside)).0

-- the inputs of a valid plan's rules have files of it
pub valid_is_wired : (P : Plan) → IsValid P → IsWired P
valid_is_wired P valid =
    let few : length P.rules ≤ 20000 = leb-true (length P.rules) 20000 valid.few_rules in
    let test : Rule → Bool = λ rule. list_all (λ port. nat_lt port.file.0 (length P.files)) (rule.inputs ++ rule.outputs) in
    record {
      few_rules = omega (arith, few);
      inside = all_from test (λ rule. All (λ port. port.file.0 < length P.files) rule.inputs) (inputs_inside P) P.rules valid.ports_inside;
    }

pub port_inside : (n : ℕ) (ports items : List Port) (i : ℕ) (port : Port) → items ≡ ports → All (λ port. port.file.0 < n) ports → i < length items
    → port ≡ get_or items i port → port.file.0 < n
port_inside n ports items i port same all inside is =
    let P : Port → Type 0 = λ port. port.file.0 < n in
    subst P (sym is) (subst (All P) (sym same) all i port inside)

same_lines : (f g : ℕ → FileRow → List ℕ) (n : ℕ) (rows : List FileRow) → ((i : ℕ) (row : FileRow) → i < n + length rows → f i row ≡ g i row)
    → flat_map (λ p. f p.0 p.1) (enumerate_from n rows) ≡ flat_map (λ p. g p.0 p.1) (enumerate_from n rows)
same_lines f g n [] same = refl
same_lines f g n (row ∷ rows) same =
    ap (λ text. text ++ flat_map (λ p. f p.0 p.1) (enumerate_from (n + 1) rows)) (same n row (omega arith))
    ∙ ap (λ text. g n row ++ text) (same_lines f g (n + 1) rows (λ i row inside. same i row (omega (arith, inside))))

-- the lines by an index of all takers are those of the plan
pub lines_of_files : (P : Plan) (index : List (List ℕ)) → IsIndexBelow P (length P.rules) index → numbered_lines index P.files ≡ files_text P
lines_of_files P index is =
    same_lines (λ i row. file_line row (get_or index i [])) (λ i row. file_line row (takers_of P i)) 0 P.files
    (λ i row inside. ap (file_line row) (is.takers i (let lt : i < length P.files = omega (arith, inside) in lt)))
