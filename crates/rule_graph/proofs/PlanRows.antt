-- The rows of the files and the rules of a plan.
use Rattle.std.proofs.Common.{◌≡◌, ℕ, ◌+◌, ◌<◌, ◌≤◌, ◌^◌, Bool, false, not, ◌||◌, List, [], length, map, take, get_or, Option, Some, None, refl, ap, sym, ◌∙◌, subst, arith, All, min}
use Rattle.std.specs.Prelude.{position, unwrap_or, sum_by}
use Rattle.std.specs.Option.{option_map}
use Rattle.std.specs.Str.{bytes_eq}
use Rattle.std.proofs.lemmas.List.{get_or-map}
use Rattle.std.proofs.lemmas.List.Sums.{fold_more}
use Rattle.std.proofs.lemmas.List.Quantifiers.{position-Some}
use Rattle.flow_types.specs.declared.flow.RawFlow.{RawFlow}
use Rattle.flow_types.specs.declared.plan.FileRow.{FileRow}
use Rattle.flow_types.specs.declared.numbers.RuleNo.{RuleNo}
use Rattle.flow_types.specs.Plans.{most_bytes, most_files}
use Rattle.rule_graph.specs.declared.raw.RawPort.{RawPort}
use Rattle.flow_types.specs.declared.flow.RawRule.{RawRule}
use Rattle.rule_graph.specs.Numbering.{IsPortAmong, IsRuleAmong}
use Rattle.rule_graph.proofs.Known.{All-parts}
use Rattle.rule_graph.specs.Flows.{raw_outputs, raw_inputs, rule_no, raw_maker, is_taken, is_named_kept, stated_bound, row_for, number_of}

-- what a table says of the file with this number
pub table_says : {T : Type 0} (names : List (List ℕ)) (table : List T) (says : List ℕ → T) (file : ℕ) (d : T) → table ≡ map says names → file < length names → get_or table file d ≡ says (get_or names file [])
table_says names table says file d e inside = ap (λ t. get_or t file d) e ∙ get_or-map says names file [] d inside

-- the row of a made file
pub made_row : (flow : RawFlow) (name n : List ℕ) (maker : Option RuleNo) (r : RuleNo) (kept : Bool) (bound : ℕ) → maker ≡ Some r → maker ≡ option_map rule_no (raw_maker flow n)
    → name ≡ n → kept ≡ (is_named_kept flow n || not (is_taken flow n)) → bound ≡ stated_bound flow n
    → (let row : FileRow = record { name = name; maker = Some r; kept = kept; bound = bound } in row) ≡ row_for flow n (raw_maker flow n)
made_row flow name n maker r kept bound some told named keeps bounds = on (raw_maker flow n) told
  where
    on : (m : Option ℕ) → maker ≡ option_map rule_no m → (let row : FileRow = record { name = name; maker = Some r; kept = kept; bound = bound } in row) ≡ row_for flow n m
    on None e = absurd (let wrong : ⊥ = cc (e, some) in wrong)
    on (Some k) e =
        let same : r ≡ rule_no k = cc (e, some) in
        ap (λ x. let row : FileRow = record { name = x; maker = Some r; kept = kept; bound = bound } in row) named
        ∙ ap (λ x. let row : FileRow = record { name = n; maker = Some x; kept = kept; bound = bound } in row) same
        ∙ ap (λ x. let row : FileRow = record { name = n; maker = Some (rule_no k); kept = x; bound = bound } in row) keeps
        ∙ ap (λ x. let row : FileRow = record { name = n; maker = Some (rule_no k); kept = is_named_kept flow n || not (is_taken flow n); bound = x } in row) bounds

-- the row of a source
pub source_row : (flow : RawFlow) (name n : List ℕ) (maker : Option RuleNo) → maker ≡ None → maker ≡ option_map rule_no (raw_maker flow n) → name ≡ n
    → (let row : FileRow = record { name = name; maker = None; kept = false; bound = most_bytes } in row) ≡ row_for flow n (raw_maker flow n)
source_row flow name n maker none told named = on (raw_maker flow n) told
  where
    on : (m : Option ℕ) → maker ≡ option_map rule_no m → (let row : FileRow = record { name = name; maker = None; kept = false; bound = most_bytes } in row) ≡ row_for flow n m
    on None e = ap (λ x. let row : FileRow = record { name = x; maker = None; kept = false; bound = most_bytes } in row) named
    on (Some k) e = absurd (let wrong : ⊥ = cc (e, none) in wrong)

-- the number of a name is that of a file, or 0
pub number_fits : (names : List (List ℕ)) (x : List ℕ) → length names ≤ most_files → number_of names x < 2 ^ 32
number_fits names x few = on (position (bytes_eq x) names) refl
  where
    on : (p : Option ℕ) → position (bytes_eq x) names ≡ p → unwrap_or p 0 < 2 ^ 32
    on None e = omega arith
    on (Some i) e = let inside = (position-Some (bytes_eq x) names i [] e).0 in omega (arith, inside, few)

-- the sum of one port more, or the most bytes if that is less
pub bound_more : (says : RawPort → ℕ) (ports : List RawPort) (i : ℕ) (port : RawPort) (bound added stated : ℕ) → i < length ports → port ≡ get_or ports i port
    → bound ≡ min (sum_by says (take i ports)) most_bytes → stated ≡ says port → added ≡ min (bound + stated) 18446744073709551615
    → min added most_bytes ≡ min (sum_by says (take (i + 1) ports)) most_bytes
bound_more says ports i port bound added stated inside read before is sum =
    let more = fold_more (λ a x. a + says x) 0 ports i port inside in
    let item : stated ≡ says (get_or ports i port) = is ∙ ap says read in
    omega (arith, more, item, before, sum)

-- the outputs of a rule all of whose ports have numbers and names
pub outputs_among : (names seen : List (List ℕ)) (rule : RawRule) (ports : List RawPort) → seen ≡ names → ports ≡ raw_outputs rule → IsRuleAmong names rule → All (IsPortAmong seen) ports
outputs_among names seen rule ports n p all =
    let outputs = (All-parts (IsPortAmong names) (raw_outputs rule) (raw_inputs rule) all).0 in
    subst (λ x. All (IsPortAmong x) ports) (sym n) (subst (λ xs. All (IsPortAmong names) xs) (sym p) outputs)

-- and its inputs
pub inputs_among : (names seen : List (List ℕ)) (rule : RawRule) (ports : List RawPort) → seen ≡ names → ports ≡ raw_inputs rule → IsRuleAmong names rule → All (IsPortAmong seen) ports
inputs_among names seen rule ports n p all =
    let inputs = (All-parts (IsPortAmong names) (raw_outputs rule) (raw_inputs rule) all).1 in
    subst (λ x. All (IsPortAmong x) ports) (sym n) (subst (λ xs. All (IsPortAmong names) xs) (sym p) inputs)
