-- The makings of a flow, and the first maker of each name.
use Rattle.std.proofs.Common.{◌≡◌, ℕ, suc, ◌+◌, ◌<◌, Bool, true, false, cond, ◌||◌, List, [], ◌∷◌, ◌++◌, length, map, take, get_or, Option, Some, None, refl, ap, sym, ◌∙◌, arith}
use Rattle.std.specs.Prelude.{find, flat_map}
use Rattle.std.specs.List.{enumerate_from, position_from}
use Rattle.std.proofs.lemmas.Iterator.Adapters.{position_from-zero}
use Rattle.rule_graph.specs.declared.raw.RawPort.{RawPort}
use Rattle.std.specs.Option.{option_map, option_map_or}
use Rattle.std.specs.Str.{bytes_eq}
use Rattle.std.proofs.lemmas.List.{take_more, append-nil, length-take-le}
use Rattle.std.proofs.lemmas.List.Concat.{flat_map-append}
use Rattle.std.proofs.lemmas.Cmp.{nat_list_eq_equiv}
use Rattle.rule_graph.proofs.Tables.{map_same, with_value}
use Rattle.flow_types.specs.declared.flow.RawRule.{RawRule}
use Rattle.flow_types.specs.declared.flow.RawFlow.{RawFlow}
use Rattle.rule_graph.specs.declared.numbering.Making.{Making}
use Rattle.rule_graph.specs.Flows.{rule_no, raw_outputs, raw_maker, has_local}
use Rattle.rule_graph.specs.Faults.{makings}
use Rattle.rule_graph.specs.declared.faults.GraphFault.TheVariants as faults
use Rattle.rule_graph.specs.Numbering.{first_maker, second_among}
use Rattle.flow_types.specs.declared.numbers.RuleNo.{RuleNo}

-- the makings of a rule
abbrev pub makings_by : ℕ × RawRule → List Making
makings_by numbered = map (λ port. let making : Making = record { maker = numbered.0; name = port.local } in making) (raw_outputs numbered.1)

enumerate-push : {A : Type 0} (n : ℕ) (xs : List A) (x : A) → enumerate_from n (xs ++ x ∷ []) ≡ enumerate_from n xs ++ (n + length xs, x) ∷ []
enumerate-push n [] x = ap (λ m. (m, x) ∷ []) (let e : n ≡ n + 0 = omega arith in e)
enumerate-push n (y ∷ ys) x =
    ap (λ rest. (n, y) ∷ rest) (enumerate-push (n + 1) ys x ∙ ap (λ m. enumerate_from (n + 1) ys ++ (m, x) ∷ []) (let e : n + 1 + length ys ≡ n + suc (length ys) = omega arith in e))

-- the makings of one rule more
pub makings_more : (rules : List RawRule) (i : ℕ) (rule : RawRule) → i < length rules → rule ≡ get_or rules i rule
    → flat_map makings_by (enumerate_from 0 (take (i + 1) rules)) ≡ flat_map makings_by (enumerate_from 0 (take i rules)) ++ makings_by (i, rule)
makings_more rules i rule inside read =
    ap (λ xs. flat_map makings_by (enumerate_from 0 xs)) (take_more rules i rule inside ∙ ap (λ x. take i rules ++ x ∷ []) (sym read))
    ∙ ap (flat_map makings_by) (enumerate-push 0 (take i rules) rule)
    ∙ flat_map-append makings_by (enumerate_from 0 (take i rules)) ((0 + length (take i rules), rule) ∷ [])
    ∙ ap (λ xs. flat_map makings_by (enumerate_from 0 (take i rules)) ++ xs) (append-nil (makings_by (0 + length (take i rules), rule)))
    ∙ ap (λ m. flat_map makings_by (enumerate_from 0 (take i rules)) ++ makings_by (m, rule)) (let e : 0 + length (take i rules) ≡ i = omega (arith, length-take-le i rules (omega (arith, inside))) in e)

-- the first maker among one making more
pub first_more : (making : Making) (more : List Making) (n : List ℕ) → first_maker (making ∷ more) n ≡ cond (bytes_eq making.name n) (Some (rule_no making.maker)) (first_maker more n)
first_more making more n = chosen (bytes_eq making.name n)
  where
    chosen : (b : Bool) → option_map (λ making. rule_no making.maker) (cond b (Some making) (find (λ making. bytes_eq making.name n) more)) ≡ cond b (Some (rule_no making.maker)) (first_maker more n)
    chosen true = refl
    chosen false = refl

-- names are the same both ways
pub bytes_eq-sym : (a b : List ℕ) → bytes_eq a b ≡ bytes_eq b a
bytes_eq-sym a b = nat_list_eq_equiv.symm a b

-- the fault of a making is told by the first maker of its name among the later ones
pub second_some : (making : Making) (more : List Making) (second : RuleNo) → first_maker more making.name ≡ Some second
    → second_among making more ≡ Some (faults.TwoMakers making.name (rule_no making.maker) second)
second_some making more second = on (find (λ second. bytes_eq second.name making.name) more)
  where
    on : (found : Option Making) → option_map (λ making. rule_no making.maker) found ≡ Some second
        → option_map_or (λ second. Some (faults.TwoMakers making.name (rule_no making.maker) (rule_no second.maker))) found None ≡ Some (faults.TwoMakers making.name (rule_no making.maker) second)
    on None e = absurd (let wrong : ⊥ = cc e in wrong)
    on (Some found) e = let same : rule_no found.maker ≡ second = cc e in ap (λ s. Some (faults.TwoMakers making.name (rule_no making.maker) s)) same

pub second_none : (making : Making) (more : List Making) → (first_maker more making.name ≡ None) → (second_among making more ≡ None)
second_none making more = on (find (λ second. bytes_eq second.name making.name) more)
  where
    on : (found : Option Making) → option_map (λ making. rule_no making.maker) found ≡ None
        → option_map_or (λ second. Some (faults.TwoMakers making.name (rule_no making.maker) (rule_no second.maker))) found None ≡ None
    on None e = refl
    on (Some found) e = absurd (let wrong : ⊥ = cc e in wrong)

-- what a table of first makers says with one making more
pub firsts_more : (names : List (List ℕ)) (making : Making) (more : List Making)
    → map (with_value (first_maker more) making.name (Some (rule_no making.maker))) names ≡ map (first_maker (making ∷ more)) names
firsts_more names making more =
    map_same (with_value (first_maker more) making.name (Some (rule_no making.maker))) (first_maker (making ∷ more)) names
    (λ n. ap (λ b. cond b (Some (rule_no making.maker)) (first_maker more n)) (bytes_eq-sym n making.name) ∙ sym (first_more making more n))

firsts_by : (name : List ℕ) (i : ℕ) (ports : List RawPort) (more : List Making)
    → first_maker (map (λ port. let making : Making = record { maker = i; name = port.local } in making) ports ++ more) name ≡ cond (has_local name ports) (Some (rule_no i)) (first_maker more name)
firsts_by name i [] more = refl
firsts_by name i (port ∷ ports) more =
    first_more (record { maker = i; name = port.local }) (map (λ port. let making : Making = record { maker = i; name = port.local } in making) ports ++ more) name
    ∙ ap (λ b. cond b (Some (rule_no i)) (first_maker (map (λ port. let making : Making = record { maker = i; name = port.local } in making) ports ++ more) name)) (bytes_eq-sym port.local name)
    ∙ ap (λ x. cond (bytes_eq name port.local) (Some (rule_no i)) x) (firsts_by name i ports more)
    ∙ either (bytes_eq name port.local)
  where
    either : (b : Bool) → cond b (Some (rule_no i)) (cond (has_local name ports) (Some (rule_no i)) (first_maker more name)) ≡ cond (b || has_local name ports) (Some (rule_no i)) (first_maker more name)
    either true = refl
    either false = refl

firsts_from : (name : List ℕ) (i : ℕ) (rules : List RawRule)
    → first_maker (flat_map makings_by (enumerate_from i rules)) name ≡ option_map rule_no (position_from (λ rule. has_local name (raw_outputs rule)) i rules)
firsts_from name i [] = refl
firsts_from name i (rule ∷ rules) =
    firsts_by name i (raw_outputs rule) (flat_map makings_by (enumerate_from (i + 1) rules))
    ∙ ap (λ x. cond (has_local name (raw_outputs rule)) (Some (rule_no i)) x) (firsts_from name (i + 1) rules)
    ∙ either (has_local name (raw_outputs rule))
  where
    either : (b : Bool) → cond b (Some (rule_no i)) (option_map rule_no (position_from (λ rule. has_local name (raw_outputs rule)) (i + 1) rules))
        ≡ option_map rule_no (cond b (Some i) (position_from (λ rule. has_local name (raw_outputs rule)) (i + 1) rules))
    either true = refl
    either false = refl

-- the first making of a name is by the least rule that makes it
pub first_is_maker : (flow : RawFlow) (name : List ℕ) → first_maker (makings flow) name ≡ option_map rule_no (raw_maker flow name)
first_is_maker flow name =
    firsts_from name 0 flow.rules ∙ ap (option_map rule_no) (sym (position_from-zero (λ rule. has_local name (raw_outputs rule)) flow.rules))
