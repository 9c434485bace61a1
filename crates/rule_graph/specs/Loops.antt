-- What a loop of a plan is, and which loop is the one that is named.
use Rattle.std.specs.Prelude.{◌≡◌, ◌↔◌, ℕ, zero, suc, ◌<◌, ◌≤◌, List, [], ◌∷◌, length, slice_index, slice_index_or, Option, Some, None, true, IsTrue}
use Rattle.std.specs.List.{list_all}
use Rattle.std.specs.Option.{option_map_or, option_and_then}
use Rattle.flow_types.specs.declared.plan.Plan.{Plan}
use Rattle.flow_types.specs.Plans.{IsValid, takes, makes, maker_of, is_made_by, rule_numbers, file_numbers, contains_number}
use Rattle.flow_types.specs.Serial.{serial_order}
use Rattle.rule_graph.specs.Progress.{IsWired, times_in}
use Rattle.rule_graph.specs.Cycles.{left_over, maker_before, loop_among}
use Rattle.rule_graph.specs.Faults.{cycle}

-- A plan whose files are numbered: its ports name files of it, and each file that a rule makes has that one rule as its maker.
pub record IsNumbered (P : Plan) : Type 0 where
  pub wired : IsWired P
  -- The maker of what a rule makes is that rule, so no two rules make one file.
  pub made_by : IsTrue (list_all (λ r. list_all (λ f. is_made_by P r f) (makes P r)) (rule_numbers P))
  -- The maker of a file makes it.
  pub makers : IsTrue (list_all (λ f. option_map_or (λ r. contains_number f (makes P r)) (maker_of P f) true) (file_numbers P))

-- A valid plan is numbered so.
abbrev pub ValidPlansAreNumbered : Type 0
ValidPlansAreNumbered = (P : Plan) → IsValid P → IsNumbered P

-- each rule of the list stands so to the next one, and the last to this one
abbrev pub IsChain : (ℕ → ℕ → Type 0) → List ℕ → ℕ → Type 0
IsChain R [] end = Unit {0}
IsChain R (r ∷ rs) end = R r (slice_index_or rs 0 end) × IsChain R rs end

-- the first rule takes in a file that the second one makes
abbrev pub IsFedBy : Plan → ℕ → ℕ → Type 0
IsFedBy P r s = (f : ℕ) × IsTrue (contains_number f (takes P r)) × IsTrue (contains_number f (makes P s))

-- A loop of a plan: each of its rules takes in a file that the next one makes, and the last one a file that the first makes.
pub record IsLoop (P : Plan) (loop : List ℕ) : Type 0 where
  pub some : 0 < length loop
  pub once : (r : ℕ) → times_in r loop ≤ 1
  pub fed : IsChain (IsFedBy P) loop (slice_index loop 0)

-- where so many steps lead from a rule
abbrev pub after_steps : (ℕ → Option ℕ) → ℕ → ℕ → Option ℕ
after_steps next zero r = Some r
after_steps next (suc steps) r = option_and_then (after_steps next steps) (next r)

-- the step from a rule: to the maker of its least input whose maker is left over
abbrev pub step : Plan → ℕ → Option ℕ
step P r = maker_before P (left_over P) r

-- The loop that is named: it goes from rule to rule to the maker of the least input whose maker is left over, and from the last
-- rule to the first; such steps lead to it from the least rule left over; and it begins at its least rule.
pub record IsNamedLoop (P : Plan) (loop : List ℕ) : Type 0 where
  pub some : 0 < length loop
  pub once : (r : ℕ) → times_in r loop ≤ 1
  pub all_left_over : (r : ℕ) → IsTrue (contains_number r loop) → IsTrue (contains_number r (left_over P))
  pub steps : IsChain (λ r s. step P r ≡ Some s) loop (slice_index loop 0)
  pub reached : (n r : ℕ) × (after_steps (step P) n (slice_index (left_over P) 0) ≡ Some r) × IsTrue (contains_number r loop)
  pub least_first : (r : ℕ) → IsTrue (contains_number r loop) → slice_index loop 0 ≤ r

-- the loop among the rules left over, where there are any
abbrev pub named_loop : Plan → Option (List ℕ)
named_loop P = loop_among P (left_over P)

-- No loop is named exactly where the serial order has every rule.
abbrev pub NoneNamedWhereAllAreTaken : Type 0
NoneNamedWhereAllAreTaken = (P : Plan) → (cycle P ≡ None) ↔ IsTrue (list_all (λ r. contains_number r (serial_order P)) (rule_numbers P))

-- No loop is named exactly where the plan has none.
abbrev pub NoneNamedWhereNoneIs : Type 0
NoneNamedWhereNoneIs = (P : Plan) → IsNumbered P → (cycle P ≡ None) ↔ ((loop : List ℕ) → IsLoop P loop → ⊥)

-- The loop that is named is a loop of the plan.
abbrev pub NamedLoopIsALoop : Type 0
NamedLoopIsALoop = (P : Plan) (loop : List ℕ) → IsNumbered P → IsNamedLoop P loop → IsLoop P loop

-- The loop computed among the rules left over is the one that the relation names, and it names no other.
abbrev pub NamedLoopIsTheLoop : Type 0
NamedLoopIsTheLoop = (P : Plan) (loop : List ℕ) → IsNumbered P → (named_loop P ≡ Some loop) ↔ IsNamedLoop P loop

-- A serial run comes to no rule of a loop.
abbrev pub LoopsAreLeftOver : Type 0
LoopsAreLeftOver = (P : Plan) (loop : List ℕ) (r : ℕ) → IsNumbered P → IsLoop P loop → IsTrue (contains_number r loop) → IsTrue (contains_number r (left_over P))
