-- One walk answers for every rule: what the walk says up to a rule's place says whether that rule
-- may be claimed too.
use Rattle.std.specs.Prelude.{ℕ, ◌+◌, Bool, not, ◌||◌, List, [], ◌∷◌, ◌==◌, if◌then◌else◌, nat_le}
use Rattle.std.specs.List.{list_all}
use Rattle.flow_types.specs.declared.plan.Plan.{Plan}
use Rattle.flow_types.specs.declared.records.Record.{Record}
use Rattle.flow_types.specs.Serial.{serial_order}
use Rattle.run_history.specs.Storage.{rule_bound}
use Rattle.safe_walks.specs.Walk.{Standing, load, is_added, is_claimed, standing}
use Rattle.safe_walks.specs.Safe.{is_safe}

-- v after each addition before rule r
abbrev pub additions_before : Plan → Standing → ℕ → List ℕ → List ℕ → List ℕ
additions_before P S r passed [] = []
additions_before P S r passed (q ∷ qs) =
    if q == r then []
    else if is_added S q then (load P S passed + rule_bound P q)
    ∷ additions_before P S r (q ∷ passed) qs
    else additions_before P S r (q ∷ passed) qs

-- the walk up to the place of rule r
abbrev pub walk_before : Plan → Standing → ℕ → List ℕ
walk_before P S r = load P S [] ∷ additions_before P S r [] (serial_order P)

-- up to its place the walk leaves room for the rule's bound
abbrev pub has_room_before : Plan → Standing → ℕ → ℕ → Bool
has_room_before P S r limit = list_all (λ v. nat_le (v + rule_bound P r) limit) (walk_before P S r)

-- What one walk answers.
abbrev pub admits_in_one : Plan → List Record → ℕ → ℕ → Bool
admits_in_one P H limit r = not (is_safe P H limit) || is_claimed H r
    || has_room_before P (standing P H) r limit
