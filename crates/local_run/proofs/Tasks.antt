-- The task of an attempt, and its job.
use Rattle.std.proofs.Common.{◌≡◌, ◌-◌, ◌∙◌, Bool, true, List, [], ◌∷◌, Option, Some, None, sym, ap, subst, true≢false}
use Rattle.std.specs.Prelude.{All, is_some, option_map, slice_get, unwrap_or}
use Rattle.std.specs.List.{list_all}
use Rattle.std.specs.Option.{option_map_or}
use Rattle.std.proofs.lemmas.Bool.{and_parts}
use Rattle.std.proofs.lemmas.List.Elements.{All-nil, All-cons}
use Rattle.std.proofs.lemmas.List.Folds.{list_all-map}
use Rattle.flow_types.specs.declared.plan.Plan.{Plan}
use Rattle.flow_types.specs.declared.plan.Port.{Port}
use Rattle.flow_types.specs.declared.plan.Rule.{Rule}
use Rattle.flow_types.specs.declared.job.Task.{Task}
use Rattle.flow_types.specs.declared.records.Record.{Record}
use Rattle.flow_types.specs.Plans.{files_of, takes}
use Rattle.run_history.specs.History.{next_run}
use Rattle.run_history.specs.Storage.{is_present}
use Rattle.desk.specs.declared.attempt.Attempt.{Attempt}
use Rattle.desk.specs.Tasks.{task_of, task_with}

all_from : {A : Type 0} (p : A → Bool) (xs : List A) → list_all p xs ≡ true → All (λ x. p x ≡ true) xs
all_from p [] is = All-nil (λ x. p x ≡ true)
all_from p (x ∷ xs) is = let parts = and_parts (p x) (list_all p xs) is in All-cons (λ y. p y ≡ true) x xs parts.0 (all_from p xs parts.1)

some_is : {A : Type 0} (x y : A) → Some x ≡ Some y → x ≡ y
some_is x y is = ap (λ o. unwrap_or o x) is

by_rule : (P : Plan) (H : List Record) (attempt : Attempt) (task : Task) (row : Option Rule) → option_map (λ rule. task_with P rule attempt.number (next_run H - 1)) row ≡ Some task
    → list_all (is_present P H) (option_map_or (λ rule. files_of rule.inputs) row []) ≡ true → All (λ (port : Port). is_present P H port.file.0 ≡ true) task.inputs
by_rule P H attempt task (Some rule) is present =
    subst (λ (t : Task). All (λ (port : Port). is_present P H port.file.0 ≡ true) t.inputs) (some_is (task_with P rule attempt.number (next_run H - 1)) task is)
    (all_from (λ (port : Port). is_present P H port.file.0) rule.inputs (sym (list_all-map (is_present P H) (λ (port : Port). port.file.0) rule.inputs) ∙ present))
by_rule P H attempt task None is present = absurd (true≢false (sym (ap is_some is)))

-- the files of its ports are present
pub inputs_present : (P : Plan) (H : List Record) (attempt : Attempt) (task : Task) → task_of P H attempt ≡ Some task → list_all (is_present P H) (takes P attempt.rule.0) ≡ true
    → All (λ (port : Port). is_present P H port.file.0 ≡ true) task.inputs
inputs_present P H attempt task is present = by_rule P H attempt task (slice_get P.rules attempt.rule.0) is present
