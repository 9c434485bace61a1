-- Records that are looked at by themselves.
use Rattle.std.proofs.Common.{◌≡◌, ◌∙◌, ℕ, List, Option, Some, None, Result, Err, true, refl, ap}
use Rattle.std.specs.Option.{option_and_then}
use Rattle.std.specs.Prelude.{option_map}
use Rattle.flow_types.specs.declared.plan.Plan.{Plan}
use Rattle.flow_types.specs.declared.records.Record.{Record}
use Rattle.run_history.specs.declared.options.Options.{Options}
use Rattle.run_history.specs.Answers.{or_else}
use Rattle.run_history.specs.Legal.{first_illegal, is_legal}
use Rattle.rule_graph.specs.Spelling.{plan_digest}
use Rattle.task_core.specs.States.{TableState}
use Rattle.task_core.specs.declared.histories.TableFault.{TableFault}
use Rattle.task_core.specs.declared.histories.TableFault.TheVariants as tables
use Rattle.desk.specs.declared.answers.StartFault.{StartFault}
use Rattle.desk.specs.declared.answers.StartFault.TheVariants as faults
use Rattle.desk.specs.Begins.{fault_of}
use Rattle.desk.specs.Histories.{FindsHistory, history_fault}
use Rattle.desk.specs.Openings.{opened_plan, other_flow}
use Rattle.desk.proofs.Starting.{legal_none}

-- by the record that may not stand, where the part is of this plan
by_record : (P : Plan) (H : List Record) → option_and_then (other_flow (plan_digest P)) (opened_plan H) ≡ None → history_fault P H ≡ or_else (option_map faults.NotLegal (first_illegal P (plan_digest P) H)) None
by_record P H same = ap (λ (x : Option StartFault). or_else x (or_else (option_map faults.NotLegal (first_illegal P (plan_digest P) H)) None)) same

-- nothing is wrong
pub nothing_wrong : (P : Plan) (H : List Record) → option_and_then (other_flow (plan_digest P)) (opened_plan H) ≡ None → is_legal P (plan_digest P) H ≡ true → history_fault P H ≡ None
nothing_wrong P H same legal = by_record P H same ∙ ap (λ (x : Option ℕ). or_else (option_map faults.NotLegal x) None) (legal_none P (plan_digest P) H legal)

-- a record may not stand, or memory was wanting
pub wrong_record : (P : Plan) (O : Options) (H : List Record) (why : TableFault) → option_and_then (other_flow (plan_digest P)) (opened_plan H) ≡ None
    → ((at : ℕ) → why ≡ tables.NotLegal at → first_illegal P (plan_digest P) H ≡ Some at) → FindsHistory P O H (let refusal : Result TableState StartFault = Err (fault_of why) in refusal)
wrong_record P O H (tables.NotLegal at) same fault = by_record P H same ∙ ap (λ (x : Option ℕ). or_else (option_map faults.NotLegal x) None) (fault at refl)
wrong_record P O H tables.Memory same fault = tt
