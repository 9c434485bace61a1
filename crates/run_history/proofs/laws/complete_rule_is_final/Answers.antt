use Rattle.std.proofs.Common.{◌≡◌, ◌++◌, true, false, sym, ◌∙◌}
use Rattle.flow_types.specs.declared.records.Record.TheVariants as records
use Rattle.flow_types.specs.Plans.{rule_numbers}
use Rattle.run_history.specs.Legal.{is_allowed}
use Rattle.run_history.proofs.Allowed.{starts}
use Rattle.run_history.proofs.Keeps.{complete-append, complete-more, complete-not_waiting}
use Rattle.std.proofs.lemmas.Bool.{false_from_ne_true}
use Rattle.run_history.proofs.laws.complete_rule_is_final.Goals as goal

true_ne_false : true ≡ false → ⊥
true_ne_false h = cc

pub returns-clause-counted : goal.returns-clause-counted
returns-clause-counted c = λ P H more same. complete-more H more (rule_numbers P) same

pub returns-clause-started : goal.returns-clause-started
returns-clause-started c = λ P digest H more moment r attempt link complete same.
    false_from_ne_true (is_allowed P digest (H ++ more) (records.Started moment r attempt link)) (λ allowed.
    true_ne_false (sym (starts P digest (H ++ more) moment r attempt link allowed).waits
    ∙ complete-not_waiting (H ++ more) r.0 (complete-append H more r.0 complete same)))
