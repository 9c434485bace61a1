use Rattle.std.proofs.Common.{◌∙◌, ap, Err}
use Rattle.std.proofs.lemmas.Result.{err_from_is_err_and}
use Rattle.flow_types.specs.declared.job.Outcome.{Outcome}
use Rattle.outside.specs.declared.fault.Fault.{Fault}
use Rattle.mem_outside.specs.TableRunner.{calls_of}
use Rattle.mem_outside.proofs.Stops.{stopped_call}
use Rattle.mem_outside.proofs.table_runner.TableRunnerRunner.run.Goals as goal

pub returns-in_err-begin-clause-call : goal.returns-in_err-begin-clause-call
returns-in_err-begin-clause-call g c =
    let given = err_from_is_err_and c.from_residual.result c.from_residual.ensures.1 in
    stopped_call (Unit {0}) Outcome (calls_of c.args.self.now) _ _ c.in_err-begin.field-0.0 c.from_residual.result
    (given.1 ∙ ap (λ (fault : Fault). Err fault) given.2) c.in_err-begin.ensures.stopped c.in_err-begin.ensures.call
