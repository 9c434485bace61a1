use Rattle.std.proofs.Common.{◌∙◌}
use Rattle.master_run.proofs.TableBytes.{stored_known}
use Rattle.master_run.proofs.stored.stored_behind.Goals as goal

-- src/stored.rt:25:1
pub returns-in-Ok : goal.returns-in-Ok
returns-in-Ok c =
    stored_known c.in-Ok.table c.args.plan.now c.args.records.now c.stored.result (c.in-Ok.ensures.1 ∙ c.in_ok-copy.ensures) c.in-Ok.ensures.4 c.stored.ensures.sum
