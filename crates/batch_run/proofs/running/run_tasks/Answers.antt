use Rattle.std.proofs.Common.{◌≡◌, List, string_bytes, subst, sym, true}
use Rattle.std.specs.Prelude.{IfOk}
use Rattle.std.specs.List.{list_all}
use Rattle.batch_run.specs.declared.ends.End.{End}
use Rattle.batch_run.specs.Batch.{is_over, printed}
use Rattle.batch_run.specs.Ends.{IsBrought}
use Rattle.batch_run.proofs.Batches.{over_so, text_of_ends}
use Rattle.batch_run.proofs.Manned.{memory_not_idle}
use Rattle.batch_run.proofs.running.run_tasks.Goals as goal

pub returns-then-are_over-clause-ends : goal.returns-then-are_over-clause-ends
returns-then-are_over-clause-ends g c =
    let done = c.in-Ok.ends.items in
    let over : list_all is_over done ≡ true = subst (λ (es : List End). list_all is_over es ≡ true) c.as_slice.ensures.value (sym c.if-are_over.ensures) in
    text_of_ends string_bytes (IsBrought g.H.Way.Link.tells (g.H.Way.Link.tells × g.H.Hall.honest c.args.hall.now) g.F.Commands.gives g.F.Commands.may_fail g.H.Way.Link.history) c.args.tasks.items done c.told.result
    (over_so (IsBrought g.H.Way.Link.tells (g.H.Way.Link.tells × g.H.Hall.honest c.args.hall.now) g.F.Commands.gives g.F.Commands.may_fail g.H.Way.Link.history) c.args.tasks.items done c.in-Ok.ensures.ends over)
    (subst (λ (es : List End). IfOk c.told.result (λ text. string_bytes text ≡ printed es)) c.as_slice-then-are_over.ensures.value c.told.ensures.text)

pub returns-then-are_over-clause-manned : goal.returns-then-are_over-clause-manned
returns-then-are_over-clause-manned g c least fit is = memory_not_idle c.told.result c.told.ensures.cause
