use Rattle.std.proofs.Common.{◌∙◌, refl}
use Rattle.std.specs.Prelude.{slice_get}
use Rattle.task_book.specs.Kept.{staged_by}
use Rattle.task_book.proofs.Rising.{line_is, line_staged}
use Rattle.task_book.proofs.line.Line.set_stage.Goals as goal

pub invariant_of-self : goal.invariant_of-self
invariant_of-self c =
    let i = c.self.inside in
    let held = i.tasks.items in
    let m = c.mark_with-self-inside.result in
    let f = c.mark_with-self-inside-2.result in
    let k = c.last_with-self-inside.result in
    line_is (staged_by held c.args.at c.args.stage (slice_get held c.args.at)) c.stage_in.new.held.items m f k c.stage_in.ensures
    (line_staged held i.waits_from i.ended_from i.ended_last m f k c.args.at c.args.stage (slice_get held c.args.at) refl c.self.invariant c.mark_with-self-inside.ensures.low c.mark_with-self-inside-2.ensures.low c.last_with-self-inside.ensures.high
    (λ e. c.mark_with-self-inside.ensures.there (c.is_waiting.ensures ∙ e)) (λ e. c.mark_with-self-inside-2.ensures.there (c.is_end.ensures ∙ e)) (λ e. c.last_with-self-inside.ensures.there (c.is_end-2.ensures ∙ e)))
