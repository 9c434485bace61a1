use Rattle.std.proofs.Common.{refl}
use Rattle.std.specs.Prelude.{slice_get}
use Rattle.std.specs.Vec.{vec_capacity}
use Rattle.task_book.specs.Kept.{staged_by}
use Rattle.task_book.proofs.Times.{book_is, book_staged_by}
use Rattle.task_book.proofs.book.Book.stage_at.Goals as goal

pub invariant_of-self : goal.invariant_of-self
invariant_of-self c =
    let i = c.self.inside in
    let h = i.held in
    book_is i.submitted.items i.submitted.items i.cancelled.items i.cancelled.items i.given.items i.given.items
    (staged_by h c.args.at c.args.stage (slice_get h c.args.at)) c.set_stage.new.self (vec_capacity i.given) (vec_capacity i.cancelled) refl refl refl c.set_stage.ensures
    (book_staged_by (record { submitted = i.submitted.items; given = i.given.items; cancelled = i.cancelled.items; held = h }) c.args.at (slice_get h c.args.at) c.args.stage
    (vec_capacity i.given) (vec_capacity i.cancelled) c.self.invariant refl)
