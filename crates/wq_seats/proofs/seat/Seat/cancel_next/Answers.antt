use Rattle.std.proofs.Common.{◌≡◌, ◌<◌, ◌∙◌, Bool, List, None, Option, Result, Some, ap, arith, length, refl, subst, sym}
use Rattle.std.specs.Prelude.{IfSome, OnOk, slice_get}
use Rattle.std.proofs.lemmas.Option.{slice_get-get_or}
use Rattle.peers.specs.declared.leave.Leave.{Leave}
use Rattle.task_book.specs.Kept.{place_running}
use Rattle.wq_seats.specs.declared.run.Run.{Run}
use Rattle.wq_seats.specs.Seats.{IsAtWork, KeepsRuns, SeatState}
use Rattle.wq_seats.proofs.Calls.{cancel_works_by}
use Rattle.wq_seats.proofs.Keeping.{keeps_removed}
use Rattle.wq_seats.proofs.seat.Seat.cancel_next.Goals as goal
use Rattle.wq_seats.proofs.seat.Seat.cancel_next.Goals.{in-Ok, in-Err}

pub returns-clause-works : goal.returns-clause-works
returns-clause-works g c files next tells w =
    let i = c.self.inside in
    let s : SeatState g.row.L.Denot = record { peer = i.peer; stated = i.stated; runs = i.runs.items; again = i.again; health = i.health; gone = i.gone } in
    let at = c.in-Some.at in
    let run : Run = c.remove-run.result in
    let held = c.args.book.now.held in
    let less : at < length s.runs = omega (arith, c.in-Some.ensures.within, c.as_slice.ensures.len) in
    let there : slice_get s.runs at ≡ Some run = slice_get-get_or s.runs at run less ∙ ap (λ (r : Run). Some r) (sym c.remove-run.ensures.value) in
    let was = subst (λ (x : SeatState g.row.L.Denot). IsAtWork g.F.Commands.gives g.F.Commands.may_fail g.L.Link.history files held next x) (sym c.self.view_is) w in
    let works = IsAtWork g.F.Commands.gives g.F.Commands.may_fail g.L.Link.history files held next (record s { peer = c.cancel.new.self; runs = c.remove-run.new.self.items }) in
    elim c.match-cancel.branch [
      | in-Ok b ↦ subst (λ (r : Result Bool Leave). OnOk r works) (sym b.result-is)
          (subst (λ (rs : List Run). IsAtWork g.F.Commands.gives g.F.Commands.may_fail g.L.Link.history files held next (record s { peer = c.cancel.new.self; runs = rs })) (sym c.remove-run.ensures.items)
          (cancel_works_by g.F.Commands.gives g.F.Commands.may_fail g.L.Link.history files held next s c.cancel.new.self at run b.in-Ok.field-0 there c.cancel.ensures.session (λ said heard serves. b.in-Ok.ensures.serves said heard None tells serves) was))
      | in-Err b ↦ subst (λ (r : Result Bool Leave). OnOk r works) (sym b.result-is) tt
    ]

pub returns-clause-keeps : goal.returns-clause-keeps
returns-clause-keeps g c =
    let i = c.self.inside in
    let s : SeatState g.row.L.Denot = record { peer = i.peer; stated = i.stated; runs = i.runs.items; again = i.again; health = i.health; gone = i.gone } in
    let at = c.in-Some.at in
    let run : Run = c.remove-run.result in
    let held = c.args.book.now.held in
    let less : at < length s.runs = omega (arith, c.in-Some.ensures.within, c.as_slice.ensures.len) in
    let there : slice_get s.runs at ≡ Some run = slice_get-get_or s.runs at run less ∙ ap (λ (r : Run). Some r) (sym c.remove-run.ensures.value) in
    let gone = subst (λ (p : Option Run). IfSome p (λ r. place_running r.id r.attempt held ≡ None)) (ap (λ (rs : List Run). slice_get rs at) c.as_slice.ensures.value ∙ there) c.in-Some.ensures.gone in
    subst (λ (x : SeatState g.row.L.Denot). KeepsRuns held held x (record s { peer = c.cancel.new.self; runs = c.remove-run.new.self.items })) c.self.view_is
    (keeps_removed held s (record s { peer = c.cancel.new.self; runs = c.remove-run.new.self.items }) at run there gone refl c.remove-run.ensures.items)
