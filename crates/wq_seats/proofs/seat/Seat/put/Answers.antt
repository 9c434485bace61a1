use Rattle.std.proofs.Common.{◌≡◌, ◌∷◌, ◌∙◌, ℕ, List, Some, None, ap, sym, subst}
use Rattle.std.specs.Prelude.{slice_get}
use Rattle.std.specs.Option.{option_copied}
use Rattle.flow_types.specs.declared.messages.Key.{Key}
use Rattle.wq_seats.specs.Seats.{IsAtWork, MayAsk, SeatState, own_run}
use Rattle.wq_seats.proofs.Calls.{put_asks_by, put_works_by}
use Rattle.wq_seats.proofs.seat.Seat.put.Goals as goal

pub returns-clause-asks : goal.returns-clause-asks
returns-clause-asks g c held next task left tells m =
    let i = c.self.inside in
    let s : SeatState g.row.L.Denot = record { peer = i.peer; stated = i.stated; runs = i.runs.items; again = i.again; health = i.health; gone = i.gone } in
    let files = c.args.files.now in
    let key : Key = record { run = own_run; file = c.args.file } in
    let there : slice_get files c.args.file.0 ≡ Some c.in-Ok.content =
    sym c.content.ensures.content ∙ ap option_copied c.in-Some.is ∙ ap (λ (b : List ℕ). Some b) (sym c.in-Ok.ensures) in
    let was = subst (λ (x : SeatState g.row.L.Denot). MayAsk g.F.Commands.gives g.F.Commands.may_fail g.L.Link.history files held next x task (key ∷ left)) (sym c.self.view_is) m in
    put_asks_by g.F.Commands.gives g.F.Commands.may_fail g.L.Link.history files held next s c.put.new.self task key left c.in-Ok.content c.put.result c.put.ensures.session there
    (λ said heard serves. c.put.ensures.serves said heard (Some task) tells serves) was

pub returns-clause-works : goal.returns-clause-works
returns-clause-works g c held next again tells w =
    let i = c.self.inside in
    let s : SeatState g.row.L.Denot = record { peer = i.peer; stated = i.stated; runs = i.runs.items; again = i.again; health = i.health; gone = i.gone } in
    let files = c.args.files.now in
    let key : Key = record { run = own_run; file = c.args.file } in
    let there : slice_get files c.args.file.0 ≡ Some c.in-Ok.content =
    sym c.content.ensures.content ∙ ap option_copied c.in-Some.is ∙ ap (λ (b : List ℕ). Some b) (sym c.in-Ok.ensures) in
    let was = subst (λ (x : SeatState g.row.L.Denot). IsAtWork g.F.Commands.gives g.F.Commands.may_fail g.L.Link.history files held next (record x { again = again })) (sym c.self.view_is) w in
    put_works_by g.F.Commands.gives g.F.Commands.may_fail g.L.Link.history files held next (record s { again = again }) c.put.new.self key c.in-Ok.content c.put.result c.put.ensures.session there
    (λ said heard serves. c.put.ensures.serves said heard None tells serves) was
