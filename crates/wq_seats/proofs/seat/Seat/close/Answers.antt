use Rattle.std.proofs.Common.{◌≡◌, ◌∙◌, List, None, Some, ap, sym}
use Rattle.std.specs.Prelude.{◌==◌, position}
use Rattle.wq_seats.specs.declared.run.Run.{Run}
use Rattle.wq_seats.specs.Seats.{SeatState, closed_runs}
use Rattle.wq_seats.proofs.Counting.{closed_none, closed_some}
use Rattle.wq_seats.proofs.seat.Seat.close.Goals as goal

pub returns-in-Some : goal.returns-in-Some
returns-in-Some g c =
    let i = c.self.inside in
    let s : SeatState g.row.L.Denot = record { peer = i.peer; stated = i.stated; runs = i.runs.items; again = i.again; health = i.health; gone = i.gone } in
    let attempt = c.args.attempt in
    let found : position (λ (r : Run). r.attempt.0 == attempt.0) s.runs ≡ Some c.in-Some.at =
    ap (λ (rs : List Run). position (λ (r : Run). r.attempt.0 == attempt.0) rs) (sym c.as_slice.ensures.value) ∙ sym c.place_of.ensures ∙ c.in-Some.is in
    ap (λ (rs : List Run). record s { runs = rs }) (c.remove.ensures.items ∙ sym (closed_some attempt s.runs c.in-Some.at found))
    ∙ ap (λ (x : SeatState g.row.L.Denot). record x { runs = closed_runs attempt x.runs }) c.self.view_is

pub returns-in_default : goal.returns-in_default
returns-in_default g c =
    let i = c.self.inside in
    let s : SeatState g.row.L.Denot = record { peer = i.peer; stated = i.stated; runs = i.runs.items; again = i.again; health = i.health; gone = i.gone } in
    let attempt = c.args.attempt in
    let found : position (λ (r : Run). r.attempt.0 == attempt.0) s.runs ≡ None =
    ap (λ (rs : List Run). position (λ (r : Run). r.attempt.0 == attempt.0) rs) (sym c.as_slice.ensures.value) ∙ sym c.place_of.ensures ∙ c.in_default.is in
    sym c.self.view_is ∙ ap (λ (rs : List Run). record s { runs = rs }) (sym (closed_none attempt s.runs found)) ∙ ap (λ (x : SeatState g.row.L.Denot). record x { runs = closed_runs attempt x.runs }) c.self.view_is
