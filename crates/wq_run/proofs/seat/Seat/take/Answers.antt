use Rattle.std.proofs.Common.{◌≡◌, ◌∙◌, ◌==◌, ◌++◌, ◌∷◌, List, ap, drop, rules, suc, sym, take}
use Rattle.std.specs.Prelude.{get_or, remove}
use Rattle.std.specs.List.{position}
use Rattle.desk.specs.declared.attempt.Attempt.{Attempt}
use Rattle.local_run.proofs.PlacesClosed.{held_found, taken_at}
use Rattle.wq_run.specs.Seats.{SeatState, seat_with}
use Rattle.wq_run.specs.Trusted.{IsFair}
use Rattle.wq_run.proofs.Trusts.{take_trusted}
use Rattle.wq_run.proofs.seat.Seat.take.Goals as goal

pub unreachable-requires : goal.unreachable-requires
unreachable-requires g c =
    held_found c.args.number c.args.self.now.attempts c.requires.held
    (ap (position (λ (a : Attempt). a.number.0 == c.args.number.0)) (ap (λ (s : SeatState g.row.L.Denot). s.attempts) (sym c.self.view_is)) ∙ sym (c.place.ensures ∙ ap (position (λ (a : Attempt). a.number.0 == c.args.number.0)) c.deref.ensures.value) ∙ c.in_default.is)

pub returns-clause-number : goal.returns-clause-number
returns-clause-number g c =
    let found = sym (c.place.ensures ∙ ap (position (λ (a : Attempt). a.number.0 == c.args.number.0)) c.deref.ensures.value) ∙ c.in-Some.is in
    let is = taken_at c.args.number c.self.inside.attempts.items c.in-Some.at c.remove.result found in
    ap (λ (a : Attempt). a.number) c.remove.ensures.value ∙ is.2

pub invariant_of-self : goal.invariant_of-self
invariant_of-self g c ready held =
    let behind : c.remove.new.self.items ≡ remove c.self.inside.attempts.items c.in-Some.at = search rules in
    take_trusted g.T.Trust.holds g.F.Commands.gives g.F.Commands.may_fail g.L.Link.history (IsFair g.T.Trust.holds g.L.Link.tells g.L.Link.honest) g.T.Trust.plan g.T.Trust.run g.T.Trust.due (record { peer = c.self.inside.peer; link = c.self.inside.link; attempts = c.self.inside.attempts.items; newest = c.self.inside.newest }) c.remove.new.self.items c.in-Some.at behind (c.self.invariant ready held)

pub returns-clause-split : goal.returns-clause-split
returns-clause-split g c =
    let found = sym (c.place.ensures ∙ ap (position (λ (a : Attempt). a.number.0 == c.args.number.0)) c.deref.ensures.value) ∙ c.in-Some.is in
    let items = c.self.inside.attempts.items in
    let is = taken_at c.args.number items c.in-Some.at c.remove.result found in
    let front = take c.in-Some.at items in
    let back = drop (suc c.in-Some.at) items in
    let value : c.remove.result ≡ get_or items c.in-Some.at c.remove.result = search rules in
    let behind : c.remove.new.self.items ≡ front ++ back = search rules in (
      front,
      back,
      ap (λ (s : SeatState g.row.L.Denot). s.attempts) (sym c.self.view_is) ∙ is.1 ∙ ap (λ (x : Attempt). front ++ (x ∷ back)) (sym value),
      ap (λ (xs : List Attempt). let s : SeatState g.row.L.Denot = record { peer = c.self.inside.peer; link = c.self.inside.link; attempts = xs; newest = c.self.inside.newest } in s) behind ∙ ap (λ (s : SeatState g.row.L.Denot). seat_with s (front ++ back)) c.self.view_is,
    )
