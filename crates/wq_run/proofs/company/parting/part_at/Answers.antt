use Rattle.std.proofs.Common.{Some, ap, arith, length, length-append, rules, slice_index_or, subst, sym, ℕ, ◌++◌, ◌∙◌, ◌∷◌, ◌≡◌, ◌⊎◌}
use Rattle.std.specs.Prelude.{remove}
use Rattle.wq_run.specs.Seats.{SeatState, one_under, seats_under}
use Rattle.wq_run.proofs.Companies.{met_then, parting_of, parts_of, rest_at, still_met, taken_at}
use Rattle.wq_run.proofs.Counting.{seated_split}
use Rattle.wq_run.specs.Dues.{IsFull, IsIllLink}
use Rattle.wq_run.specs.Keeping.{KeepsOnBut}
use Rattle.wq_run.proofs.Duties.{due_from_but}
use Rattle.wq_run.proofs.company.parting.part_at.Goals as goal

pub part-requires-clause-parting : goal.part-requires-clause-parting
part-requires-clause-parting g c κs within =
    let rest : c.remove-seat.new.self.items ≡ remove c.args.company.now.seats c.args.at = search rules in
    let is : c.remove-seat.result ≡ slice_index_or c.args.company.now.seats c.args.at c.remove-seat.result = search rules in
    parting_of rest is c.requires.parting

pub returns-clause-manned : goal.returns-clause-manned
returns-clause-manned g c first waiting heard p =
    let rest : c.remove-seat.new.self.items ≡ remove c.args.company.now.seats c.args.at = search rules in
    let is : c.remove-seat.result ≡ slice_index_or c.args.company.now.seats c.args.at c.remove-seat.result = search rules in
    c.part.ensures.manned p.before p.behind first waiting heard (rest ∙ rest_at c.args.company.now.seats c.args.at p.before p.seat p.behind p.are p.place) (parts_of p is)

pub returns-clause-met : goal.returns-clause-met
returns-clause-met g c =
    let p = c.requires.parting.parts in
    let rest : c.remove-seat.new.self.items ≡ remove c.args.company.now.seats c.args.at = search rules in
    let were = ap length p.are in
    let now = ap length (rest ∙ rest_at c.args.company.now.seats c.args.at p.before p.seat p.behind p.are p.place) in
    let all = length-append p.before (p.seat ∷ p.behind) in
    let both = length-append p.before p.behind in
    let guests : length c.args.company.now.guests ≡ length c.company.inside.guests.items = search rules in
    let failed : c.company.inside.failed ≡ c.args.company.now.failed = search rules in
    let lost : c.company.inside.lost ≡ c.args.company.now.lost = search rules in
    let newest : c.company.inside.newest ≡ c.args.company.now.newest = search rules in
    let is : c.remove-seat.result ≡ slice_index_or c.args.company.now.seats c.args.at c.remove-seat.result = search rules in
    let same : c.remove-seat.result ≡ p.seat = taken_at c.args.company.now.seats c.args.at c.remove-seat.result p.before p.seat p.behind p.are p.place is in
    let seats = rest ∙ rest_at c.args.company.now.seats c.args.at p.before p.seat p.behind p.are p.place in
    met_then (still_met (record {
      links = omega (arith, were, now, all, both, guests);
      fewer = λ k.
          let old = ap (seats_under k) p.are in
          let new = ap (seats_under k) seats in
          let split = seated_split k p.before p.behind p.seat in
          let hand = ap (λ (s : SeatState g.row.H-Way.Denot). one_under k (Some s.link)) same in
          omega (arith, old, new, split, hand);
      newest = newest;
    }) failed lost) c.part.ensures.met

pub returns-clause-due : goal.returns-clause-due
returns-clause-due g c limit tells cause =
    let p = c.requires.parting.parts in
    let rest : c.remove-seat.new.self.items ≡ remove c.args.company.now.seats c.args.at = search rules in
    let is : c.remove-seat.result ≡ slice_index_or c.args.company.now.seats c.args.at c.remove-seat.result = search rules in
    let same : c.remove-seat.result ≡ p.seat = taken_at c.args.company.now.seats c.args.at c.remove-seat.result p.before p.seat p.behind p.are p.place is in
    let seats = rest ∙ rest_at c.args.company.now.seats c.args.at p.before p.seat p.behind p.are p.place in
    let failed : c.company.inside.failed ≡ c.args.company.now.failed = search rules in
    let lost : c.company.inside.lost ≡ c.args.company.now.lost = search rules in
    subst (λ (n : ℕ). KeepsOnBut (IsIllLink g.F.Commands.gives g.F.Commands.may_fail g.H.Way.Link.history g.H.Way.Link.count g.H.Way.Link.idle_count g.H.Way.Link.is_closed limit) g.H.Way.Link.history n c.args.desk.now.moves c.part.new.desk.moves c.args.held.now.halt c.part.new.held.halt c.args.company.now c.part.new.company (g.H.Hall.got c.args.hall.now) (g.H.Hall.got c.part.new.hall)) p.place
    (due_from_but _ _ (length p.before) (ap (λ (s : SeatState g.row.H-Way.Denot). p.before ++ (s ∷ p.behind)) same ∙ sym p.are) failed lost
    (c.part.ensures.due limit tells p.before p.behind seats (λ none fine kept.
    let may = cause none (sym failed ∙ fine) (sym lost ∙ kept) in
    let it : c.remove-seat.result ≡ may.1 = taken_at c.args.company.now.seats c.args.at c.remove-seat.result may.0 may.1 may.2 may.3 may.4 is in
    subst (λ (s : SeatState g.row.H-Way.Denot). (IsIllLink g.F.Commands.gives g.F.Commands.may_fail g.H.Way.Link.history g.H.Way.Link.count g.H.Way.Link.idle_count g.H.Way.Link.is_closed limit) s.link s.peer.way ⊎ IsFull c.args.desk.now.moves) (sym it) may.5)))

pub returns-clause-grows : goal.returns-clause-grows
returns-clause-grows g c none = c.part.ensures.grows none
