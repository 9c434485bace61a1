use Rattle.std.proofs.Common.{rules, None, ◌≡◌, ◌≢◌, ◌∙◌, ap, refl, subst, sym, arith, length, true≢false, List, slice_index_or}
use Rattle.std.specs.Prelude.{IfSome, remove}
use Rattle.std.proofs.lemmas.Bool.{eq-eqb}
use Rattle.wq_run.specs.Dues.{HasHeard, IsIllLink, left_lost}
use Rattle.wq_run.specs.Earned.{LeavesGuest}
use Rattle.wq_run.specs.Seats.{CompanyState, seats_under}
use Rattle.wq_run.specs.Calm.{IsSureOf}
use Rattle.wq_run.proofs.Fares.{spares_same}
use Rattle.wq_run.proofs.Leaving.{left_earned, left_kept}
use Rattle.wq_run.proofs.Companies.{fewer_first, man_as, marked_hand, met_then, still_met}
use Rattle.wq_run.proofs.Duties.{due_from, due_guest, due_left, due_met, due_none, due_then}
use Rattle.flow_types.specs.declared.messages.Message.TheVariants as messages
use Rattle.links.specs.Passings.{received_in}
use Rattle.message_forms.specs.Streams.{Carries}
use Rattle.peers.specs.States.{PeerState}
use Rattle.wq_run.proofs.Calm.{well_same}
use Rattle.wq_run.proofs.Calmly.{calm_began, calm_none, company_first, never_left}
use Rattle.wq_run.proofs.company.guests.greet_next.Goals as goal

pub returns-in-Ok-None-clause-met : goal.returns-in-Ok-None-clause-met
returns-in-Ok-None-clause-met g c =
    let behind : c.remove-peer.new.self.items ≡ remove c.company.inside.guests.items 0 = search rules in
    let some : length c.company.inside.guests.items ≢ 0 = (λ none. true≢false (sym (eq-eqb (length c.company.inside.guests.items) 0 none) ∙ search rules)) in
    let fewer = fewer_first c.company.inside.guests.items some in
    let now = ap length behind in
    let same : c.company.inside.seats.items ≡ c.args.company.now.seats = search rules in
    let seats = ap length same in
    let newest : c.company.inside.newest ≡ c.args.company.now.newest = search rules in
    let guests : length c.args.company.now.guests ≡ length c.company.inside.guests.items = search rules in
    let failed : c.company.inside.failed ≡ c.args.company.now.failed = search rules in
    let lost : c.company.inside.lost ≡ c.args.company.now.lost = search rules in
    met_then (still_met (record { links = omega (arith, fewer, now, seats, guests); fewer = λ k. let e = ap (seats_under k) same in omega (arith, e); newest = newest }) failed lost) c.stay.ensures.met

pub returns-in-Ok-Some-clause-manned : goal.returns-in-Ok-Some-clause-manned
returns-in-Ok-Some-clause-manned g c held first waiting heard m =
    let seats : c.company.inside.seats.items ≡ c.args.company.now.seats = search rules in
    c.seat_guest.ensures.manned held first waiting heard (man_as seats m)

pub returns-in-Ok-Some-clause-met : goal.returns-in-Ok-Some-clause-met
returns-in-Ok-Some-clause-met g c =
    let behind : c.remove-peer.new.self.items ≡ remove c.company.inside.guests.items 0 = search rules in
    let some : length c.company.inside.guests.items ≢ 0 = (λ none. true≢false (sym (eq-eqb (length c.company.inside.guests.items) 0 none) ∙ search rules)) in
    let fewer = fewer_first c.company.inside.guests.items some in
    let now = ap length behind in
    let same : c.company.inside.seats.items ≡ c.args.company.now.seats = search rules in
    let seats = ap length same in
    let newest : c.company.inside.newest ≡ c.args.company.now.newest = search rules in
    let guests : length c.args.company.now.guests ≡ length c.company.inside.guests.items = search rules in
    let failed : c.company.inside.failed ≡ c.args.company.now.failed = search rules in
    let lost : c.company.inside.lost ≡ c.args.company.now.lost = search rules in
    met_then (still_met (record { links = omega (arith, fewer, now, seats, guests); fewer = λ k. let e = ap (seats_under k) same in omega (arith, e); newest = newest }) failed lost) c.seat_guest.ensures.met

pub returns-in-Err-clause-met : goal.returns-in-Err-clause-met
returns-in-Err-clause-met g c =
    let behind : c.remove-peer.new.self.items ≡ remove c.company.inside.guests.items 0 = search rules in
    let some : length c.company.inside.guests.items ≢ 0 = (λ none. true≢false (sym (eq-eqb (length c.company.inside.guests.items) 0 none) ∙ search rules)) in
    let fewer = fewer_first c.company.inside.guests.items some in
    let now = ap length behind in
    let same : c.company.inside.seats.items ≡ c.args.company.now.seats = search rules in
    let seats = ap length same in
    let newest : c.company.inside.newest ≡ c.args.company.now.newest = search rules in
    let guests : length c.args.company.now.guests ≡ length c.company.inside.guests.items = search rules in
    let failed : c.company.inside.failed ≡ c.args.company.now.failed = search rules in
    let lost : c.company.inside.lost ≡ c.args.company.now.lost = search rules in
    let mid : CompanyState g.row.H-Way.Denot = record { seats = c.company.inside.seats.items; guests = c.remove-peer.new.self.items; failed = c.company.inside.failed; lost = c.company.inside.lost; newest = c.company.inside.newest } in
    met_then (still_met (record { links = omega (arith, fewer, now, seats, guests); fewer = λ k. let e = ap (seats_under k) same in omega (arith, e); newest = newest }) failed lost)
    (met_then (marked_hand None mid c.leaves.new.self (left_lost c.in-Err.leave c.company.inside.lost) (left_kept c.in-Err.leave c.company.inside.lost) c.leaves.ensures.left) c.hand_back.ensures.met)

pub returns-in-Ok-None-clause-due : goal.returns-in-Ok-None-clause-due
returns-in-Ok-None-clause-due g c limit halt tells =
    let same : c.company.inside.seats.items ≡ c.args.company.now.seats = search rules in
    let failed : c.company.inside.failed ≡ c.args.company.now.failed = search rules in
    let lost : c.company.inside.lost ≡ c.args.company.now.lost = search rules in
    due_from _ _ {other = record { seats = c.company.inside.seats.items; guests = c.remove-peer.new.self.items; failed = c.company.inside.failed; lost = c.company.inside.lost; newest = c.company.inside.newest }} same failed lost (due_met _ _ c.stay.ensures.seats c.stay.ensures.kept c.stay.ensures.met)

pub returns-in-Err-clause-due : goal.returns-in-Err-clause-due
returns-in-Err-clause-due g c limit halt tells =
    let same : c.company.inside.seats.items ≡ c.args.company.now.seats = search rules in
    let failed : c.company.inside.failed ≡ c.args.company.now.failed = search rules in
    let lost : c.company.inside.lost ≡ c.args.company.now.lost = search rules in
    let mid : CompanyState g.row.H-Way.Denot = record { seats = c.company.inside.seats.items; guests = c.remove-peer.new.self.items; failed = c.company.inside.failed; lost = c.company.inside.lost; newest = c.company.inside.newest } in
    let marked = ap (λ (x : CompanyState g.row.H-Way.Denot). x.lost) c.leaves.ensures.left in
    due_from _ _ {other = mid} same failed lost
    (due_then _ _ (due_left _ _ c.in-Err.leave mid c.leaves.new.self c.leaves.ensures.left (left_kept c.in-Err.leave c.company.inside.lost))
    (due_guest _ _ c.into_way.result (spares_same c.args.desk.now.moves c.args.desk.now.moves refl) refl c.hand_back.ensures.seats c.hand_back.ensures.back
    (λ kept.
    left_earned (IsIllLink {L = g.row.H-Way.Denot} g.F.Commands.gives g.F.Commands.may_fail g.H.Way.Link.history g.H.Way.Link.count g.H.Way.Link.idle_count g.H.Way.Link.is_closed limit) c.args.desk.now.moves c.into_way.result c.in-Err.leave c.company.inside.lost
    (subst (λ (w : g.row.H-Way.Denot). LeavesGuest (IsIllLink g.F.Commands.gives g.F.Commands.may_fail g.H.Way.Link.history g.H.Way.Link.count g.H.Way.Link.idle_count g.H.Way.Link.is_closed limit) w c.in-Err.leave) (sym c.into_way.ensures) (c.in-Err.ensures.leaves limit tells))
    (sym marked ∙ (c.hand_back.ensures.met.counted kept).0)) c.hand_back.ensures.met))

pub returns-in-Err-clause-manned : goal.returns-in-Err-clause-manned
returns-in-Err-clause-manned g c held first waiting heard m =
    let seats : c.company.inside.seats.items ≡ c.args.company.now.seats = search rules in
    man_as (c.hand_back.ensures.seats ∙ ap (λ (x : CompanyState g.row.H-Way.Denot). x.seats) c.leaves.ensures.left ∙ seats) m

pub returns-in-Ok-Some-clause-due : goal.returns-in-Ok-Some-clause-due
returns-in-Ok-Some-clause-due g c limit halt tells =
    let seats : c.company.inside.seats.items ≡ c.args.company.now.seats = search rules in
    let failed : c.company.inside.failed ≡ c.args.company.now.failed = search rules in
    let lost : c.company.inside.lost ≡ c.args.company.now.lost = search rules in
    due_from _ _ seats failed lost (c.seat_guest.ensures.due limit halt tells)

pub returns-then-is_empty-clause-due : goal.returns-then-is_empty-clause-due
returns-then-is_empty-clause-due g c limit halt tells = due_none _ _

pub seat_guest-requires-clause-offered : goal.seat_guest-requires-clause-offered
seat_guest-requires-clause-offered g c κs within = subst (λ o. IfSome o (λ x. g.H.Way.Link.tells → HasHeard g.H.Way.Link.history c.greet.new.peer 1)) c.in-Ok-Some.field-0-is c.in-Ok-Some.ensures.offered

pub seat_guest-requires-clause-came : goal.seat_guest-requires-clause-came
seat_guest-requires-clause-came g c κs within =
    subst (λ o. IfSome o (λ x. g.H.Way.Link.tells → Carries (received_in (g.H.Way.Link.history c.greet.new.peer.way)) (messages.Hello x.total x.largest x.cache))) c.in-Ok-Some.field-0-is c.in-Ok-Some.ensures.offers

pub stay-requires-clause-guest : goal.stay-requires-clause-guest
stay-requires-clause-guest g c κs within = c.in-Ok-None.ensures.waits c.in-Ok-None.field-0-is

pub returns-then-is_empty-clause-calm : goal.returns-then-is_empty-clause-calm
returns-then-is_empty-clause-calm g c asked halt tells = calm_none

pub returns-in-Ok-None-clause-calm : goal.returns-in-Ok-None-clause-calm
returns-in-Ok-None-clause-calm g c asked halt tells =
    let behind : c.remove-peer.new.self.items ≡ remove c.company.inside.guests.items 0 = search rules in
    let same : c.company.inside.seats.items ≡ c.args.company.now.seats = search rules in
    let guests : c.company.inside.guests.items ≡ c.args.company.now.guests = search rules in
    let failed : c.company.inside.failed ≡ c.args.company.now.failed = search rules in
    let lost : c.company.inside.lost ≡ c.args.company.now.lost = search rules in
    let some : length c.company.inside.guests.items ≢ 0 = (λ none. true≢false (sym (eq-eqb (length c.company.inside.guests.items) 0 none) ∙ search rules)) in
    let first : c.remove-peer.result ≡ slice_index_or c.company.inside.guests.items 0 c.remove-peer.result = search rules in
    let mid : CompanyState g.row.H-Way.Denot = record { seats = c.company.inside.seats.items; guests = c.remove-peer.new.self.items; failed = c.company.inside.failed; lost = c.company.inside.lost; newest = c.company.inside.newest } in
    calm_began c.args.company.now mid c.stay.new.company failed lost (well_same _ _ refl) c.stay.ensures.met (λ now was. (let out = company_first g.F.Commands.gives g.F.Commands.may_fail g.H.Way.Link.history g.H.Way.Link.idle_count (IsSureOf g.H.Way.Link.sure g.H.Way.Link.offers asked) c.args.company.now mid c.remove-peer.result (λ none. some (ap length guests ∙ none)) (first ∙ ap (λ (xs : List (PeerState g.row.H-Way.Denot)). slice_index_or xs 0 c.remove-peer.result) guests) same (behind ∙ ap (λ (xs : List (PeerState g.row.H-Way.Denot)). remove xs 0) guests) was in c.stay.ensures.calm asked c.args.desk.now.moves now.kept (c.in-Ok-None.ensures.calm asked tells out.guest).stays out.links))

pub returns-in-Err-clause-calm : goal.returns-in-Err-clause-calm
returns-in-Err-clause-calm g c asked halt tells =
    let behind : c.remove-peer.new.self.items ≡ remove c.company.inside.guests.items 0 = search rules in
    let same : c.company.inside.seats.items ≡ c.args.company.now.seats = search rules in
    let guests : c.company.inside.guests.items ≡ c.args.company.now.guests = search rules in
    let failed : c.company.inside.failed ≡ c.args.company.now.failed = search rules in
    let lost : c.company.inside.lost ≡ c.args.company.now.lost = search rules in
    let some : length c.company.inside.guests.items ≢ 0 = (λ none. true≢false (sym (eq-eqb (length c.company.inside.guests.items) 0 none) ∙ search rules)) in
    let first : c.remove-peer.result ≡ slice_index_or c.company.inside.guests.items 0 c.remove-peer.result = search rules in
    let mid : CompanyState g.row.H-Way.Denot = record { seats = c.company.inside.seats.items; guests = c.remove-peer.new.self.items; failed = c.company.inside.failed; lost = c.company.inside.lost; newest = c.company.inside.newest } in
    calm_began c.args.company.now mid c.hand_back.new.company failed lost (well_same _ _ refl)
    (met_then (marked_hand None mid c.leaves.new.self (left_lost c.in-Err.leave c.company.inside.lost) (left_kept c.in-Err.leave c.company.inside.lost) c.leaves.ensures.left) c.hand_back.ensures.met) (λ now was. (let out = company_first g.F.Commands.gives g.F.Commands.may_fail g.H.Way.Link.history g.H.Way.Link.idle_count (IsSureOf g.H.Way.Link.sure g.H.Way.Link.offers asked) c.args.company.now mid c.remove-peer.result (λ none. some (ap length guests ∙ none)) (first ∙ ap (λ (xs : List (PeerState g.row.H-Way.Denot)). slice_index_or xs 0 c.remove-peer.result) guests) same (behind ∙ ap (λ (xs : List (PeerState g.row.H-Way.Denot)). remove xs 0) guests) was in absurd (never_left g.F.Commands.gives g.F.Commands.may_fail g.H.Way.Link.history g.H.Way.Link.idle_count (IsSureOf g.H.Way.Link.sure g.H.Way.Link.offers asked) ⊥ c.in-Err.leave c.company.inside.lost (c.in-Err.ensures.calm asked tells out.guest).leaves (sym (ap (λ (x : CompanyState g.row.H-Way.Denot). x.lost) c.leaves.ensures.left) ∙ (c.hand_back.ensures.met.counted now.kept).0) (λ full. full))))

pub returns-in-Ok-Some-clause-calm : goal.returns-in-Ok-Some-clause-calm
returns-in-Ok-Some-clause-calm g c asked halt tells =
    let behind : c.remove-peer.new.self.items ≡ remove c.company.inside.guests.items 0 = search rules in
    let same : c.company.inside.seats.items ≡ c.args.company.now.seats = search rules in
    let guests : c.company.inside.guests.items ≡ c.args.company.now.guests = search rules in
    let failed : c.company.inside.failed ≡ c.args.company.now.failed = search rules in
    let lost : c.company.inside.lost ≡ c.args.company.now.lost = search rules in
    let some : length c.company.inside.guests.items ≢ 0 = (λ none. true≢false (sym (eq-eqb (length c.company.inside.guests.items) 0 none) ∙ search rules)) in
    let first : c.remove-peer.result ≡ slice_index_or c.company.inside.guests.items 0 c.remove-peer.result = search rules in
    let mid : CompanyState g.row.H-Way.Denot = record { seats = c.company.inside.seats.items; guests = c.remove-peer.new.self.items; failed = c.company.inside.failed; lost = c.company.inside.lost; newest = c.company.inside.newest } in
    record {
      stands = λ now. (let was = (c.seat_guest.ensures.calm asked halt tells).stands now in record { none = was.none; fine = sym failed ∙ was.fine; kept = sym lost ∙ was.kept; room = was.room });
      keeps = λ now was. (let out = company_first g.F.Commands.gives g.F.Commands.may_fail g.H.Way.Link.history g.H.Way.Link.idle_count (IsSureOf g.H.Way.Link.sure g.H.Way.Link.offers asked) c.args.company.now mid c.remove-peer.result (λ none. some (ap length guests ∙ none)) (first ∙ ap (λ (xs : List (PeerState g.row.H-Way.Denot)). slice_index_or xs 0 c.remove-peer.result) guests) same (behind ∙ ap (λ (xs : List (PeerState g.row.H-Way.Denot)). remove xs 0) guests) was in (c.seat_guest.ensures.calm asked halt tells).keeps now ((c.in-Ok-Some.ensures.calm asked tells out.guest).stays, out.links));
    }
