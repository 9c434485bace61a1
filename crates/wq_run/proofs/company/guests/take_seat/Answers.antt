use Rattle.std.proofs.Common.{rules, ◌≡◌, ◌<◌, inr, ◌++◌, ◌∷◌, [], None, Some, ap, refl, subst, arith, length, length-append, true≢false}
use Rattle.std.proofs.lemmas.List.{append-nil}
use Rattle.flow_types.specs.declared.numbers.LinkNo.{LinkNo}
use Rattle.wq_run.specs.Seats.{IsUnseated, inside_of, one_under, seats_under, with_hand}
use Rattle.wq_run.specs.Calm.{IsSureOf}
use Rattle.wq_run.proofs.Companies.{lost_met, seat_met}
use Rattle.wq_run.proofs.Counting.{numbers_as, numbers_more, numbers_then, seated_split}
use Rattle.wq_run.proofs.Calmly.{company_seated}
use Rattle.wq_run.proofs.company.guests.take_seat.Goals as goal

pub returns-then-not-takes-clause-met : goal.returns-then-not-takes-clause-met
returns-then-not-takes-clause-met g c =
    let behind : c.company-then-not-takes.inside.failed ≡ c.hand_back.new.company.failed = search rules in
    let seats : c.company-then-not-takes.inside.seats.items ≡ c.hand_back.new.company.seats = search rules in
    let newest : c.company-then-not-takes.inside.newest ≡ c.hand_back.new.company.newest = search rules in
    lost_met c.hand_back.ensures.met (numbers_then _ _ _ _ _ _ c.hand_back.ensures.met.numbers (numbers_as _ (inside_of c.hand_back.new.company) _ newest (λ k. let e = ap (seats_under k) seats in omega (arith, e)))) behind refl

pub returns-in-Err-clause-met : goal.returns-in-Err-clause-met
returns-in-Err-clause-met g c =
    let behind : c.company-in-Err.inside.failed ≡ c.hand_back-in-Err.new.company.failed = search rules in
    let seats : c.company-in-Err.inside.seats.items ≡ c.hand_back-in-Err.new.company.seats = search rules in
    let newest : c.company-in-Err.inside.newest ≡ c.hand_back-in-Err.new.company.newest = search rules in
    let before : c.company.inside.failed ≡ c.args.company.now.failed = search rules in
    let items : c.push.new.self.items ≡ c.args.company.now.seats = search rules in
    let above : c.args.company.now.newest < c.link-link.result.0 = c.takes.ensures.beyond (search rules) in
    lost_met c.hand_back-in-Err.ensures.met
    (numbers_then _ _ _ _ _ _ (numbers_more _ (with_hand None (inside_of c.args.company.now)) _ c.link-link.result above refl (λ k. let e = ap (seats_under k) items in omega (arith, e)))
    (numbers_then _ _ _ _ _ _ c.hand_back-in-Err.ensures.met.numbers (numbers_as _ (inside_of c.hand_back-in-Err.new.company) _ newest (λ k. let e = ap (seats_under k) seats in omega (arith, e))))) behind before

pub returns-in_default-clause-seats : goal.returns-in_default-clause-seats
returns-in_default-clause-seats g c =
    let items : c.push.new.self.items ≡ c.args.company.now.seats ++ (c.args.seat ∷ []) = search rules in
    inr (subst (λ (l : LinkNo). IsUnseated l.0 c.args.company.now.seats) c.link-link.ensures (c.takes.ensures.unseated (search rules)), items)

pub returns-in_default-clause-met : goal.returns-in_default-clause-met
returns-in_default-clause-met g c =
    let items : c.push.new.self.items ≡ c.args.company.now.seats ++ (c.args.seat ∷ []) = search rules in
    let more = ap length items in
    let both = length-append c.args.company.now.seats (c.args.seat ∷ []) in
    let guests : length c.args.company.now.guests ≡ length c.company.inside.guests.items = search rules in
    let failed : c.company.inside.failed ≡ c.args.company.now.failed = search rules in
    let lost : c.company.inside.lost ≡ c.args.company.now.lost = search rules in
    let above : c.args.company.now.newest < c.link-link.result.0 = c.takes.ensures.beyond (search rules) in
    seat_met (omega (arith, more, both, guests))
    (numbers_more _ (with_hand None (inside_of c.args.company.now)) _ c.link-link.result above refl
    (λ k.
    let e = ap (seats_under k) items in
    let split = seated_split k c.args.company.now.seats [] c.args.seat in
    let nil = ap (seats_under k) (append-nil c.args.company.now.seats) in
    let link = ap (λ (l : LinkNo). one_under k (Some l)) c.link-link.ensures in
    omega (arith, e, split, nil, link))) failed lost

pub returns-then-not-takes-clause-seated : goal.returns-then-not-takes-clause-seated
returns-then-not-takes-clause-seated g c kept = absurd (true≢false kept)

pub returns-in-Err-clause-seated : goal.returns-in-Err-clause-seated
returns-in-Err-clause-seated g c kept = absurd (true≢false kept)

pub returns-in_default-clause-seated : goal.returns-in_default-clause-seated
returns-in_default-clause-seated g c kept =
    let items : c.push.new.self.items ≡ c.args.company.now.seats ++ (c.args.seat ∷ []) = search rules in
    (refl, subst (λ (l : LinkNo). IsUnseated l.0 c.args.company.now.seats) c.link-link.ensures (c.takes.ensures.unseated (search rules)), items)

pub returns-then-not-takes-clause-calm : goal.returns-then-not-takes-clause-calm
returns-then-not-takes-clause-calm g c asked before moves joins kept seat was = absurd (true≢false kept)

pub returns-in-Err-clause-calm : goal.returns-in-Err-clause-calm
returns-in-Err-clause-calm g c asked before moves joins kept seat was = absurd (true≢false kept)

pub returns-in_default-clause-calm : goal.returns-in_default-clause-calm
returns-in_default-clause-calm g c asked before moves joins kept seat was =
    let items : c.push.new.self.items ≡ c.args.company.now.seats ++ (c.args.seat ∷ []) = search rules in
    let others : c.company.inside.guests.items ≡ c.args.company.now.guests = search rules in
    company_seated g.F.Commands.gives g.F.Commands.may_fail g.H.Way.Link.history g.H.Way.Link.idle_count (IsSureOf g.H.Way.Link.sure g.H.Way.Link.offers asked) c.args.company.now _ c.args.seat (λ is. is) joins items others seat was
