use Rattle.std.proofs.Common.{rules, ◌≡◌, ◌++◌, ◌∷◌, [], ap, arith, length, length-append, refl, true≢false}
use Rattle.wq_run.specs.Seats.{inside_of, seats_under}
use Rattle.wq_run.specs.Calm.{IsSureOf}
use Rattle.wq_run.proofs.Companies.{lost_met, met_then, still_met}
use Rattle.wq_run.proofs.Counting.{numbers_as, numbers_then}
use Rattle.wq_run.proofs.Calmly.{company_more}
use Rattle.wq_run.proofs.company.hall.let_in.Goals as goal

pub returns-in_default-clause-met : goal.returns-in_default-clause-met
returns-in_default-clause-met g c =
    let items : c.push.new.self.items ≡ c.company.inside.guests.items ++ (c.in-Ok.peer ∷ []) = search rules in
    let more = ap length items in
    let both = length-append c.company.inside.guests.items (c.in-Ok.peer ∷ []) in
    let same : c.company.inside.seats.items ≡ c.args.company.now.seats = search rules in
    let seats = ap length same in
    let newest : c.company.inside.newest ≡ c.args.company.now.newest = search rules in
    let guests : length c.args.company.now.guests ≡ length c.company.inside.guests.items = search rules in
    let failed : c.company.inside.failed ≡ c.args.company.now.failed = search rules in
    let lost : c.company.inside.lost ≡ c.args.company.now.lost = search rules in
    still_met (record { links = omega (arith, more, both, seats, guests); fewer = λ k. let e = ap (seats_under k) same in omega (arith, e); newest = newest }) failed lost

pub returns-in_default-clause-kept : goal.returns-in_default-clause-kept
returns-in_default-clause-kept g c kept = refl

pub returns-in-Err-push-clause-met : goal.returns-in-Err-push-clause-met
returns-in-Err-push-clause-met g c =
    let items : c.push.new.self.items ≡ c.args.company.now.guests = search rules in
    let many = ap length items in
    let same : c.company.inside.seats.items ≡ c.args.company.now.seats = search rules in
    let seats = ap length same in
    let newest : c.company.inside.newest ≡ c.args.company.now.newest = search rules in
    let failed : c.company.inside.failed ≡ c.args.company.now.failed = search rules in
    let lost : c.company.inside.lost ≡ c.args.company.now.lost = search rules in
    let behind : c.company-in-Err-push.inside.failed ≡ c.hand_back.new.company.failed = search rules in
    let seats_now : c.company-in-Err-push.inside.seats.items ≡ c.hand_back.new.company.seats = search rules in
    let newest_now : c.company-in-Err-push.inside.newest ≡ c.hand_back.new.company.newest = search rules in
    let hand = met_then (still_met (record { links = omega (arith, many, seats); fewer = λ k. let e = ap (seats_under k) same in omega (arith, e); newest = newest }) failed lost) c.hand_back.ensures.met in
    lost_met hand (numbers_then _ _ _ _ _ _ hand.numbers (numbers_as _ (inside_of c.hand_back.new.company) _ newest_now (λ k. let e = ap (seats_under k) seats_now in omega (arith, e)))) behind refl

pub returns-in-Err-push-clause-kept : goal.returns-in-Err-push-clause-kept
returns-in-Err-push-clause-kept g c kept = absurd (true≢false kept)

pub returns-in-Err-clause-met : goal.returns-in-Err-clause-met
returns-in-Err-clause-met g c =
    let behind : c.company-in-Err.inside.failed ≡ c.hand_back-in-Err.new.company.failed = search rules in
    let seats_now : c.company-in-Err.inside.seats.items ≡ c.hand_back-in-Err.new.company.seats = search rules in
    let newest_now : c.company-in-Err.inside.newest ≡ c.hand_back-in-Err.new.company.newest = search rules in
    let hand = c.hand_back-in-Err.ensures.met in
    lost_met hand (numbers_then _ _ _ _ _ _ hand.numbers (numbers_as _ (inside_of c.hand_back-in-Err.new.company) _ newest_now (λ k. let e = ap (seats_under k) seats_now in omega (arith, e)))) behind refl

pub returns-in-Err-clause-kept : goal.returns-in-Err-clause-kept
returns-in-Err-clause-kept g c kept = absurd (true≢false kept)

pub returns-in_default-clause-calm : goal.returns-in_default-clause-calm
returns-in_default-clause-calm g c asked moves tells on kept was =
    let items : c.push.new.self.items ≡ c.args.company.now.guests ++ (c.in-Ok.peer ∷ []) = search rules in
    let same : c.company.inside.seats.items ≡ c.args.company.now.seats = search rules in
    company_more g.F.Commands.gives g.F.Commands.may_fail g.H.Way.Link.history g.H.Way.Link.idle_count (IsSureOf g.H.Way.Link.sure g.H.Way.Link.offers asked) c.args.company.now _ c.in-Ok.peer (λ is. is) same items (c.in-Ok.ensures.sure asked tells on) was

pub returns-in-Err-push-clause-calm : goal.returns-in-Err-push-clause-calm
returns-in-Err-push-clause-calm g c asked moves tells on kept was = absurd (true≢false kept)

pub returns-in-Err-clause-calm : goal.returns-in-Err-clause-calm
returns-in-Err-clause-calm g c asked moves tells on kept was = absurd (true≢false kept)
