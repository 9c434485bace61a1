use Rattle.std.proofs.Common.{List, None, Option, Some, ap, length, refl, rules, sym, true, true≢false, ◌∙◌, ◌≡◌}
use Rattle.std.specs.Prelude.{is_none, slice_get, slice_set}
use Rattle.local_run.specs.Underway.{IsSurePool}
use Rattle.wq_run.specs.Seats.{SeatState, seats_under}
use Rattle.wq_run.specs.Calm.{IsSureOf}
use Rattle.wq_run.proofs.Companies.{got_at, link_stays, set_many, set_seated, visited}
use Rattle.wq_run.proofs.Splits.{split_at}
use Rattle.wq_run.proofs.Visits.{visit_at}
use Rattle.wq_run.proofs.Shares.{apart_at}
use Rattle.wq_run.proofs.Duties.{at_none, dues_at}
use Rattle.wq_run.proofs.Calmly.{calm_at_seat, calm_no_seat}
use Rattle.wq_run.proofs.company.visits.claim_at.Goals as goal

none_of : {X : Type 0} (o : Option X) → is_none o ≡ true → o ≡ None
none_of None is = refl
none_of (Some x) is = absurd (true≢false (sym is))

pub claim-requires-clause-going : goal.claim-requires-clause-going
claim-requires-clause-going g c κs within =
    let going : c.is_going.result ≡ true = search rules in
    none_of c.args.held.now.halt (sym c.is_going.ensures ∙ going)

pub claim-requires-clause-at : goal.claim-requires-clause-at
claim-requires-clause-at g c κs within =
    let are : c.company.inside.seats.items ≡ c.args.company.now.seats = search rules in
    let there : slice_get c.args.company.now.seats c.args.at ≡ Some c.in-Some.seat.now =
    ap (λ (xs : List (SeatState g.row.H-Way.Denot)). slice_get xs c.args.at) (sym are) ∙ got_at c.company.inside.seats.items c.args.at c.in-Some.seat.now c.in-Some.ensures.item.0 c.in-Some.ensures.item.1 in
    visit_at g.T.Terms.trust g.F.Commands.gives g.F.Commands.may_fail g.T.Terms.sources g.S.Site.tells g.T.Terms.kept (IsSurePool g.B.Terms.fits) g.S.Site.files g.S.Site.may_leave g.S.Site.moment g.S.Site.images_since c.args.desk.now c.args.held.now c.args.company.now.seats c.args.at c.in-Some.seat.now (split_at c.args.company.now.seats c.args.at c.in-Some.seat.now there) c.requires.manned

pub returns-clause-manned : goal.returns-clause-manned
returns-clause-manned g c =
    let are : c.company.inside.seats.items ≡ c.args.company.now.seats = search rules in
    let there : slice_get c.args.company.now.seats c.args.at ≡ Some c.in-Some.seat.now =
    ap (λ (xs : List (SeatState g.row.H-Way.Denot)). slice_get xs c.args.at) (sym are) ∙ got_at c.company.inside.seats.items c.args.at c.in-Some.seat.now c.in-Some.ensures.item.0 c.in-Some.ensures.item.1 in
    visited g.T.Terms.trust g.F.Commands.gives g.F.Commands.may_fail g.T.Terms.sources g.S.Site.tells g.T.Terms.kept (IsSurePool g.B.Terms.fits) g.S.Site.files g.S.Site.may_leave g.S.Site.moment g.S.Site.images_since c.args.desk.now c.claim.new.desk c.args.held.now c.claim.new.held c.args.company.now.seats (slice_set c.company.inside.seats.items c.args.at c.claim.new.self) c.args.at c.in-Some.seat.now c.claim.new.self c.claim.result
    there (ap (λ (xs : List (SeatState g.row.H-Way.Denot)). slice_set xs c.args.at c.claim.new.self) are) c.claim.ensures.keeps

pub returns-clause-many : goal.returns-clause-many
returns-clause-many g c =
    let are : c.company.inside.seats.items ≡ c.args.company.now.seats = search rules in
    set_many c.company.inside.seats.items c.args.at c.in-Some.seat.now c.claim.new.self (got_at c.company.inside.seats.items c.args.at c.in-Some.seat.now c.in-Some.ensures.item.0 c.in-Some.ensures.item.1) ∙ ap length are

pub returns-clause-numbers : goal.returns-clause-numbers
returns-clause-numbers g c k =
    let are : c.company.inside.seats.items ≡ c.args.company.now.seats = search rules in
    set_seated c.company.inside.seats.items c.args.at c.in-Some.seat.now c.claim.new.self (got_at c.company.inside.seats.items c.args.at c.in-Some.seat.now c.in-Some.ensures.item.0 c.in-Some.ensures.item.1)
    (link_stays g.T.Terms.trust g.F.Commands.gives g.F.Commands.may_fail g.T.Terms.sources g.S.Site.tells g.T.Terms.kept (IsSurePool g.B.Terms.fits) g.S.Site.files g.S.Site.may_leave g.S.Site.moment g.S.Site.images_since c.args.desk.now c.claim.new.desk c.args.held.now c.claim.new.held c.in-Some.seat.now c.claim.new.self c.claim.result c.claim.ensures.keeps) k
    ∙ ap (seats_under k) are

pub returns-clause-newest : goal.returns-clause-newest
returns-clause-newest g c = search rules

pub returns-clause-guests : goal.returns-clause-guests
returns-clause-guests g c = search rules

pub returns-clause-failed : goal.returns-clause-failed
returns-clause-failed g c = search rules

pub returns-clause-lost : goal.returns-clause-lost
returns-clause-lost g c = search rules

pub returns-clause-due : goal.returns-clause-due
returns-clause-due g c limit tells =
    let are : c.company.inside.seats.items ≡ c.args.company.now.seats = search rules in
    let there : slice_get c.args.company.now.seats c.args.at ≡ Some c.in-Some.seat.now =
    ap (λ (xs : List (SeatState g.row.H-Way.Denot)). slice_get xs c.args.at) (sym are) ∙ got_at c.company.inside.seats.items c.args.at c.in-Some.seat.now c.in-Some.ensures.item.0 c.in-Some.ensures.item.1 in
    let split = split_at c.args.company.now.seats c.args.at c.in-Some.seat.now there in
    dues_at _ _ _ _ c.args.at split.before c.in-Some.seat.now c.claim.new.self split.behind c.claim.result split.place split.are
    (ap (λ (xs : List (SeatState g.row.H-Way.Denot)). slice_set xs c.args.at c.claim.new.self) are ∙ split.set c.claim.new.self) (search rules) (search rules)
    (apart_at c.args.desk.now.plan c.args.desk.now.options c.args.desk.now.moves split.before c.in-Some.seat.now split.behind c.args.company.now.seats split.are c.requires.manned.manned.placed) (c.claim.ensures.fares limit tells)

pub returns-in_default-clause-due : goal.returns-in_default-clause-due
returns-in_default-clause-due g c limit tells = at_none _ _ c.args.at _ (sym c.company.view_is)

pub returns-then-not-is_going-clause-due : goal.returns-then-not-is_going-clause-due
returns-then-not-is_going-clause-due g c limit tells = at_none _ _ c.args.at _ refl

pub returns-clause-calm : goal.returns-clause-calm
returns-clause-calm g c asked tells =
    let are : c.company.inside.seats.items ≡ c.args.company.now.seats = search rules in
    let there : slice_get c.args.company.now.seats c.args.at ≡ Some c.in-Some.seat.now =
    ap (λ (xs : List (SeatState g.row.H-Way.Denot)). slice_get xs c.args.at) (sym are) ∙ got_at c.company.inside.seats.items c.args.at c.in-Some.seat.now c.in-Some.ensures.item.0 c.in-Some.ensures.item.1 in
    let split = split_at c.args.company.now.seats c.args.at c.in-Some.seat.now there in
    calm_at_seat g.F.Commands.gives g.F.Commands.may_fail g.H.Way.Link.history g.H.Way.Link.idle_count (IsSureOf g.H.Way.Link.sure g.H.Way.Link.offers asked) c.args.company.now.seats (slice_set c.company.inside.seats.items c.args.at c.claim.new.self) split.before c.in-Some.seat.now c.claim.new.self split.behind c.claim.result split.are
    (ap (λ (xs : List (SeatState g.row.H-Way.Denot)). slice_set xs c.args.at c.claim.new.self) are ∙ split.set c.claim.new.self) (c.claim.ensures.fares 0 tells) (c.claim.ensures.calm asked tells)

pub returns-in_default-clause-calm : goal.returns-in_default-clause-calm
returns-in_default-clause-calm g c asked tells = (let are : c.company.inside.seats.items ≡ c.args.company.now.seats = search rules in calm_no_seat g.F.Commands.gives g.F.Commands.may_fail g.H.Way.Link.history g.H.Way.Link.idle_count (IsSureOf g.H.Way.Link.sure g.H.Way.Link.offers asked) c.args.company.now.seats c.company.inside.seats.items are)

pub returns-then-not-is_going-clause-calm : goal.returns-then-not-is_going-clause-calm
returns-then-not-is_going-clause-calm g c asked tells = calm_no_seat g.F.Commands.gives g.F.Commands.may_fail g.H.Way.Link.history g.H.Way.Link.idle_count (IsSureOf g.H.Way.Link.sure g.H.Way.Link.offers asked) c.args.company.now.seats c.args.company.now.seats refl

pub returns-then-is_barred_at-clause-due : goal.returns-then-is_barred_at-clause-due
returns-then-is_barred_at-clause-due g c limit tells = at_none _ _ c.args.at _ refl

pub returns-then-is_barred_at-clause-calm : goal.returns-then-is_barred_at-clause-calm
returns-then-is_barred_at-clause-calm g c asked tells = calm_no_seat g.F.Commands.gives g.F.Commands.may_fail g.H.Way.Link.history g.H.Way.Link.idle_count (IsSureOf g.H.Way.Link.sure g.H.Way.Link.offers asked) c.args.company.now.seats c.args.company.now.seats refl
