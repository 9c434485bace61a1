use Rattle.std.proofs.Common.{◌∙◌, ap, rules, subst, sym}
use Rattle.flow_types.specs.Plans.{IsValid}
use Rattle.local_run.specs.Underway.{IsSurePool}
use Rattle.wq_run.specs.Seats.{gathered}
use Rattle.wq_run.specs.Calm.{IsSureOf}
use Rattle.wq_run.proofs.Services.{finished_by, manned_want, met_none, wanting_halts}
use Rattle.wq_run.proofs.Fares.{halted_never}
use Rattle.wq_run.proofs.Duties.{due_halted, due_settled, due_then}
use Rattle.wq_run.proofs.Calmly.{calm_never, calm_settled, company_moved, due_unstopped}
use Rattle.wq_run.proofs.finishing.finish.Goals as goal

pub settle-requires-clause-underway : goal.settle-requires-clause-underway
settle-requires-clause-underway g c κs within = (c.requires.manned.manned.away, c.requires.manned.first, c.requires.manned.waiting, c.requires.manned.heard, c.requires.manned.manned.under)

pub returns-then-is_idle-clause-ended : goal.returns-then-is_idle-clause-ended
returns-then-is_idle-clause-ended g c first waiting heard m =
    finished_by g.T.Terms.trust g.F.Commands.gives g.F.Commands.may_fail g.T.Terms.sources g.S.Site.tells g.T.Terms.kept (IsSurePool g.B.Terms.fits) g.S.Site.files g.S.Site.may_leave g.S.Site.moment g.S.Site.images_since first c.args.desk.now c.settle.new.desk c.args.held waiting heard c.args.company.now.seats c.settle.result m (c.is_idle.ensures (search rules)) (c.settle.ensures.underway m.away first waiting heard m.under)

pub returns-then-is_idle-clause-met : goal.returns-then-is_idle-clause-met
returns-then-is_idle-clause-met g c = met_none

pub dismiss-requires-clause-manned : goal.dismiss-requires-clause-manned
dismiss-requires-clause-manned g c κs within =
    let is = c.requires.manned in
    record { first = is.first; waiting = is.waiting; heard = is.heard; manned = manned_want g.T.Terms.trust g.F.Commands.gives g.F.Commands.may_fail g.T.Terms.sources g.S.Site.tells g.T.Terms.kept (IsSurePool g.B.Terms.fits) g.S.Site.files g.S.Site.may_leave g.S.Site.moment g.S.Site.images_since is.first c.args.desk.now c.args.held c.stop_wanting.new.held is.waiting is.heard c.args.company.now.seats c.stop_wanting.ensures.wants c.stop_wanting.ensures.stays is.manned }

pub settle-requires-2-clause-valid : goal.settle-requires-2-clause-valid
settle-requires-2-clause-valid g c κs within =
    let m = c.requires.manned.manned in
    let n = c.dismiss.ensures.manned c.requires.manned.first c.requires.manned.waiting c.requires.manned.heard (manned_want g.T.Terms.trust g.F.Commands.gives g.F.Commands.may_fail g.T.Terms.sources g.S.Site.tells g.T.Terms.kept (IsSurePool g.B.Terms.fits) g.S.Site.files g.S.Site.may_leave g.S.Site.moment g.S.Site.images_since c.requires.manned.first c.args.desk.now c.args.held c.stop_wanting.new.held c.requires.manned.waiting c.requires.manned.heard c.args.company.now.seats c.stop_wanting.ensures.wants c.stop_wanting.ensures.stays m) in
    subst IsValid (sym (n.under.goes.plan ∙ sym m.under.goes.plan)) c.requires.valid

pub settle-requires-2-clause-stands : goal.settle-requires-2-clause-stands
settle-requires-2-clause-stands g c κs within =
    let m = c.requires.manned.manned in
    let n = c.dismiss.ensures.manned c.requires.manned.first c.requires.manned.waiting c.requires.manned.heard (manned_want g.T.Terms.trust g.F.Commands.gives g.F.Commands.may_fail g.T.Terms.sources g.S.Site.tells g.T.Terms.kept (IsSurePool g.B.Terms.fits) g.S.Site.files g.S.Site.may_leave g.S.Site.moment g.S.Site.images_since c.requires.manned.first c.args.desk.now c.args.held c.stop_wanting.new.held c.requires.manned.waiting c.requires.manned.heard c.args.company.now.seats c.stop_wanting.ensures.wants c.stop_wanting.ensures.stays m) in
    subst (g.A.Admission.stands_for c.args.admission.now) (sym (n.under.goes.plan ∙ sym m.under.goes.plan)) (c.requires.stands)

pub settle-requires-2-clause-underway : goal.settle-requires-2-clause-underway
settle-requires-2-clause-underway g c κs within =
    let m = c.requires.manned.manned in
    let n = c.dismiss.ensures.manned c.requires.manned.first c.requires.manned.waiting c.requires.manned.heard (manned_want g.T.Terms.trust g.F.Commands.gives g.F.Commands.may_fail g.T.Terms.sources g.S.Site.tells g.T.Terms.kept (IsSurePool g.B.Terms.fits) g.S.Site.files g.S.Site.may_leave g.S.Site.moment g.S.Site.images_since c.requires.manned.first c.args.desk.now c.args.held c.stop_wanting.new.held c.requires.manned.waiting c.requires.manned.heard c.args.company.now.seats c.stop_wanting.ensures.wants c.stop_wanting.ensures.stays m) in
    (n.away, c.requires.manned.first, c.requires.manned.waiting, c.requires.manned.heard, n.under)

pub returns-clause-ended : goal.returns-clause-ended
returns-clause-ended g c first waiting heard m =
    let n = c.dismiss.ensures.manned first waiting heard (manned_want g.T.Terms.trust g.F.Commands.gives g.F.Commands.may_fail g.T.Terms.sources g.S.Site.tells g.T.Terms.kept (IsSurePool g.B.Terms.fits) g.S.Site.files g.S.Site.may_leave g.S.Site.moment g.S.Site.images_since first c.args.desk.now c.args.held c.stop_wanting.new.held waiting heard c.args.company.now.seats c.stop_wanting.ensures.wants c.stop_wanting.ensures.stays m) in
    finished_by g.T.Terms.trust g.F.Commands.gives g.F.Commands.may_fail g.T.Terms.sources g.S.Site.tells g.T.Terms.kept (IsSurePool g.B.Terms.fits) g.S.Site.files g.S.Site.may_leave g.S.Site.moment g.S.Site.images_since first c.dismiss.new.desk c.settle-2.new.desk c.dismiss.new.held waiting heard c.dismiss.new.company.seats c.settle-2.result n (ap gathered c.dismiss.ensures.seats) (c.settle-2.ensures.underway n.away first waiting heard n.under)

pub returns-then-is_idle-clause-due : goal.returns-then-is_idle-clause-due
returns-then-is_idle-clause-due g c limit tells = due_settled _ _ c.args.desk.now c.settle.new.desk c.args.held.halt c.settle.result c.settle.ensures.rests

pub returns-clause-due : goal.returns-clause-due
returns-clause-due g c limit tells =
    let h = wanting_halts c.args.held c.stop_wanting.new.held c.stop_wanting.ensures.wants c.stop_wanting.ensures.stays in
    due_then _ _ (due_halted _ _ {c_now = c.args.company.now} h.0 h.1) (due_then _ _ (c.dismiss.ensures.due limit tells (λ none fine kept. halted_never h.0 c.stop_wanting.new.held.halt h.1 none))
    (due_settled _ _ c.dismiss.new.desk c.settle-2.new.desk c.dismiss.new.held.halt c.settle-2.result c.settle-2.ensures.rests))

pub returns-then-is_idle-clause-calm : goal.returns-then-is_idle-clause-calm
returns-then-is_idle-clause-calm g c asked tells = calm_settled c.args.desk.now c.settle.new.desk c.args.held.halt c.settle.result c.settle.ensures.rests (λ same was. company_moved g.F.Commands.gives g.F.Commands.may_fail g.H.Way.Link.history g.H.Way.Link.idle_count (IsSureOf g.H.Way.Link.sure g.H.Way.Link.offers asked) same was)

pub returns-clause-calm : goal.returns-clause-calm
returns-clause-calm g c asked tells =
    let h = wanting_halts c.args.held c.stop_wanting.new.held c.stop_wanting.ensures.wants c.stop_wanting.ensures.stays in
    calm_never (λ now. halted_never h.0 c.stop_wanting.new.held.halt h.1 (due_unstopped _ _ (due_then _ _ (c.dismiss.ensures.due 0 tells (λ none fine kept. halted_never h.0 c.stop_wanting.new.held.halt h.1 none))
    (due_settled _ _ c.dismiss.new.desk c.settle-2.new.desk c.dismiss.new.held.halt c.settle-2.result c.settle-2.ensures.rests)).due now).0)
