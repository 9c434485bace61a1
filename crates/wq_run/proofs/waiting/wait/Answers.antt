use Rattle.std.proofs.Common.{Option, [], arith, refl, subst, sym, ◌+◌, ◌∙◌, ◌≤◌}
use Rattle.flow_types.specs.Plans.{IsValid}
use Rattle.worker_pool.specs.Tallies.{none}
use Rattle.local_run.specs.Underway.{IsSurePool}
use Rattle.wq_run.proofs.Services.{begins_manned, came_finished, met_then}
use Rattle.local_run.specs.declared.halt.Halt.{Halt}
use Rattle.wq_run.specs.Dues.{IsIllLink}
use Rattle.wq_run.specs.Keeping.{KeepsOn}
use Rattle.wq_run.proofs.Duties.{due_then}
use Rattle.wq_run.specs.Calm.{IsComing, IsSureOf, IsSureCompany, IsUnmet, KeepsCalm}
use Rattle.wq_run.proofs.Calmly.{calm_then}
use Rattle.wq_run.proofs.waiting.wait.Goals as goal

pub look-requires-clause-manned : goal.look-requires-clause-manned
look-requires-clause-manned g c κs within =
    record { first = c.args.desk.now; waiting = []; heard = none; manned = begins_manned g.T.Terms.trust g.F.Commands.gives g.F.Commands.may_fail g.T.Terms.sources g.S.Site.tells g.T.Terms.kept (IsSurePool g.B.Terms.fits) g.S.Site.files g.S.Site.may_leave g.S.Site.moment g.S.Site.images_since c.args.desk.now c.new-held.result [] none c.args.company.now.seats c.new-held.ensures.attempts refl refl c.new-held.ensures.halt (λ told image. (g.met.S.Site g.world.𝓛 g.world.𝓜 g.world.𝓡 ((λ s x. x), (λ x. x), (λ x. x), λ x. x)).only_now told c.args.desk.now.site image) c.requires.fine c.requires.idle c.requires.seats c.requires.none }

pub finish-requires-clause-valid : goal.finish-requires-clause-valid
finish-requires-clause-valid g c κs within =
    let m = begins_manned g.T.Terms.trust g.F.Commands.gives g.F.Commands.may_fail g.T.Terms.sources g.S.Site.tells g.T.Terms.kept (IsSurePool g.B.Terms.fits) g.S.Site.files g.S.Site.may_leave g.S.Site.moment g.S.Site.images_since c.args.desk.now c.new-held.result [] none c.args.company.now.seats c.new-held.ensures.attempts refl refl c.new-held.ensures.halt (λ told image. (g.met.S.Site g.world.𝓛 g.world.𝓜 g.world.𝓡 ((λ s x. x), (λ x. x), (λ x. x), λ x. x)).only_now told c.args.desk.now.site image) c.requires.fine c.requires.idle c.requires.seats c.requires.none in
    let n = c.look.ensures.manned c.args.desk.now [] none m in
    subst IsValid (sym (n.under.goes.plan ∙ sym m.under.goes.plan)) c.requires.valid

pub finish-requires-clause-stands : goal.finish-requires-clause-stands
finish-requires-clause-stands g c κs within =
    let m = begins_manned g.T.Terms.trust g.F.Commands.gives g.F.Commands.may_fail g.T.Terms.sources g.S.Site.tells g.T.Terms.kept (IsSurePool g.B.Terms.fits) g.S.Site.files g.S.Site.may_leave g.S.Site.moment g.S.Site.images_since c.args.desk.now c.new-held.result [] none c.args.company.now.seats c.new-held.ensures.attempts refl refl c.new-held.ensures.halt (λ told image. (g.met.S.Site g.world.𝓛 g.world.𝓜 g.world.𝓡 ((λ s x. x), (λ x. x), (λ x. x), λ x. x)).only_now told c.args.desk.now.site image) c.requires.fine c.requires.idle c.requires.seats c.requires.none in
    let n = c.look.ensures.manned c.args.desk.now [] none m in
    subst (g.A.Admission.stands_for c.args.admission.now) (sym (n.under.goes.plan ∙ sym m.under.goes.plan)) (c.requires.stands)

pub finish-requires-clause-manned : goal.finish-requires-clause-manned
finish-requires-clause-manned g c κs within =
    let m = begins_manned g.T.Terms.trust g.F.Commands.gives g.F.Commands.may_fail g.T.Terms.sources g.S.Site.tells g.T.Terms.kept (IsSurePool g.B.Terms.fits) g.S.Site.files g.S.Site.may_leave g.S.Site.moment g.S.Site.images_since c.args.desk.now c.new-held.result [] none c.args.company.now.seats c.new-held.ensures.attempts refl refl c.new-held.ensures.halt (λ told image. (g.met.S.Site g.world.𝓛 g.world.𝓜 g.world.𝓡 ((λ s x. x), (λ x. x), (λ x. x), λ x. x)).only_now told c.args.desk.now.site image) c.requires.fine c.requires.idle c.requires.seats c.requires.none in
    let n = c.look.ensures.manned c.args.desk.now [] none m in
    record { first = c.args.desk.now; waiting = []; heard = none; manned = n }

pub returns : goal.returns
returns g c =
    let m = begins_manned g.T.Terms.trust g.F.Commands.gives g.F.Commands.may_fail g.T.Terms.sources g.S.Site.tells g.T.Terms.kept (IsSurePool g.B.Terms.fits) g.S.Site.files g.S.Site.may_leave g.S.Site.moment g.S.Site.images_since c.args.desk.now c.new-held.result [] none c.args.company.now.seats c.new-held.ensures.attempts refl refl c.new-held.ensures.halt (λ told image. (g.met.S.Site g.world.𝓛 g.world.𝓜 g.world.𝓡 ((λ s x. x), (λ x. x), (λ x. x), λ x. x)).only_now told c.args.desk.now.site image) c.requires.fine c.requires.idle c.requires.seats c.requires.none in
    let n = c.look.ensures.manned c.args.desk.now [] none m in
    let f = c.finish.ensures.ended c.args.desk.now [] none n in
    record {
      came = λ k l. came_finished g.T.Terms.trust g.F.Commands.gives g.F.Commands.may_fail g.T.Terms.sources g.S.Site.tells g.T.Terms.kept (IsSurePool g.B.Terms.fits) g.S.Site.files g.S.Site.may_leave g.S.Site.moment g.S.Site.images_since c.args.desk.now c.finish.new.desk none c.finish.new.company.seats k k l l c.finish.result f (let same : 0 + k ≤ k = omega arith in same) (omega arith);
      seats = f.placed;
      none = f.empty;
      listens = c.finish.ensures.listens c.look.ensures.listens;
      met = met_then c.look.ensures.met c.finish.ensures.met;
      due = λ tells. due_then _ _ (subst (λ (h : Option Halt). KeepsOn (IsIllLink g.F.Commands.gives g.F.Commands.may_fail g.H.Way.Link.history g.H.Way.Link.count g.H.Way.Link.idle_count g.H.Way.Link.is_closed c.args.limit) g.H.Way.Link.history c.args.desk.now.moves c.look.new.desk.moves h c.look.new.held.halt c.args.company.now c.look.new.company (g.H.Hall.got c.args.hall.now) (g.H.Hall.got c.look.new.hall)) c.new-held.ensures.halt (c.look.ensures.due tells)) (c.finish.ensures.due c.args.limit tells);
      calm = λ asked tells. calm_then (subst (λ (h : Option Halt). KeepsCalm (IsSureCompany g.F.Commands.gives g.F.Commands.may_fail g.H.Way.Link.history g.H.Way.Link.idle_count (IsSureOf g.H.Way.Link.sure g.H.Way.Link.offers asked) (IsComing g.H.Hall.sure g.H.Hall.staffed asked c.args.hall.now) (IsUnmet g.H.Hall.manned g.H.Hall.idle_count asked c.args.hall.now) c.args.desk.now.moves c.args.company.now) (IsSureCompany g.F.Commands.gives g.F.Commands.may_fail g.H.Way.Link.history g.H.Way.Link.idle_count (IsSureOf g.H.Way.Link.sure g.H.Way.Link.offers asked) (IsComing g.H.Hall.sure g.H.Hall.staffed asked c.look.new.hall) (IsUnmet g.H.Hall.manned g.H.Hall.idle_count asked c.look.new.hall) c.look.new.desk.moves c.look.new.company) c.args.desk.now.moves c.look.new.desk.moves h c.look.new.held.halt c.args.company.now c.look.new.company) c.new-held.ensures.halt (c.look.ensures.calm asked tells)) (c.finish.ensures.calm asked tells);
      stays = c.finish.ensures.stays;
    }
