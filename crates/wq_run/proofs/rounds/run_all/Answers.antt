use Rattle.std.proofs.Common.{◌≡◌, ◌≤◌, ◌<◌, ◌∙◌, Option, None, Some, Ok, length, arith, ap, rules, subst, sym, true, false, true≢false}
use Rattle.std.specs.Prelude.{is_some, sum_by}
use Rattle.run_history.specs.declared.answers.Stop.{Stop}
use Rattle.run_history.specs.declared.answers.Stop.TheVariants as stops
use Rattle.run_history.specs.Admissions.{is_in_vain_by, stop_by}
use Rattle.run_history.specs.Answers.{has_ended}
use Rattle.run_history.specs.Links.{records_of}
use Rattle.run_history.specs.Storage.{running_rules}
use Rattle.desk.specs.State.{DeskState, IsFine}
use Rattle.worker_pool.specs.Crews.{AllSure}
use Rattle.wq_run.specs.declared.rounds.Turn.{Turn}
use Rattle.wq_run.specs.declared.rounds.Turn.TheVariants as turns
use Rattle.wq_run.specs.Seats.{AreSeats}
use Rattle.wq_run.specs.Works.{IsLast, IsOn, Rounds}
use Rattle.wq_run.proofs.Services.{met_none, met_then}
use Rattle.wq_run.proofs.Working.{Stands, hall_rose, seats_goes, stands_begins, stands_then, stop_waited, unstopped, works_over, works_stopped, works_vain}
use Rattle.wq_run.proofs.Trusts.{of_then}
use Rattle.local_run.specs.declared.halt.Halt.{Halt}
use Rattle.wq_run.specs.Dues.{IsIllLink}
use Rattle.wq_run.specs.Keeping.{KeepsOn}
use Rattle.wq_run.proofs.Duties.{due_none, due_spared, due_then, waiting_rests}
use Rattle.wq_run.proofs.Vain.{never_waits, ok_waits}
use Rattle.wq_run.specs.Vain.{IsAlone}
use Rattle.wq_run.specs.Calm.{IsComing, IsSureOf, IsSureCompany, IsUnmet, KeepsCalm}
use Rattle.wq_run.proofs.Calmly.{calm_none, calm_then, calm_well, company_moved, waiting_well}
use Rattle.wq_run.proofs.Heards.{ok_step, ok_with}
use Rattle.wq_run.proofs.rounds.run_all.Goals as goal

pub loop-init : goal.loop-init
loop-init g c = record {
  some = c.requires.some;
  stands = stands_begins g.A.Admission.admitted g.T.Terms.trust g.F.Commands.gives g.F.Commands.may_fail g.T.Terms.sources g.S.Site.tells g.T.Terms.kept g.S.Site.files g.S.Site.may_leave g.S.Site.moment g.S.Site.images_since c.args.desk.now (sum_by g.R.Runner.count c.args.runners.now) (sum_by g.R.Runner.failures c.args.runners.now) c.requires.on c.requires.idle c.requires.valid (λ told image. (g.met.S.Site g.world.𝓛 g.world.𝓜 g.world.𝓡 ((λ s x. x), (λ x. x), (λ x. x), λ x. x)).only_now told c.args.desk.now.site image);
  sure = λ is. is;
  told = c.requires.told;
  listens = c.requires.listens;
  seats = c.requires.seats;
  none = c.requires.none;
  met = met_none;
  due = λ tells. due_none _ _;
  calm = λ asked tells is. calm_none;
  stays = λ P stands. stands;
}

pub go_round-requires-clause-valid : goal.go_round-requires-clause-valid
go_round-requires-clause-valid g c κs within = c.loop.invariant.stands.valid

pub go_round-requires-clause-stands : goal.go_round-requires-clause-stands
go_round-requires-clause-stands g c κs within = subst (g.A.Admission.stands_for c.loop.admission) (sym c.loop.invariant.stands.goes.plan) (c.loop.invariant.stays c.args.desk.now.plan c.requires.stands)

pub go_round-requires-clause-of : goal.go_round-requires-clause-of
go_round-requires-clause-of g c κs within = of_then g.T.Terms.trust g.F.Commands.gives g.F.Commands.may_fail g.T.Terms.sources g.S.Site.tells g.T.Terms.kept (Unit {0}) g.S.Site.files g.S.Site.may_leave g.S.Site.moment g.S.Site.images_since g.T.Trust.holds g.T.Trust.plan g.T.Trust.options g.T.Trust.run g.T.Trust.due c.loop.invariant.stands.links c.args.desk.now c.loop.desk c.loop.invariant.stands.goes c.requires.of

pub go_round-requires-clause-on : goal.go_round-requires-clause-on
go_round-requires-clause-on g c κs within = c.loop.invariant.stands.on

pub go_round-requires-clause-idle : goal.go_round-requires-clause-idle
go_round-requires-clause-idle g c κs within = c.loop.invariant.stands.idle

pub returns-in-Ok-Over : goal.returns-in-Ok-Over
returns-in-Ok-Over g c = record {
  works = λ k less failed. works_over g.A.Admission.admitted g.T.Terms.trust g.F.Commands.gives g.F.Commands.may_fail g.T.Terms.sources g.S.Site.tells g.T.Terms.kept g.S.Site.files g.S.Site.may_leave g.S.Site.moment g.S.Site.images_since (AllSure g.R.Runner.sure c.loop.runners) (AllSure g.R.Runner.sure c.args.runners.now) c.args.limit c.args.desk.now c.loop.desk c.go_round.new.desk (sum_by g.R.Runner.count c.args.runners.now) (sum_by g.R.Runner.count c.loop.runners) (sum_by g.R.Runner.count c.go_round.new.runners) (sum_by g.R.Runner.failures c.args.runners.now) (sum_by g.R.Runner.failures c.loop.runners) (sum_by g.R.Runner.failures c.go_round.new.runners) k (g.H.Hall.count c.go_round.new.hall) (g.H.Hall.idle_count c.args.hall.now) (g.H.Hall.idle_count c.loop.hall) (g.H.Hall.idle_count c.go_round.new.hall) c.in-Ok-Over.check c.loop.invariant.sure c.loop.invariant.stands c.loop.invariant.met.idles_later
      (subst (λ (t : Turn). Rounds g.A.Admission.admitted g.T.Terms.trust g.F.Commands.gives g.F.Commands.may_fail g.T.Terms.sources g.S.Site.tells g.T.Terms.kept (AllSure g.R.Runner.sure c.loop.runners) g.S.Site.files g.S.Site.may_leave g.S.Site.moment g.S.Site.images_since c.args.limit c.loop.desk c.go_round.new.desk (sum_by g.R.Runner.count c.loop.runners) (sum_by g.R.Runner.count c.go_round.new.runners) (sum_by g.R.Runner.failures c.loop.runners) (sum_by g.R.Runner.failures c.go_round.new.runners) k (g.H.Hall.count c.go_round.new.hall) (g.H.Hall.idle_count c.loop.hall) (g.H.Hall.idle_count c.go_round.new.hall) (Ok t)) c.in-Ok-Over.field-0-is (c.in-Ok-Over.ensures.rounds k (let later = c.loop.invariant.met.later in omega (arith, less, later)) (hall_rose k (g.H.Hall.count c.args.hall.now) (g.H.Hall.count c.loop.hall) c.args.company.now.failed c.loop.company.failed less failed c.loop.invariant.met.fails c.loop.invariant.met.later)));
  seats = c.go_round.ensures.seats;
  none = c.go_round.ensures.none;
  listens = c.go_round.ensures.listens;
  met = met_then c.loop.invariant.met c.go_round.ensures.met;
  due = λ tells. due_then _ _ (c.loop.invariant.due tells) (c.in-Ok-Over.ensures.due tells);
  sound = c.in-Ok-Over.ensures.sound (subst IsLast (sym c.in-Ok-Over.field-0-is) tt);
  alone = never_waits c.in-Ok-Over.check _ (subst (IsAlone c.go_round.new.company.guests) c.in-Ok-Over.field-0-is c.in-Ok-Over.ensures.alone);
  calm = λ asked tells is. calm_then (c.loop.invariant.calm asked tells is) (c.in-Ok-Over.ensures.calm asked tells (c.loop.invariant.sure is));
  stays = λ P stands. c.go_round.ensures.stays P (c.loop.invariant.stays P stands);
}

pub returns-in-Err : goal.returns-in-Err
returns-in-Err g c = record {
  works = λ k less failed. works_stopped g.A.Admission.admitted g.T.Terms.trust g.F.Commands.gives g.F.Commands.may_fail g.T.Terms.sources g.S.Site.tells g.T.Terms.kept g.S.Site.files g.S.Site.may_leave g.S.Site.moment g.S.Site.images_since (AllSure g.R.Runner.sure c.loop.runners) (AllSure g.R.Runner.sure c.args.runners.now) c.args.limit c.args.desk.now c.loop.desk c.go_round.new.desk (sum_by g.R.Runner.count c.args.runners.now) (sum_by g.R.Runner.count c.loop.runners) (sum_by g.R.Runner.count c.go_round.new.runners) (sum_by g.R.Runner.failures c.args.runners.now) (sum_by g.R.Runner.failures c.loop.runners) (sum_by g.R.Runner.failures c.go_round.new.runners) k (g.H.Hall.count c.go_round.new.hall) (g.H.Hall.idle_count c.args.hall.now) (g.H.Hall.idle_count c.loop.hall) (g.H.Hall.idle_count c.go_round.new.hall) c.in-Err.why c.loop.invariant.sure c.loop.invariant.stands c.loop.invariant.met.idles_later
      (c.in-Err.ensures.rounds k (let later = c.loop.invariant.met.later in omega (arith, less, later)) (hall_rose k (g.H.Hall.count c.args.hall.now) (g.H.Hall.count c.loop.hall) c.args.company.now.failed c.loop.company.failed less failed c.loop.invariant.met.fails c.loop.invariant.met.later));
  seats = c.go_round.ensures.seats;
  none = c.go_round.ensures.none;
  listens = c.go_round.ensures.listens;
  met = met_then c.loop.invariant.met c.go_round.ensures.met;
  due = λ tells. tt;
  sound = tt;
  alone = tt;
  calm = λ asked tells is. tt;
  stays = λ P stands. c.go_round.ensures.stays P (c.loop.invariant.stays P stands);
}

pub loop-preserved : goal.loop-preserved
loop-preserved g c =
    let r = (let less : (g.H.Hall.count c.args.hall.now) ≤ (g.H.Hall.count c.args.hall.now) = omega arith in let failed : c.args.company.now.failed ≡ true → (g.H.Hall.count c.args.hall.now) < (g.H.Hall.count c.args.hall.now) = λ is. absurd (true≢false (sym is ∙ c.requires.going)) in subst (λ (t : Turn). Rounds g.A.Admission.admitted g.T.Terms.trust g.F.Commands.gives g.F.Commands.may_fail g.T.Terms.sources g.S.Site.tells g.T.Terms.kept (AllSure g.R.Runner.sure c.loop.runners) g.S.Site.files g.S.Site.may_leave g.S.Site.moment g.S.Site.images_since c.args.limit c.loop.desk c.go_round.new.desk (sum_by g.R.Runner.count c.loop.runners) (sum_by g.R.Runner.count c.go_round.new.runners) (sum_by g.R.Runner.failures c.loop.runners) (sum_by g.R.Runner.failures c.go_round.new.runners) (g.H.Hall.count c.args.hall.now) (g.H.Hall.count c.go_round.new.hall) (g.H.Hall.idle_count c.loop.hall) (g.H.Hall.idle_count c.go_round.new.hall) (Ok t)) c.in-Ok-Again.field-0-is
    (c.in-Ok-Again.ensures.rounds (g.H.Hall.count c.args.hall.now) (let later = c.loop.invariant.met.later in omega (arith, less, later)) (hall_rose (g.H.Hall.count c.args.hall.now) (g.H.Hall.count c.args.hall.now) (g.H.Hall.count c.loop.hall) c.args.company.now.failed c.loop.company.failed less failed c.loop.invariant.met.fails c.loop.invariant.met.later))) in
    record {
      some = search rules;
      stands = stands_then g.A.Admission.admitted g.T.Terms.trust g.F.Commands.gives g.F.Commands.may_fail g.T.Terms.sources g.S.Site.tells g.T.Terms.kept g.S.Site.files g.S.Site.may_leave g.S.Site.moment g.S.Site.images_since (AllSure g.R.Runner.sure c.loop.runners) c.args.limit c.args.desk.now c.loop.desk c.go_round.new.desk (sum_by g.R.Runner.count c.args.runners.now) (sum_by g.R.Runner.count c.loop.runners) (sum_by g.R.Runner.count c.go_round.new.runners) (sum_by g.R.Runner.failures c.args.runners.now) (sum_by g.R.Runner.failures c.loop.runners) (sum_by g.R.Runner.failures c.go_round.new.runners) (g.H.Hall.count c.args.hall.now) (g.H.Hall.count c.go_round.new.hall) (g.H.Hall.idle_count c.loop.hall) (g.H.Hall.idle_count c.go_round.new.hall) (Ok turns.Again) c.loop.invariant.stands r r.turn;
      sure = λ is. c.go_round.ensures.sure (c.loop.invariant.sure is);
      told = λ trusted r row is may. c.go_round.ensures.tells _ (c.loop.invariant.told trusted r row is may);
      listens = c.go_round.ensures.listens;
      seats = c.go_round.ensures.seats;
      none = c.go_round.ensures.none;
      met = met_then c.loop.invariant.met c.go_round.ensures.met;
      due = λ tells. due_then _ _ (c.loop.invariant.due tells) (c.in-Ok-Again.ensures.due tells);
      calm = λ asked tells is. calm_then (c.loop.invariant.calm asked tells is) (c.in-Ok-Again.ensures.calm asked tells (c.loop.invariant.sure is));
      stays = λ P stands. c.go_round.ensures.stays P (c.loop.invariant.stays P stands);
    }

pub loop-preserved-else-stop_by : goal.loop-preserved-else-stop_by
loop-preserved-else-stop_by g c =
    let r = (let less : (g.H.Hall.count c.args.hall.now) ≤ (g.H.Hall.count c.args.hall.now) = omega arith in let failed : c.args.company.now.failed ≡ true → (g.H.Hall.count c.args.hall.now) < (g.H.Hall.count c.args.hall.now) = λ is. absurd (true≢false (sym is ∙ c.requires.going)) in subst (λ (t : Turn). Rounds g.A.Admission.admitted g.T.Terms.trust g.F.Commands.gives g.F.Commands.may_fail g.T.Terms.sources g.S.Site.tells g.T.Terms.kept (AllSure g.R.Runner.sure c.loop.runners) g.S.Site.files g.S.Site.may_leave g.S.Site.moment g.S.Site.images_since c.args.limit c.loop.desk c.go_round.new.desk (sum_by g.R.Runner.count c.loop.runners) (sum_by g.R.Runner.count c.go_round.new.runners) (sum_by g.R.Runner.failures c.loop.runners) (sum_by g.R.Runner.failures c.go_round.new.runners) (g.H.Hall.count c.args.hall.now) (g.H.Hall.count c.go_round.new.hall) (g.H.Hall.idle_count c.loop.hall) (g.H.Hall.idle_count c.go_round.new.hall) (Ok t)) c.in-Ok-Vain.field-0-is
    (c.in-Ok-Vain.ensures.rounds (g.H.Hall.count c.args.hall.now) (let later = c.loop.invariant.met.later in omega (arith, less, later)) (hall_rose (g.H.Hall.count c.args.hall.now) (g.H.Hall.count c.args.hall.now) (g.H.Hall.count c.loop.hall) c.args.company.now.failed c.loop.company.failed less failed c.loop.invariant.met.fails c.loop.invariant.met.later))) in
    let on : IsOn c.go_round.new.desk = r.turn.0 in
    let unset : is_some c.stop_by.new.self.stop ≡ false = search rules in
    let same : c.stop_by.new.self ≡ c.go_round.new.desk = c.stop_by.ensures.stop ∙ unstopped c.go_round.new.desk (stop_by g.A.Admission.admitted c.go_round.new.desk.plan c.go_round.new.desk.options c.go_round.new.desk.moves c.go_round.new.desk.stop (stops.Waited c.in-Ok-Vain.idles)) on.unset
    (ap (λ (x : DeskState g.row.S.Denot). is_some x.stop) (sym c.stop_by.ensures.stop) ∙ unset) in
    record {
      some = search rules;
      stands = subst (λ (x : DeskState g.row.S.Denot). Stands g.A.Admission.admitted g.T.Terms.trust g.F.Commands.gives g.F.Commands.may_fail g.T.Terms.sources g.S.Site.tells g.T.Terms.kept g.S.Site.files g.S.Site.may_leave g.S.Site.moment g.S.Site.images_since c.args.desk.now x (sum_by g.R.Runner.count c.args.runners.now) (sum_by g.R.Runner.count c.go_round.new.runners) (sum_by g.R.Runner.failures c.args.runners.now) (sum_by g.R.Runner.failures c.go_round.new.runners)) (sym same) (stands_then g.A.Admission.admitted g.T.Terms.trust g.F.Commands.gives g.F.Commands.may_fail g.T.Terms.sources g.S.Site.tells g.T.Terms.kept g.S.Site.files g.S.Site.may_leave g.S.Site.moment g.S.Site.images_since (AllSure g.R.Runner.sure c.loop.runners) c.args.limit c.args.desk.now c.loop.desk c.go_round.new.desk (sum_by g.R.Runner.count c.args.runners.now) (sum_by g.R.Runner.count c.loop.runners) (sum_by g.R.Runner.count c.go_round.new.runners) (sum_by g.R.Runner.failures c.args.runners.now) (sum_by g.R.Runner.failures c.loop.runners) (sum_by g.R.Runner.failures c.go_round.new.runners) (g.H.Hall.count c.args.hall.now) (g.H.Hall.count c.go_round.new.hall) (g.H.Hall.idle_count c.loop.hall) (g.H.Hall.idle_count c.go_round.new.hall) (Ok (turns.Vain c.in-Ok-Vain.idles)) c.loop.invariant.stands r on);
      sure = λ is. c.go_round.ensures.sure (c.loop.invariant.sure is);
      told = λ trusted r row is may. c.go_round.ensures.tells _ (c.loop.invariant.told trusted r row is may);
      listens = c.go_round.ensures.listens;
      seats = subst (λ (x : DeskState g.row.S.Denot). AreSeats x.plan x.options x.moves c.go_round.new.company.seats) (sym same) c.go_round.ensures.seats;
      none = c.go_round.ensures.none;
      met = met_then c.loop.invariant.met c.go_round.ensures.met;
      due = λ tells. subst (λ (x : DeskState g.row.S.Denot). let none : Option Halt = None in KeepsOn (IsIllLink g.F.Commands.gives g.F.Commands.may_fail g.H.Way.Link.history g.H.Way.Link.count g.H.Way.Link.idle_count g.H.Way.Link.is_closed c.args.limit) g.H.Way.Link.history c.args.desk.now.moves x.moves none none c.args.company.now c.go_round.new.company (g.H.Hall.got c.args.hall.now) (g.H.Hall.got c.go_round.new.hall)) (sym same) (due_then _ _ (c.loop.invariant.due tells) (c.in-Ok-Vain.ensures.due tells));
      calm = λ asked tells is. subst (λ (x : DeskState g.row.S.Denot). let none : Option Halt = None in KeepsCalm (IsSureCompany g.F.Commands.gives g.F.Commands.may_fail g.H.Way.Link.history g.H.Way.Link.idle_count (IsSureOf g.H.Way.Link.sure g.H.Way.Link.offers asked) (IsComing g.H.Hall.sure g.H.Hall.staffed asked c.args.hall.now) (IsUnmet g.H.Hall.manned g.H.Hall.idle_count asked c.args.hall.now) c.args.desk.now.moves c.args.company.now) (IsSureCompany g.F.Commands.gives g.F.Commands.may_fail g.H.Way.Link.history g.H.Way.Link.idle_count (IsSureOf g.H.Way.Link.sure g.H.Way.Link.offers asked) (IsComing g.H.Hall.sure g.H.Hall.staffed asked c.go_round.new.hall) (IsUnmet g.H.Hall.manned g.H.Hall.idle_count asked c.go_round.new.hall) x.moves c.go_round.new.company) c.args.desk.now.moves x.moves none none c.args.company.now c.go_round.new.company) (sym same) (calm_then (c.loop.invariant.calm asked tells is) (c.in-Ok-Vain.ensures.calm asked tells (c.loop.invariant.sure is)));
      stays = λ P stands. c.stop_by.ensures.stays P (c.go_round.ensures.stays P (c.loop.invariant.stays P stands));
    }

pub stop_by-requires-clause-stands : goal.stop_by-requires-clause-stands
stop_by-requires-clause-stands g c κs within =
    let r = (let less : (g.H.Hall.count c.args.hall.now) ≤ (g.H.Hall.count c.args.hall.now) = omega arith in let failed : c.args.company.now.failed ≡ true → (g.H.Hall.count c.args.hall.now) < (g.H.Hall.count c.args.hall.now) = λ is. absurd (true≢false (sym is ∙ c.requires.going)) in subst (λ (t : Turn). Rounds g.A.Admission.admitted g.T.Terms.trust g.F.Commands.gives g.F.Commands.may_fail g.T.Terms.sources g.S.Site.tells g.T.Terms.kept (AllSure g.R.Runner.sure c.loop.runners) g.S.Site.files g.S.Site.may_leave g.S.Site.moment g.S.Site.images_since c.args.limit c.loop.desk c.go_round.new.desk (sum_by g.R.Runner.count c.loop.runners) (sum_by g.R.Runner.count c.go_round.new.runners) (sum_by g.R.Runner.failures c.loop.runners) (sum_by g.R.Runner.failures c.go_round.new.runners) (g.H.Hall.count c.args.hall.now) (g.H.Hall.count c.go_round.new.hall) (g.H.Hall.idle_count c.loop.hall) (g.H.Hall.idle_count c.go_round.new.hall) (Ok t)) c.in-Ok-Vain.field-0-is
    (c.in-Ok-Vain.ensures.rounds (g.H.Hall.count c.args.hall.now) (let later = c.loop.invariant.met.later in omega (arith, less, later)) (hall_rose (g.H.Hall.count c.args.hall.now) (g.H.Hall.count c.args.hall.now) (g.H.Hall.count c.loop.hall) c.args.company.now.failed c.loop.company.failed less failed c.loop.invariant.met.fails c.loop.invariant.met.later))) in
    subst (g.A.Admission.stands_for c.go_round.new.admission) (sym (r.goes.plan ∙ c.loop.invariant.stands.goes.plan)) (c.go_round.ensures.stays c.args.desk.now.plan (c.loop.invariant.stays c.args.desk.now.plan c.requires.stands))

pub end_waiting-requires-clause-fine : goal.end_waiting-requires-clause-fine
end_waiting-requires-clause-fine g c κs within =
    let r = (let less : (g.H.Hall.count c.args.hall.now) ≤ (g.H.Hall.count c.args.hall.now) = omega arith in let failed : c.args.company.now.failed ≡ true → (g.H.Hall.count c.args.hall.now) < (g.H.Hall.count c.args.hall.now) = λ is. absurd (true≢false (sym is ∙ c.requires.going)) in subst (λ (t : Turn). Rounds g.A.Admission.admitted g.T.Terms.trust g.F.Commands.gives g.F.Commands.may_fail g.T.Terms.sources g.S.Site.tells g.T.Terms.kept (AllSure g.R.Runner.sure c.loop.runners) g.S.Site.files g.S.Site.may_leave g.S.Site.moment g.S.Site.images_since c.args.limit c.loop.desk c.go_round.new.desk (sum_by g.R.Runner.count c.loop.runners) (sum_by g.R.Runner.count c.go_round.new.runners) (sum_by g.R.Runner.failures c.loop.runners) (sum_by g.R.Runner.failures c.go_round.new.runners) (g.H.Hall.count c.args.hall.now) (g.H.Hall.count c.go_round.new.hall) (g.H.Hall.idle_count c.loop.hall) (g.H.Hall.idle_count c.go_round.new.hall) (Ok t)) c.in-Ok-Vain.field-0-is
    (c.in-Ok-Vain.ensures.rounds (g.H.Hall.count c.args.hall.now) (let later = c.loop.invariant.met.later in omega (arith, less, later)) (hall_rose (g.H.Hall.count c.args.hall.now) (g.H.Hall.count c.args.hall.now) (g.H.Hall.count c.loop.hall) c.args.company.now.failed c.loop.company.failed less failed c.loop.invariant.met.fails c.loop.invariant.met.later))) in
    let on : IsOn c.go_round.new.desk = r.turn.0 in
    subst (λ (x : DeskState g.row.S.Denot). IsFine x.trouble) (sym c.stop_by.ensures.stop) on.fine

pub end_waiting-requires-clause-unended : goal.end_waiting-requires-clause-unended
end_waiting-requires-clause-unended g c κs within =
    let r = (let less : (g.H.Hall.count c.args.hall.now) ≤ (g.H.Hall.count c.args.hall.now) = omega arith in let failed : c.args.company.now.failed ≡ true → (g.H.Hall.count c.args.hall.now) < (g.H.Hall.count c.args.hall.now) = λ is. absurd (true≢false (sym is ∙ c.requires.going)) in subst (λ (t : Turn). Rounds g.A.Admission.admitted g.T.Terms.trust g.F.Commands.gives g.F.Commands.may_fail g.T.Terms.sources g.S.Site.tells g.T.Terms.kept (AllSure g.R.Runner.sure c.loop.runners) g.S.Site.files g.S.Site.may_leave g.S.Site.moment g.S.Site.images_since c.args.limit c.loop.desk c.go_round.new.desk (sum_by g.R.Runner.count c.loop.runners) (sum_by g.R.Runner.count c.go_round.new.runners) (sum_by g.R.Runner.failures c.loop.runners) (sum_by g.R.Runner.failures c.go_round.new.runners) (g.H.Hall.count c.args.hall.now) (g.H.Hall.count c.go_round.new.hall) (g.H.Hall.idle_count c.loop.hall) (g.H.Hall.idle_count c.go_round.new.hall) (Ok t)) c.in-Ok-Vain.field-0-is
    (c.in-Ok-Vain.ensures.rounds (g.H.Hall.count c.args.hall.now) (let later = c.loop.invariant.met.later in omega (arith, less, later)) (hall_rose (g.H.Hall.count c.args.hall.now) (g.H.Hall.count c.args.hall.now) (g.H.Hall.count c.loop.hall) c.args.company.now.failed c.loop.company.failed less failed c.loop.invariant.met.fails c.loop.invariant.met.later))) in
    let on : IsOn c.go_round.new.desk = r.turn.0 in
    subst (λ (x : DeskState g.row.S.Denot). has_ended (records_of x.moves) ≡ false) (sym c.stop_by.ensures.stop) on.unended

pub end_waiting-requires-clause-idle : goal.end_waiting-requires-clause-idle
end_waiting-requires-clause-idle g c κs within =
    let r = (let less : (g.H.Hall.count c.args.hall.now) ≤ (g.H.Hall.count c.args.hall.now) = omega arith in let failed : c.args.company.now.failed ≡ true → (g.H.Hall.count c.args.hall.now) < (g.H.Hall.count c.args.hall.now) = λ is. absurd (true≢false (sym is ∙ c.requires.going)) in subst (λ (t : Turn). Rounds g.A.Admission.admitted g.T.Terms.trust g.F.Commands.gives g.F.Commands.may_fail g.T.Terms.sources g.S.Site.tells g.T.Terms.kept (AllSure g.R.Runner.sure c.loop.runners) g.S.Site.files g.S.Site.may_leave g.S.Site.moment g.S.Site.images_since c.args.limit c.loop.desk c.go_round.new.desk (sum_by g.R.Runner.count c.loop.runners) (sum_by g.R.Runner.count c.go_round.new.runners) (sum_by g.R.Runner.failures c.loop.runners) (sum_by g.R.Runner.failures c.go_round.new.runners) (g.H.Hall.count c.args.hall.now) (g.H.Hall.count c.go_round.new.hall) (g.H.Hall.idle_count c.loop.hall) (g.H.Hall.idle_count c.go_round.new.hall) (Ok t)) c.in-Ok-Vain.field-0-is
    (c.in-Ok-Vain.ensures.rounds (g.H.Hall.count c.args.hall.now) (let later = c.loop.invariant.met.later in omega (arith, less, later)) (hall_rose (g.H.Hall.count c.args.hall.now) (g.H.Hall.count c.args.hall.now) (g.H.Hall.count c.loop.hall) c.args.company.now.failed c.loop.company.failed less failed c.loop.invariant.met.fails c.loop.invariant.met.later))) in
    let on : IsOn c.go_round.new.desk = r.turn.0 in
    subst (λ (x : DeskState g.row.S.Denot). length (running_rules x.plan (records_of x.moves)) ≤ 0) (sym c.stop_by.ensures.stop) (r.idle on.fine)

pub end_waiting-requires-clause-vain : goal.end_waiting-requires-clause-vain
end_waiting-requires-clause-vain g c κs within =
    let r = (let less : (g.H.Hall.count c.args.hall.now) ≤ (g.H.Hall.count c.args.hall.now) = omega arith in let failed : c.args.company.now.failed ≡ true → (g.H.Hall.count c.args.hall.now) < (g.H.Hall.count c.args.hall.now) = λ is. absurd (true≢false (sym is ∙ c.requires.going)) in subst (λ (t : Turn). Rounds g.A.Admission.admitted g.T.Terms.trust g.F.Commands.gives g.F.Commands.may_fail g.T.Terms.sources g.S.Site.tells g.T.Terms.kept (AllSure g.R.Runner.sure c.loop.runners) g.S.Site.files g.S.Site.may_leave g.S.Site.moment g.S.Site.images_since c.args.limit c.loop.desk c.go_round.new.desk (sum_by g.R.Runner.count c.loop.runners) (sum_by g.R.Runner.count c.go_round.new.runners) (sum_by g.R.Runner.failures c.loop.runners) (sum_by g.R.Runner.failures c.go_round.new.runners) (g.H.Hall.count c.args.hall.now) (g.H.Hall.count c.go_round.new.hall) (g.H.Hall.idle_count c.loop.hall) (g.H.Hall.idle_count c.go_round.new.hall) (Ok t)) c.in-Ok-Vain.field-0-is
    (c.in-Ok-Vain.ensures.rounds (g.H.Hall.count c.args.hall.now) (let later = c.loop.invariant.met.later in omega (arith, less, later)) (hall_rose (g.H.Hall.count c.args.hall.now) (g.H.Hall.count c.args.hall.now) (g.H.Hall.count c.loop.hall) c.args.company.now.failed c.loop.company.failed less failed c.loop.invariant.met.fails c.loop.invariant.met.later))) in
    let on : IsOn c.go_round.new.desk = r.turn.0 in
    let set : is_some c.stop_by.new.self.stop ≡ true = search rules in
    let w = stop_waited g.A.Admission.admitted c.go_round.new.desk.plan c.go_round.new.desk.options c.go_round.new.desk.moves c.go_round.new.desk.stop c.in-Ok-Vain.idles on.unset (ap (λ (x : DeskState g.row.S.Denot). is_some x.stop) (sym c.stop_by.ensures.stop) ∙ set) in (
      c.in-Ok-Vain.idles,
      ap (λ (x : DeskState g.row.S.Denot). x.stop) c.stop_by.ensures.stop ∙ w.0,
      subst (λ (x : DeskState g.row.S.Denot). is_in_vain_by g.A.Admission.admitted x.plan x.options x.moves ≡ true) (sym c.stop_by.ensures.stop) w.1,
    )

pub returns-then-stop_by : goal.returns-then-stop_by
returns-then-stop_by g c =
    let r = (let less : (g.H.Hall.count c.args.hall.now) ≤ (g.H.Hall.count c.args.hall.now) = omega arith in let failed : c.args.company.now.failed ≡ true → (g.H.Hall.count c.args.hall.now) < (g.H.Hall.count c.args.hall.now) = λ is. absurd (true≢false (sym is ∙ c.requires.going)) in subst (λ (t : Turn). Rounds g.A.Admission.admitted g.T.Terms.trust g.F.Commands.gives g.F.Commands.may_fail g.T.Terms.sources g.S.Site.tells g.T.Terms.kept (AllSure g.R.Runner.sure c.loop.runners) g.S.Site.files g.S.Site.may_leave g.S.Site.moment g.S.Site.images_since c.args.limit c.loop.desk c.go_round.new.desk (sum_by g.R.Runner.count c.loop.runners) (sum_by g.R.Runner.count c.go_round.new.runners) (sum_by g.R.Runner.failures c.loop.runners) (sum_by g.R.Runner.failures c.go_round.new.runners) (g.H.Hall.count c.args.hall.now) (g.H.Hall.count c.go_round.new.hall) (g.H.Hall.idle_count c.loop.hall) (g.H.Hall.idle_count c.go_round.new.hall) (Ok t)) c.in-Ok-Vain.field-0-is
    (c.in-Ok-Vain.ensures.rounds (g.H.Hall.count c.args.hall.now) (let later = c.loop.invariant.met.later in omega (arith, less, later)) (hall_rose (g.H.Hall.count c.args.hall.now) (g.H.Hall.count c.args.hall.now) (g.H.Hall.count c.loop.hall) c.args.company.now.failed c.loop.company.failed less failed c.loop.invariant.met.fails c.loop.invariant.met.later))) in
    let on : IsOn c.go_round.new.desk = r.turn.0 in
    let set : is_some c.stop_by.new.self.stop ≡ true = search rules in
    let w = stop_waited g.A.Admission.admitted c.go_round.new.desk.plan c.go_round.new.desk.options c.go_round.new.desk.moves c.go_round.new.desk.stop c.in-Ok-Vain.idles on.unset (ap (λ (x : DeskState g.row.S.Denot). is_some x.stop) (sym c.stop_by.ensures.stop) ∙ set) in
    let is : c.stop_by.new.self ≡ record c.go_round.new.desk { stop = Some (stops.Waited c.in-Ok-Vain.idles) } = c.stop_by.ensures.stop ∙ ap (λ (k : Option Stop). record c.go_round.new.desk { stop = k }) w.0 in
    let s = stands_then g.A.Admission.admitted g.T.Terms.trust g.F.Commands.gives g.F.Commands.may_fail g.T.Terms.sources g.S.Site.tells g.T.Terms.kept g.S.Site.files g.S.Site.may_leave g.S.Site.moment g.S.Site.images_since (AllSure g.R.Runner.sure c.loop.runners) c.args.limit c.args.desk.now c.loop.desk c.go_round.new.desk (sum_by g.R.Runner.count c.args.runners.now) (sum_by g.R.Runner.count c.loop.runners) (sum_by g.R.Runner.count c.go_round.new.runners) (sum_by g.R.Runner.failures c.args.runners.now) (sum_by g.R.Runner.failures c.loop.runners) (sum_by g.R.Runner.failures c.go_round.new.runners) (g.H.Hall.count c.args.hall.now) (g.H.Hall.count c.go_round.new.hall) (g.H.Hall.idle_count c.loop.hall) (g.H.Hall.idle_count c.go_round.new.hall) (Ok (turns.Vain c.in-Ok-Vain.idles)) c.loop.invariant.stands r on in
    record {
      works = λ k less failed. works_vain g.A.Admission.admitted g.T.Terms.trust g.F.Commands.gives g.F.Commands.may_fail g.T.Terms.sources g.S.Site.tells g.T.Terms.kept g.S.Site.files g.S.Site.may_leave g.S.Site.moment g.S.Site.images_since (AllSure g.R.Runner.sure c.args.runners.now) c.args.limit c.in-Ok-Vain.idles c.args.desk.now c.go_round.new.desk c.stop_by.new.self c.end_waiting.new.desk (sum_by g.R.Runner.count c.args.runners.now) (sum_by g.R.Runner.count c.go_round.new.runners) (sum_by g.R.Runner.failures c.args.runners.now) (sum_by g.R.Runner.failures c.go_round.new.runners) k (g.H.Hall.count c.go_round.new.hall) (g.H.Hall.idle_count c.args.hall.now) (g.H.Hall.idle_count c.loop.hall) (g.H.Hall.idle_count c.go_round.new.hall) c.end_waiting.result s
          (let later = c.loop.invariant.met.later in let more = c.go_round.ensures.met.later in omega (arith, less, later, more)) c.loop.invariant.met.idles_later c.go_round.ensures.met.idles_later r.turn.1 r.turn.2
          (λ told image. (g.met.S.Site g.world.𝓛 g.world.𝓜 g.world.𝓡 ((λ s x. x), (λ x. x), (λ x. x), λ x. x)).only_now told c.go_round.new.desk.site image) w.1 is c.end_waiting.ensures.ended;
      seats = seats_goes g.T.Terms.trust g.F.Commands.gives g.F.Commands.may_fail g.T.Terms.sources g.S.Site.tells g.S.Site.files g.S.Site.may_leave g.S.Site.moment g.S.Site.images_since c.stop_by.new.self c.end_waiting.new.desk c.end_waiting.ensures.ended.goes c.go_round.new.company.seats
          (subst (λ (x : DeskState g.row.S.Denot). AreSeats x.plan x.options x.moves c.go_round.new.company.seats) (sym c.stop_by.ensures.stop) c.go_round.ensures.seats);
      none = c.go_round.ensures.none;
      listens = c.go_round.ensures.listens;
      met = met_then c.loop.invariant.met c.go_round.ensures.met;
      due = λ tells.
          let rounds = subst (λ (x : DeskState g.row.S.Denot). let none : Option Halt = None in KeepsOn (IsIllLink g.F.Commands.gives g.F.Commands.may_fail g.H.Way.Link.history g.H.Way.Link.count g.H.Way.Link.idle_count g.H.Way.Link.is_closed c.args.limit) g.H.Way.Link.history c.args.desk.now.moves x.moves none none c.args.company.now c.go_round.new.company (g.H.Hall.got c.args.hall.now) (g.H.Hall.got c.go_round.new.hall)) (sym c.stop_by.ensures.stop) (due_then _ _ (c.loop.invariant.due tells) (c.in-Ok-Vain.ensures.due tells)) in
          ok_step c.end_waiting.result _ _ (λ both. due_then _ _ rounds (due_spared _ _ (λ none. (none, both.0)) both.1)) (waiting_rests g.S.Site.tells g.T.Terms.kept g.S.Site.files c.stop_by.new.self c.end_waiting.new.desk c.end_waiting.result c.end_waiting.ensures.ended.ends);
      sound = ok_with c.end_waiting.result _ (c.in-Ok-Vain.ensures.sound (subst IsLast (sym c.in-Ok-Vain.field-0-is) tt));
      alone = ok_waits c.end_waiting.result _ (subst (IsAlone c.go_round.new.company.guests) c.in-Ok-Vain.field-0-is c.in-Ok-Vain.ensures.alone);
      calm = λ asked tells sure.
          let rounds = subst (λ (x : DeskState g.row.S.Denot). let none : Option Halt = None in KeepsCalm (IsSureCompany g.F.Commands.gives g.F.Commands.may_fail g.H.Way.Link.history g.H.Way.Link.idle_count (IsSureOf g.H.Way.Link.sure g.H.Way.Link.offers asked) (IsComing g.H.Hall.sure g.H.Hall.staffed asked c.args.hall.now) (IsUnmet g.H.Hall.manned g.H.Hall.idle_count asked c.args.hall.now) c.args.desk.now.moves c.args.company.now) (IsSureCompany g.F.Commands.gives g.F.Commands.may_fail g.H.Way.Link.history g.H.Way.Link.idle_count (IsSureOf g.H.Way.Link.sure g.H.Way.Link.offers asked) (IsComing g.H.Hall.sure g.H.Hall.staffed asked c.go_round.new.hall) (IsUnmet g.H.Hall.manned g.H.Hall.idle_count asked c.go_round.new.hall) x.moves c.go_round.new.company) c.args.desk.now.moves x.moves none none c.args.company.now c.go_round.new.company) (sym c.stop_by.ensures.stop) (calm_then (c.loop.invariant.calm asked tells sure) (c.in-Ok-Vain.ensures.calm asked tells (c.loop.invariant.sure sure))) in
          ok_step c.end_waiting.result _ _ (λ both. calm_then rounds (calm_well both.0 (λ was. company_moved g.F.Commands.gives g.F.Commands.may_fail g.H.Way.Link.history g.H.Way.Link.idle_count (IsSureOf g.H.Way.Link.sure g.H.Way.Link.offers asked) both.1 was))) (waiting_well g.S.Site.tells g.T.Terms.kept g.S.Site.files c.stop_by.new.self c.end_waiting.new.desk c.end_waiting.result c.end_waiting.ensures.ended.ends);
      stays = λ P stands. c.stop_by.ensures.stays P (c.go_round.ensures.stays P (c.loop.invariant.stays P stands));
    }
