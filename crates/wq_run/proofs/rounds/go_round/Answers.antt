use Rattle.std.proofs.Common.{◌≤◌, ◌∙◌, None, Option, Ok, Err, length, arith, rules, subst, sym}
use Rattle.std.specs.Prelude.{sum_by}
use Rattle.worker_pool.specs.Crews.{AllSure}
use Rattle.local_run.specs.declared.ended.Stopped.TheVariants as stopped
use Rattle.local_run.specs.declared.halt.Halt.{Halt}
use Rattle.local_run.specs.declared.halt.Halt.TheVariants as halts
use Rattle.desk.specs.State.{DeskState}
use Rattle.flow_types.specs.Plans.{IsValid}
use Rattle.run_history.specs.Answers.{before_end}
use Rattle.run_history.specs.Links.{records_of}
use Rattle.run_history.specs.Storage.{running_rules}
use Rattle.wq_run.specs.Seats.{AreSeats}
use Rattle.run_history.specs.declared.answers.Check.{Check}
use Rattle.wq_run.specs.Works.{EndsNow, IsOn}
use Rattle.wq_run.specs.Trusted.{IsOf}
use Rattle.wq_run.proofs.Added.{run_failed, run_halted}
use Rattle.wq_run.proofs.Earned.{joins_still}
use Rattle.wq_run.proofs.Ending.{memory_halt, none_same}
use Rattle.wq_run.proofs.Services.{met_then}
use Rattle.wq_run.proofs.Working.{hall_rose, is_on, round_by, round_halted, round_over, round_unended, round_waits, seats_goes}
use Rattle.wq_run.proofs.Trusts.{of_then}
use Rattle.wq_run.proofs.Duly.{ends_spare}
use Rattle.wq_run.proofs.Duties.{due_spared, due_then, ends_unlinked}
use Rattle.wq_run.proofs.Vain.{unwaited}
use Rattle.wq_run.proofs.Heards.{ok_step}
use Rattle.wq_run.specs.Dues.{IsIllLink}
use Rattle.wq_run.specs.Keeping.{KeepsOn}
use Rattle.wq_run.specs.Calm.{IsComing, IsSureOf, IsSureCompany, IsUnmet, KeepsCalm}
use Rattle.wq_run.proofs.Calmly.{calm_then, calm_well, company_moved}
use Rattle.wq_run.proofs.rounds.go_round.Goals as goal

pub returns-in-Err : goal.returns-in-Err
returns-in-Err g c = record {
  rounds = λ k less failed. round_halted g.A.Admission.admitted g.T.Terms.trust g.F.Commands.gives g.F.Commands.may_fail g.T.Terms.sources g.S.Site.tells g.T.Terms.kept g.S.Site.files g.S.Site.may_leave g.S.Site.moment g.S.Site.images_since (AllSure g.R.Runner.sure c.args.runners.now) c.args.limit c.args.desk.now c.serve_all.new.desk (sum_by g.R.Runner.count c.args.runners.now) (sum_by g.R.Runner.count c.serve_all.new.runners) (sum_by g.R.Runner.failures c.args.runners.now) (sum_by g.R.Runner.failures c.serve_all.new.runners) k (g.H.Hall.count c.serve_all.new.hall) (g.H.Hall.idle_count c.args.hall.now) (g.H.Hall.idle_count c.serve_all.new.hall) c.in-Err.halt c.in-Err.ensures.came c.requires.on (let later = c.serve_all.ensures.met.later in omega (arith, less, later)) c.serve_all.ensures.met.idles_later;
  seats = c.serve_all.ensures.seats;
  none = c.serve_all.ensures.none;
  met = c.serve_all.ensures.met;
  listens = c.serve_all.ensures.listens;
  sure = c.serve_all.ensures.sure;
  tells = c.serve_all.ensures.tells;
  due = λ tells. tt;
  sound = tt;
  alone = tt;
  calm = λ asked tells is. tt;
  stays = c.serve_all.ensures.stays;
}

pub returns-then-has_lost : goal.returns-then-has_lost
returns-then-has_lost g c = record {
  rounds = λ k less failed. round_by g.A.Admission.admitted g.T.Terms.trust g.F.Commands.gives g.F.Commands.may_fail g.T.Terms.sources g.S.Site.tells g.T.Terms.kept g.S.Site.files g.S.Site.may_leave g.S.Site.moment g.S.Site.images_since (AllSure g.R.Runner.sure c.args.runners.now) c.args.limit c.args.desk.now c.serve_all.new.desk (sum_by g.R.Runner.count c.args.runners.now) (sum_by g.R.Runner.count c.serve_all.new.runners) (sum_by g.R.Runner.failures c.args.runners.now) (sum_by g.R.Runner.failures c.serve_all.new.runners) k (g.H.Hall.count c.serve_all.new.hall) (g.H.Hall.idle_count c.args.hall.now) (g.H.Hall.idle_count c.serve_all.new.hall) (Ok tt) (Err (stopped.Halted halts.Memory)) c.in-Ok.ensures.came c.requires.on (let later = c.serve_all.ensures.met.later in omega (arith, less, later)) c.serve_all.ensures.met.idles_later
      (memory_halt g.S.Site.tells g.T.Terms.kept (AllSure g.R.Runner.sure c.args.runners.now) g.S.Site.files c.serve_all.new.desk (sum_by g.R.Runner.count c.args.runners.now) (sum_by g.R.Runner.count c.serve_all.new.runners)) (run_halted (records_of c.args.desk.now.moves) (records_of c.serve_all.new.desk.moves) halts.Memory);
  seats = c.serve_all.ensures.seats;
  none = c.serve_all.ensures.none;
  met = c.serve_all.ensures.met;
  listens = c.serve_all.ensures.listens;
  sure = c.serve_all.ensures.sure;
  tells = c.serve_all.ensures.tells;
  due = λ tells. tt;
  sound = tt;
  alone = tt;
  calm = λ asked tells is. tt;
  stays = c.serve_all.ensures.stays;
}

pub returns-then-has_failed : goal.returns-then-has_failed
returns-then-has_failed g c = record {
  rounds = λ k less failed. round_by g.A.Admission.admitted g.T.Terms.trust g.F.Commands.gives g.F.Commands.may_fail g.T.Terms.sources g.S.Site.tells g.T.Terms.kept g.S.Site.files g.S.Site.may_leave g.S.Site.moment g.S.Site.images_since (AllSure g.R.Runner.sure c.args.runners.now) c.args.limit c.args.desk.now c.serve_all.new.desk (sum_by g.R.Runner.count c.args.runners.now) (sum_by g.R.Runner.count c.serve_all.new.runners) (sum_by g.R.Runner.failures c.args.runners.now) (sum_by g.R.Runner.failures c.serve_all.new.runners) k (g.H.Hall.count c.serve_all.new.hall) (g.H.Hall.idle_count c.args.hall.now) (g.H.Hall.idle_count c.serve_all.new.hall) (Ok tt) (Err stopped.Hall) c.in-Ok.ensures.came c.requires.on (let later = c.serve_all.ensures.met.later in omega (arith, less, later)) c.serve_all.ensures.met.idles_later
      (c.in-Ok.ensures.came.closed.0, hall_rose k (g.H.Hall.count c.args.hall.now) (g.H.Hall.count c.serve_all.new.hall) c.args.company.now.failed c.serve_all.new.company.failed less failed c.serve_all.ensures.met.fails c.serve_all.ensures.met.later (search rules)) (run_failed (records_of c.args.desk.now.moves) (records_of c.serve_all.new.desk.moves));
  seats = c.serve_all.ensures.seats;
  none = c.serve_all.ensures.none;
  met = c.serve_all.ensures.met;
  listens = c.serve_all.ensures.listens;
  sure = c.serve_all.ensures.sure;
  tells = c.serve_all.ensures.tells;
  due = λ tells. tt;
  sound = tt;
  alone = tt;
  calm = λ asked tells is. tt;
  stays = c.serve_all.ensures.stays;
}

pub end-requires-clause-fine : goal.end-requires-clause-fine
end-requires-clause-fine g c κs within = c.in-Ok.ensures.came.closed.0

pub end-requires-clause-unended : goal.end-requires-clause-unended
end-requires-clause-unended g c κs within = c.in-Ok.ensures.came.unended c.requires.on.unended

pub end-requires-clause-idle : goal.end-requires-clause-idle
end-requires-clause-idle g c κs within = c.in-Ok.ensures.came.idle c.in-Ok.ensures.came.closed.0

pub returns-in-Ok-Some : goal.returns-in-Ok-Some
returns-in-Ok-Some g c = record {
  rounds = λ k less failed. round_over g.A.Admission.admitted g.T.Terms.trust g.F.Commands.gives g.F.Commands.may_fail g.T.Terms.sources g.S.Site.tells g.T.Terms.kept g.S.Site.files g.S.Site.may_leave g.S.Site.moment g.S.Site.images_since (AllSure g.R.Runner.sure c.args.runners.now) c.args.limit c.args.desk.now c.serve_all.new.desk c.end.new.desk (sum_by g.R.Runner.count c.args.runners.now) (sum_by g.R.Runner.count c.serve_all.new.runners) (sum_by g.R.Runner.failures c.args.runners.now) (sum_by g.R.Runner.failures c.serve_all.new.runners) k (g.H.Hall.count c.serve_all.new.hall) (g.H.Hall.idle_count c.args.hall.now) (g.H.Hall.idle_count c.serve_all.new.hall) c.in-Ok-Some.check c.in-Ok.ensures.came c.requires.on (let later = c.serve_all.ensures.met.later in omega (arith, less, later)) c.serve_all.ensures.met.idles_later (subst (λ (o : Option Check). EndsNow g.T.Terms.trust g.F.Commands.gives g.F.Commands.may_fail g.T.Terms.sources g.S.Site.tells g.T.Terms.kept g.S.Site.files g.S.Site.may_leave g.S.Site.moment g.S.Site.images_since c.serve_all.new.desk c.end.new.desk (Ok o)) c.in-Ok-Some.field-0-is c.in-Ok-Some.ensures.ended);
  seats = seats_goes g.T.Terms.trust g.F.Commands.gives g.F.Commands.may_fail g.T.Terms.sources g.S.Site.tells g.S.Site.files g.S.Site.may_leave g.S.Site.moment g.S.Site.images_since c.serve_all.new.desk c.end.new.desk c.end.ensures.ended.goes c.serve_all.new.company.seats c.serve_all.ensures.seats;
  none = c.serve_all.ensures.none;
  met = c.serve_all.ensures.met;
  listens = c.serve_all.ensures.listens;
  sure = c.serve_all.ensures.sure;
  tells = c.serve_all.ensures.tells;
  due = λ tells.
      let ended = subst (λ (o : Option Check). EndsNow g.T.Terms.trust g.F.Commands.gives g.F.Commands.may_fail g.T.Terms.sources g.S.Site.tells g.T.Terms.kept g.S.Site.files g.S.Site.may_leave g.S.Site.moment g.S.Site.images_since c.serve_all.new.desk c.end.new.desk (Ok o)) c.in-Ok-Some.field-0-is c.in-Ok-Some.ensures.ended in
      due_then _ _ (c.in-Ok.ensures.due tells) (due_spared _ _ (λ none. (none, ends_spare c.serve_all.new.desk.moves c.end.new.desk c.serve_all.new.desk.stop c.in-Ok-Some.check ended.ends.2))
      (ends_unlinked c.serve_all.new.desk.moves c.end.new.desk c.serve_all.new.desk.stop c.in-Ok-Some.check ended.ends.2));
  sound = λ last. (search rules, search rules);
  alone = (
      let ended = subst (λ (o : Option Check). EndsNow g.T.Terms.trust g.F.Commands.gives g.F.Commands.may_fail g.T.Terms.sources g.S.Site.tells g.T.Terms.kept g.S.Site.files g.S.Site.may_leave g.S.Site.moment g.S.Site.images_since c.serve_all.new.desk c.end.new.desk (Ok o)) c.in-Ok-Some.field-0-is c.in-Ok-Some.ensures.ended in
      unwaited c.end.new.desk.plan c.end.new.desk.options (before_end (records_of c.end.new.desk.moves)) c.serve_all.new.desk.stop c.in-Ok-Some.check (c.in-Ok.ensures.came.closed.1 ∙ c.requires.on.unset) ended.ends.2.answer
      );
  calm = λ asked tells is. (let ended = subst (λ (o : Option Check). EndsNow g.T.Terms.trust g.F.Commands.gives g.F.Commands.may_fail g.T.Terms.sources g.S.Site.tells g.T.Terms.kept g.S.Site.files g.S.Site.may_leave g.S.Site.moment g.S.Site.images_since c.serve_all.new.desk c.end.new.desk (Ok o)) c.in-Ok-Some.field-0-is c.in-Ok-Some.ensures.ended in calm_then (c.in-Ok.ensures.calm asked tells is) (calm_well ended.ends.2.well (λ was. company_moved g.F.Commands.gives g.F.Commands.may_fail g.H.Way.Link.history g.H.Way.Link.idle_count (IsSureOf g.H.Way.Link.sure g.H.Way.Link.offers asked) (joins_still c.serve_all.new.desk.moves c.end.new.desk.moves (ends_unlinked c.serve_all.new.desk.moves c.end.new.desk c.serve_all.new.desk.stop c.in-Ok-Some.check ended.ends.2)) was)));
  stays = c.serve_all.ensures.stays;
}

pub returns-in-Err-end : goal.returns-in-Err-end
returns-in-Err-end g c = record {
  rounds = λ k less failed. round_unended g.A.Admission.admitted g.T.Terms.trust g.F.Commands.gives g.F.Commands.may_fail g.T.Terms.sources g.S.Site.tells g.T.Terms.kept g.S.Site.files g.S.Site.may_leave g.S.Site.moment g.S.Site.images_since (AllSure g.R.Runner.sure c.args.runners.now) c.args.limit c.args.desk.now c.serve_all.new.desk c.end.new.desk (sum_by g.R.Runner.count c.args.runners.now) (sum_by g.R.Runner.count c.serve_all.new.runners) (sum_by g.R.Runner.failures c.args.runners.now) (sum_by g.R.Runner.failures c.serve_all.new.runners) k (g.H.Hall.count c.serve_all.new.hall) (g.H.Hall.idle_count c.args.hall.now) (g.H.Hall.idle_count c.serve_all.new.hall) (Ok tt) c.in-Err-end.why c.in-Ok.ensures.came c.requires.on (let later = c.serve_all.ensures.met.later in omega (arith, less, later)) c.serve_all.ensures.met.idles_later c.in-Err-end.ensures.ended;
  seats = seats_goes g.T.Terms.trust g.F.Commands.gives g.F.Commands.may_fail g.T.Terms.sources g.S.Site.tells g.S.Site.files g.S.Site.may_leave g.S.Site.moment g.S.Site.images_since c.serve_all.new.desk c.end.new.desk c.end.ensures.ended.goes c.serve_all.new.company.seats c.serve_all.ensures.seats;
  none = c.serve_all.ensures.none;
  met = c.serve_all.ensures.met;
  listens = c.serve_all.ensures.listens;
  sure = c.serve_all.ensures.sure;
  tells = c.serve_all.ensures.tells;
  due = λ tells. tt;
  sound = tt;
  alone = tt;
  calm = λ asked tells is. tt;
  stays = c.serve_all.ensures.stays;
}

pub wait_round-requires-clause-valid : goal.wait_round-requires-clause-valid
wait_round-requires-clause-valid g c κs within = subst (λ (x : DeskState g.row.S.Denot). IsValid x.plan) (sym (none_same g.S.Site.tells g.T.Terms.kept g.S.Site.files c.serve_all.new.desk c.end.new.desk c.in-Ok-None.field-0 c.in-Ok-None.field-0-is c.in-Ok-None.ensures.ended.ends)) (subst IsValid (sym c.in-Ok.ensures.came.goes.plan) c.requires.valid)

pub wait_round-requires-clause-stands : goal.wait_round-requires-clause-stands
wait_round-requires-clause-stands g c κs within = subst (λ (x : DeskState g.row.S.Denot). g.A.Admission.stands_for c.serve_all.new.admission x.plan) (sym (none_same g.S.Site.tells g.T.Terms.kept g.S.Site.files c.serve_all.new.desk c.end.new.desk c.in-Ok-None.field-0 c.in-Ok-None.field-0-is c.in-Ok-None.ensures.ended.ends)) (subst (g.A.Admission.stands_for c.serve_all.new.admission) (sym c.in-Ok.ensures.came.goes.plan) (c.serve_all.ensures.stays c.args.desk.now.plan c.requires.stands))

pub wait_round-requires-clause-of : goal.wait_round-requires-clause-of
wait_round-requires-clause-of g c κs within =
    subst (λ (x : DeskState g.row.S.Denot). IsOf g.T.Terms.trust g.F.Commands.gives g.T.Terms.sources g.S.Site.tells g.T.Terms.kept g.T.Trust.holds g.T.Trust.plan g.T.Trust.options g.T.Trust.run g.T.Trust.due x.plan x.options (records_of x.moves)) (sym (none_same g.S.Site.tells g.T.Terms.kept g.S.Site.files c.serve_all.new.desk c.end.new.desk c.in-Ok-None.field-0 c.in-Ok-None.field-0-is c.in-Ok-None.ensures.ended.ends))
    (of_then g.T.Terms.trust g.F.Commands.gives g.F.Commands.may_fail g.T.Terms.sources g.S.Site.tells g.T.Terms.kept (Unit {0}) g.S.Site.files g.S.Site.may_leave g.S.Site.moment g.S.Site.images_since g.T.Trust.holds g.T.Trust.plan g.T.Trust.options g.T.Trust.run g.T.Trust.due c.in-Ok.ensures.came.links c.args.desk.now c.serve_all.new.desk c.in-Ok.ensures.came.goes c.requires.of)

pub wait_round-requires-clause-on : goal.wait_round-requires-clause-on
wait_round-requires-clause-on g c κs within = subst (λ (x : DeskState g.row.S.Denot). IsOn x) (sym (none_same g.S.Site.tells g.T.Terms.kept g.S.Site.files c.serve_all.new.desk c.end.new.desk c.in-Ok-None.field-0 c.in-Ok-None.field-0-is c.in-Ok-None.ensures.ended.ends)) (is_on g.A.Admission.admitted g.T.Terms.trust g.F.Commands.gives g.F.Commands.may_fail g.T.Terms.sources g.S.Site.tells g.T.Terms.kept g.S.Site.files g.S.Site.may_leave g.S.Site.moment g.S.Site.images_since (AllSure g.R.Runner.sure c.args.runners.now) c.args.desk.now c.serve_all.new.desk (sum_by g.R.Runner.count c.args.runners.now) (sum_by g.R.Runner.count c.serve_all.new.runners) (sum_by g.R.Runner.failures c.args.runners.now) (sum_by g.R.Runner.failures c.serve_all.new.runners) c.in-Ok.ensures.came c.requires.on)

pub wait_round-requires-clause-idle : goal.wait_round-requires-clause-idle
wait_round-requires-clause-idle g c κs within = subst (λ (x : DeskState g.row.S.Denot). length (running_rules x.plan (records_of x.moves)) ≤ 0) (sym (none_same g.S.Site.tells g.T.Terms.kept g.S.Site.files c.serve_all.new.desk c.end.new.desk c.in-Ok-None.field-0 c.in-Ok-None.field-0-is c.in-Ok-None.ensures.ended.ends)) (c.in-Ok.ensures.came.idle c.in-Ok.ensures.came.closed.0)

pub wait_round-requires-clause-seats : goal.wait_round-requires-clause-seats
wait_round-requires-clause-seats g c κs within = subst (λ (x : DeskState g.row.S.Denot). AreSeats x.plan x.options x.moves c.serve_all.new.company.seats) (sym (none_same g.S.Site.tells g.T.Terms.kept g.S.Site.files c.serve_all.new.desk c.end.new.desk c.in-Ok-None.field-0 c.in-Ok-None.field-0-is c.in-Ok-None.ensures.ended.ends)) c.serve_all.ensures.seats

pub returns : goal.returns
returns g c = record {
  rounds = λ k less failed. round_waits g.A.Admission.admitted g.T.Terms.trust g.F.Commands.gives g.F.Commands.may_fail g.T.Terms.sources g.S.Site.tells g.T.Terms.kept g.S.Site.files g.S.Site.may_leave g.S.Site.moment g.S.Site.images_since (AllSure g.R.Runner.sure c.args.runners.now) c.args.limit c.args.desk.now c.serve_all.new.desk c.end.new.desk c.wait_round.new.desk (sum_by g.R.Runner.count c.args.runners.now) (sum_by g.R.Runner.count c.serve_all.new.runners) (sum_by g.R.Runner.failures c.args.runners.now) (sum_by g.R.Runner.failures c.serve_all.new.runners) k (g.H.Hall.count c.serve_all.new.hall) (g.H.Hall.count c.wait_round.new.hall) (g.H.Hall.idle_count c.args.hall.now) (g.H.Hall.idle_count c.serve_all.new.hall) (g.H.Hall.idle_count c.wait_round.new.hall) (Ok tt) c.wait_round.result
      c.in-Ok.ensures.came c.requires.on (none_same g.S.Site.tells g.T.Terms.kept g.S.Site.files c.serve_all.new.desk c.end.new.desk c.in-Ok-None.field-0 c.in-Ok-None.field-0-is c.in-Ok-None.ensures.ended.ends) (let later = c.serve_all.ensures.met.later in omega (arith, less, later)) c.serve_all.ensures.met.idles_later (c.wait_round.ensures.rounds (sum_by g.R.Runner.count c.serve_all.new.runners) (sum_by g.R.Runner.failures c.serve_all.new.runners));
  seats = c.wait_round.ensures.seats;
  none = c.wait_round.ensures.none;
  met = met_then c.serve_all.ensures.met c.wait_round.ensures.met;
  listens = c.wait_round.ensures.listens;
  sure = c.serve_all.ensures.sure;
  tells = c.serve_all.ensures.tells;
  due = λ tells.
      let same = none_same g.S.Site.tells g.T.Terms.kept g.S.Site.files c.serve_all.new.desk c.end.new.desk c.in-Ok-None.field-0 c.in-Ok-None.field-0-is c.in-Ok-None.ensures.ended.ends in
      ok_step c.wait_round.result _ _ (λ two. due_then _ _ (subst (λ (d : DeskState g.row.S.Denot). let none : Option Halt = None in KeepsOn (IsIllLink g.F.Commands.gives g.F.Commands.may_fail g.H.Way.Link.history g.H.Way.Link.count g.H.Way.Link.idle_count g.H.Way.Link.is_closed c.args.limit) g.H.Way.Link.history c.args.desk.now.moves d.moves none none c.args.company.now c.serve_all.new.company (g.H.Hall.got c.args.hall.now) (g.H.Hall.got c.serve_all.new.hall)) (sym same) (c.in-Ok.ensures.due tells)) two) (c.wait_round.ensures.due tells);
  sound = c.wait_round.ensures.sound;
  alone = c.wait_round.ensures.alone;
  calm = λ asked tells is.
      let same = none_same g.S.Site.tells g.T.Terms.kept g.S.Site.files c.serve_all.new.desk c.end.new.desk c.in-Ok-None.field-0 c.in-Ok-None.field-0-is c.in-Ok-None.ensures.ended.ends in
      ok_step c.wait_round.result _ _ (λ two. calm_then (subst (λ (d : DeskState g.row.S.Denot). let none : Option Halt = None in KeepsCalm (IsSureCompany g.F.Commands.gives g.F.Commands.may_fail g.H.Way.Link.history g.H.Way.Link.idle_count (IsSureOf g.H.Way.Link.sure g.H.Way.Link.offers asked) (IsComing g.H.Hall.sure g.H.Hall.staffed asked c.args.hall.now) (IsUnmet g.H.Hall.manned g.H.Hall.idle_count asked c.args.hall.now) c.args.desk.now.moves c.args.company.now) (IsSureCompany g.F.Commands.gives g.F.Commands.may_fail g.H.Way.Link.history g.H.Way.Link.idle_count (IsSureOf g.H.Way.Link.sure g.H.Way.Link.offers asked) (IsComing g.H.Hall.sure g.H.Hall.staffed asked c.serve_all.new.hall) (IsUnmet g.H.Hall.manned g.H.Hall.idle_count asked c.serve_all.new.hall) d.moves c.serve_all.new.company) c.args.desk.now.moves d.moves none none c.args.company.now c.serve_all.new.company) (sym same) (c.in-Ok.ensures.calm asked tells is)) two) (c.wait_round.ensures.calm asked tells);
  stays = λ P stands. c.wait_round.ensures.stays P (c.serve_all.ensures.stays P stands);
}
