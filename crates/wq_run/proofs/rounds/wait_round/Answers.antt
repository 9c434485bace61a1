use Rattle.std.proofs.Common.{Ok, Err, arith, rules}
use Rattle.local_run.specs.Underway.{IsSurePool}
use Rattle.wq_run.specs.declared.rounds.Turn.TheVariants as turns
use Rattle.wq_run.proofs.Services.{on_less}
use Rattle.wq_run.proofs.Working.{is_on, round_by, round_halted}
use Rattle.wq_run.proofs.rounds.wait_round.Goals as goal

pub returns-in-Err : goal.returns-in-Err
returns-in-Err g c = record {
  rounds = λ k l. round_halted g.A.Admission.admitted g.T.Terms.trust g.F.Commands.gives g.F.Commands.may_fail g.T.Terms.sources g.S.Site.tells g.T.Terms.kept g.S.Site.files g.S.Site.may_leave g.S.Site.moment g.S.Site.images_since (Unit {0}) c.args.limit c.args.desk.now c.wait.new.desk k k l l (g.H.Hall.count c.args.hall.now) (g.H.Hall.count c.wait.new.hall) (g.H.Hall.idle_count c.args.hall.now) (g.H.Hall.idle_count c.wait.new.hall) c.in-Err.halt
      (on_less g.T.Terms.trust g.F.Commands.gives g.F.Commands.may_fail g.T.Terms.sources g.S.Site.tells g.T.Terms.kept (IsSurePool (λ job outcome. ⊥)) g.S.Site.files g.S.Site.may_leave g.S.Site.moment g.S.Site.images_since (Unit {0}) c.args.desk.now c.wait.new.desk k k l l (Err c.in-Err.halt) (λ is job outcome none. absurd none) (c.in-Err.ensures.came k l)) c.requires.on c.wait.ensures.met.later c.wait.ensures.met.idles_later;
  seats = c.wait.ensures.seats;
  none = c.wait.ensures.none;
  listens = c.wait.ensures.listens;
  met = c.wait.ensures.met;
  due = λ tells. tt;
  sound = tt;
  alone = tt;
  calm = λ asked tells. tt;
  stays = c.wait.ensures.stays;
}

pub returns-then-idles-from-clause-rounds : goal.returns-then-idles-from-clause-rounds
returns-then-idles-from-clause-rounds g c k l =
    let came = (on_less g.T.Terms.trust g.F.Commands.gives g.F.Commands.may_fail g.T.Terms.sources g.S.Site.tells g.T.Terms.kept (IsSurePool (λ job outcome. ⊥)) g.S.Site.files g.S.Site.may_leave g.S.Site.moment g.S.Site.images_since (Unit {0}) c.args.desk.now c.wait.new.desk k k l l (Ok tt) (λ is job outcome none. absurd none) (c.in-Ok.ensures.came k l)) in
    let on = is_on g.A.Admission.admitted g.T.Terms.trust g.F.Commands.gives g.F.Commands.may_fail g.T.Terms.sources g.S.Site.tells g.T.Terms.kept g.S.Site.files g.S.Site.may_leave g.S.Site.moment g.S.Site.images_since (Unit {0}) c.args.desk.now c.wait.new.desk k k l l came c.requires.on in
    let many = c.if-idles-from.true in
    let same = c.from.ensures in
    let now = c.idles.ensures in
    let before = c.idles-before.ensures in
    round_by g.A.Admission.admitted g.T.Terms.trust g.F.Commands.gives g.F.Commands.may_fail g.T.Terms.sources g.S.Site.tells g.T.Terms.kept g.S.Site.files g.S.Site.may_leave g.S.Site.moment g.S.Site.images_since (Unit {0}) c.args.limit c.args.desk.now c.wait.new.desk k k l l (g.H.Hall.count c.args.hall.now) (g.H.Hall.count c.wait.new.hall) (g.H.Hall.idle_count c.args.hall.now) (g.H.Hall.idle_count c.wait.new.hall) (Ok tt) _ came c.requires.on c.wait.ensures.met.later c.wait.ensures.met.idles_later (on, omega (arith, many, same), omega (arith, now, before)) (λ adds. adds)

pub returns : goal.returns
returns g c = record {
  rounds = λ k l.
      let came = (on_less g.T.Terms.trust g.F.Commands.gives g.F.Commands.may_fail g.T.Terms.sources g.S.Site.tells g.T.Terms.kept (IsSurePool (λ job outcome. ⊥)) g.S.Site.files g.S.Site.may_leave g.S.Site.moment g.S.Site.images_since (Unit {0}) c.args.desk.now c.wait.new.desk k k l l (Ok tt) (λ is job outcome none. absurd none) (c.in-Ok.ensures.came k l)) in
      let on = is_on g.A.Admission.admitted g.T.Terms.trust g.F.Commands.gives g.F.Commands.may_fail g.T.Terms.sources g.S.Site.tells g.T.Terms.kept g.S.Site.files g.S.Site.may_leave g.S.Site.moment g.S.Site.images_since (Unit {0}) c.args.desk.now c.wait.new.desk k k l l came c.requires.on in
      round_by g.A.Admission.admitted g.T.Terms.trust g.F.Commands.gives g.F.Commands.may_fail g.T.Terms.sources g.S.Site.tells g.T.Terms.kept g.S.Site.files g.S.Site.may_leave g.S.Site.moment g.S.Site.images_since (Unit {0}) c.args.limit c.args.desk.now c.wait.new.desk k k l l (g.H.Hall.count c.args.hall.now) (g.H.Hall.count c.wait.new.hall) (g.H.Hall.idle_count c.args.hall.now) (g.H.Hall.idle_count c.wait.new.hall) (Ok tt) (Ok turns.Again) came c.requires.on c.wait.ensures.met.later c.wait.ensures.met.idles_later on (λ adds. adds);
  seats = c.wait.ensures.seats;
  none = c.wait.ensures.none;
  listens = c.wait.ensures.listens;
  met = c.wait.ensures.met;
  due = c.in-Ok.ensures.due;
  sound = λ last. absurd last;
  alone = tt;
  calm = c.in-Ok.ensures.calm;
  stays = c.wait.ensures.stays;
}

pub returns-then-idles-from-clause-due : goal.returns-then-idles-from-clause-due
returns-then-idles-from-clause-due g c tells = c.in-Ok.ensures.due tells

pub returns-then-idles-from-clause-sound : goal.returns-then-idles-from-clause-sound
returns-then-idles-from-clause-sound g c last = c.is_going.ensures.fine (search rules)

pub returns-then-idles-from-clause-alone : goal.returns-then-idles-from-clause-alone
returns-then-idles-from-clause-alone g c = c.has_guests.ensures (search rules)

pub returns-then-idles-from-clause-calm : goal.returns-then-idles-from-clause-calm
returns-then-idles-from-clause-calm g c asked tells = c.in-Ok.ensures.calm asked tells
