use Rattle.std.proofs.Common.{None, Some, ◌≡◌, ap, arith, refl, subst, sym}
use Rattle.flow_types.specs.declared.job.Outcome.{Outcome}
use Rattle.outside.specs.Jobs.{IsSuccess}
use Rattle.worker_pool.specs.Tallies.{plus, tally_of}
use Rattle.local_run.specs.Losses.{done_as, failed_as}
use Rattle.local_run.specs.Underway.{IsSurePool, Underway, halt_after}
use Rattle.local_run.proofs.HeldClosed.{failure_due, failure_is, heard_more, outputs_are, outputs_due, unrun_stops}
use Rattle.local_run.proofs.Sparing.{ends_spare}
use Rattle.local_run.proofs.hearing.close.Goals as goal

pub finish-requires-clause-outputs : goal.finish-requires-clause-outputs
finish-requires-clause-outputs g c κs within =
    outputs_are c.args.desk.now.plan g.F.Commands.gives g.F.Commands.may_fail g.T.Terms.sources g.T.Terms.trust c.args.attempt.rule.0 c.args.outcome c.requires.outcome c.in-Success.outs c.in-Success.is c.requires.valid c.requires.runs.rule

pub finish-requires-clause-honest : goal.finish-requires-clause-honest
finish-requires-clause-honest g c κs within =
    outputs_due c.args.desk.now.plan g.F.Commands.gives g.F.Commands.may_fail g.T.Terms.sources g.T.Terms.trust c.args.attempt.rule.0 c.args.outcome c.requires.outcome c.in-Success.outs c.in-Success.is

pub fail-requires-clause-index : goal.fail-requires-clause-index
fail-requires-clause-index g c κs within =
    failure_is c.args.desk.now.plan g.F.Commands.gives g.F.Commands.may_fail g.T.Terms.sources g.T.Terms.trust c.args.attempt.rule.0 c.args.outcome c.requires.outcome c.in-Failed.why c.in-Failed.is c.requires.runs.rule

pub fail-requires-clause-honest : goal.fail-requires-clause-honest
fail-requires-clause-honest g c κs within =
    failure_due c.args.desk.now.plan g.F.Commands.gives g.F.Commands.may_fail g.T.Terms.sources g.T.Terms.trust c.args.attempt.rule.0 c.args.outcome c.requires.outcome c.in-Failed.why c.in-Failed.is

pub returns-in-Success : goal.returns-in-Success
returns-in-Success g c = record {
  underway = λ away first held waiting heard halt success u.
      let later = plus heard (tally_of c.args.outcome) in
      let none : (tally_of c.args.outcome).failed ≡ 0 = ap (λ (o : Outcome). (tally_of o).failed) c.in-Success.is in
      c.finish.ensures.underway away first held waiting later halt
      (heard_more g.T.Terms.trust g.F.Commands.gives g.F.Commands.may_fail g.T.Terms.sources g.S.Site.tells g.T.Terms.kept (IsSurePool g.B.Terms.fits) g.S.Site.files g.S.Site.may_leave g.S.Site.moment g.S.Site.images_since away first c.args.desk.now held waiting (Some c.args.attempt) heard later halt (omega arith) (omega (arith, none)) u);
  spares = λ here. ends_spare c.args.desk.now.moves c.args.attempt (done_as c.args.attempt c.in-Success.outs) c.finish.new.desk.moves (λ moment. refl) (λ moment H is. is) here c.finish.result c.finish.ensures.ends;
  stays = λ P stands. stands;
}

pub returns-in-Failed : goal.returns-in-Failed
returns-in-Failed g c = record {
  underway = λ away first held waiting heard halt success u.
      subst (λ (o : Outcome). Underway g.T.Terms.trust g.F.Commands.gives g.F.Commands.may_fail g.T.Terms.sources g.S.Site.tells g.T.Terms.kept (IsSurePool g.B.Terms.fits) g.S.Site.files g.S.Site.may_leave g.S.Site.moment g.S.Site.images_since away first c.fail.new.desk held waiting None (plus heard (tally_of o)) (halt_after c.fail.result halt)) (sym c.in-Failed.is)
      (c.fail.ensures.underway away first held waiting heard halt (λ is. subst IsSuccess c.in-Failed.is (success is)) u);
  spares = λ here. ends_spare c.args.desk.now.moves c.args.attempt (failed_as c.args.attempt c.in-Failed.why) c.fail.new.desk.moves (λ moment. refl) (λ moment H is. is) here c.fail.result c.fail.ensures.ends;
  stays = λ P stands. stands;
}

pub returns-in-NotRun : goal.returns-in-NotRun
returns-in-NotRun g c = record {
  underway = λ away first held waiting heard halt success u.
      let later = plus heard (tally_of c.args.outcome) in
      let none : (tally_of c.args.outcome).failed ≡ 0 = ap (λ (o : Outcome). (tally_of o).failed) c.in-NotRun.is in
      let one : (tally_of c.args.outcome).unrun ≡ 1 = ap (λ (o : Outcome). (tally_of o).unrun) c.in-NotRun.is in
      c.give_up.ensures.underway away first held waiting later halt
      (heard_more g.T.Terms.trust g.F.Commands.gives g.F.Commands.may_fail g.T.Terms.sources g.S.Site.tells g.T.Terms.kept (IsSurePool g.B.Terms.fits) g.S.Site.files g.S.Site.may_leave g.S.Site.moment g.S.Site.images_since away first c.args.desk.now held waiting (Some c.args.attempt) heard later halt (omega arith) (omega (arith, none)) u)
      (λ fine. unrun_stops g.T.Terms.trust g.F.Commands.gives g.F.Commands.may_fail g.T.Terms.sources g.S.Site.tells g.T.Terms.kept (IsSurePool g.B.Terms.fits) g.S.Site.files g.S.Site.may_leave g.S.Site.moment g.S.Site.images_since away c.args.desk.now later fine (omega (arith, one)) (λ is. subst IsSuccess c.in-NotRun.is (success is)));
  spares = λ here. tt;
  stays = c.give_up.ensures.stays;
}
