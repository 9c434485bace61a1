use Rattle.std.proofs.Common.{◌++◌, None, refl, subst, sym}
use Rattle.std.specs.Prelude.{OnOk}
use Rattle.flow_types.specs.declared.job.Outcome.{Outcome}
use Rattle.local_run.specs.Beyond.{done_by, failed_by, lost_by}
use Rattle.wq_run.specs.Dues.{EndsWith}
use Rattle.wq_run.proofs.Calm.{ends_well, not_failed, not_unrun}
use Rattle.wq_run.proofs.seat.closing.end_away.Goals as goal

pub returns-in-Success : goal.returns-in-Success
returns-in-Success g c = record {
  underway = λ away front back first held waiting heard halt are u. (done_by (front ++ back) away, refl, refl, c.finish_away.ensures.underway away front back first held waiting heard halt are u);
  adds = subst (λ (o : Outcome). OnOk c.finish_away.result (EndsWith c.args.desk.now.moves c.args.attempt o c.finish_away.new.desk.moves)) (sym c.in-Success.is) c.finish_away.ensures.ends;
  calm = λ outs away front back first held waiting heard is are u.
      ends_well c.args.desk.now c.finish_away.new.desk c.args.attempt c.in-Success.outs c.finish_away.result c.finish_away.ensures.ends;
}

pub returns-in-Failed : goal.returns-in-Failed
returns-in-Failed g c = record {
  underway = λ away front back first held waiting heard halt are u. (failed_by (front ++ back) away, refl, refl, c.fail_away.ensures.underway away front back first held waiting heard halt are u);
  adds = subst (λ (o : Outcome). OnOk c.fail_away.result (EndsWith c.args.desk.now.moves c.args.attempt o c.fail_away.new.desk.moves)) (sym c.in-Failed.is) c.fail_away.ensures.ends;
  calm = λ outs away front back first held waiting heard is are u. absurd (not_failed c.args.outcome outs c.in-Failed.why is c.in-Failed.is);
}

pub returns-in-NotRun : goal.returns-in-NotRun
returns-in-NotRun g c = record {
  underway = λ away front back first held waiting heard halt are u. (lost_by (front ++ back) away, refl, refl, c.lose_away.ensures.underway away front back first held waiting heard halt are u);
  adds = subst (λ (o : Outcome). OnOk c.lose_away.result (EndsWith c.args.desk.now.moves c.args.attempt o c.lose_away.new.desk.moves)) (sym c.in-NotRun.is) c.lose_away.ensures.loses;
  calm = λ outs away front back first held waiting heard is are u. absurd (not_unrun c.args.outcome outs is c.in-NotRun.is);
}
