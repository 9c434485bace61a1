use Rattle.wq_run.proofs.Companies.{met_then, same_met}
use Rattle.wq_run.proofs.Duties.{due_none, due_then}
use Rattle.wq_run.proofs.Calmly.{calm_none, calm_then}
use Rattle.wq_run.proofs.company.guests.greet_all.Goals as goal

pub loop-preserved : goal.loop-preserved
loop-preserved g c = record {
  manned = λ held first waiting heard m. c.greet_next.ensures.manned held first waiting heard (c.loop.invariant.manned held first waiting heard m);
  listens = λ is. c.greet_next.ensures.listens (c.loop.invariant.listens is);
  met = met_then c.loop.invariant.met c.greet_next.ensures.met;
  due = λ limit halt tells. due_then _ _ (c.loop.invariant.due limit halt tells) (c.greet_next.ensures.due limit halt tells);
  calm = λ asked halt tells. calm_then (c.loop.invariant.calm asked halt tells) (c.greet_next.ensures.calm asked halt tells);
}

pub loop-init : goal.loop-init
loop-init g c = record { manned = λ held first waiting heard m. m; listens = λ is. is; met = same_met; due = λ limit halt tells. due_none _ _; calm = λ asked halt tells. calm_none }
