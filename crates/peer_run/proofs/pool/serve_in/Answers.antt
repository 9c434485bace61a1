use Rattle.std.proofs.Common.{[], List, false, arith, ap, subst, sym}
use Rattle.flow_types.specs.declared.job.Start.{Start}
use Rattle.worker_pool.specs.Tallies.{none}
use Rattle.worker_pool.specs.declared.hand.Hand.{Hand}
use Rattle.worker_pool.specs.declared.hand.Tally.{Tally}
use Rattle.peer_run.specs.Works.{AtWork, IsToldPool, way_of}
use Rattle.peer_run.proofs.Going.{wants}
use Rattle.peer_run.proofs.pool.serve_in.Goals as goal

pub returns-in_default : goal.returns-in_default
returns-in_default g c = record {
  leaves = λ first faults works. (
    none,
    wants g.F.Commands.gives g.F.Commands.may_fail g.L.Link.tells (IsToldPool g.F.Commands.gives g.F.Commands.may_fail g.B.Terms.fits) g.B.Terms.fits first faults (way_of g.L.Link.history g.L.Link.is_closed g.L.Link.count c.args.link.now) c.args.ear.now c.args.core.now [] none false works,
    omega arith,
  );
}

pub returns : goal.returns
returns g c = record {
  leaves = λ first faults works.
      let way = way_of g.L.Link.history g.L.Link.is_closed g.L.Link.count c.args.link.now in
      let pool = c.new-pool.result.0 in
      let begun = subst (λ (h : Tally). AtWork g.F.Commands.gives g.F.Commands.may_fail g.L.Link.tells g.B.Terms.fits first faults way c.args.ear.now c.args.core.now pool.waiting h false) (sym c.new-pool.ensures.pool.1)
      (subst (λ (xs : List Start). AtWork g.F.Commands.gives g.F.Commands.may_fail g.L.Link.tells g.B.Terms.fits first faults way c.args.ear.now c.args.core.now xs none false) (sym c.new-pool.ensures.pool.0) works) in (
        c.serve_beside-halt.new.pool.heard,
        c.serve_beside-halt.ensures.leaves first faults begun,
        omega (arith, c.end.ensures.within.0, c.serve_beside-halt.ensures.counted.0, ap (λ (v : Hand). v.put.unrun) c.new-pool.ensures.token.1),
      );
}
