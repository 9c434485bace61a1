use Rattle.peer_run.specs.Works.{IsToldPool, way_of}
use Rattle.peer_run.proofs.Going.{fails_by, goes_out, goes_not_out}
use Rattle.peer_run.proofs.work.send_on.Goals as goal

pub returns-in-Ok : goal.returns-in-Ok
returns-in-Ok g c = record {
  goes = λ first faults ear core waiting heard works.
      let told = IsToldPool g.F.Commands.gives g.F.Commands.may_fail g.B.Terms.fits in
      let old = way_of g.L.Link.history g.L.Link.is_closed g.L.Link.count c.args.link.now in
      let new = way_of g.L.Link.history g.L.Link.is_closed g.L.Link.count c.flush.new.self in
      goes_out g.F.Commands.gives g.F.Commands.may_fail g.L.Link.tells told g.B.Terms.fits first faults old new ear core waiting heard c.args.left
      c.flush.ensures.history c.flush.ensures.closed c.flush.ensures.cause.later works;
}

pub returns-in-Err : goal.returns-in-Err
returns-in-Err g c = record {
  goes = λ first faults ear core waiting heard works.
      let told = IsToldPool g.F.Commands.gives g.F.Commands.may_fail g.B.Terms.fits in
      let old = way_of g.L.Link.history g.L.Link.is_closed g.L.Link.count c.args.link.now in
      let new = way_of g.L.Link.history g.L.Link.is_closed g.L.Link.count c.flush.new.self in
      goes_not_out g.F.Commands.gives g.F.Commands.may_fail g.L.Link.tells told g.B.Terms.fits first faults old new ear core waiting heard c.args.left c.halt_by.result
      c.flush.ensures.history c.flush.ensures.closed c.flush.ensures.cause.later
      (fails_by faults old.faults new c.in-Err.fault c.halt_by.result c.in-Err.ensures.cause works.later c.halt_by.ensures.link c.halt_by.ensures.memory) works;
}
