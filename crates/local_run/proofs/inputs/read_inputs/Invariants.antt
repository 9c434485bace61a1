use Rattle.std.proofs.Common.{◌≡◌, take, map}
use Rattle.flow_types.specs.Serial.{serial}
use Rattle.local_run.specs.Course.{LeavesAlone}
use Rattle.local_run.specs.Jobs.{given_at}
use Rattle.local_run.proofs.inputs.read_inputs.Given as goal

abbrev pub invariant-loop-port : goal.invariant-loop-port
invariant-loop-port g l = record {
  same : l.desk ≡ record l.initial.desk { site = l.desk.site };
  given : g.S.Site.tells → g.T.Terms.kept → g.T.Terms.trust
      → l.inputs.items ≡ map (given_at (serial l.initial.desk.plan g.F.Commands.gives g.T.Terms.sources)) (take l.port-index l.ports);
  others : g.S.Site.tells → LeavesAlone g.S.Site.files g.S.Site.may_leave g.S.Site.moment g.S.Site.images_since (λ m. Unit {0}) l.initial.desk.site l.desk.site;
}
