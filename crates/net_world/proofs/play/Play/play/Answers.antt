use Rattle.std.proofs.Common.{arith}
use Rattle.world_laws.proofs.Runs.{next_plays}
use Rattle.net_world.proofs.play.Play.play.Goals as goal

pub loop-event-preserved : goal.loop-event-preserved
loop-event-preserved g c =
    let was = c.loop-event.invariant in
    record {
      later = omega (arith, was.later, c.step.ensures.later);
      tells = λ job told. c.step.ensures.still_tells job (was.tells job told);
      leads = λ told P O w shown.
          let here = was.leads told P O w shown in
          let did = c.in_ok-step.ensures.ran (λ job. was.tells job (told job)) P O here.0 here.1 in (
            _,
            did.2,
            λ v reached. here.2 v (next_plays P O g.F.Commands.gives g.F.Commands.may_fail here.0 c.args.events.now c.loop-event.event-index _ did.0 v c.loop-event-test.true did.1 reached),
          );
    }
