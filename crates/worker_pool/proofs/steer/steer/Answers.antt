use Rattle.std.proofs.Common.{◌≡◌, Bool, false, subst, rules}
use Rattle.crossbeam_queue.specs.Passes.{view}
use Rattle.worker_pool.specs.Steers.{Steered}
use Rattle.worker_pool.proofs.steer.steer.Goals as goal

pub hear-requires-in-Given-clause-steered : goal.hear-requires-in-Given-clause-steered
hear-requires-in-Given-clause-steered g c κs within =
    let going : c.loop.done ≡ false = search rules in
    let n = (view c.loop.token).taken in
    let was = subst (λ (d : Bool). Steered g.C.Course.asked g.C.Course.told g.C.Course.due g.B.Terms.fits c.args.course.now c.loop.course d c.loop.chief n) going c.loop.invariant.steered in
    (c.args.course.now, false, n, c.in-Given.ensures.steered c.args.course.now n was)

pub hear-requires-in-Nothing-clause-steered : goal.hear-requires-in-Nothing-clause-steered
hear-requires-in-Nothing-clause-steered g c κs within =
    let going : c.loop.done ≡ false = search rules in
    let n = (view c.loop.token).taken in
    let was = subst (λ (d : Bool). Steered g.C.Course.asked g.C.Course.told g.C.Course.due g.B.Terms.fits c.args.course.now c.loop.course d c.loop.chief n) going c.loop.invariant.steered in
    (c.args.course.now, false, n, c.in-Nothing.ensures.steered c.args.course.now n was)
