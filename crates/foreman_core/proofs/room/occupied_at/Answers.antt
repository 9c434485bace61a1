use Rattle.std.proofs.Common.{◌≡◌, arith}
use Rattle.foreman_core.proofs.Loads.{fewer}
use Rattle.foreman_core.proofs.room.occupied_at.Goals as goal

pub returns-then-tasks-eq-MOST_TASKS : goal.returns-then-tasks-eq-MOST_TASKS
returns-then-tasks-eq-MOST_TASKS c =
    let all : c.loop-u.tasks ≡ 64 = c.if-tasks-eq-MOST_TASKS.true in
    omega (arith, all, c.loop-u.invariant.1, fewer c.args.cache.now.rows c.args.b.now.link c.loop-u.u-index c.args.attempts.now)
