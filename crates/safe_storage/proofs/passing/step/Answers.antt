use Rattle.std.proofs.Common.{arith}
use Rattle.safe_storage.specs.Counters.{told}
use Rattle.safe_storage.proofs.Drops.{loaded-small}
use Rattle.safe_storage.proofs.passing.step.Goals as goal

pub overflow_add-load : goal.overflow_add-load
overflow_add-load c =
    let small = loaded-small c.args.plan.now (told c.args.stand.now)
    c.args.counters.now.over.items c.args.counters.now.left.items
    c.args.counters.now.rest.items c.args.counters.now.load c.requires.valid
    c.requires.stand.small c.requires.walk.loaded in
    omega (arith, small, c.rule_of.ensures.small)
