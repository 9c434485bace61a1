use Rattle.std.proofs.Common.{◌∙◌, arith, sym}
use Rattle.gc_refcount.proofs.Changing.{same-item}
use Rattle.safe_storage.specs.Counters.{told}
use Rattle.safe_storage.proofs.Drops.{stays-loaded}
use Rattle.safe_storage.proofs.counters.Counters.take_off_one.Goals as goal

pub returns-then-stays-clause-loaded : goal.returns-then-stays-clause-loaded
returns-then-stays-clause-loaded c =
    stays-loaded c.args.plan.now (told c.args.stand.now) c.args.self.now.over.items
    c.args.self.now.left.items c.args.self.now.rest.items c.args.self.now.load c.args.file.0
    c.index_mut.result.now c.requires.inside
    (c.index_mut.ensures.value
    ∙ same-item c.args.self.now.left.items c.args.file.0 c.index_mut.result.now 0
    (omega (arith, c.requires.inside, c.requires.loaded.files)))
    (sym c.stays.ensures ∙ c.if-stays.true) c.requires.loaded
