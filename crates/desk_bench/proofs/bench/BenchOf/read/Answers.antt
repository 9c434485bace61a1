use Rattle.std.proofs.Common.{◌∙◌, sym}
use Rattle.mem_outside.specs.MemSite.{calls_of}
use Rattle.desk_bench.proofs.Reading.{looks_keeps}
use Rattle.desk_bench.proofs.bench.BenchOf.read.Goals as goal

pub invariant_of-self : goal.invariant_of-self
invariant_of-self g c =
    looks_keeps (λ site. (calls_of site).faults) c.self.inside.desk c.args.file c.read_input.result c.read_input.new.self c.self.inside.outs.items
    (sym c.present.ensures ∙ c.if-present.true) c.read_input.ensures.reply c.self.invariant
