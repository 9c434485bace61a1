use Rattle.std.proofs.Common.{◌∙◌, sym}
use Rattle.mem_outside.specs.Entries.{files_in}
use Rattle.mem_outside.proofs.Replays.{settled_is}
use Rattle.mem_outside.proofs.mem_site.image.Disk.step.Goals as goal

pub returns-in_ok-settle-clause-synced : goal.returns-in_ok-settle-clause-synced
returns-in_ok-settle-clause-synced c =
    settled_is c.args.step.now c.as_bytes-name.result.now (files_in c.args.self.now.written) (files_in c.apply.new.entries) (files_in c.args.self.now.synced) (files_in c.settle.new.synced)
    c.as_bytes-name.ensures.value c.in_ok-apply.ensures.ok (sym c.is_durable.ensures ∙ c.if-is_durable.true) c.in_ok-settle.ensures
