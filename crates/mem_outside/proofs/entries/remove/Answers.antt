use Rattle.mem_outside.proofs.FilesByName.{updated_files}
use Rattle.mem_outside.proofs.entries.remove.Goals as goal

pub returns : goal.returns
returns c = updated_files c.args.name.now c.args.entries.now c.remove.new.self _ c.remove.ensures.updates
