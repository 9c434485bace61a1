use Rattle.std.proofs.Common.{◌≡◌, ◌++◌, take}
use Rattle.std.specs.Prelude.{filter_map}
use Rattle.foreman_core.specs.Steps.{down_to, put_of}
use Rattle.foreman_core.proofs.sending.send_all.Given as goal

abbrev pub invariant-loop-file : goal.invariant-loop-file
invariant-loop-file l = l.down ≡ l.initial.down ++ down_to l.link (filter_map (put_of l.cache.rows l.run) (take l.file-index l.files))
