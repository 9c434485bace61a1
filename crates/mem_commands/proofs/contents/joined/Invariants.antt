use Rattle.std.proofs.Common.{◌≡◌, take}
use Rattle.std.specs.List.{flat_map}
use Rattle.mem_commands.proofs.contents.joined.Given as goal

abbrev pub invariant-loop-given : goal.invariant-loop-given
invariant-loop-given l = l.content.items ≡ flat_map (λ given. given.content) (take l.given-index l.given-items)
