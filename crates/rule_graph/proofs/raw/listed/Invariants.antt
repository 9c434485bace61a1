use Rattle.std.proofs.Common.{◌≡◌, map}
use Rattle.rule_graph.proofs.Ports.{bytes_of}
use Rattle.rule_graph.proofs.raw.listed.Given as goal

abbrev pub invariant-loop-name : goal.invariant-loop-name
invariant-loop-name l = l.texts.items ≡ map bytes_of l.yielded
