use Rattle.std.proofs.Common.{◌≡◌, ◌++◌, length, drop, string_bytes}
use Rattle.std.specs.List.{flat_map}
use Rattle.std.specs.Str.{chars}
use Rattle.plan_show.specs.Graph.{dot_char}
use Rattle.plan_show.proofs.graph.add_label.Given as goal

abbrev pub invariant-loop-c : goal.invariant-loop-c
invariant-loop-c l = string_bytes l.out ++ flat_map dot_char (drop (length l.yielded) (chars l.text)) ≡ string_bytes l.initial.out ++ flat_map dot_char (chars l.text)
