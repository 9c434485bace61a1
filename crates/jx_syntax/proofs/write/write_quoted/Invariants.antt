use Rattle.std.proofs.Common.{◌≡◌, ◌++◌, length, drop, string_bytes}
use Rattle.std.specs.List.{flat_map}
use Rattle.std.specs.Str.{chars}
use Rattle.jx_syntax.specs.Written.{char_text}
use Rattle.jx_syntax.proofs.write.write_quoted.Given as goal

abbrev pub invariant-loop-c : goal.invariant-loop-c
invariant-loop-c l = string_bytes l.out ++ flat_map char_text (drop (length l.yielded) (chars l.text)) ≡ string_bytes l.initial.out ++ flat_map char_text (chars l.text)
