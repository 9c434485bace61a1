use Rattle.std.proofs.Common.{◌≡◌, ◌++◌, length, take, drop, string_bytes}
use Rattle.std.specs.Prelude.{flat_map}
use Rattle.std.specs.Char.{encode_utf8}
use Rattle.std.specs.Str.{chars}
use Rattle.jx_values.proofs.slices.text_part.Given as goal

-- what is left decides
abbrev pub invariant-loop-c : goal.invariant-loop-c
invariant-loop-c l =
    string_bytes l.out ++ flat_map encode_utf8 (take l.left (drop l.skip (drop (length l.yielded) (chars l.text)))) ≡ flat_map encode_utf8 (take l.len (drop l.from (chars l.text)))
