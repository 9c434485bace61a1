use Rattle.std.proofs.Common.{◌≡◌, ◌++◌, take, map, string_bytes}
use Rattle.jx_syntax.specs.Written.{value_text, pair_text, separated}
use Rattle.jx_syntax.proofs.Writing.{is_nil}
use Rattle.jx_syntax.proofs.write.+write_value.Given as goal

abbrev pub invariant-loop-item : goal.invariant-loop-item
invariant-loop-item l = record {
  text : string_bytes l.out ≡ string_bytes l.initial.out ++ separated (map value_text (take l.item-index l.item-items));
  first : l.first ≡ is_nil (map value_text (take l.item-index l.item-items));
}

abbrev pub invariant-loop-pair : goal.invariant-loop-pair
invariant-loop-pair l = record {
  text : string_bytes l.out ≡ string_bytes l.initial.out ++ separated (map pair_text (take l.pair-index l.pair-items));
  first : l.first ≡ is_nil (map pair_text (take l.pair-index l.pair-items));
}
