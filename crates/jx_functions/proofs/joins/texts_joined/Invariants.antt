use Rattle.std.proofs.Common.{◌≡◌, true, string_bytes}
use Rattle.jx_functions.proofs.Joining.{AreTexts, IsJoined}
use Rattle.jx_functions.proofs.joins.texts_joined.Given as goal

abbrev pub invariant-loop-item : goal.invariant-loop-item
invariant-loop-item l = record {
  are : AreTexts l.items l.item-index ≡ true;
  text : IsJoined l.items l.item-index l.separator l.first (string_bytes l.out);
}
