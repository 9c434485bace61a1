use lib.Utf8.{encodes}
use Rattle.std.proofs.Common.{◌≡◌, ◌++◌, length, drop, string_bytes}
use Rattle.std.specs.Str.{chars}
use Rattle.mf_forms.specs.Quotes.{placed, placed_behind, without_marks}
use Rattle.mf_forms.proofs.Quoting.{IsMark}
use Rattle.mf_forms.proofs.quotes.without_marks.Given as goal

-- what is left decides
abbrev pub invariant-loop-c : goal.invariant-loop-c
invariant-loop-c l = record {
  mark : IsMark l.mark;
  whole : string_bytes l.kept ++ without_marks (placed_behind l.mark (encodes (drop (length l.yielded) (chars l.text)))) ≡ without_marks (placed l.text);
}
