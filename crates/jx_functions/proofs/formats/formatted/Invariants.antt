use Rattle.std.proofs.Common.{◌≡◌, ◌≤◌, false, length, drop}
use Rattle.std.specs.Str.{chars}
use Rattle.jx_meaning.specs.Texts.{formatted, made}
use Rattle.jx_functions.specs.Drafts.{finished}
use Rattle.jx_functions.proofs.Marks.{worths, to_come}
use Rattle.jx_functions.proofs.formats.formatted.Given as goal

-- what is left decides
abbrev pub invariant-loop-c : goal.invariant-loop-c
invariant-loop-c l = record {
  within : l.used ≤ length l.values;
  text : finished l.place l.draft (to_come l.behind_mark l.place (chars l.text) (length l.yielded) (drop l.used l.values)) ≡ made l.place (formatted false l.place l.text (worths l.values));
}
