use Rattle.std.proofs.Common.{◌≡◌, length}
use Rattle.std.specs.FinMap as map
use Rattle.mf_text.specs.Expansion.{shortened_expansion, pieces}
use Rattle.mf_text.specs.Output.{outcome, HasRoom}
use Rattle.mf_text.proofs.expansion.expand_shortened.Given as goal

-- what is left decides
abbrev pub invariant-loop-part : goal.invariant-loop-part
invariant-loop-part l = record {
  whole : outcome (map.get l.scope) l.line l.output (pieces l.parts) ≡ shortened_expansion (map.get l.scope) l.line l.text;
  room : HasRoom l.output;
}

abbrev pub decreases-loop-part : goal.decreases-loop-part
decreases-loop-part l = length l.parts
