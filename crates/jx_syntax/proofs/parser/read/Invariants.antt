use Rattle.std.proofs.Common.{◌≡◌, ◌-◌, ◌≤◌, [], length, drop}
use Rattle.jx_tokens.specs.Tokens.{scan}
use Rattle.jx_syntax.specs.Reading.{State, wants, reading}
use Rattle.jx_syntax.specs.Shown.{IsState}
use Rattle.jx_syntax.proofs.parser.read.Given as goal

abbrev pub invariant-loop-at : goal.invariant-loop-at
invariant-loop-at l = record {
  read : (st : State) × IsState l.reader l.wanted st × (reading st (scan 0 l.at (drop l.at l.text)) ≡ reading (wants []) (scan 0 0 l.text));
  within : l.at ≤ length l.text;
}

abbrev pub decreases-loop-at : goal.decreases-loop-at
decreases-loop-at l = length l.text - l.at
