use Rattle.std.proofs.Common.{◌≡◌, ◌-◌, ◌≤◌, length, drop}
use Rattle.jx_tokens.specs.Tokens.{scan}
use Rattle.jx_tokens.proofs.Scanned.{ahead}
use Rattle.jx_tokens.proofs.tokens.scan.Given as goal

abbrev pub invariant-loop-at : goal.invariant-loop-at
invariant-loop-at l = record {
  read : ahead l.tokens.items (scan 0 l.at (drop l.at l.text)) ≡ scan 0 0 l.text;
  within : l.at ≤ length l.text;
}

abbrev pub decreases-loop-at : goal.decreases-loop-at
decreases-loop-at l = length l.text - l.at
