use Rattle.std.proofs.Common.{◌≡◌, ◌+◌, ◌-◌, ◌≤◌, length, drop, string_bytes}
use Rattle.std.specs.Str.{IsCharBoundary}
use Rattle.jx_tokens.specs.Texts.{content, before}
use Rattle.jx_tokens.proofs.content.content.Given as goal

abbrev pub invariant-loop-done : goal.invariant-loop-done
invariant-loop-done l = record {
  read : before (string_bytes l.held) (content 0 (l.at + l.done) (drop l.done l.body)) ≡ content 0 l.at l.body;
  within : l.done ≤ length l.body;
  boundary : IsCharBoundary l.body l.done;
}

abbrev pub decreases-loop-done : goal.decreases-loop-done
decreases-loop-done l = length l.body - l.done
