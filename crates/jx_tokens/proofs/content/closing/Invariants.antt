use Rattle.std.proofs.Common.{◌≡◌, ◌+◌, drop, false}
use Rattle.std.specs.Option.{option_map}
use Rattle.jx_tokens.specs.Texts.{closing}
use Rattle.jx_tokens.proofs.content.closing.Given as goal

abbrev pub invariant-loop-at : goal.invariant-loop-at
invariant-loop-at l = option_map (λ n. n + l.at) (closing l.hidden (drop l.at l.bytes)) ≡ closing false l.bytes
