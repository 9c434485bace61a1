use Rattle.std.proofs.Common.{arith}
use Rattle.std.proofs.lemmas.Str.{IsCharBoundary-after_ascii}
use Rattle.jx_tokens.proofs.content.literal.Goals as goal

pub range-requires-clause-start_boundary : goal.range-requires-clause-start_boundary
range-requires-clause-start_boundary c = λ pos. IsCharBoundary-after_ascii c.args.text.now c.args.at c.utf8.text c.requires.within (omega (arith, c.requires.quote))
