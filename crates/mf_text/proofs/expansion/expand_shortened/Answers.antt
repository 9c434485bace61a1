use Rattle.std.proofs.Common.{List, ℕ, Result, ap, sym, subst, ◌∙◌}
use Rattle.std.specs.FinMap as map
use Rattle.mf_text.specs.declared.fault.MakeFault.{MakeFault}
use Rattle.mf_text.specs.declared.output.Expanded.{Expanded}
use Rattle.mf_text.specs.Answers.{Gives}
use Rattle.mf_text.specs.Expansion.{pieces, pieces_from}
use Rattle.mf_text.specs.Output.{outcome}
use Rattle.mf_text.proofs.expansion.expand_shortened.Goals as goal

pub returns : goal.returns
unfolding pieces_from
returns c =
    subst (λ (g : Result Expanded MakeFault). Gives {X = Expanded} {Y = Expanded} (λ made. made) c.finish.result g)
    (ap (λ (rest : List ℕ). outcome (map.get c.args.scope.now) c.args.line c.loop-part.output (pieces rest)) (sym c.in_default.ensures.pieces)
    ∙ c.loop-part.invariant.whole)
    (c.finish.ensures (map.get c.args.scope.now))
