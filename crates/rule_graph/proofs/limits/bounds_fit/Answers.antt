use Rattle.std.proofs.Common.{◌≤◌, refl, subst, arith}
use Rattle.std.specs.Prelude.{All}
use Rattle.std.proofs.lemmas.List.{take_all}
use Rattle.std.proofs.lemmas.List.Elements.{All-more}
use Rattle.flow_types.specs.declared.flow.SizeBound.{SizeBound}
use Rattle.flow_types.specs.Plans.{most_bytes}
use Rattle.rule_graph.proofs.limits.bounds_fit.Goals as goal

-- the line's bound is within the most bytes
Fits : SizeBound → Type 0
Fits line = line.bytes ≤ most_bytes

pub loop-line-preserved : goal.loop-line-preserved
unfolding Fits
loop-line-preserved c =
    let fits : Fits c.line-item.result = omega arith in
    All-more Fits c.as_slice-line-items.result.now c.loop-line.line-index c.line-item.result (omega arith) c.loop-line.invariant (subst Fits c.line-item.is fits)

pub returns : goal.returns
unfolding Fits
returns c =
    let whole = take_all c.loop-line.line-index c.as_slice-line-items.result.now (omega arith) in
    ((λ _. subst (All Fits) c.as_slice-line-items.ensures (subst (All Fits) whole c.loop-line.invariant)), (λ _. refl))
