use Rattle.std.proofs.Common.{◌≡◌, ◌+◌, ◌<◌, ℕ, List, [], ◌∷◌, ap, sym, ◌∙◌, arith, length, subst, drop, get_or, add-one, drop-cons}
use Rattle.std.proofs.lemmas.List.{at_drop_all}
use Rattle.rule_graph.specs.Progress.{IsUnderWay}
use Rattle.rule_graph.proofs.order.announce.Goals as goal

pub loop-rule-preserved : goal.loop-rule-preserved
loop-rule-preserved c =
    let i : ℕ = c.loop-rule.rule-index in
    let inside : i < length c.args.takers.now = omega (arith, c.loop-rule-test.true) in
    let left : drop i c.args.takers.now ≡ get_or c.args.takers.now i 0 ∷ drop (i + 1) c.args.takers.now = rw add-one (drop-cons c.args.takers.now i 0 inside) in
    record {
      under_way = λ P taken before.
          c.in_ok-note.ensures.under_way P taken (drop (i + 1) c.args.takers.now)
          (let R : List ℕ → Type 0 = λ rest. IsUnderWay P taken rest c.loop-rule.progress in subst R left (c.loop-rule.invariant.under_way P taken before));
      made = c.in_ok-note.ensures.made ∙ c.loop-rule.invariant.made;
      rules = c.in_ok-note.ensures.rules ∙ c.loop-rule.invariant.rules;
    }

pub returns-clause-under_way : goal.returns-clause-under_way
returns-clause-under_way c = λ P taken before.
    let R : List ℕ → Type 0 = λ rest. IsUnderWay P taken rest c.loop-rule.progress in
    subst R (at_drop_all (λ xs. xs) c.args.takers.now c.loop-rule.rule-index (omega (arith, c.loop-rule-test.false))) (c.loop-rule.invariant.under_way P taken before)
