use Rattle.std.proofs.Common.{◌+◌, drop, sym, ap, ◌∙◌}
use Rattle.std.proofs.lemmas.Bool.{ne_eqb}
use Rattle.jx_tokens.specs.Texts.{closing}
use Rattle.jx_tokens.proofs.Quotes.{shifted, closing-hidden, closing-shown, closing-quote, closing-end}
use Rattle.jx_tokens.proofs.content.closing.Goals as goal
use Rattle.jx_tokens.proofs.content.closing.Goals.{then-hidden, else-hidden+else-b-eq34}

pub returns-then-b-eq34-clause-value : goal.returns-then-b-eq34-clause-value
returns-then-b-eq34-clause-value c =
    let d = c.args.bytes.now in
    let i = c.loop-at.at in
    sym (closing-quote d i c.loop-at-test.true c.if-b-eq34.true) ∙ ap (λ h. shifted i (closing h (drop i d))) (sym c.if-hidden.false) ∙ c.loop-at.invariant

pub loop-at-preserved : goal.loop-at-preserved
loop-at-preserved c =
    let d = c.args.bytes.now in
    let i = c.loop-at.at in
    elim c.if-hidden.branch [
      | then-hidden w ↦
          ap (λ h. shifted (i + 1) (closing h (drop (i + 1) d))) w.hidden-is ∙ closing-hidden d i c.loop-at-test.true
          ∙ ap (λ h. shifted i (closing h (drop i d))) (sym w.if-hidden.true) ∙ c.loop-at.invariant
      | else-hidden+else-b-eq34 w ↦
          ap (λ h. shifted (i + 1) (closing h (drop (i + 1) d))) w.hidden-is ∙ closing-shown d i c.loop-at-test.true (ne_eqb _ 34 w.if-b-eq34.false)
          ∙ ap (λ h. shifted i (closing h (drop i d))) (sym w.if-hidden.false) ∙ c.loop-at.invariant
    ]

pub returns-clause-value : goal.returns-clause-value
returns-clause-value c = sym (closing-end c.args.bytes.now c.loop-at.at c.loop-at.hidden c.loop-at-test.false) ∙ c.loop-at.invariant
