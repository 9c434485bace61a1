use Rattle.std.proofs.Common.{List, Some, None, refl, sym, subst, ◌∙◌}
use Rattle.jx_syntax.specs.Grammar.{Derivation}
use Rattle.jx_syntax.specs.Reading.{Frame}
use Rattle.jx_syntax.specs.Shown.{IsReduced, IsApplied}
use Rattle.jx_syntax.proofs.pending.Reader.reduced.Goals as goal

pub loop-applied-init : goal.loop-applied-init
loop-applied-init c = λ fs x h deep l. ((fs, x), (h, deep, l), refl)

pub loop-applied-preserved : goal.loop-applied-preserved
loop-applied-preserved c = λ fs x h deep l.
    let w = c.loop-applied.invariant fs x h deep l in
    let s : IsApplied c.applied.new.self (Some c.in-Some.applied) c.loop-applied.operand c.args.level w.0.0 w.0.1 =
    rw c.in-Some.is at (c.in_ok-applied.ensures.shown w.0.0 w.0.1 w.1.0 w.1.1 w.1.2) in
    (s.0, s.1, s.2 ∙ w.2)

pub returns-clause-shown : goal.returns-clause-shown
returns-clause-shown c = λ fs x h deep l.
    let w = c.loop-applied.invariant fs x h deep l in
    let s : IsApplied c.applied.new.self None c.loop-applied.operand c.args.level w.0.0 w.0.1 =
    rw c.in_default.is at (c.in_ok-applied.ensures.shown w.0.0 w.0.1 w.1.0 w.1.1 w.1.2) in
    subst (λ (p : List Frame × Derivation). IsReduced c.applied.new.self c.loop-applied.operand p) (sym s.1 ∙ w.2) s.0
