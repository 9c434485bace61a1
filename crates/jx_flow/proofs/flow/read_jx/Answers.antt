use Rattle.std.proofs.Common.{◌≡◌, ℕ, List, length, Result, Ok, Err, refl, subst, sym, ap, ◌∙◌}
use Rattle.flow_types.specs.declared.flow.RawFlow.{RawFlow}
use Rattle.jx_tokens.specs.declared.fault.JxFault.{JxFault}
use Rattle.jx_tokens.specs.declared.fault.JxFault.TheVariants.{NotUtf8, Unexpected, OpenText, FloatUnsupported, IntTooWide, TooDeep, TooLarge, Memory}
use Rattle.jx_tokens.specs.Answers.{Fails}
use Rattle.jx_tokens.specs.Tokens.{scan_of}
use Rattle.jx_syntax.specs.declared.node.Node.{Node}
use Rattle.jx_syntax.specs.Grammar.{Derivation}
use Rattle.jx_syntax.specs.Reading.{parsed}
use Rattle.jx_syntax.specs.Tree.{tree_of, expression_of}
use Rattle.jx_flow.specs.Answers.{Gives}
use Rattle.jx_flow.specs.Reading.{Found}
use Rattle.jx_flow.specs.Flow.{flow_of, flow_if, flow_of_text}
use Rattle.jx_flow.proofs.Limits.{answer_fits}
use Rattle.jx_flow.proofs.flow.read_jx.Goals as goal

-- a fault other than want of memory is the one that is given
told : (e : JxFault) (given : Result Derivation JxFault) → Fails e given → (e ≡ Memory → ⊥) → given ≡ Err e
told Memory given h k = absurd (k refl)
told (NotUtf8 at) given h k = h
told (Unexpected at) given h k = h
told (OpenText at) given h k = h
told (FloatUnsupported at) given h k = h
told (IntTooWide at) given h k = h
told (TooDeep at) given h k = h
told TooLarge given h k = h

-- what was told of the expression is told of the text
of_text : (answer : Found RawFlow) (text : List ℕ) (ns : List Node) (d : Derivation) → parsed (length text) (scan_of text) ≡ Ok d → expression_of ns ≡ tree_of d
    → Gives (λ flow. flow) answer (flow_of (expression_of ns)) → Gives (λ flow. flow) answer (flow_of_text text)
unfolding flow_of_text
of_text answer text ns d e is h =
    let Holds : Found RawFlow → Type 0 = λ (given : Found RawFlow). Gives (λ (flow : RawFlow). flow) answer given in
    subst Holds (ap flow_of is ∙ sym (ap flow_if e)) h

pub returns-in-Ok-clause-flow : goal.returns-in-Ok-clause-flow
returns-in-Ok-clause-flow c = let r = c.in-Ok.ensures.read in of_text c.flow_of.result c.args.text.now c.in-Ok.expr r.0 r.1 r.2 c.flow_of.ensures

pub returns-in-Ok-clause-limits : goal.returns-in-Ok-clause-limits
returns-in-Ok-clause-limits c =
    let r = c.in-Ok.ensures.read in
    answer_fits c.flow_of.result c.args.text.now (of_text c.flow_of.result c.args.text.now c.in-Ok.expr r.0 r.1 r.2 c.flow_of.ensures)

pub returns-in_default-clause-flow : goal.returns-in_default-clause-flow
unfolding flow_of_text
returns-in_default-clause-flow c = ap flow_if (told c.in-Err.fault _ c.in-Err.ensures.read c.in_default.not-Memory)
