use Rattle.std.proofs.Common.{◌≡◌, Bool, reverse, Some, None, Ok, ap, sym, ◌∙◌}
use Rattle.jx_syntax.specs.declared.value.JxValue.{JxValue}
use Rattle.jx_meaning.specs.declared.fault.EvalFault.TheVariants.{WrongKind}
use Rattle.jx_meaning.specs.Meaning.{Outcome}
use Rattle.jx_meaning.specs.Values.{Value, plain, truth}
use Rattle.jx_values.specs.Kinds.{truth_in}
use Rattle.jx_values.proofs.Plain.{plain-truth}
use Rattle.jx_eval.specs.Machine.{after, unwound}
use Rattle.jx_eval.proofs.Steps.{with-truth, with-no_truth, failed}
use Rattle.jx_eval.proofs.state.State.truth.Goals as goal

pub returns-in-Some-clause-kept : goal.returns-in-Some-clause-kept
unfolding after
returns-in-Some-clause-kept c = λ ts s.
    let st = c.args.self.now in
    let t : truth_in (plain c.args.operand) ≡ Some c.in-Some.truth = ap (λ (v : JxValue). truth_in (plain v)) (sym c.value.ensures) ∙ sym c.truth_in.ensures ∙ c.in-Some.is in
    let f : Bool → Outcome Value = λ (b : Bool). Ok (truth b, st.count) in
    ap (unwound ts s st.local.items (reverse st.frames.items))
    (ap (λ (v : Value). Ok (v, st.count)) (ap plain c.own.ensures ∙ plain-truth c.in-Some.truth) ∙ sym (with-truth c.args.place (plain c.args.operand) c.in-Some.truth f t))

pub returns-clause-kept : goal.returns-clause-kept
unfolding after
returns-clause-kept c = λ ts s.
    let st = c.args.self.now in
    let t : truth_in (plain c.args.operand) ≡ None = ap (λ (v : JxValue). truth_in (plain v)) (sym c.value.ensures) ∙ sym c.truth_in.ensures ∙ c.in-None.is in
    let f : Bool → Outcome Value = λ (b : Bool). Ok (truth b, st.count) in
    ap (unwound ts s st.local.items (reverse st.frames.items)) (with-no_truth c.args.place (plain c.args.operand) f t)
    ∙ failed ts s st.local.items (reverse st.frames.items) (WrongKind c.args.place)
