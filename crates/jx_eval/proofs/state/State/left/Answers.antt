use Rattle.std.proofs.Common.{◌≡◌, reverse, Some, None, Ok, ap, sym, subst, ◌∙◌}
use Rattle.jx_syntax.specs.declared.value.JxValue.{JxValue}
use Rattle.jx_syntax.specs.Tree.{node_at}
use Rattle.jx_meaning.specs.declared.fault.EvalFault.TheVariants.{WrongKind}
use Rattle.jx_meaning.specs.Meaning.{Outcome, decides, evaluate}
use Rattle.jx_meaning.specs.Values.{Value, plain}
use Rattle.jx_values.specs.Kinds.{truth_in}
use Rattle.jx_values.proofs.Plain.{plain-truth}
use Rattle.jx_eval.specs.Machine.{Keeps, bound_on, after, unwound}
use Rattle.jx_eval.proofs.Steps.{decided, undecided, undecidable, failed}
use Rattle.jx_eval.proofs.state.State.left.Goals as goal

pub returns-then-truth-decisive-clause-kept : goal.returns-then-truth-decisive-clause-kept
unfolding after
returns-then-truth-decisive-clause-kept c = λ ts s.
    let st = c.args.self.now in
    let d : decides c.args.o ≡ Some c.in-Some.decisive = sym c.deciding.ensures ∙ c.in-Some.is in
    let t : truth_in (plain c.args.operand) ≡ Some c.in-Some-truth_in.truth = ap (λ (v : JxValue). truth_in (plain v)) (sym c.value.ensures) ∙ sym c.truth_in.ensures ∙ c.in-Some-truth_in.is in
    ap (unwound ts s st.local.items (reverse st.frames.items))
    (ap (λ (v : Value). Ok (v, st.count)) (ap plain c.own.ensures ∙ plain-truth c.in-Some-truth_in.truth)
    ∙ decided c.args.o (decides c.args.o) c.args.place (plain c.args.operand) c.in-Some-truth_in.truth c.in-Some.decisive (evaluate (node_at ts c.args.right) (bound_on st.local.items s)) st.count d t c.if-truth-decisive.true)

pub returns-in-Some-truth_in-clause-kept : goal.returns-in-Some-truth_in-clause-kept
unfolding after
returns-in-Some-truth_in-clause-kept c = λ ts s.
    let st = c.args.self.now in
    let d : decides c.args.o ≡ Some c.in-Some.decisive = sym c.deciding.ensures ∙ c.in-Some.is in
    let t : truth_in (plain c.args.operand) ≡ Some c.in-Some-truth_in.truth = ap (λ (v : JxValue). truth_in (plain v)) (sym c.value.ensures) ∙ sym c.truth_in.ensures ∙ c.in-Some-truth_in.is in
    subst (λ (o : Outcome Value). Keeps ts s c.wait.new.self c.wait.result (unwound ts s st.local.items (reverse st.frames.items) o))
    (undecided c.args.o (decides c.args.o) c.args.place (plain c.args.operand) c.in-Some-truth_in.truth c.in-Some.decisive (evaluate (node_at ts c.args.right) (bound_on st.local.items s)) st.count d t c.if-truth-decisive.false)
    (c.wait.ensures.kept ts s)

pub returns-in-Some-clause-kept : goal.returns-in-Some-clause-kept
unfolding after
returns-in-Some-clause-kept c = λ ts s.
    let st = c.args.self.now in
    let d : decides c.args.o ≡ Some c.in-Some.decisive = sym c.deciding.ensures ∙ c.in-Some.is in
    let t : truth_in (plain c.args.operand) ≡ None = ap (λ (v : JxValue). truth_in (plain v)) (sym c.value.ensures) ∙ sym c.truth_in.ensures ∙ c.in-None-truth_in.is in
    ap (unwound ts s st.local.items (reverse st.frames.items)) (undecidable c.args.o (decides c.args.o) c.args.place (plain c.args.operand) c.in-Some.decisive (evaluate (node_at ts c.args.right) (bound_on st.local.items s)) st.count d t)
    ∙ failed ts s st.local.items (reverse st.frames.items) (WrongKind c.args.place)

pub returns-clause-kept : goal.returns-clause-kept
unfolding after
returns-clause-kept c = λ ts s.
    let d : decides c.args.o ≡ None = sym c.deciding.ensures ∙ c.in-None.is in
    rw d (c.wait-in-None.ensures.kept ts s)
