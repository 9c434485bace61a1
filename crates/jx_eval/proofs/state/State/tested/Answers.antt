use Rattle.std.proofs.Common.{◌≡◌, Bool, true, false, List, map, reverse, Some, None, Ok, ap, sym, subst, ◌∙◌}
use Rattle.jx_syntax.specs.declared.value.JxValue.{JxValue}
use Rattle.jx_meaning.specs.declared.fault.EvalFault.TheVariants.{WrongKind}
use Rattle.jx_meaning.specs.Meaning.{Outcome, and_then, chosen}
use Rattle.jx_meaning.specs.Values.{Value, plain}
use Rattle.jx_values.specs.Kinds.{truth_in}
use Rattle.jx_eval.specs.Machine.{Keeps, bound_on, within, goes_on, after, unwound, outside_list}
use Rattle.jx_eval.proofs.Steps.{with-truth, with-no_truth, failed}
use Rattle.jx_eval.proofs.state.State.tested.Goals as goal

pub returns-then-holds-clause-kept : goal.returns-then-holds-clause-kept
unfolding after
returns-then-holds-clause-kept c = λ ts s.
    let st = c.args.self.now in
    let m = c.args.making in
    let done : List Value = map plain m.done in
    let f : Bool → Outcome (List Value) = λ (b : Bool). chosen b (within ts (bound_on st.local.items s) m.place m.body c.args.inner.now done) (λ n. Ok (done, n)) st.count in
    let t : truth_in (plain c.args.operand) ≡ Some true = ap (λ (v : JxValue). truth_in (plain v)) (sym c.value.ensures) ∙ sym c.truth_in.ensures ∙ c.in-Some.is ∙ ap (λ (b : Bool). Some b) c.if-holds.true in
    subst (λ (o : Outcome Value). Keeps ts s c.enter_loops.new.self c.enter_loops.result o)
    (ap (λ (o : Outcome (List Value)). unwound ts s (outside_list m st.local.items) (reverse st.frames.items) (and_then o (goes_on ts s st.local.items m))) (sym (with-truth c.args.place (plain c.args.operand) true f t)))
    (c.enter_loops.ensures.kept ts s)

pub returns-in-Some-clause-kept : goal.returns-in-Some-clause-kept
unfolding after
returns-in-Some-clause-kept c = λ ts s.
    let st = c.args.self.now in
    let m = c.args.making in
    let done : List Value = map plain m.done in
    let f : Bool → Outcome (List Value) = λ (b : Bool). chosen b (within ts (bound_on st.local.items s) m.place m.body c.args.inner.now done) (λ n. Ok (done, n)) st.count in
    let t : truth_in (plain c.args.operand) ≡ Some false = ap (λ (v : JxValue). truth_in (plain v)) (sym c.value.ensures) ∙ sym c.truth_in.ensures ∙ c.in-Some.is ∙ ap (λ (b : Bool). Some b) c.if-holds.false in
    subst (λ (o : Outcome Value). Keeps ts s c.next_turn.new.self c.next_turn.result o)
    (ap (λ (o : Outcome (List Value)). unwound ts s (outside_list m st.local.items) (reverse st.frames.items) (and_then o (goes_on ts s st.local.items m))) (sym (with-truth c.args.place (plain c.args.operand) false f t)))
    (c.next_turn.ensures.kept ts s)

pub returns-clause-kept : goal.returns-clause-kept
unfolding after
returns-clause-kept c = λ ts s.
    let st = c.args.self.now in
    let m = c.args.making in
    let done : List Value = map plain m.done in
    let f : Bool → Outcome (List Value) = λ (b : Bool). chosen b (within ts (bound_on st.local.items s) m.place m.body c.args.inner.now done) (λ n. Ok (done, n)) st.count in
    let t : truth_in (plain c.args.operand) ≡ None = ap (λ (v : JxValue). truth_in (plain v)) (sym c.value.ensures) ∙ sym c.truth_in.ensures ∙ c.in-None.is in
    ap (λ (o : Outcome (List Value)). unwound ts s (outside_list m st.local.items) (reverse st.frames.items) (and_then o (goes_on ts s st.local.items m))) (with-no_truth c.args.place (plain c.args.operand) f t)
    ∙ failed ts s (outside_list m st.local.items) (reverse st.frames.items) (WrongKind c.args.place)
