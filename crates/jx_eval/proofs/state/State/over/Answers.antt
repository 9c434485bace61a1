use Rattle.std.proofs.Common.{◌≡◌, ◌∷◌, List, map, length, reverse, Some, None, Ok, option_map, ap, sym, subst, ◌∙◌, arith}
use Rattle.jx_syntax.specs.Tree.{test_at}
use Rattle.jx_meaning.specs.declared.fault.EvalFault.TheVariants.{WrongKind}
use Rattle.jx_meaning.specs.Meaning.{Outcome, and_then, turns, evaluate_test}
use Rattle.jx_meaning.specs.Values.{Value, plain}
use Rattle.jx_values.specs.Kinds.{items_in}
use Rattle.jx_eval.specs.Machine.{Keeps, bound_on, within, goes_on, after, unwound, outside_list}
use Rattle.jx_eval.proofs.Steps.{with-no_list, failed}
use Rattle.jx_eval.proofs.Loops.{loop-starts}
use Rattle.jx_eval.proofs.state.State.over.Goals as goal

pub returns-in-Some-clause-kept : goal.returns-in-Some-clause-kept
unfolding after
returns-in-Some-clause-kept c = λ ts s.
    let st = c.args.self.now in
    let m = c.args.making in
    let d : c.len.result ≡ length st.local.items = omega (arith, c.len.ensures, st.local.ok.0) in
    let i : items_in (plain c.args.operand) ≡ Some (map plain c.in-Some.left) = sym c.in_ok-left.ensures ∙ ap (option_map (map plain)) c.in-Some.is in
    subst (λ (o : Outcome Value). Keeps ts s c.next_turn.new.self c.next_turn.result o)
    (loop-starts ts s (reverse st.frames.items) st.local.items m.place m.body m.depth c.args.of.now.place m.rest.now m.loops.items c.push.new.self.items _ (plain c.args.operand) (map plain m.done) st.count c.in_ok-push-in-Some.ensures.items d i)
    (c.next_turn.ensures.kept ts s)

pub returns-clause-kept : goal.returns-clause-kept
unfolding after
returns-clause-kept c = λ ts s.
    let st = c.args.self.now in
    let m = c.args.making in
    let l = c.args.of.now in
    let i : items_in (plain c.args.operand) ≡ None = sym c.in_ok-left.ensures ∙ ap (option_map (map plain)) c.in-None.is in
    let f : List Value → Outcome (List Value) = λ (vs : List Value). turns (λ v done n. evaluate_test (test_at ts l.condition) ((l.name, v) ∷ bound_on st.local.items s) n (within ts ((l.name, v) ∷ bound_on st.local.items s) m.place m.body c.args.inner.now done) (λ n. Ok (done, n))) vs (map plain m.done) st.count in
    ap (λ (o : Outcome (List Value)). unwound ts s (outside_list m st.local.items) (reverse st.frames.items) (and_then o (goes_on ts s st.local.items m))) (with-no_list l.place (plain c.args.operand) f i)
    ∙ failed ts s (outside_list m st.local.items) (reverse st.frames.items) (WrongKind l.place)
