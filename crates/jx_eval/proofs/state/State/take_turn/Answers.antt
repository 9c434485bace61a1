use Rattle.std.proofs.Common.{◌≡◌, List, map, length, reverse, Ok, refl, subst, arith}
use Rattle.jx_syntax.specs.Tree.{node_at}
use Rattle.jx_meaning.specs.Meaning.{Scope, Outcome, and_then, with_truth, chosen, evaluate, evaluate_test}
use Rattle.jx_meaning.specs.Values.{Value, plain}
use Rattle.jx_eval.specs.Operands.{seen_value}
use Rattle.jx_eval.specs.Machine.{Keeps, within, after}
use Rattle.jx_eval.proofs.Loops.{turn-starts}
use Rattle.jx_eval.proofs.state.State.take_turn.Goals as goal

pub returns-in-Some-clause-kept : goal.returns-in-Some-clause-kept
unfolding after evaluate_test
returns-in-Some-clause-kept c = λ ts s.
    let st = c.args.self.now in
    let m = c.args.making in
    let t = c.args.turn in
    let k = c.in-Some.condition in
    let done : List Value = map plain m.done in
    let v : Value = plain (seen_value c.args.value) in
    let d : c.len.result ≡ length st.local.items = omega (arith, c.len.ensures, st.local.ok.0) in
    let f : Scope → Outcome (List Value) = λ (i : Scope). and_then (evaluate (node_at ts k.test) i st.count) (λ w n. with_truth k.place w (λ h. chosen h (within ts i m.place m.body t.inner.now done) (λ n. Ok (done, n)) n)) in
    subst (λ (o : Outcome Value). Keeps ts s c.wait.new.self c.wait.result o)
    (turn-starts ts s (reverse st.frames.items) st.local.items c.push.new.self.items _ m.place m.body m.depth c.len.result m.rest.now m.loops.items c.push-2.new.self.items t done st.count
    c.in_ok-push.ensures.items c.in_ok-push-2.ensures.items d refl f (rw c.in-Some.is refl))
    (c.wait.ensures.kept ts s)

pub returns-in-None-clause-kept : goal.returns-in-None-clause-kept
unfolding evaluate_test
returns-in-None-clause-kept c = λ ts s.
    let st = c.args.self.now in
    let m = c.args.making in
    let t = c.args.turn in
    let done : List Value = map plain m.done in
    let d : c.len.result ≡ length st.local.items = omega (arith, c.len.ensures, st.local.ok.0) in
    let f : Scope → Outcome (List Value) = λ (i : Scope). within ts i m.place m.body t.inner.now done st.count in
    subst (λ (o : Outcome Value). Keeps ts s c.enter_loops.new.self c.enter_loops.result o)
    (turn-starts ts s (reverse st.frames.items) st.local.items c.push.new.self.items _ m.place m.body m.depth c.len.result m.rest.now m.loops.items c.push-2.new.self.items t done st.count
    c.in_ok-push.ensures.items c.in_ok-push-2.ensures.items d refl f (rw c.in-None.is refl))
    (c.enter_loops.ensures.kept ts s)
