use Rattle.std.proofs.Common.{List, map, reverse, Result, ap, sym, subst, ◌∙◌}
use Rattle.std.proofs.lemmas.Result.{err_from_is_err_and}
use Rattle.jx_syntax.specs.declared.value.JxValue.{JxValue}
use Rattle.jx_meaning.specs.declared.fault.EvalFault.{EvalFault}
use Rattle.jx_meaning.specs.Lists.{with_item}
use Rattle.jx_meaning.specs.Meaning.{Outcome, and_then, with_count}
use Rattle.jx_meaning.specs.Values.{Value, plain}
use Rattle.jx_eval.specs.Machine.{Keeps, goes_on, after, unwound, outside_list}
use Rattle.jx_eval.proofs.Steps.{fails-under, failed}
use Rattle.jx_eval.proofs.state.State.result.Goals as goal

pub returns-in_err-push-clause-kept : goal.returns-in_err-push-clause-kept
unfolding after
returns-in_err-push-clause-kept c = λ ts s.
    let p = err_from_is_err_and c.from_residual-in_err-push.result c.from_residual-in_err-push.ensures.1 in
    let st = c.args.self.now in
    let m = c.args.making in
    let g : Result (List Value) EvalFault → Outcome Value = λ (r : Result (List Value) EvalFault). unwound ts s (outside_list m st.local.items) (reverse st.frames.items) (and_then (with_count st.count r) (goes_on ts s st.local.items m)) in
    let f = fails-under c.in_err-push.field-0.0 (with_item m.place (map plain m.done) (plain c.in_ok-item.item)) g (λ e. failed ts s (outside_list m st.local.items) (reverse st.frames.items) e) c.in_err-push.ensures in
    rw (p.1, p.2, ← c.in_ok-item.ensures) f

pub returns-clause-kept : goal.returns-clause-kept
unfolding after
returns-clause-kept c = λ ts s.
    let st = c.args.self.now in
    let m = c.args.making in
    subst (λ (o : Outcome Value). Keeps ts s c.next_turn.new.self c.next_turn.result o)
    (ap (λ (r : Result (List Value) EvalFault). unwound ts s (outside_list m st.local.items) (reverse st.frames.items) (and_then (with_count st.count r) (goes_on ts s st.local.items m)))
    (sym c.in_ok-push.ensures ∙ ap (λ (v : JxValue). with_item m.place (map plain m.done) (plain v)) c.in_ok-item.ensures))
    (c.next_turn.ensures.kept ts s)
