use Rattle.std.proofs.Common.{ℕ, List, map, reverse, Result, Ok, ap, sym, subst, ◌∙◌}
use Rattle.std.proofs.lemmas.Result.{err_from_is_err_and}
use Rattle.jx_syntax.specs.declared.value.JxValue.{JxValue}
use Rattle.jx_syntax.specs.Tree.{fields_at, no_fields}
use Rattle.jx_meaning.specs.declared.fault.EvalFault.{EvalFault}
use Rattle.jx_meaning.specs.Lists.{with_key}
use Rattle.jx_meaning.specs.Meaning.{Outcome, and_then, with_count, evaluate_fields}
use Rattle.jx_meaning.specs.Values.{Value, Entry, object, pairs, plain}
use Rattle.jx_values.specs.Kinds.{plain_pair}
use Rattle.jx_eval.specs.Machine.{Keeps, bound_on, after, unwound}
use Rattle.jx_eval.proofs.Steps.{fails-under, failed}
use Rattle.jx_eval.proofs.state.State.field.Goals as goal

pub returns-in_err-put-clause-kept : goal.returns-in_err-put-clause-kept
unfolding after
returns-in_err-put-clause-kept c = λ ts s.
    let p = err_from_is_err_and c.from_residual-in_err-put.result c.from_residual-in_err-put.ensures.1 in
    let st = c.args.self.now in
    let b = c.args.object in
    let g : Result (List Entry) EvalFault → Outcome Value = λ (r : Result (List Entry) EvalFault). unwound ts s st.local.items (reverse st.frames.items)
    (and_then (and_then (with_count st.count r) (λ done n. evaluate_fields b.place (fields_at ts b.rest.now no_fields) done (bound_on st.local.items s) n)) (λ es n. Ok (object (pairs es), n))) in
    let f = fails-under c.in_err-put.field-0.0 (with_key b.place c.in_ok-key.key (plain c.in_ok-value.value) (map plain_pair b.done)) g (λ e. failed ts s st.local.items (reverse st.frames.items) e) c.in_err-put.ensures in
    rw (p.1, p.2, ← c.in_ok-key.ensures, ← c.in_ok-value.ensures) f

pub returns-clause-kept : goal.returns-clause-kept
unfolding after
returns-clause-kept c = λ ts s.
    let st = c.args.self.now in
    let b = c.args.object in
    subst (λ (o : Outcome Value). Keeps ts s c.next_field.new.self c.next_field.result o)
    (ap (λ (r : Result (List Entry) EvalFault). unwound ts s st.local.items (reverse st.frames.items)
    (and_then (and_then (with_count st.count r) (λ done n. evaluate_fields b.place (fields_at ts b.rest.now no_fields) done (bound_on st.local.items s) n)) (λ es n. Ok (object (pairs es), n))))
    (sym c.in_ok-put.ensures ∙ ap (λ (v : JxValue). with_key b.place c.in_ok-key.key (plain v) (map plain_pair b.done)) c.in_ok-value.ensures
    ∙ ap (λ (k : List ℕ). with_key b.place k (plain c.args.operand) (map plain_pair b.done)) c.in_ok-key.ensures))
    (c.next_field.ensures.kept ts s)
