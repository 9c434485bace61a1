use Rattle.std.proofs.Common.{◌≡◌, map, length, reverse, refl, subst, arith}
use Rattle.std.proofs.lemmas.List.{nil_from_length}
use Rattle.jx_meaning.specs.Meaning.{Outcome, evaluate_entries}
use Rattle.jx_meaning.specs.Values.{Value, plain}
use Rattle.jx_eval.specs.Machine.{Keeps}
use Rattle.jx_eval.proofs.Steps.{first-is}
use Rattle.jx_eval.proofs.Loops.{item-starts}
use Rattle.jx_eval.proofs.state.State.next_item.Goals as goal

pub returns-in-empty-clause-kept : goal.returns-in-empty-clause-kept
unfolding evaluate_entries
returns-in-empty-clause-kept c = λ ts s.
    let e = nil_from_length c.args.rest.now (omega arith) in
    rw (e, c.own.ensures, c.into_value.ensures) refl

pub returns-in-len1-up-clause-kept : goal.returns-in-len1-up-clause-kept
returns-in-len1-up-clause-kept c = λ ts s.
    let st = c.args.self.now in
    let i = c.first-item.result in
    let e = first-is c.args.rest.now i i (omega arith) c.first-item.is refl in
    let d : c.len.result ≡ length st.local.items = omega (arith, c.len.ensures, st.local.ok.0) in
    subst (λ (o : Outcome Value). Keeps ts s c.enter_loops.new.self c.enter_loops.result o)
    (item-starts ts s st.local.items (reverse st.frames.items) c.args.place i.body c.len.result _ c.args.rest.now i c.as_slice.result.now c.new.result.items (map plain c.args.done) st.count e refl c.as_slice.ensures c.new.ensures.items d)
    (c.enter_loops.ensures.kept ts s)
