use Rattle.std.proofs.Common.{ℕ, List, [], Ok, ap, sym, subst, ◌∙◌, rules, w64, to_z-of_z}
use mir.Val.{SFits}
use Rattle.jx_syntax.specs.declared.node.Item.{Item}
use Rattle.jx_syntax.specs.declared.node.Field.{Field}
use Rattle.jx_meaning.specs.Meaning.{Outcome, evaluate}
use Rattle.jx_meaning.specs.Scopes.{names_of}
use Rattle.jx_meaning.specs.Values.{Value, null, truth, number, text, plain}
use Rattle.jx_values.proofs.Plain.{plain-null, plain-truth, plain-number, plain-text}
use Rattle.jx_eval.specs.Machine.{Keeps, bound_on, whole, after, called, finished, filled}
use Rattle.jx_eval.proofs.Steps.{begin-is, entered}
use Rattle.jx_eval.proofs.state.State.enter.Goals as goal

pub returns-in-Null-clause-kept : goal.returns-in-Null-clause-kept
unfolding evaluate
returns-in-Null-clause-kept c = λ ts n lt e.
    let st = c.args.self.now in
    rw c.in-Null.is (ap (whole ts (names_of c.args.scope.now) st) (ap (λ (v : Value). Ok (v, st.count)) (ap plain c.own.ensures ∙ plain-null) ∙ sym (begin-is c.args.node.now.place n st.count (λ k. Ok (null, k)) lt e)))

pub returns-in-Truth-clause-kept : goal.returns-in-Truth-clause-kept
unfolding evaluate
returns-in-Truth-clause-kept c = λ ts n lt e.
    let st = c.args.self.now in
    let t = c.in-Truth.t in
    rw c.in-Truth.is (ap (whole ts (names_of c.args.scope.now) st) (ap (λ (v : Value). Ok (v, st.count)) (ap plain c.own-in-Truth.ensures ∙ plain-truth t) ∙ sym (begin-is c.args.node.now.place n st.count (λ k. Ok (truth t, k)) lt e)))

pub returns-in-Number-clause-kept : goal.returns-in-Number-clause-kept
unfolding evaluate
returns-in-Number-clause-kept c = λ ts n lt e.
    let st = c.args.self.now in
    let z = c.in-Number.z in
    let f : SFits w64 z = search rules in
    let own = simp to_z-of_z at c.own-in-Number.ensures in
    rw c.in-Number.is (ap (whole ts (names_of c.args.scope.now) st) (ap (λ (v : Value). Ok (v, st.count)) (ap plain own ∙ plain-number z) ∙ sym (begin-is c.args.node.now.place n st.count (λ k. Ok (number z, k)) lt e)))

pub returns-in_ok-copy-in-Text-clause-kept : goal.returns-in_ok-copy-in-Text-clause-kept
unfolding evaluate
returns-in_ok-copy-in-Text-clause-kept c = λ ts n lt e.
    let st = c.args.self.now in
    let t = c.in-Text.t in
    rw c.in-Text.is (ap (whole ts (names_of c.args.scope.now) st) (ap (λ (v : Value). Ok (v, st.count)) (ap plain c.own-in-Text.ensures ∙ plain-text c.in_ok-copy-in-Text.copy ∙ ap text c.in_ok-copy-in-Text.ensures)
    ∙ sym (begin-is c.args.node.now.place n st.count (λ k. Ok (text t, k)) lt e)))

pub returns-in-Name-clause-kept : goal.returns-in-Name-clause-kept
unfolding evaluate
returns-in-Name-clause-kept c = λ ts n lt e.
    let st = c.args.self.now in
    rw c.in-Name.is (entered ts (names_of c.args.scope.now) st st c.name.result c.args.node.now.place n _ lt e (c.name.ensures.kept ts))

pub returns-in-Call-clause-kept : goal.returns-in-Call-clause-kept
unfolding evaluate
returns-in-Call-clause-kept c = λ ts n lt e.
    let st = c.args.self.now in
    let s = names_of c.args.scope.now in
    let b = bound_on st.local.items s in
    rw c.in-Call.is (entered ts s st c.next_argument.new.self c.next_argument.result c.args.node.now.place n _ lt e
    (subst (λ (o : Outcome Value). Keeps ts s c.next_argument.new.self c.next_argument.result o)
    (ap (λ (is : List ℕ). whole ts s st (called ts b c.args.node.now.place c.in-Call.name is [] st.count)) c.as_slice.ensures)
    (rw c.new.ensures.items at (c.next_argument.ensures.kept ts))))

pub returns-in-List-clause-kept : goal.returns-in-List-clause-kept
unfolding evaluate
returns-in-List-clause-kept c = λ ts n lt e.
    let st = c.args.self.now in
    let s = names_of c.args.scope.now in
    let b = bound_on st.local.items s in
    rw c.in-List.is (entered ts s st c.next_item.new.self c.next_item.result c.args.node.now.place n _ lt e
    (subst (λ (o : Outcome Value). Keeps ts s c.next_item.new.self c.next_item.result o)
    (ap (λ (is : List Item). whole ts s st (finished ts b c.args.node.now.place is [] st.count)) c.as_slice-in-List.ensures)
    (rw c.new-in-List.ensures at (c.next_item.ensures.kept ts s))))

pub returns-in-Object-clause-kept : goal.returns-in-Object-clause-kept
unfolding evaluate
returns-in-Object-clause-kept c = λ ts n lt e.
    let st = c.args.self.now in
    let s = names_of c.args.scope.now in
    let b = bound_on st.local.items s in
    rw c.in-Object.is (entered ts s st c.next_field.new.self c.next_field.result c.args.node.now.place n _ lt e
    (subst (λ (o : Outcome Value). Keeps ts s c.next_field.new.self c.next_field.result o)
    (ap (λ (fs : List Field). whole ts s st (filled ts b c.args.node.now.place fs [] st.count)) c.as_slice-in-Object.ensures)
    (rw c.new-in-Object.ensures at (c.next_field.ensures.kept ts s))))

pub returns-in-Index-clause-kept : goal.returns-in-Index-clause-kept
unfolding evaluate after
returns-in-Index-clause-kept c = λ ts n lt e.
    let st = c.args.self.now in
    let s = names_of c.args.scope.now in
    rw c.in-Index.is (entered ts s st c.wait.new.self c.wait.result c.args.node.now.place n _ lt e (c.wait.ensures.kept ts s))

pub returns-in-Slice-clause-kept : goal.returns-in-Slice-clause-kept
unfolding evaluate after
returns-in-Slice-clause-kept c = λ ts n lt e.
    let st = c.args.self.now in
    let s = names_of c.args.scope.now in
    rw c.in-Slice.is (entered ts s st c.wait-in-Slice.new.self c.wait-in-Slice.result c.args.node.now.place n _ lt e (c.wait-in-Slice.ensures.kept ts s))

pub returns-in-Signed-clause-kept : goal.returns-in-Signed-clause-kept
unfolding evaluate after
returns-in-Signed-clause-kept c = λ ts n lt e.
    let st = c.args.self.now in
    let s = names_of c.args.scope.now in
    rw c.in-Signed.is (entered ts s st c.wait-in-Signed.new.self c.wait-in-Signed.result c.args.node.now.place n _ lt e (c.wait-in-Signed.ensures.kept ts s))

pub returns-in-Operation-clause-kept : goal.returns-in-Operation-clause-kept
unfolding evaluate after
returns-in-Operation-clause-kept c = λ ts n lt e.
    let st = c.args.self.now in
    let s = names_of c.args.scope.now in
    rw c.in-Operation.is (entered ts s st c.wait-in-Operation.new.self c.wait-in-Operation.result c.args.node.now.place n _ lt e (c.wait-in-Operation.ensures.kept ts s))
