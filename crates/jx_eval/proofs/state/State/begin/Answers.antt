use Rattle.std.proofs.Common.{List, reverse, Ok, ap, sym, subst, ◌∙◌}
use Rattle.std.proofs.lemmas.Result.{err_from_is_err_and}
use Rattle.jx_syntax.specs.Tree.{Tree, form_tree}
use Rattle.jx_meaning.specs.declared.fault.EvalFault.TheVariants.{TooMuch}
use Rattle.jx_meaning.specs.Meaning.{Outcome, evaluate}
use Rattle.jx_meaning.specs.Scopes.{names_of}
use Rattle.jx_meaning.specs.Values.{Value, null, plain}
use Rattle.jx_values.proofs.Plain.{plain-null}
use Rattle.jx_eval.specs.declared.state.State.{State}
use Rattle.jx_eval.specs.Machine.{Keeps, trees, bound_on, unwound, whole}
use Rattle.jx_eval.proofs.Steps.{begin-is, begin-past, past, failed}
use Rattle.jx_eval.proofs.Trees.{tree-at, tree-past}
use Rattle.jx_eval.proofs.state.State.begin.Goals as goal

pub returns-in_err-spend-clause-kept : goal.returns-in_err-spend-clause-kept
returns-in_err-spend-clause-kept c = λ o.
    let p = err_from_is_err_and c.from_residual.result c.from_residual.ensures.1 in
    let st = c.args.self.now in
    let ts : List Tree = trees c.args.nodes.now in
    let s = names_of c.args.scope.now in
    let n = c.index-nodes-index.result in
    let full = c.in_err-spend.ensures.cases in
    rw (p.1, p.2, full.1) (ap (unwound ts s st.local.items (reverse st.frames.items))
    (ap (λ (t : Tree). evaluate t (bound_on st.local.items s) st.count) (tree-at c.args.nodes.now c.args.index n o c.if-index-nodes.true c.index-nodes-index.is) ∙ past ts n.place n.form (bound_on st.local.items s) st.count full.0)
    ∙ failed ts s st.local.items (reverse st.frames.items) (TooMuch n.place))

pub returns-in_err-spend-2-clause-kept : goal.returns-in_err-spend-2-clause-kept
unfolding evaluate
returns-in_err-spend-2-clause-kept c = λ o.
    let p = err_from_is_err_and c.from_residual-in_err-spend-2.result c.from_residual-in_err-spend-2.ensures.1 in
    let st = c.args.self.now in
    let ts : List Tree = trees c.args.nodes.now in
    let s = names_of c.args.scope.now in
    let full = c.in_err-spend-2.ensures.cases in
    rw (p.1, p.2, full.1) (ap (unwound ts s st.local.items (reverse st.frames.items))
    (ap (λ (t : Tree). evaluate t (bound_on st.local.items s) st.count) (tree-past c.args.nodes.now c.args.index c.if-index-nodes.false) ∙ begin-past 0 st.count (λ k. Ok (null, k)) full.0)
    ∙ failed ts s st.local.items (reverse st.frames.items) (TooMuch 0))

pub returns-in_ok-spend-clause-kept : goal.returns-in_ok-spend-clause-kept
returns-in_ok-spend-clause-kept c = λ o.
    let st = c.args.self.now in
    let ts : List Tree = trees c.args.nodes.now in
    let s = names_of c.args.scope.now in
    let n = c.index-nodes-index.result in
    let spent = c.in_ok-spend.ensures.cases in
    subst (λ (x : Outcome Value). Keeps ts s c.enter.new.self c.enter.result x)
    (ap (λ (u : State). whole ts s u (evaluate (form_tree ts n.place n.form) (bound_on u.local.items s) st.count)) c.in_ok-spend.ensures.state
    ∙ ap (λ (t : Tree). unwound ts s st.local.items (reverse st.frames.items) (evaluate t (bound_on st.local.items s) st.count)) (sym (tree-at c.args.nodes.now c.args.index n o c.if-index-nodes.true c.index-nodes-index.is)))
    (c.enter.ensures.kept ts st.count spent.0 spent.1)

pub returns-in_ok-spend-2-clause-kept : goal.returns-in_ok-spend-2-clause-kept
unfolding evaluate
returns-in_ok-spend-2-clause-kept c = λ o.
    let st = c.args.self.now in
    let ts : List Tree = trees c.args.nodes.now in
    let s = names_of c.args.scope.now in
    let m = c.spend-else-index-nodes.new.self.count in
    let spent = c.in_ok-spend-2.ensures.cases in
    ap (λ (u : State). whole ts s u (Ok (plain c.own.result, m))) c.in_ok-spend-2.ensures.state
    ∙ ap (unwound ts s st.local.items (reverse st.frames.items)) (ap (λ (v : Value). Ok (v, m)) (ap plain c.own.ensures ∙ plain-null)
    ∙ sym (begin-is 0 st.count m (λ k. Ok (null, k)) spent.0 spent.1)
    ∙ ap (λ (t : Tree). evaluate t (bound_on st.local.items s) st.count) (sym (tree-past c.args.nodes.now c.args.index c.if-index-nodes.false)))
