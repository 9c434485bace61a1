use Rattle.std.proofs.Common.{◌≡◌, [], List, Ok, refl, sym, ap, subst, ◌∙◌, reverse, arith}
use Rattle.std.proofs.lemmas.Result.{err_from_is_err_and}
use Rattle.std.proofs.lemmas.List.{nil_from_length}
use Rattle.jx_syntax.specs.declared.node.Node.{Node}
use Rattle.jx_syntax.specs.Tree.{Tree, node_at}
use Rattle.jx_meaning.specs.Answers.{Fails}
use Rattle.jx_meaning.specs.Meaning.{Scope, Outcome, evaluate}
use Rattle.jx_meaning.specs.Scopes.{names_of}
use Rattle.jx_meaning.specs.Values.{Value, plain}
use Rattle.jx_eval.specs.declared.frame.Frame.{Frame}
use Rattle.jx_eval.specs.Machine.{trees, unwound, bound_on}
use Rattle.jx_eval.proofs.Steps.{taken}
use Rattle.jx_eval.proofs.run.eval_counted.Goals as goal

pub steps-init : goal.steps-init
unfolding unwound bound_on
steps-init c = rw (c.new.ensures.items, c.new-2.ensures.items) refl

pub steps-preserved : goal.steps-preserved
steps-preserved c =
    let st = c.steps.state in
    let ts : List Tree = trees c.nodes-nodes.result.now in
    let s : Scope = names_of c.args.scope.now in
    let so_far = rw c.in-Value.is at c.steps.invariant in
    c.in_ok-step-in-Some.ensures.kept ts
    ∙ sym (taken ts s st.local.items c.pop.new.self.items st.frames.items c.in-Some.frame c.in-Value.operand st.count c.in-Some.ensures.items)
    ∙ so_far

pub returns-in_err-step-in-Some : goal.returns-in_err-step-in-Some
returns-in_err-step-in-Some c =
    let p = err_from_is_err_and c.from_residual-in_err-step-in-Some.result c.from_residual-in_err-step-in-Some.ensures.1 in
    let st = c.steps.state in
    let ts : List Tree = trees c.nodes-nodes.result.now in
    let s : Scope = names_of c.args.scope.now in
    let e = c.in_err-step-in-Some.field-0.0 in
    let so_far = rw c.in-Value.is at c.steps.invariant in
    let same = sym (taken ts s st.local.items c.pop.new.self.items st.frames.items c.in-Some.frame c.in-Value.operand st.count c.in-Some.ensures.items) ∙ so_far
    ∙ ap (λ (ns : List Node). evaluate (node_at (trees ns) c.args.node) s c.args.begun) c.nodes-nodes.ensures.nodes in
    rw (p.1, p.2) (subst (λ (o : Outcome Value). Fails e o) same (c.in_err-step-in-Some.ensures.kept ts))

pub returns-in-None : goal.returns-in-None
unfolding unwound
returns-in-None c =
    let st = c.steps.state in
    let ts : List Tree = trees c.nodes-nodes.result.now in
    let s : Scope = names_of c.args.scope.now in
    let so_far = rw c.in-Value.is at c.steps.invariant in
    let none : st.frames.items ≡ [] = nil_from_length st.frames.items (omega (arith, c.in-None.ensures.len, c.in-None.ensures.cases.0, st.frames.ok.0)) in
    let own : plain c.in_ok-value-in-None.value ≡ plain c.in-Value.operand = ap plain c.in_ok-value-in-None.ensures in
    ap (λ (ns : List Node). evaluate (node_at (trees ns) c.args.node) s c.args.begun) (sym c.nodes-nodes.ensures.nodes) ∙ sym so_far
    ∙ ap (λ (fs : List Frame). unwound ts s st.local.items (reverse fs) (Ok (plain c.in-Value.operand, st.count))) none
    ∙ ap (λ (v : Value). Ok (v, st.count)) (sym own)
