use Rattle.std.proofs.Common.{◌≡◌, ◌<◌, List, length, Option, Some, None, subst, sym, ap, ◌∙◌}
use Rattle.jx_syntax.specs.declared.node.Field.{Field}
use Rattle.jx_syntax.specs.declared.node.Node.{Node}
use Rattle.jx_syntax.specs.Tree.{Fields}
use Rattle.jx_flow.specs.Flow.{literal}
use Rattle.jx_flow.specs.Nodes.{tree_at, said, AreWithin}
use Rattle.jx_flow.proofs.Trees.{literal_found, literal_within, no_literal}
use Rattle.jx_flow.proofs.literals.literal_at.Goals as goal

pub returns-in-Object-clause-fields : goal.returns-in-Object-clause-fields
returns-in-Object-clause-fields c =
    let n : Node = c.index-nodes-node.result in
    let seen : List Node = c.nodes.result.now in
    let fs : List Field = c.in-Object.fields in
    let same : seen ≡ c.args.expr.now = c.nodes.ensures.nodes in
    let Small : List Node → Type 0 = λ (l : List Node). c.args.node < length l in
    let Holds : List Node → Type 0 = λ (l : List Node). Some (said l c.as_slice.result.now) ≡ literal (tree_at l c.args.node) in
    subst Holds same (ap (λ (l : List Field). Some (said seen l)) c.as_slice.ensures
    ∙ literal_found seen c.args.node n fs c.nodes.ensures.ordered (subst Small (sym same) c.requires) c.index-nodes-node.is (ap (λ (x : Node). x.form) c.index-nodes-node.is ∙ c.in-Object.is))

pub returns-in-Object-clause-within : goal.returns-in-Object-clause-within
returns-in-Object-clause-within c =
    let n : Node = c.index-nodes-node.result in
    let seen : List Node = c.nodes.result.now in
    let fs : List Field = c.in-Object.fields in
    let same : seen ≡ c.args.expr.now = c.nodes.ensures.nodes in
    let Small : List Node → Type 0 = λ (l : List Node). c.args.node < length l in
    let Holds : List Node → Type 0 = λ (l : List Node). AreWithin (length l) c.as_slice.result.now in
    let Among : List Field → Type 0 = λ (l : List Field). AreWithin (length seen) l in
    subst Holds same (subst Among (sym c.as_slice.ensures)
    (literal_within seen c.args.node n fs c.nodes.ensures.ordered (subst Small (sym same) c.requires) c.index-nodes-node.is (ap (λ (x : Node). x.form) c.index-nodes-node.is ∙ c.in-Object.is)))

pub returns-in_default-clause-fields : goal.returns-in_default-clause-fields
returns-in_default-clause-fields c =
    let n : Node = c.index-nodes-node.result in
    let seen : List Node = c.nodes.result.now in
    let same : seen ≡ c.args.expr.now = c.nodes.ensures.nodes in
    let Small : List Node → Type 0 = λ (l : List Node). c.args.node < length l in
    let Holds : List Node → Type 0 = λ (l : List Node). (let o : Option Fields = None in o) ≡ literal (tree_at l c.args.node) in
    subst Holds same (no_literal seen c.args.node n (subst Small (sym same) c.requires) c.index-nodes-node.is
    (λ (fs : List Field) e. c.in_default.not-Object fs (sym (ap (λ (x : Node). x.form) c.index-nodes-node.is) ∙ e)))
