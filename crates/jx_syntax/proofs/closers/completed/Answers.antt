use Rattle.std.proofs.Common.{ℕ, ◌∷◌, ◌++◌, [], List, Some, None, sym, subst}
use Rattle.jx_syntax.specs.declared.node.Item as node
use Rattle.jx_syntax.specs.declared.node.Loop.{Loop}
use Rattle.jx_syntax.specs.declared.node.Node.{Node}
use Rattle.jx_syntax.specs.declared.pending.Part.{Part}
use Rattle.jx_syntax.specs.declared.pending.Part.TheVariants as part
use Rattle.jx_syntax.specs.Grammar.{Derivation}
use Rattle.jx_syntax.specs.Reading as read
use Rattle.jx_syntax.specs.Tree.{tree_of}
use Rattle.jx_syntax.specs.Shown.{IsNode, IsItem, IsPart}
use Rattle.jx_syntax.proofs.Nodes.{each_is, each_if_is}
use Rattle.jx_syntax.proofs.Steps.{if_item}
use Rattle.jx_syntax.proofs.closers.completed.Goals as goal

abbrev Completes : Part → ℕ → node.Item → Type 0
Completes p operand i = (ns : List Node) → (q : read.Part) → (x : Derivation) → IsPart ns p q → IsNode ns operand (tree_of x) → IsItem ns i (read.completed q x)

pub returns-in-Over-clause-shown : goal.returns-in-Over-clause-shown
returns-in-Over-clause-shown c =
    let i = c.in-Over.item in
    let ls : List Loop = i.loops ++ record { place = c.in-Over.place; name = c.in-Over.name; over = c.args.operand; condition = None } ∷ [] in
    let it : node.Item = record { body = i.body; loops = ls } in
    if_item c.looped.result i.body ls (Completes c.args.part c.args.operand) c.looped.ensures.body c.looped.ensures.loops
    (λ ns q x p n.
    let h : IsPart ns (part.Over i c.in-Over.place c.in-Over.name) q = rw c.in-Over.is at p in
    subst (λ (r : read.Part). IsItem ns it (read.completed r x)) (sym h.3) (each_is ns i h.0 c.in-Over.place h.1 c.in-Over.name h.2 c.args.operand x h.4 n))

pub returns-in-Only-clause-shown : goal.returns-in-Only-clause-shown
returns-in-Only-clause-shown c =
    let i = c.in-Only.item in
    let ls : List Loop = i.loops ++ record { place = c.in-Only.place; name = c.in-Only.name; over = c.in-Only.over; condition = Some (record { place = c.in-Only.at; test = c.args.operand }) } ∷ [] in
    let it : node.Item = record { body = i.body; loops = ls } in
    if_item c.looped-in-Only.result i.body ls (Completes c.args.part c.args.operand) c.looped-in-Only.ensures.body c.looped-in-Only.ensures.loops
    (λ ns q x p n.
    let h : IsPart ns (part.Only i c.in-Only.place c.in-Only.name c.in-Only.over c.in-Only.at) q = rw c.in-Only.is at p in
    subst (λ (r : read.Part). IsItem ns it (read.completed r x)) (sym h.4)
    (each_if_is ns i h.0 c.in-Only.place h.1 c.in-Only.name h.2 c.in-Only.over h.3 c.in-Only.at c.args.operand x h.5 h.6 n))
