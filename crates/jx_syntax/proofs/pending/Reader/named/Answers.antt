use Rattle.std.proofs.Common.{List, reverse, refl, sym, subst, ◌∙◌}
use Rattle.jx_syntax.specs.declared.node.Form.TheVariants as form
use Rattle.jx_syntax.specs.declared.node.Node.{Node}
use Rattle.jx_syntax.specs.Grammar.{name}
use Rattle.jx_syntax.specs.Reading.{State, step}
use Rattle.jx_syntax.specs.Tree as tree
use Rattle.jx_syntax.specs.Shown.{Shows, IsLast, Steps}
use Rattle.jx_syntax.proofs.Nodes.{shows_more, last_new}
use Rattle.jx_syntax.proofs.pending.Reader.named.Goals as goal

pub returns-in_ok-operand-in_default : goal.returns-in_ok-operand-in_default
returns-in_ok-operand-in_default c = record {
  shown = λ st h.
      let at = c.args.at in
      let nm = c.args.name in
      let n : Node = record { place = at; form = form.Name nm } in
      let ns : List Node = c.args.self.now.nodes.items in
      let q = reverse c.args.self.now.stack.items in
      let shown : Shows c.put.new.self.nodes.items (reverse c.put.new.self.stack.items) h.0 =
      rw (c.in_ok-operand-in_default.ensures.nodes, c.in_ok-operand-in_default.ensures.stack) (shows_more ns n q h.0 h.2 tt) in
      let last : IsLast c.put.new.self.nodes.items c.in_ok-operand-in_default.operand (tree.name at nm) =
      rw (c.in_ok-operand-in_default.ensures.nodes, c.in_ok-operand-in_default.ensures.index) (last_new ns n (tree.name at nm) refl) in
      subst (λ (s : State). Steps c.behind.new.self c.behind.result (step 128 s (record { place = c.args.place; kind = c.args.kind }))) (sym h.1)
      (c.behind.ensures.shown h.0 (name at nm) shown (c.in_ok-operand-in_default.ensures.depth ∙ h.3) last (λ e. absurd (c.in_default.not-OpenGroup e)));
}
