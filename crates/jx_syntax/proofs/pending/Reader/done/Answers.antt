use Rattle.std.proofs.Common.{List, reverse, refl, ◌∙◌}
use Rattle.jx_syntax.specs.declared.node.Node.{Node}
use Rattle.jx_syntax.specs.declared.pending.Pending.{Pending}
use Rattle.jx_syntax.specs.Reading.{has}
use Rattle.jx_syntax.specs.Tree.{tree_of}
use Rattle.jx_syntax.specs.Shown.{Shows, IsLast}
use Rattle.jx_syntax.proofs.Nodes.{shows_more, last_new}
use Rattle.jx_syntax.proofs.pending.Reader.done.Goals as goal

pub returns : goal.returns
returns c = record {
  shown = λ fs d h deep b e no_name.
      let n : Node = record { place = c.args.place; form = c.args.form } in
      let ns : List Node = c.args.self.now.nodes.items in
      let q : List Pending = reverse c.args.self.now.stack.items in
      let shown : Shows c.put.new.self.nodes.items (reverse c.put.new.self.stack.items) fs =
      rw (c.in_ok-index.ensures.nodes, c.in_ok-index.ensures.stack) (shows_more ns n q fs h b) in
      let new : IsLast c.put.new.self.nodes.items c.in_ok-index.index (tree_of d) =
      rw (c.in_ok-index.ensures.nodes, c.in_ok-index.ensures.index) (last_new ns n (tree_of d) e) in
      (has fs d, refl, (fs, d, refl, shown, c.in_ok-index.ensures.depth ∙ deep, new, no_name));
}
