use Rattle.std.proofs.Common.{◌≡◌, suc, ◌∷◌, List, reverse, refl, ap, ◌∙◌, arith}
use Rattle.jx_syntax.specs.declared.node.Node.{Node}
use Rattle.jx_syntax.specs.declared.pending.Pending.{Pending}
use Rattle.jx_syntax.specs.declared.pending.Pending.TheVariants as pending
use Rattle.jx_syntax.specs.Grammar as jx
use Rattle.jx_syntax.specs.Reading as read
use Rattle.jx_syntax.specs.Reading.{Frame, Part}
use Rattle.jx_syntax.specs.Tree as tree
use Rattle.jx_syntax.specs.Shown.{AreItems, IsItem}
use Rattle.jx_syntax.proofs.Nodes.{items_push}
use Rattle.jx_syntax.proofs.Steps.{on_top, IsTop, is_top, to_go}
use Rattle.jx_syntax.proofs.pending.Reader.end_list.Goals as goal

pub returns-in-Listed : goal.returns-in-Listed
returns-in-Listed c = record {
  shown = λ fs x n h deep l.
      let ns : List Node = c.args.self.now.nodes.items in
      let qs : List Pending = reverse c.pop.new.self.items in
      let q : Pending = (pending.Listed c.in-Listed.at c.in-Listed.items c.in-Listed.part) in
      let t : IsTop ns q qs fs = is_top ns q qs fs (on_top ns c.args.self.now.stack.items c.pop.new.self.items c.in-Some.top q fs c.in-Some.ensures.items c.in-Listed.is h) in
      let at = c.in-Listed.at in
      let js : jx.Items = t.is.0 in
      let r : Part = t.is.1 in
      let e : fs ≡ read.listed at js r ∷ t.below = t.same ∙ ap (λ (f : Frame). f ∷ t.below) t.is.2 in
      let d : read.depth fs ≡ suc (read.depth t.below) = ap read.depth e in
      let j : jx.Item = read.completed r x in
      let y : jx.Derivation = jx.list_last at js j c.args.place in
      let one : IsItem ns c.in_ok-completed-in-Listed.field-0 j = c.in_ok-completed-in-Listed.ensures.shown ns r x t.is.4 l.node in
      let pushed : AreItems ns c.push_row.new.rows (jx.item js j 0) = rw c.in_ok-push_row-in-Listed.ensures.ok (items_push ns c.in-Listed.items js c.in_ok-completed-in-Listed.field-0 j 0 t.is.3 one) in
      to_go c.done.new.self c.done.result 128 n c.args.place (read.ends_list c.args.place (fs, x)) (read.has t.below y) (ap (λ (gs : List Frame). read.ends_list c.args.place (gs, x)) e)
      (c.done.ensures.shown t.below y t.rest (omega (arith, c.saturating_sub-self.ensures, deep, d)) pushed.within (ap (tree.list at) (pushed.shows tree.no_entries)) (λ gs from. refl));
}
