use Rattle.std.proofs.Common.{◌≡◌, suc, ◌∷◌, List, reverse, refl, ap, ◌∙◌, arith}
use Rattle.jx_syntax.specs.declared.node.Node.{Node}
use Rattle.jx_syntax.specs.declared.pending.Pending.{Pending}
use Rattle.jx_syntax.specs.declared.pending.Pending.TheVariants as pending
use Rattle.jx_syntax.specs.Grammar as jx
use Rattle.jx_syntax.specs.Reading as read
use Rattle.jx_syntax.specs.Reading.{Frame, Part}
use Rattle.jx_syntax.specs.Tree as tree
use Rattle.jx_syntax.specs.Shown.{AreArguments}
use Rattle.jx_syntax.proofs.Nodes.{arguments_push}
use Rattle.jx_syntax.proofs.Steps.{on_top, IsTop, is_top, to_go}
use Rattle.jx_syntax.proofs.pending.Reader.end_group.Goals as goal

pub returns-in-Grouped : goal.returns-in-Grouped
returns-in-Grouped c = record {
  shown = λ fs x n h deep l.
      let ns : List Node = c.args.self.now.nodes.items in
      let qs : List Pending = reverse c.pop.new.self.items in
      let q : Pending = pending.Grouped in
      let t : IsTop ns q qs fs = is_top ns q qs fs (on_top ns c.args.self.now.stack.items c.pop.new.self.items c.in-Some.top q fs c.in-Some.ensures.items c.in-Grouped.is h) in
      let e : fs ≡ read.grouped t.is.0 ∷ t.below = t.same ∙ ap (λ (f : Frame). f ∷ t.below) t.is.1 in
      let d : read.depth fs ≡ suc (read.depth t.below) = ap read.depth e in
      let y : jx.Derivation = jx.group t.is.0 x c.args.place in (
        read.has t.below y,
        ap (λ (gs : List Frame). read.tried 128 n c.args.place (read.ends_group c.args.place (gs, x))) e,
        (t.below, y, refl, t.rest, omega (arith, c.saturating_sub-self.ensures, deep, d), l, λ gs from. refl),
      );
}

pub returns-in-Argued : goal.returns-in-Argued
returns-in-Argued c = record {
  shown = λ fs x n h deep l.
      let ns : List Node = c.args.self.now.nodes.items in
      let qs : List Pending = reverse c.pop.new.self.items in
      let q : Pending = (pending.Argued c.in-Argued.at c.in-Argued.name c.in-Argued.arguments) in
      let t : IsTop ns q qs fs = is_top ns q qs fs (on_top ns c.args.self.now.stack.items c.pop.new.self.items c.in-Some.top q fs c.in-Some.ensures.items c.in-Argued.is h) in
      let at = c.in-Argued.at in
      let nm = c.in-Argued.name in
      let e : fs ≡ read.argued at nm t.is.0 t.is.1 ∷ t.below = t.same ∙ ap (λ (f : Frame). f ∷ t.below) t.is.2 in
      let d : read.depth fs ≡ suc (read.depth t.below) = ap read.depth e in
      let y : jx.Derivation = jx.call at nm t.is.0 t.is.1 x c.args.place in
      let pushed : AreArguments ns c.push_row.new.rows (jx.argument t.is.1 x 0) = rw c.in_ok-push_row-in-Argued.ensures.ok (arguments_push ns c.in-Argued.arguments t.is.1 c.args.operand x 0 t.is.3 l.node) in
      to_go c.done.new.self c.done.result 128 n c.args.place (read.ends_group c.args.place (fs, x)) (read.has t.below y) (ap (λ (gs : List Frame). read.ends_group c.args.place (gs, x)) e)
      (c.done.ensures.shown t.below y t.rest (omega (arith, c.saturating_sub-self.ensures, deep, d)) pushed.within (ap (tree.call at nm) (pushed.shows tree.no_trees)) (λ gs from. refl));
}
