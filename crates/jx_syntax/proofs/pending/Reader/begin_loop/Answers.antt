use Rattle.std.proofs.Common.{◌≡◌, suc, ◌∷◌, List, reverse, refl, ap, ◌∙◌}
use Rattle.jx_syntax.specs.declared.node.Node.{Node}
use Rattle.jx_syntax.specs.declared.pending.Pending.{Pending}
use Rattle.jx_syntax.specs.declared.pending.Pending.TheVariants as pending
use Rattle.jx_syntax.specs.Grammar as jx
use Rattle.jx_syntax.specs.Reading as read
use Rattle.jx_syntax.specs.Reading.{Frame, Part}
use Rattle.jx_syntax.specs.Shown.{IsItem}
use Rattle.jx_syntax.proofs.Steps.{on_top, IsTop, is_top}
use Rattle.jx_syntax.proofs.pending.Reader.begin_loop.Goals as goal

pub returns-in-Listed : goal.returns-in-Listed
returns-in-Listed c = record {
  shown = λ fs x n h deep l.
      let ns : List Node = c.args.self.now.nodes.items in
      let qs : List Pending = reverse c.pop.new.self.items in
      let q : Pending = (pending.Listed c.in-Listed.at c.in-Listed.items c.in-Listed.part) in
      let t : IsTop ns q qs fs = is_top ns q qs fs (on_top ns c.args.self.now.stack.items c.pop.new.self.items c.in-Some.top q fs c.in-Some.ensures.items c.in-Listed.is h) in
      let at = c.in-Listed.at in
      let js : jx.Items = t.is.0 in
      let r : Part = t.is.1 in
      let e : fs ≡ read.listed at js r ∷ t.below = t.same ∙ ap (λ (f : Frame). f ∷ t.below) t.is.2 in
      let d : read.depth fs ≡ suc (read.depth t.below) = ap read.depth e in
      let j : jx.Item = read.completed r x in
      let one : IsItem ns c.in_ok-item-in-Listed.item j = c.in_ok-item-in-Listed.ensures.shown ns r x t.is.4 l.node in (
        read.wants_name t.below at js j c.args.place,
        ap (λ (gs : List Frame). read.tried 128 n c.args.place (read.loops c.args.place (gs, x))) e,
        (t.below, js, j, refl, t.rest, deep ∙ d, t.is.3, one),
      );
}
