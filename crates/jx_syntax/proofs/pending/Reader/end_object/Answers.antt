use Rattle.std.proofs.Common.{◌≡◌, suc, ◌∷◌, List, reverse, refl, ap, ◌∙◌, arith}
use Rattle.jx_syntax.specs.declared.node.Node.{Node}
use Rattle.jx_syntax.specs.declared.pending.Pending.{Pending}
use Rattle.jx_syntax.specs.declared.pending.Pending.TheVariants as pending
use Rattle.jx_syntax.specs.Grammar as jx
use Rattle.jx_syntax.specs.Reading as read
use Rattle.jx_syntax.specs.Reading.{Frame, Part}
use Rattle.jx_syntax.specs.Tree as tree
use Rattle.jx_syntax.specs.Shown.{AreFields}
use Rattle.jx_syntax.proofs.Nodes.{fields_push}
use Rattle.jx_syntax.proofs.Steps.{on_top, IsTop, is_top, to_go}
use Rattle.jx_syntax.proofs.pending.Reader.end_object.Goals as goal

pub returns-in-Keyed : goal.returns-in-Keyed
returns-in-Keyed c = record {
  shown = λ fs x n h deep l.
      let ns : List Node = c.args.self.now.nodes.items in
      let qs : List Pending = reverse c.pop.new.self.items in
      let q : Pending = (pending.Keyed c.in-Keyed.at c.in-Keyed.fields c.in-Keyed.key) in
      let t : IsTop ns q qs fs = is_top ns q qs fs (on_top ns c.args.self.now.stack.items c.pop.new.self.items c.in-Some.top q fs c.in-Some.ensures.items c.in-Keyed.is h) in
      let at = c.in-Keyed.at in
      let key = c.in-Keyed.key in
      let ps : jx.Pairs = t.is.0 in
      let e : fs ≡ read.keyed at ps t.is.1 key t.is.2 ∷ t.below = t.same ∙ ap (λ (f : Frame). f ∷ t.below) t.is.3 in
      let d : read.depth fs ≡ suc (read.depth t.below) = ap read.depth e in
      let y : jx.Derivation = jx.object_last at ps t.is.1 key t.is.2 x c.args.place in
      let pushed : AreFields ns c.push_row.new.rows (jx.pair ps t.is.1 key t.is.2 x 0) = rw c.in_ok-push_row-in-Keyed.ensures.ok (fields_push ns c.in-Keyed.fields ps t.is.1 key t.is.2 c.args.operand x 0 t.is.4 l.node) in
      to_go c.done.new.self c.done.result 128 n c.args.place (read.ends_object c.args.place (fs, x)) (read.has t.below y) (ap (λ (gs : List Frame). read.ends_object c.args.place (gs, x)) e)
      (c.done.ensures.shown t.below y t.rest (omega (arith, c.saturating_sub-self.ensures, deep, d)) pushed.within (ap (tree.object at) (pushed.shows tree.no_fields)) (λ gs from. refl));
}
