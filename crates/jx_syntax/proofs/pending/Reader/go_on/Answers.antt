use Rattle.std.proofs.Common.{◌≡◌, suc, ◌∷◌, List, reverse, refl, ap, ◌∙◌}
use Rattle.jx_syntax.specs.declared.node.Node.{Node}
use Rattle.jx_syntax.specs.declared.pending.Pending.{Pending}
use Rattle.jx_syntax.specs.declared.pending.Pending.TheVariants as pending
use Rattle.jx_syntax.specs.Grammar as jx
use Rattle.jx_syntax.specs.Reading as read
use Rattle.jx_syntax.specs.Reading.{Frame, Part}
use Rattle.jx_syntax.specs.Shown.{AreArguments, AreItems, IsItem, AreFields}
use Rattle.jx_syntax.proofs.Nodes.{arguments_push, items_push, fields_push}
use Rattle.jx_syntax.proofs.Steps.{on_top, IsTop, is_top, to_go}
use Rattle.jx_syntax.proofs.pending.Reader.go_on.Goals as goal

pub returns-in_ok-push_row-in-Argued : goal.returns-in_ok-push_row-in-Argued
returns-in_ok-push_row-in-Argued c = record {
  shown = λ fs x n h deep l.
      let ns : List Node = c.args.self.now.nodes.items in
      let qs : List Pending = reverse c.pop.new.self.items in
      let q : Pending = (pending.Argued c.in-Argued.at c.in-Argued.name c.in-Argued.arguments) in
      let t : IsTop ns q qs fs = is_top ns q qs fs (on_top ns c.args.self.now.stack.items c.pop.new.self.items c.in-Some.top q fs c.in-Some.ensures.items c.in-Argued.is h) in
      let at = c.in-Argued.at in
      let nm = c.in-Argued.name in
      let from = t.is.0 in
      let e : fs ≡ read.argued at nm from t.is.1 ∷ t.below = t.same ∙ ap (λ (f : Frame). f ∷ t.below) t.is.2 in
      let d : read.depth fs ≡ suc (read.depth t.below) = ap read.depth e in
      let now : jx.Arguments = jx.argument t.is.1 x c.args.place in
      let pushed : AreArguments ns c.push_row.new.rows now = rw c.in_ok-push_row-in-Argued.ensures.ok (arguments_push ns c.in-Argued.arguments t.is.1 c.args.operand x c.args.place t.is.3 l.node) in
      let f : Frame = read.argued at nm from now in
      to_go c.resume.new.self c.resume.result 128 n c.args.place (read.goes_on c.args.place (fs, x)) (read.wants (f ∷ t.below)) (ap (λ (gs : List Frame). read.goes_on c.args.place (gs, x)) e)
      (c.resume.ensures.shown t.below f t.rest (deep ∙ d) (from, now, refl, pushed));
}

pub returns-in_ok-push_row-in-Listed : goal.returns-in_ok-push_row-in-Listed
returns-in_ok-push_row-in-Listed c = record {
  shown = λ fs x n h deep l.
      let ns : List Node = c.args.self.now.nodes.items in
      let qs : List Pending = reverse c.pop.new.self.items in
      let q : Pending = (pending.Listed c.in-Listed.at c.in-Listed.items c.in-Listed.part) in
      let t : IsTop ns q qs fs = is_top ns q qs fs (on_top ns c.args.self.now.stack.items c.pop.new.self.items c.in-Some.top q fs c.in-Some.ensures.items c.in-Listed.is h) in
      let at = c.in-Listed.at in
      let js : jx.Items = t.is.0 in
      let r : Part = t.is.1 in
      let e : fs ≡ read.listed at js r ∷ t.below = t.same ∙ ap (λ (f : Frame). f ∷ t.below) t.is.2 in
      let d : read.depth fs ≡ suc (read.depth t.below) = ap read.depth e in
      let j : jx.Item = read.completed r x in
      let one : IsItem ns c.in_ok-completed-in-Listed.field-0 j = c.in_ok-completed-in-Listed.ensures.shown ns r x t.is.4 l.node in
      let now : jx.Items = jx.item js j c.args.place in
      let pushed : AreItems ns c.push_row-in-Listed.new.rows now = rw c.in_ok-push_row-in-Listed.ensures.ok (items_push ns c.in-Listed.items js c.in_ok-completed-in-Listed.field-0 j c.args.place t.is.3 one) in
      let f : Frame = read.listed at now read.body in
      to_go c.resume-in-Listed.new.self c.resume-in-Listed.result 128 n c.args.place (read.goes_on c.args.place (fs, x)) (read.wants (f ∷ t.below)) (ap (λ (gs : List Frame). read.goes_on c.args.place (gs, x)) e)
      (c.resume-in-Listed.ensures.shown t.below f t.rest (deep ∙ d) (now, read.body, refl, pushed, refl));
}

pub returns-in_ok-push_row-in-Keyed : goal.returns-in_ok-push_row-in-Keyed
returns-in_ok-push_row-in-Keyed c = record {
  shown = λ fs x n h deep l.
      let ns : List Node = c.args.self.now.nodes.items in
      let qs : List Pending = reverse c.pop.new.self.items in
      let q : Pending = (pending.Keyed c.in-Keyed.at c.in-Keyed.fields c.in-Keyed.key) in
      let t : IsTop ns q qs fs = is_top ns q qs fs (on_top ns c.args.self.now.stack.items c.pop.new.self.items c.in-Some.top q fs c.in-Some.ensures.items c.in-Keyed.is h) in
      let at = c.in-Keyed.at in
      let key = c.in-Keyed.key in
      let ps : jx.Pairs = t.is.0 in
      let e : fs ≡ read.keyed at ps t.is.1 key t.is.2 ∷ t.below = t.same ∙ ap (λ (f : Frame). f ∷ t.below) t.is.3 in
      let d : read.depth fs ≡ suc (read.depth t.below) = ap read.depth e in
      let now : jx.Pairs = jx.pair ps t.is.1 key t.is.2 x c.args.place in
      let pushed : AreFields ns c.push_row-in-Keyed.new.rows now = rw c.in_ok-push_row-in-Keyed.ensures.ok (fields_push ns c.in-Keyed.fields ps t.is.1 key t.is.2 c.args.operand x c.args.place t.is.4 l.node) in
      (read.wants_key t.below at now, ap (λ (gs : List Frame). read.tried 128 n c.args.place (read.goes_on c.args.place (gs, x))) e, (t.below, now, refl, t.rest, deep ∙ d, pushed));
}
