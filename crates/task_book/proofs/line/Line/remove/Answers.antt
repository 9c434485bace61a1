use Rattle.std.proofs.Common.{◌≡◌, ◌<◌, ◌∙◌, List, Some, ap, length, subst, sym}
use Rattle.std.specs.Prelude.{remove, slice_get}
use Rattle.std.proofs.lemmas.Option.{slice_get-get_or}
use Rattle.task_book.specs.declared.task.Held.{Held}
use Rattle.task_book.proofs.Rising.{line_is, line_left}
use Rattle.task_book.proofs.line.Line.remove.Goals as goal

pub invariant_of-self : goal.invariant_of-self
invariant_of-self c =
    let i = c.self.inside in
    let items = i.tasks.items in
    let at = c.args.at in
    let task = c.in-Some.task in
    let less : at < length items = subst (λ (l : List Held). at < length l) (sym c.self.view_is) c.requires.within in
    let there : slice_get items at ≡ Some task = slice_get-get_or items at task less ∙ ap (λ (h : Held). Some h) (sym c.in-Some.ensures.value) in
    let m = c.mark_without-self-inside in
    let f = c.mark_without-self-inside-2 in
    line_is (remove items at) c.remove.new.self.items m.result f.result i.ended_last c.in-Some.ensures.items
    (line_left items i.waits_from i.ended_from i.ended_last m.result f.result at task there c.self.invariant m.ensures.behind m.ensures.before f.ensures.behind f.ensures.before)

pub returns-clause-task : goal.returns-clause-task
returns-clause-task c =
    let items = c.self.inside.tasks.items in
    let at = c.args.at in
    let task = c.in-Some.task in
    let less : at < length items = subst (λ (l : List Held). at < length l) (sym c.self.view_is) c.requires.within in
    ap (λ (l : List Held). slice_get l at) (sym c.self.view_is) ∙ slice_get-get_or items at task less ∙ ap (λ (h : Held). Some h) (sym c.in-Some.ensures.value)
