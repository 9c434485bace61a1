use Rattle.std.proofs.Common.{rules, ◌≡◌, ◌≤◌, ◌<◌, ◌∙◌, List, [], ◌∷◌, ◌++◌, length, true, arith, subst, sym}
use Rattle.std.specs.List.{AllByRecursion}
use Rattle.task_book.specs.declared.task.Held.{Held}
use Rattle.task_book.specs.Kept.{is_end}
use Rattle.task_book.proofs.Rising.{line_is, line_pushed}
use Rattle.task_book.proofs.line.Line.push.Goals as goal

pub invariant_of-self : goal.invariant_of-self
invariant_of-self c =
    let i = c.self.inside in
    let items = i.tasks.items in
    let task = c.args.task in
    let last = c.last_with-last.result in
    let below = subst (λ (l : List Held). AllByRecursion (λ (h : Held). h.id.0 < task.id.0) l) (sym c.self.view_is) c.requires in
    let place : c.len-at.result ≡ length items = search rules in
    let there : is_end task.stage ≡ true → length items ≤ last = λ e. let le = c.last_with-last.ensures.there (c.is_end.ensures ∙ e) in omega (arith, le, place) in
    line_is (items ++ task ∷ []) c.push_back.new.self.items i.waits_from i.ended_from last c.in-Ok.ensures.items
    (line_pushed items i.waits_from i.ended_from i.ended_last last task c.self.invariant below c.last_with-last.ensures.high there)
