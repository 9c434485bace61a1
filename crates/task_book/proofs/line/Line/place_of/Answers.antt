use Rattle.std.proofs.Common.{rules, ◌∙◌, ap, sym}
use Rattle.std.proofs.lemmas.List.Sorted.{answers_always}
use Rattle.task_book.specs.declared.task.Held.{Held}
use Rattle.task_book.specs.Kept.{place_of}
use Rattle.task_book.proofs.Rising.{searched_none, searched_place}
use Rattle.task_book.proofs.line.Line.place_of.Goals as goal

pub returns-in-Ok : goal.returns-in-Ok
returns-in-Ok c =
    let i = c.self.inside in
    let found = c.binary_search_by_key.ensures.position (λ (h : Held). h.id.0) (answers_always _ _ _ (λ f a r g called. search rules)) in
    sym (searched_place c.args.id.0 i.tasks.items c.binary_search_by_key.result c.self.invariant.rise found c.in-Ok.at c.in-Ok.is (search rules)) ∙ ap (place_of c.args.id) c.self.view_is

pub returns-in-Err : goal.returns-in-Err
returns-in-Err c =
    let i = c.self.inside in
    let found = c.binary_search_by_key.ensures.position (λ (h : Held). h.id.0) (answers_always _ _ _ (λ f a r g called. search rules)) in
    sym (searched_none c.args.id.0 i.tasks.items c.binary_search_by_key.result c.self.invariant.rise found c.in-Err.field-0 c.in-Err.is) ∙ ap (place_of c.args.id) c.self.view_is
