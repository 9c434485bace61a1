use Rattle.std.proofs.Common.{rules, ◌≡◌, ◌∙◌, false, true, None, Some, ap, sym}
use Rattle.std.proofs.lemmas.Bool.{eqb-true}
use Rattle.task_book.specs.declared.task.Held.{Held}
use Rattle.task_book.specs.Kept.{is_run, place_of, place_running}
use Rattle.task_book.proofs.Positions.{found, same_item, stood}
use Rattle.task_book.proofs.Rising.{both_at, both_none, is_id}
use Rattle.task_book.proofs.line.Line.place_running.Goals as goal

pub returns-in_err-at : goal.returns-in_err-at
returns-in_err-at c =
    let held = c.args.self.now in
    let none : place_of c.args.id held ≡ None = search rules in
    let is : c.from_residual.result ≡ None = search rules in
    is ∙ sym (both_none (λ (h : Held). is_run c.args.attempt h.stage) c.args.id.0 held none)

pub returns-then-is_run : goal.returns-then-is_run
returns-then-is_run c =
    let items = c.self.inside.tasks.items in
    let n = c.args.id.0 in
    let at = c.in_ok-at.at in
    let h = c.in_ok-held.held.now in
    let is : place_of c.args.id c.args.self.now ≡ Some at = search rules in
    let f = found (is_id n) items at (ap (place_of c.args.id) c.self.view_is ∙ is) in
    let there = stood items at h f.item f.is_there c.in_ok-held.ensures.lookup in
    let same = same_item items at h f.item there f.is_there in
    let runs : is_run c.args.attempt h.stage ≡ true = search rules in
    sym (both_at (λ (x : Held). is_run c.args.attempt x.stage) 0 n at items h true there (ap (λ (x : Held). x.id.0) same ∙ eqb-true f.item.id.0 n f.passes) runs c.self.invariant.rise)
    ∙ ap (place_running c.args.id c.args.attempt) c.self.view_is

pub returns-else-is_run : goal.returns-else-is_run
returns-else-is_run c =
    let items = c.self.inside.tasks.items in
    let n = c.args.id.0 in
    let at = c.in_ok-at.at in
    let h = c.in_ok-held.held.now in
    let is : place_of c.args.id c.args.self.now ≡ Some at = search rules in
    let f = found (is_id n) items at (ap (place_of c.args.id) c.self.view_is ∙ is) in
    let there = stood items at h f.item f.is_there c.in_ok-held.ensures.lookup in
    let same = same_item items at h f.item there f.is_there in
    let runs : is_run c.args.attempt h.stage ≡ false = search rules in
    sym (both_at (λ (x : Held). is_run c.args.attempt x.stage) 0 n at items h false there (ap (λ (x : Held). x.id.0) same ∙ eqb-true f.item.id.0 n f.passes) runs c.self.invariant.rise)
    ∙ ap (place_running c.args.id c.args.attempt) c.self.view_is
