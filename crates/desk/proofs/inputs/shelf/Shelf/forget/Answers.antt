use Rattle.std.proofs.Common.{rules, ◌≡◌, List, filter, not, sym, subst}
use Rattle.std.proofs.lemmas.Fn.{filter_same}
use Rattle.std.specs.Str.{bytes_eq}
use Rattle.desk.specs.declared.inputs.shelf.Shelved.{Shelved}
use Rattle.desk.specs.Shelves.{IsShelf}
use Rattle.desk.proofs.Shelving.{shelf_filtered}
use Rattle.desk.proofs.inputs.shelf.Shelf.forget.Goals as goal

pub invariant_of-self : goal.invariant_of-self
invariant_of-self c =
    let others : c.retain.new.self.items ≡ filter (λ (x : Shelved). not (bytes_eq x.name c.args.name.now)) c.self.inside.items.items = filter_same _ _ _ (λ x b f' k. search rules) _ _ c.retain.ensures.filtered in
    subst IsShelf (sym others) (shelf_filtered (λ (x : Shelved). not (bytes_eq x.name c.args.name.now)) c.self.inside.items.items c.self.invariant)

pub returns : goal.returns
returns c =
    subst (λ (l : List Shelved). c.retain.new.self.items ≡ filter (λ (x : Shelved). not (bytes_eq x.name c.args.name.now)) l) c.self.view_is
    (filter_same _ _ _ (λ x b f' k. search rules) _ _ c.retain.ensures.filtered)
