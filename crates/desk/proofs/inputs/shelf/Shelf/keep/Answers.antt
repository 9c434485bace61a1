use Rattle.std.proofs.Common.{◌≤◌, ◌+◌, List, refl, sym, subst}
use Rattle.desk.specs.declared.inputs.shelf.Shelved.{Shelved}
use Rattle.desk.specs.Shelves.{IsShelved, bytes_on}
use Rattle.desk.proofs.Shelving.{shelf_pushed}
use Rattle.desk.proofs.inputs.shelf.Shelf.keep.Goals as goal

pub invariant_of-self-in-Ok-2 : goal.invariant_of-self-in-Ok-2
invariant_of-self-in-Ok-2 c =
    let shelved : Shelved = record { name = c.in-Ok.name; content = c.args.content; bytes = c.args.bytes } in
    let kept : List Shelved = c.self.inside.items.items in
    let one : IsShelved shelved = record {
      whole = c.requires;
      least = (c.if-not-is_kept.ensures refl).0;
      most = (c.if-not-is_kept.ensures refl).1;
    } in
    let room : bytes_on kept + c.args.content.size ≤ 134217728 = subst (λ (l : List Shelved). bytes_on l + c.args.content.size ≤ 134217728) (sym c.self.view_is) c.make_room.ensures.room in
    shelf_pushed _ kept c.push-kept.new.self.items shelved c.push-kept.ensures.items c.self.invariant one room
