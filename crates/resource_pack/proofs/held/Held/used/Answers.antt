use Rattle.std.proofs.Common.{◌∙◌, ap, subst, sym}
use Rattle.resource_pack.specs.Occupancy.{Occupancy, occupancy_of}
use Rattle.resource_pack.specs.Used.{IsSmall}
use Rattle.resource_pack.proofs.Using.{usable-small}
use Rattle.resource_pack.proofs.held.Held.used.Goals as goal

pub amounts-requires : goal.amounts-requires
amounts-requires c =
    let k = c.self.inside.link.0 in
    let total = c.self.inside.total in
    let small = c.self.invariant.2 in
    let fits = usable-small k total c.self.inside.loads.items small.cores small.memory small.disk c.self.invariant.3 in
    let kept : IsSmall (occupancy_of k total c.self.inside.loads.items).amounts = record { cores = fits.0; memory = fits.1; disk = fits.2 } in
    subst (λ (o : Occupancy). IsSmall o.amounts) (sym (c.occupied_by.ensures ∙ ap (occupancy_of k total) c.deref.ensures.value)) kept
