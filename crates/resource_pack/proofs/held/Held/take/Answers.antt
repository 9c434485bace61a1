use Rattle.std.proofs.Common.{rules, ◌≡◌, ◌∙◌, ◌++◌, ◌∷◌, [], true, ap, subst, sym}
use Rattle.run_history.specs.Links.{Load, has_room}
use Rattle.resource_pack.specs.Packing.{PackedLink, row_on}
use Rattle.resource_pack.specs.Used.{IsUsable}
use Rattle.resource_pack.proofs.Using.{usable-more}
use Rattle.resource_pack.proofs.held.Held.take.Goals as goal

pub invariant_of-self : goal.invariant_of-self
invariant_of-self c =
    let load : Load = record { needs = c.args.needs; bytes = c.args.bytes } in
    let k = c.self.inside.link.0 in
    let row = row_on k c.self.inside.total c.self.inside.largest c.self.inside.cache in
    let small = c.self.invariant.2 in
    let room : has_room k row c.self.inside.loads.items load ≡ true = ap (λ (p : PackedLink). has_room p.link p.row p.loads load) c.self.view_is ∙ c.requires in
    let items : c.push.new.self.items ≡ c.self.inside.loads.items ++ (load ∷ []) = search rules in (
      search rules,
      search rules,
      small,
      subst (IsUsable k) (sym items) (usable-more k row c.self.inside.loads.items load small.cores small.memory small.disk room c.self.invariant.3),
    )
