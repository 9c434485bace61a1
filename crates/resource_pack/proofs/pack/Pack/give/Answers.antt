use Rattle.std.proofs.Common.{◌≡◌, ◌<◌, ◌∙◌, ap, length, arith}
use Rattle.std.specs.List.{list_any, position_or_len}
use Rattle.run_history.specs.Links.{Load}
use Rattle.resource_pack.specs.Packing.{is_link, is_load, link_in, unloaded}
use Rattle.resource_pack.proofs.Places.{link-inside, link-written, fits-some}
use Rattle.resource_pack.proofs.pack.Pack.give.Goals as goal

pub index_mut-requires : goal.index_mut-requires
index_mut-requires c =
    let is : c.place_of-at.result ≡ position_or_len (is_link c.args.link.0) c.self.inside.links.items = c.place_of-at.ensures ∙ ap (position_or_len (is_link c.args.link.0)) c.deref.ensures.value in
    let inside : c.place_of-at.result < length c.self.inside.links.items = link-inside c.args.link.0 c.args.self.now c.self.inside.links.items c.place_of-at.result c.self.view_is is (fits-some (λ packed. list_any (is_load (record { needs = c.args.needs; bytes = c.args.bytes })) packed.loads) (link_in c.args.link.0 c.args.self.now) c.requires) in
    omega (arith, inside, ap length c.deref.ensures.value, c.deref.ensures.len)

pub returns : goal.returns
returns c =
    let is : c.place_of-at.result ≡ position_or_len (is_link c.args.link.0) c.self.inside.links.items = c.place_of-at.ensures ∙ ap (position_or_len (is_link c.args.link.0)) c.deref.ensures.value in
    let inside : c.place_of-at.result < length c.self.inside.links.items = link-inside c.args.link.0 c.args.self.now c.self.inside.links.items c.place_of-at.result c.self.view_is is (fits-some (λ packed. list_any (is_load (record { needs = c.args.needs; bytes = c.args.bytes })) packed.loads) (link_in c.args.link.0 c.args.self.now) c.requires) in
    let load : Load = record { needs = c.args.needs; bytes = c.args.bytes } in
    link-written c.args.link.0 (unloaded load) c.args.self.now c.self.inside.links.items c.place_of-at.result c.index_mut.result.now c.give.new.self c.self.view_is is inside c.index_mut.ensures.value c.give.ensures
