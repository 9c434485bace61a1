use Rattle.std.proofs.Common.{◌≡◌, ◌<◌, ◌∙◌, ap, sym, length, arith}
use Rattle.std.specs.Prelude.{Some, false}
use Rattle.std.specs.Option.{option_map_or}
use Rattle.std.specs.List.{position_or_len}
use Rattle.run_history.specs.Links.{Load, has_room}
use Rattle.resource_pack.specs.Packing.{PackedLink, is_link, link_in, loaded}
use Rattle.resource_pack.proofs.Places.{link-inside, link-written, link-read, fits-some}
use Rattle.resource_pack.proofs.pack.Pack.take.Goals as goal

pub index_mut-requires : goal.index_mut-requires
index_mut-requires c =
    let is : c.place_of-at.result ≡ position_or_len (is_link c.args.link.0) c.self.inside.links.items = c.place_of-at.ensures ∙ ap (position_or_len (is_link c.args.link.0)) c.deref.ensures.value in
    let inside : c.place_of-at.result < length c.self.inside.links.items = link-inside c.args.link.0 c.args.self.now c.self.inside.links.items c.place_of-at.result c.self.view_is is (fits-some (λ packed. has_room packed.link packed.row packed.loads (record { needs = c.args.needs; bytes = c.args.bytes })) (link_in c.args.link.0 c.args.self.now) c.requires) in
    omega (arith, inside, ap length c.deref.ensures.value, c.deref.ensures.len)

pub take-requires : goal.take-requires
take-requires c =
    let is : c.place_of-at.result ≡ position_or_len (is_link c.args.link.0) c.self.inside.links.items = c.place_of-at.ensures ∙ ap (position_or_len (is_link c.args.link.0)) c.deref.ensures.value in
    let inside : c.place_of-at.result < length c.self.inside.links.items = link-inside c.args.link.0 c.args.self.now c.self.inside.links.items c.place_of-at.result c.self.view_is is (fits-some (λ packed. has_room packed.link packed.row packed.loads (record { needs = c.args.needs; bytes = c.args.bytes })) (link_in c.args.link.0 c.args.self.now) c.requires) in
    let load : Load = record { needs = c.args.needs; bytes = c.args.bytes } in
    let held : PackedLink = c.index_mut.result.now in
    let found : link_in c.args.link.0 c.args.self.now ≡ Some held =
    link-read c.args.link.0 c.args.self.now c.self.inside.links.items c.place_of-at.result held c.self.view_is is inside c.index_mut.ensures.value in
    sym (ap (λ o. option_map_or (λ packed. has_room packed.link packed.row packed.loads load) o false) found) ∙ c.requires

pub returns : goal.returns
returns c =
    let is : c.place_of-at.result ≡ position_or_len (is_link c.args.link.0) c.self.inside.links.items = c.place_of-at.ensures ∙ ap (position_or_len (is_link c.args.link.0)) c.deref.ensures.value in
    let inside : c.place_of-at.result < length c.self.inside.links.items = link-inside c.args.link.0 c.args.self.now c.self.inside.links.items c.place_of-at.result c.self.view_is is (fits-some (λ packed. has_room packed.link packed.row packed.loads (record { needs = c.args.needs; bytes = c.args.bytes })) (link_in c.args.link.0 c.args.self.now) c.requires) in
    let load : Load = record { needs = c.args.needs; bytes = c.args.bytes } in
    link-written c.args.link.0 (loaded load) c.args.self.now c.self.inside.links.items c.place_of-at.result c.index_mut.result.now c.take.new.self c.self.view_is is inside c.index_mut.ensures.value c.take.ensures
