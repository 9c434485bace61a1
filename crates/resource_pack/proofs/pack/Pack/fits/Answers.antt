use Rattle.std.proofs.Common.{◌≡◌, ◌<◌, ◌∙◌, ap, sym, length, arith}
use Rattle.std.specs.Prelude.{false}
use Rattle.std.specs.Option.{option_map_or}
use Rattle.std.specs.List.{position_or_len}
use Rattle.run_history.specs.Links.{Load, has_room}
use Rattle.resource_pack.specs.Packing.{is_link}
use Rattle.resource_pack.proofs.Places.{link-inside, link-read}
use Rattle.resource_pack.proofs.pack.Pack.fits.Goals as goal

pub index-requires : goal.index-requires
index-requires c =
    let is : c.place_of.result ≡ position_or_len (is_link c.args.link.0) c.self.inside.links.items = c.place_of.ensures ∙ ap (position_or_len (is_link c.args.link.0)) c.deref.ensures.value in
    let inside : c.place_of.result < length c.self.inside.links.items = link-inside c.args.link.0 c.args.self.now c.self.inside.links.items c.place_of.result c.self.view_is is c.requires in
    omega (arith, inside, ap length c.deref.ensures.value, c.deref.ensures.len)

pub returns : goal.returns
returns c =
    let is : c.place_of.result ≡ position_or_len (is_link c.args.link.0) c.self.inside.links.items = c.place_of.ensures ∙ ap (position_or_len (is_link c.args.link.0)) c.deref.ensures.value in
    let inside : c.place_of.result < length c.self.inside.links.items = link-inside c.args.link.0 c.args.self.now c.self.inside.links.items c.place_of.result c.self.view_is is c.requires in
    let load : Load = record { needs = c.args.needs; bytes = c.args.bytes } in
    c.has_room.ensures
    ∙ sym (ap (λ o. option_map_or (λ packed. has_room packed.link packed.row packed.loads load) o false)
    (link-read c.args.link.0 c.args.self.now c.self.inside.links.items c.place_of.result c.index.result.now c.self.view_is is inside c.index.ensures))
