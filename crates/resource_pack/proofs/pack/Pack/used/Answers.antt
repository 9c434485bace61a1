use Rattle.std.proofs.Common.{◌≡◌, ◌<◌, ◌∙◌, Some, ap, sym, subst, length, arith}
use Rattle.std.specs.Prelude.{IfSome}
use Rattle.std.specs.List.{position_or_len}
use Rattle.run_history.specs.Links.{taken_on}
use Rattle.resource_pack.specs.Packing.{PackedLink, is_link, link_in}
use Rattle.resource_pack.proofs.Places.{link-inside, link-numbered, link-read}
use Rattle.resource_pack.proofs.pack.Pack.used.Goals as goal

pub index-requires : goal.index-requires
index-requires c =
    let is : c.place_of.result ≡ position_or_len (is_link c.args.link.0) c.self.inside.links.items = c.place_of.ensures ∙ ap (position_or_len (is_link c.args.link.0)) c.deref.ensures.value in
    let inside : c.place_of.result < length c.self.inside.links.items = link-inside c.args.link.0 c.args.self.now c.self.inside.links.items c.place_of.result c.self.view_is is c.requires in
    omega (arith, inside, ap length c.deref.ensures.value, c.deref.ensures.len)

pub returns : goal.returns
returns c =
    let is : c.place_of.result ≡ position_or_len (is_link c.args.link.0) c.self.inside.links.items = c.place_of.ensures ∙ ap (position_or_len (is_link c.args.link.0)) c.deref.ensures.value in
    let inside : c.place_of.result < length c.self.inside.links.items = link-inside c.args.link.0 c.args.self.now c.self.inside.links.items c.place_of.result c.self.view_is is c.requires in
    let held : PackedLink = c.index.result.now in
    let found : link_in c.args.link.0 c.args.self.now ≡ Some held = link-read c.args.link.0 c.args.self.now c.self.inside.links.items c.place_of.result held c.self.view_is is inside c.index.ensures in
    let number : held.link ≡ c.args.link.0 = link-numbered c.args.link.0 c.self.inside.links.items c.place_of.result held is inside c.index.ensures in
    subst (λ o. IfSome o (λ (packed : PackedLink). c.used.result ≡ taken_on c.args.link.0 packed.row.total packed.loads)) (sym found)
    (c.used.ensures ∙ ap (λ k. taken_on k held.row.total held.loads) number)
