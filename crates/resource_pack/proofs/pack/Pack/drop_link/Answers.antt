use Rattle.std.proofs.Common.{◌≡◌, ◌<◌, ◌∙◌, ap, length, arith}
use Rattle.std.specs.List.{position_or_len}
use Rattle.resource_pack.specs.Packing.{is_link}
use Rattle.resource_pack.proofs.Places.{link-inside, link-taken}
use Rattle.resource_pack.proofs.pack.Pack.drop_link.Goals as goal

pub remove-requires : goal.remove-requires
remove-requires c =
    let is : c.place_of-at.result ≡ position_or_len (is_link c.args.link.0) c.self.inside.links.items = c.place_of-at.ensures ∙ ap (position_or_len (is_link c.args.link.0)) c.deref.ensures.value in
    let inside : c.place_of-at.result < length c.self.inside.links.items = link-inside c.args.link.0 c.args.self.now c.self.inside.links.items c.place_of-at.result c.self.view_is is c.requires.there in
    omega (arith, inside, ap length c.deref.ensures.value, c.deref.ensures.len)

pub returns : goal.returns
returns c =
    let is : c.place_of-at.result ≡ position_or_len (is_link c.args.link.0) c.self.inside.links.items = c.place_of-at.ensures ∙ ap (position_or_len (is_link c.args.link.0)) c.deref.ensures.value in
    let inside : c.place_of-at.result < length c.self.inside.links.items = link-inside c.args.link.0 c.args.self.now c.self.inside.links.items c.place_of-at.result c.self.view_is is c.requires.there in
    c.remove.ensures.items ∙ link-taken c.args.link.0 c.args.self.now c.self.inside.links.items c.place_of-at.result c.remove.result c.self.view_is is inside
