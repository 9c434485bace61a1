use Rattle.std.proofs.Common.{◌≡◌, ◌<◌, ◌∙◌, ap, length, arith}
use Rattle.std.specs.List.{position_or_len}
use Rattle.resource_pack.specs.Packing.{is_link, stating, row_on}
use Rattle.resource_pack.proofs.Places.{link-inside, link-numbered, link-written}
use Rattle.resource_pack.proofs.pack.Pack.change.Goals as goal

pub index_mut-requires : goal.index_mut-requires
index_mut-requires c =
    let is : c.place_of-at.result ≡ position_or_len (is_link c.args.link.0) c.self.inside.links.items = c.place_of-at.ensures ∙ ap (position_or_len (is_link c.args.link.0)) c.deref.ensures.value in
    let inside : c.place_of-at.result < length c.self.inside.links.items = link-inside c.args.link.0 c.args.self.now c.self.inside.links.items c.place_of-at.result c.self.view_is is c.requires in
    omega (arith, inside, ap length c.deref.ensures.value, c.deref.ensures.len)

pub returns : goal.returns
returns c =
    let is : c.place_of-at.result ≡ position_or_len (is_link c.args.link.0) c.self.inside.links.items = c.place_of-at.ensures ∙ ap (position_or_len (is_link c.args.link.0)) c.deref.ensures.value in
    let inside : c.place_of-at.result < length c.self.inside.links.items = link-inside c.args.link.0 c.args.self.now c.self.inside.links.items c.place_of-at.result c.self.view_is is c.requires in
    let row = row_on c.args.link.0 c.args.total c.args.largest c.args.cache in
    let numbered = link-numbered c.args.link.0 c.self.inside.links.items c.place_of-at.result c.index_mut.result.now is inside c.index_mut.ensures.value in
    link-written c.args.link.0 (stating row) c.args.self.now c.self.inside.links.items c.place_of-at.result c.index_mut.result.now c.change.new.self c.self.view_is is inside c.index_mut.ensures.value
    (c.change.ensures ∙ ap (λ k. stating (row_on k c.args.total c.args.largest c.args.cache) c.index_mut.result.now) numbered)
