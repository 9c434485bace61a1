use Rattle.std.proofs.Common.{◌≡◌, ◌<◌, ◌≤◌, ◌∙◌, ap, sym, length, arith, List}
use Rattle.std.specs.List.{position_or_len, remove}
use Rattle.run_history.specs.Links.{Load}
use Rattle.resource_pack.specs.Packing.{is_load, without_load, unloaded, row_on}
use Rattle.resource_pack.proofs.Places.{without-load-remove, without-load-none}
use Rattle.resource_pack.proofs.held.Held.give.Goals as goal

pub returns-then-at-len : goal.returns-then-at-len
returns-then-at-len c =
    let load : Load = record { needs = c.args.needs; bytes = c.args.bytes } in
    let items : List Load = c.self.inside.loads.items in
    let is : c.place_of-at.result ≡ position_or_len (is_load load) items = c.place_of-at.ensures ∙ ap (position_or_len (is_load load)) c.deref.ensures.value in
    let inside : position_or_len (is_load load) items < length items = omega (arith, is, c.if-at-len.true, c.len.ensures, c.deref.ensures.len, ap length c.deref.ensures.value) in
    let gone : c.remove.new.self.items ≡ without_load load items = c.remove.ensures.items ∙ ap (remove items) is ∙ sym (without-load-remove load items c.remove.result inside) in
    ap (λ (ls : List Load). record { link = c.self.inside.link.0; row = row_on c.self.inside.link.0 c.self.inside.total c.self.inside.largest c.self.inside.cache; loads = ls }) gone
    ∙ ap (unloaded load) c.self.view_is

pub returns-else-at-len : goal.returns-else-at-len
returns-else-at-len c =
    let load : Load = record { needs = c.args.needs; bytes = c.args.bytes } in
    let items : List Load = c.self.inside.loads.items in
    let is : c.place_of-at.result ≡ position_or_len (is_load load) items = c.place_of-at.ensures ∙ ap (position_or_len (is_load load)) c.deref.ensures.value in
    let past : length items ≤ position_or_len (is_load load) items = omega (arith, is, c.if-at-len.false, c.len.ensures, c.deref.ensures.len, ap length c.deref.ensures.value) in
    sym c.self.view_is
    ∙ ap (λ (ls : List Load). record { link = c.self.inside.link.0; row = row_on c.self.inside.link.0 c.self.inside.total c.self.inside.largest c.self.inside.cache; loads = ls }) (sym (without-load-none load items past))
    ∙ ap (unloaded load) c.self.view_is
