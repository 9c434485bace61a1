use Rattle.std.proofs.Common.{◌≡◌, ℕ, List, Option, Some, None, sym, ap, ◌∙◌, subst, arith}
use Rattle.std.specs.Prelude.{IfOk}
use Rattle.foreman_core.specs.declared.links.Below.{Below}
use Rattle.foreman_core.specs.Drafts.{led_of, parted}
use Rattle.foreman_core.specs.Foremen.{Foreman, others, place_of_link}
use Rattle.foreman_core.proofs.Losing.{parted_one}
use Rattle.foreman_core.proofs.Undoing.{others_all}
use Rattle.foreman_core.proofs.lost.+part_from.Goals as goal

pub part_from-requires : goal.part_from-requires
part_from-requires n c = (omega (arith, c.decreases, c.remove-lost.ensures.len), tt)

pub returns-in_default-clause-parted : goal.returns-in_default-clause-parted
returns-in_default-clause-parted n c =
    let f : Foreman = record { cache = c.args.cache.now; attempts = c.args.stay.now.items; links = c.args.links.now.items; next = c.args.next } in
    let nowhere : Option ℕ = None in
    let none : place_of_link c.args.link f.links ≡ nowhere = sym (sym c.in_default.is ∙ c.find_link.ensures.place ∙ ap (place_of_link c.args.link) c.deref.ensures.value) in
    subst (λ ls. IfOk c.part.result (λ draft. led_of f.cache c.part.new.stay.items c.part.new.links.items draft ≡ parted (record f { links = ls }) c.args.gone.now)) (sym (others_all c.args.link f.links none)) c.part.ensures.parted

pub returns-in-Ok-clause-parted : goal.returns-in-Ok-clause-parted
returns-in-Ok-clause-parted n c =
    let f : Foreman = record { cache = c.args.cache.now; attempts = c.args.stay.now.items; links = c.args.links.now.items; next = c.args.next } in
    let here : Option ℕ = Some c.in-Some.on in
    let place : here ≡ place_of_link c.args.link f.links = sym c.in-Some.is ∙ c.find_link.ensures.place ∙ ap (place_of_link c.args.link) c.deref.ensures.value in
    parted_one f c.args.link c.args.gone.now (led_of f.cache c.part_from.new.stay.items c.part_from.new.links.items c.in-Ok.draft) c.in-Some.on place
    (c.in-Ok.ensures.parted ∙ ap (λ (ls : List Below). parted (record f { links = others c.args.link ls }) c.args.gone.now) c.remove-lost.ensures.items)
