use Rattle.std.proofs.Common.{rules, ◌≡◌, ◌<◌, ap, subst, sym, ◌∙◌, length, map, replicate}
use Rattle.std.specs.Prelude.{All, None}
use Rattle.std.proofs.lemmas.List.{length-replicate}
use Rattle.flow_types.specs.Plans.{sources_of}
use Rattle.flow_types.specs.Serial.{with_contents}
use Rattle.world_contents.specs.Holdings.{held_in}
use Rattle.world_contents.proofs.Beginnings.{first_held, sources_inside}
use Rattle.world_contents.proofs.Numbers.{all_inside}
use Rattle.world_contents.proofs.sources.first_contents.Goals as goal

pub returns-clause-held : goal.returns-clause-held
returns-clause-held c f =
    let P = c.args.plan.now in
    let kept = c.in_ok-contents.contents.items in
    let files = c.as_slice.result.now in
    let numbers : map (λ file. file.0) files ≡ sources_of P = search rules in
    let blank : kept ≡ replicate (length P.files) None = search rules in
    let long : length kept ≡ length P.files = ap length blank ∙ length-replicate (length P.files) None in
    let inside : All (λ f. f < length kept) (map (λ file. file.0) files) =
    subst (λ n. All (λ f. f < n) (map (λ file. file.0) files)) (sym long) (subst (λ fs. All (λ f. f < length P.files) fs) (sym numbers) (sources_inside P)) in
    c.in_ok-put_all.ensures.put (all_inside (length kept) files inside) f
    ∙ ap (λ fs. with_contents (held_in kept) fs c.args.sources.now f) numbers
    ∙ ap (λ kept. with_contents (held_in kept) (sources_of P) c.args.sources.now f) blank
    ∙ first_held P c.args.sources.now (length P.files) f
