use Rattle.std.proofs.Common.{rules, ◌≡◌, ◌<◌, ap, subst, sym, ◌∙◌, length, map}
use Rattle.std.specs.Prelude.{All}
use Rattle.std.proofs.lemmas.List.Elements.{All-map}
use Rattle.std.proofs.lemmas.Result.{on_ok_weaker}
use Rattle.flow_types.specs.Plans.{IsValid, files_of, makes}
use Rattle.flow_types.specs.Serial.{with_contents}
use Rattle.world_contents.specs.Holdings.{held_in}
use Rattle.world_contents.proofs.Numbers.{all_inside}
use Rattle.net_world.proofs.play.Play.store.Goals as goal

pub returns-clause-put : goal.returns-clause-put
returns-clause-put c = on_ok_weaker c.put_all.result (λ put long f.
    let kept = c.args.self.now.contents.items in
    let files = c.as_slice.result.now in
    let numbers : map (λ file. file.0) files ≡ files_of c.rule_of.result.now.outputs = search rules in
    let made : map (λ file. file.0) files ≡ makes c.args.self.now.table.plan c.args.rule.0 =
    numbers ∙ c.rule_of.ensures.made ∙ ap (λ P. makes P c.args.rule.0) c.plan.ensures.plan in
    let few : length c.plan.result.now.files ≡ length kept = ap (λ P. length P.files) c.plan.ensures.plan ∙ sym long in
    let inside = c.rule_of.ensures.inside (subst IsValid (sym c.plan.ensures.plan) c.plan.ensures.valid) in
    let each : All (λ port. port.file.0 < length kept) c.rule_of.result.now.outputs = subst (λ n. All (λ port. port.file.0 < n) c.rule_of.result.now.outputs) few inside in
    put (all_inside (length kept) files (subst (λ fs. All (λ f. f < length kept) fs) (sym numbers) (All-map (λ f. f < length kept) (λ port. port.file.0) c.rule_of.result.now.outputs each))) f
    ∙ ap (λ fs. with_contents (held_in kept) fs c.args.outs.now f) made)
    c.put_all.ensures.put
