use Rattle.std.proofs.Common.{List, [], ◌∷◌, ◌++◌, map, sym, ap, ◌∙◌, append_assoc}
use Rattle.std.proofs.lemmas.List.{append-nil}
use Rattle.flow_types.specs.declared.flow.RawRule.{RawRule}
use Rattle.mf_rules.specs.declared.drafts.Draft.{Draft}
use Rattle.mf_rules.specs.Progress.{with_needs}
use Rattle.mf_rules.proofs.Lists.{no_items}
use Rattle.mf_rules.proofs.reader.rules_of.Goals as goal

pub loop-draft-init : goal.loop-draft-init
loop-draft-init c =
    let f = with_needs c.args.categories.now in
    ap (λ (rs : List RawRule). rs ++ map f c.into_iter-draft-iterator.result.rest.items) c.in-Ok.ensures.items
    ∙ ap (λ (ds : List Draft). map f ds) (c.into_iter-draft-iterator.ensures.into_iter_gives.0 ∙ c.shrink_to_fit.ensures.items)

pub loop-draft-preserved : goal.loop-draft-preserved
loop-draft-preserved c =
    let f = with_needs c.args.categories.now in
    let rest : List Draft = c.next.new.self.rest.items in
    ap (λ (rs : List RawRule). rs ++ map f rest) c.in-Ok-push.ensures.items
    ∙ append_assoc c.loop-draft.rules.items (c.with_needs-rule.result ∷ []) (map f rest)
    ∙ ap (λ (r : RawRule). c.loop-draft.rules.items ++ r ∷ map f rest) c.with_needs-rule.ensures
    ∙ ap (λ (ds : List Draft). c.loop-draft.rules.items ++ map f ds) (sym c.in-Some.ensures.steps.0)
    ∙ c.loop-draft.invariant

pub returns : goal.returns
returns c =
    let f = with_needs c.args.categories.now in
    sym (append-nil c.loop-draft.rules.items)
    ∙ ap (λ (ds : List Draft). c.loop-draft.rules.items ++ map f ds) (no_items c.loop-draft.draft-iterator.rest.items (sym c.loop-draft.draft-iterator.rest.ok.0 ∙ c.in-None.ensures.steps.0))
    ∙ c.loop-draft.invariant
