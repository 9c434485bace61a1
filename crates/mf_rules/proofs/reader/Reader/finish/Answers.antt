use Rattle.std.proofs.Common.{◌≡◌, ℕ, List, [], map, Option, unwrap_or, codes, ap, ◌∙◌}
use Rattle.flow_types.specs.declared.flow.RawRule.{RawRule}
use Rattle.mf_forms.specs.declared.form.Resource.TheVariants as resource
use Rattle.mf_forms.specs.Words.{words}
use Rattle.mf_rules.specs.declared.steps.Formed.{Formed}
use Rattle.mf_rules.specs.declared.drafts.Draft.{Draft}
use Rattle.mf_rules.specs.declared.categories.Categories.{Categories}
use Rattle.mf_rules.specs.Categories.{needs_by}
use Rattle.mf_rules.specs.Rules.{rule_of, drafts_at, bounds_at}
use Rattle.mf_rules.specs.Flow.{kept_names}
use Rattle.mf_rules.specs.Progress.{HoldsCategories, with_needs}
use Rattle.mf_rules.proofs.VariableLemmas.{same_functions}
use Rattle.mf_rules.proofs.reader.Reader.finish.Goals as goal

-- the table's needs of a category are those at the end of the lines
needs_are : (env : List (List ℕ × List ℕ)) (whole : List Formed) (categories : Categories) → HoldsCategories env whole categories → (draft : Draft) → with_needs categories draft ≡ rule_of env whole draft
needs_are env whole categories h draft = λ i. record {
  place = draft.head.place;
  outputs = draft.head.files.outputs;
  inputs = draft.head.files.inputs;
  command = draft.command;
  local = draft.local;
  needs = needs_by (h.amounts resource.Cores draft.head.category i) (h.amounts resource.Memory draft.head.category i) (h.amounts resource.Disk draft.head.category i);
  env = draft.env;
}

pub returns : goal.returns
returns c = λ env whole s.
    let rules : c.of.result ≡ map (rule_of env whole) (drafts_at env whole) =
    c.of.ensures ∙ c.in_ok-rules.ensures
    ∙ ap (λ (f : Draft → RawRule). map f c.args.self.drafts.items) (same_functions (needs_are env whole c.args.self.categories s.categories))
    ∙ ap (λ (ds : List Draft). map (rule_of env whole) ds) s.drafts in
    let keep : c.in_ok-keep.keep ≡ kept_names env whole =
    c.in_ok-keep.ensures ∙ ap (λ (t : List ℕ). words t) (c.value_or_empty-outputs.ensures
    ∙ ap (λ (v : List ℕ → Option (List ℕ)). unwrap_or (v (codes "MAKEFLOW_OUTPUTS")) []) s.variables.values) in
    let bounds : c.of-2.result ≡ bounds_at env whole = c.of-2.ensures ∙ s.bounds in
    λ i. record { rules = rules i; keep = keep i; bounds = bounds i }
