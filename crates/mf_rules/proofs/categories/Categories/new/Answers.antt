use Rattle.std.proofs.Common.{◌≡◌, ℕ, List, None, ap, ◌∙◌}
use Rattle.std.specs.FinMap as finite
use Rattle.std.specs.Ordering.{nat_cmp}
use Rattle.std.specs.Cmp.Lexicographic.{slice_cmp}
use Rattle.mf_forms.specs.declared.form.Resource.{Resource}
use Rattle.mf_forms.specs.declared.form.Resource.TheVariants as resource
use Rattle.mf_rules.specs.Tables.{Counts}
use Rattle.mf_rules.specs.declared.categories.Categories.{Categories}
use Rattle.mf_rules.specs.Progress.{amounts_of}
use Rattle.mf_rules.proofs.categories.Categories.new.Goals as goal

nothing : (it : Categories) → it.cores ≡ finite.empty → it.memory ≡ finite.empty → it.disk ≡ finite.empty
    → (wanted : Resource) (name : List ℕ) → finite.get (amounts_of wanted it) name ≡ None
nothing it a b d resource.Cores name = ap (λ (m : Counts). finite.get m name) a ∙ finite.get-empty (slice_cmp nat_cmp) name
nothing it a b d resource.Memory name = ap (λ (m : Counts). finite.get m name) b ∙ finite.get-empty (slice_cmp nat_cmp) name
nothing it a b d resource.Disk name = ap (λ (m : Counts). finite.get m name) d ∙ finite.get-empty (slice_cmp nat_cmp) name

pub returns : goal.returns
returns c = λ env. record {
  current = c.in_ok-current.ensures;
  amounts = nothing (record { current = c.in_ok-current.current; cores = c.new.result; memory = c.new-2.result; disk = c.new-3.result }) c.new.ensures c.new-2.ensures c.new-3.ensures;
}
