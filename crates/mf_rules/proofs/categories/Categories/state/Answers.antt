use Rattle.std.proofs.Common.{◌≡◌, ℕ, cond, ◌&&◌, List, Some, None, refl, ap, ◌∙◌}
use Rattle.std.specs.FinMap as finite
use Rattle.std.specs.Str.{bytes_eq}
use Rattle.mf_forms.specs.declared.form.Resource.{Resource}
use Rattle.mf_forms.specs.declared.form.Resource.TheVariants as resource
use Rattle.mf_forms.specs.Forms.{or_else}
use Rattle.mf_rules.specs.Tables.{Counts}
use Rattle.mf_rules.specs.Categories.{is_same}
use Rattle.mf_rules.specs.declared.categories.Categories.{Categories}
use Rattle.mf_rules.specs.Progress.{amounts_of}
use Rattle.mf_rules.proofs.CategoryLemmas.{on_ok, put_amount}
use Rattle.mf_rules.proofs.categories.Categories.state.Goals as goal

Stated : Resource → List ℕ → ℕ → Categories → Categories → Type 0
Stated set current n old new = (wanted : Resource) (name : List ℕ) → finite.get (amounts_of wanted new) name
    ≡ or_else (cond (is_same wanted set && bytes_eq current name) (Some n) None) (finite.get (amounts_of wanted old) name)

cores_stated : (old : Categories) (current : List ℕ) (n : ℕ) (m : Counts) → m ≡ finite.insert old.cores current n → Stated resource.Cores current n old (record old { cores = m })
unfolding Stated
cores_stated old current n m is resource.Cores name = ap (λ (k : Counts). finite.get k name) is ∙ put_amount old.cores current n name
cores_stated old current n m is resource.Memory name = refl
cores_stated old current n m is resource.Disk name = refl

memory_stated : (old : Categories) (current : List ℕ) (n : ℕ) (m : Counts) → m ≡ finite.insert old.memory current n → Stated resource.Memory current n old (record old { memory = m })
unfolding Stated
memory_stated old current n m is resource.Cores name = refl
memory_stated old current n m is resource.Memory name = ap (λ (k : Counts). finite.get k name) is ∙ put_amount old.memory current n name
memory_stated old current n m is resource.Disk name = refl

disk_stated : (old : Categories) (current : List ℕ) (n : ℕ) (m : Counts) → m ≡ finite.insert old.disk current n → Stated resource.Disk current n old (record old { disk = m })
unfolding Stated
disk_stated old current n m is resource.Cores name = refl
disk_stated old current n m is resource.Memory name = refl
disk_stated old current n m is resource.Disk name = ap (λ (k : Counts). finite.get k name) is ∙ put_amount old.disk current n name

pub returns-in-Cores-clause-amounts : goal.returns-in-Cores-clause-amounts
unfolding Stated
returns-in-Cores-clause-amounts c =
    let old : Categories = c.args.self.now in
    rw c.in-Cores.is (on_ok c.set.result _ _ c.set.ensures.ok (λ is.
    cores_stated old old.current c.args.amount c.set.new.self (is ∙ ap (λ (k : List ℕ). finite.insert old.cores k c.args.amount) c.as_str-current.ensures.value)))

pub returns-in-Memory-clause-amounts : goal.returns-in-Memory-clause-amounts
unfolding Stated
returns-in-Memory-clause-amounts c =
    let old : Categories = c.args.self.now in
    rw c.in-Memory.is (on_ok c.set-in-Memory.result _ _ c.set-in-Memory.ensures.ok (λ is.
    memory_stated old old.current c.args.amount c.set-in-Memory.new.self (is ∙ ap (λ (k : List ℕ). finite.insert old.memory k c.args.amount) c.as_str-current.ensures.value)))

pub returns-in-Disk-clause-amounts : goal.returns-in-Disk-clause-amounts
unfolding Stated
returns-in-Disk-clause-amounts c =
    let old : Categories = c.args.self.now in
    rw c.in-Disk.is (on_ok c.set-in-Disk.result _ _ c.set-in-Disk.ensures.ok (λ is.
    disk_stated old old.current c.args.amount c.set-in-Disk.new.self (is ∙ ap (λ (k : List ℕ). finite.insert old.disk k c.args.amount) c.as_str-current.ensures.value)))
