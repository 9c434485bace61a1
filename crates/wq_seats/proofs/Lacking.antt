-- The files that a peer lacks of a task are there.
use Rattle.std.proofs.Common.{◌≡◌, ◌<◌, ◌∙◌, cond, ltb, ℕ, Bool, true, false, List, [], ◌∷◌, ◌++◌, Some, None, refl, sym, ap}
use Rattle.std.specs.List.{AllByRecursion}
use Rattle.std.proofs.lemmas.Bool.{ltb-true}
use Rattle.flow_types.specs.declared.messages.Key.{Key}
use Rattle.flow_types.specs.declared.numbers.FileNo.{FileNo}
use Rattle.link_session.specs.Keys.{contains_key, key_of, lacking}
use Rattle.flow_types.specs.declared.plan.Port.{Port}
use Rattle.task_book.specs.Submissions.{unknown_file}

-- the first of these inputs is there, and so are the others
pub first_there : (n : ℕ) (port : Port) (ports : List Port) → unknown_file n (port ∷ ports) ≡ None → (port.file.0 < n) × (unknown_file n ports ≡ None)
first_there n port ports is = by (ltb port.file.0 n) refl
  where
    by : (b : Bool) → ltb port.file.0 n ≡ b → (port.file.0 < n) × (unknown_file n ports ≡ None)
    by true low = (ltb-true port.file.0 n low, sym (ap (λ (b : Bool). cond b (unknown_file n ports) (Some port.file)) low) ∙ is)
    by false high = absurd (let none : Some port.file ≡ None = sym (ap (λ (b : Bool). cond b (unknown_file n ports) (Some port.file)) high) ∙ is in let wrong : ⊥ = cc in wrong)

lacking_by : (n : ℕ) (known : List Key) (run : ℕ) (port : Port) (ports : List Port) (b : Bool) → port.file.0 < n → AllByRecursion (λ (file : FileNo). file.0 < n) (lacking known run ports)
    → AllByRecursion (λ (file : FileNo). file.0 < n) (lacking (known ++ key_of run port.file ∷ []) run ports)
    → AllByRecursion (λ (file : FileNo). file.0 < n) (cond b (lacking known run ports) (port.file ∷ lacking (known ++ key_of run port.file ∷ []) run ports))
lacking_by n known run port ports true less rest more = rest
lacking_by n known run port ports false less rest more = (less, more)

pub lacking_there : (n : ℕ) (known : List Key) (run : ℕ) (ports : List Port) → unknown_file n ports ≡ None → AllByRecursion (λ (file : FileNo). file.0 < n) (lacking known run ports)
lacking_there n known run [] is = tt
lacking_there n known run (port ∷ ports) is =
    let parts = first_there n port ports is in
    lacking_by n known run port ports (contains_key (key_of run port.file) known) parts.0 (lacking_there n known run ports parts.1) (lacking_there n (known ++ key_of run port.file ∷ []) run ports parts.1)
