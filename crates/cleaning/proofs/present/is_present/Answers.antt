use Rattle.std.proofs.Common.{◌≡◌, ◌∙◌, ⊎_elim, Bool, ap, sym}
use Rattle.std.specs.Prelude.{is_some}
use Rattle.run_history.specs.declared.states.FileState.{FileState}
use Rattle.run_history.specs.declared.states.FileState.TheVariants as file
use Rattle.run_history.specs.Storage.{size_in}
use Rattle.cleaning.proofs.present.is_present.Goals as goal

pub returns-in-Absent : goal.returns-in-Absent
returns-in-Absent c =
    let has_size : FileState → Bool = λ s. is_some (size_in s) in
    ⊎_elim
    (λ (absent : c.file.result ≡ file.Absent). sym (ap has_size (sym c.file.ensures.state ∙ absent)))
    (λ (collected : c.file.result ≡ file.Collected). sym (ap has_size (sym c.file.ensures.state ∙ collected))) c.in-Absent.is
