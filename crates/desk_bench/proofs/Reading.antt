-- A desk that read a file has the plan that it had.
use Rattle.std.proofs.Common.{◌≡◌, ℕ, true, List, Result, refl, sym, subst, true≢false}
use Rattle.std.specs.Prelude.{is_some}
use Rattle.flow_types.specs.declared.plan.Plan.{Plan}
use Rattle.flow_types.specs.declared.numbers.FileNo.{FileNo}
use Rattle.flow_types.specs.declared.numbers.Content.{Content}
use Rattle.run_history.specs.declared.states.FileState.{FileState}
use Rattle.run_history.specs.declared.states.FileState.TheVariants as file
use Rattle.run_history.specs.States.{file_state}
use Rattle.run_history.specs.Storage.{size_in, is_present}
use Rattle.run_history.specs.Laws.{IsPresent}
use Rattle.run_history.specs.Links.{records_of}
use Rattle.desk.specs.declared.answers.InputRefused.{InputRefused}
use Rattle.desk.specs.Inputs.{Looks}
use Rattle.desk.specs.State.{DeskState}
use Rattle.desk.proofs.Growing.{looks_grows}
use Rattle.desk_bench.specs.Benches.{HasOutputs}

-- the content of a file that is present
there : (s : FileState) → is_some (size_in s) ≡ true → (content : Content) × (s ≡ file.Present content)
there (file.Present content) is = (content, refl)
there file.Absent is = absurd (true≢false (sym is))
there file.Collected is = absurd (true≢false (sym is))

-- what its rules may make stays the same
pub looks_keeps : {S : Type 0} (count : S → ℕ) (d : DeskState S) (f : FileNo) (r : Result (List ℕ) InputRefused) (after : DeskState S) (outs : List (List (List ℕ)))
    → is_present d.plan (records_of d.moves) f.0 ≡ true
    → ((logged : Content) → IsPresent d.plan (records_of d.moves) f.0 logged → Looks count d f logged r after)
    → HasOutputs d.plan outs → HasOutputs after.plan outs
looks_keeps count d f r after outs is looks has =
    let known : (content : Content) × (file_state d.plan (records_of d.moves) f.0 ≡ file.Present content) = there (file_state d.plan (records_of d.moves) f.0) is in
    let same : after.plan ≡ d.plan = (looks_grows count d f known.0 r after (looks known.0 known.1)).3 in
    subst (λ (p : Plan). HasOutputs p outs) (sym same) has
