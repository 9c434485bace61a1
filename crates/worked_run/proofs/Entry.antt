-- The files at the entry, and that no crash leaves a log there.
use Rattle.std.proofs.Common.{◌≡◌, ℕ, List, [], ◌∷◌, ◌++◌, Option, Some, None, refl, subst}
use Rattle.std.specs.Prelude.{codes}
use Rattle.std.specs.Str.{is_utf8, chars}
use lib.Utf8.{encode}
use Rattle.flow_types.specs.Names.{name_of}
use Rattle.outside.specs.Files.{Files}
use Rattle.mem_outside.specs.declared.step.Change.{Change}
use Rattle.mem_outside.specs.declared.step.Change.TheVariants.{Put}
use Rattle.mem_outside.specs.declared.step.Step.{Step}
use Rattle.mem_outside.specs.MemSite.{no_files}
use Rattle.mem_outside.specs.Steps.{leaves}
use Rattle.worked_run.specs.Worked.{flow_bytes, log_name}

-- the step that put a file
abbrev pub put_step : ℕ → List ℕ → List ℕ → Step
put_step call name content = record { call = call; name = name; change = Put content }

pub source_is_named : name_of (codes "a") ≡ Some (codes "a")
unfolding is_utf8 chars encode
source_is_named = refl

pub flow_is_named : name_of (codes "flow") ≡ Some (codes "flow")
unfolding is_utf8 chars encode
flow_is_named = refl

pub no_log : (one two : ℕ) (start : Files) (steps : List Step) → start ≡ no_files
    → steps ≡ ([] ++ put_step one (codes "a") (codes "abc") ∷ []) ++ put_step two (codes "flow") flow_bytes ∷ []
    → (entry : Option (List ℕ)) → leaves start steps log_name entry → entry ≡ None
no_log one two start steps none are entry left =
    subst (λ (ss : List Step). leaves no_files ss log_name entry) are (subst (λ (fs : Files). leaves fs steps log_name entry) none left)
