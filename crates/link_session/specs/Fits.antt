-- What a message may say of an attempt, by its task.
use Rattle.std.specs.Prelude.{ℕ, ◌==◌, Bool, true, false, ◌&&◌, nat_le, nat_lt, List, [], ◌∷◌, length, sum_by}
use Rattle.std.specs.List.{list_any, list_all}
use Rattle.flow_types.specs.declared.numbers.FileNo.{FileNo}
use Rattle.flow_types.specs.declared.job.Failure.{Failure}
use Rattle.flow_types.specs.declared.job.Failure.TheVariants as failures
use Rattle.flow_types.specs.declared.job.Outcome.{Outcome}
use Rattle.flow_types.specs.declared.job.Outcome.TheVariants as outcomes
use Rattle.flow_types.specs.Plans.{most_bytes}

-- one content for each bound, and within it
abbrev pub are_within : List ℕ → List (List ℕ) → Bool
are_within [] [] = true
are_within (bound ∷ bounds) (content ∷ contents) =
    nat_le (length content) bound && are_within bounds contents
are_within _ _ = false

-- the same, and together no more than a rule may make
abbrev pub contents_fit : List ℕ → List (List ℕ) → Bool
contents_fit bounds contents =
    are_within bounds contents && nat_le (sum_by (λ c. length c) contents) most_bytes

-- the index in the failure, where it has one, is that of one of so many outputs
abbrev pub names_output : Failure → ℕ → Bool
names_output (failures.Status code) outputs = true
names_output (failures.MissingOutput index) outputs = nat_lt index outputs
names_output (failures.TooLong index size) outputs = nat_lt index outputs

-- so may the attempt of a task with these bounds end
abbrev pub outcome_fits : List ℕ → Outcome → Bool
outcome_fits bounds (outcomes.Success contents) = contents_fit bounds contents
outcome_fits bounds (outcomes.Failed why) = names_output why (length bounds)
outcome_fits bounds outcomes.NotRun = true

-- the file is among these
abbrev pub contains_file : FileNo → List FileNo → Bool
contains_file file files = list_any (λ other. other.0 == file.0) files

-- all of the wanted files are among these
abbrev pub has_all : List FileNo → List FileNo → Bool
has_all files wanted = list_all (λ file. contains_file file files) wanted
