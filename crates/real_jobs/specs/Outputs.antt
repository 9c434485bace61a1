-- Which files of a job's folder are no outputs.
use Rattle.std.specs.Prelude.{◌≡◌, ◌<◌, ℕ}
use Rattle.flow_types.specs.declared.job.Failure.{Failure}
use Rattle.flow_types.specs.declared.job.Failure.TheVariants.{Status, MissingOutput, TooLong}

-- the output of this index is missing, or longer than `most`
abbrev pub IsRefused : ℕ → ℕ → Failure → Type 0
IsRefused index most (Status code) = ⊥
IsRefused index most (MissingOutput refused) = refused ≡ index
IsRefused index most (TooLong refused size) = (refused ≡ index) × (most < size)
