-- What a hall answers.
use Rattle.std.specs.Prelude.{◌≡◌, ◌<◌, ℕ, ◌+◌, ◌^◌, Bool, false, List, [], Result, Ok, Err}
use Rattle.outside.specs.declared.fault.Fault.{Fault}
use Rattle.links.specs.declared.passing.Came.{Came}
use Rattle.links.specs.declared.passing.Came.TheVariants.{Link, Idle}
use Rattle.links.specs.declared.passing.Passed.{Passed}

-- a link over which nothing has passed
pub record IsFresh {L : Type 0} (history : L → List Passed) (count idles : L → ℕ)
    (closed : L → Bool) (link : L) : Type 0 where
  pub nothing_passed : history link ≡ []
  pub no_fault : count link ≡ 0
  pub no_idle : idles link ≡ 0
  pub not_closed : closed link ≡ false

-- an answer that is a link has this
abbrev pub IfLink : {L : Type 0} → Result (Came L) Fault → (L → Type 0) → Type 0
IfLink (Ok (Link way)) fact = fact way
IfLink (Ok Idle) fact = Unit {0}
IfLink (Err fault) fact = Unit {0}

-- nobody came
abbrev pub IsIdle : {L : Type 0} → Result (Came L) Fault → Type 0
IsIdle (Ok (Link way)) = ⊥
IsIdle (Ok Idle) = Unit {0}
IsIdle (Err fault) = ⊥

-- One link more was given where the answer is a link, and else none.
abbrev pub Gives : {L : Type 0} → Result (Came L) Fault → ℕ → ℕ → Type 0
Gives (Ok (Link way)) old new = (new ≡ old + 1) × (new < 2 ^ 64)
Gives (Ok Idle) old new = new ≡ old
Gives (Err fault) old new = new ≡ old
