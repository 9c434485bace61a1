-- What becomes of the links that a hall hands out.
use Rattle.std.specs.Prelude.{◌≡◌, ◌≤◌, ◌<◌, ◌+◌, ℕ, Bool, true, List, ◌++◌, length, Result, Ok, Err}
use Rattle.peer_run.specs.declared.halt.Halt.TheVariants.{Bye, Memory}
use Rattle.foreman_run.specs.declared.stop.Stop.{Stop}
use Rattle.foreman_run.specs.declared.stop.Stop.TheVariants.{Left, Hall}

-- More links were handed back. With those that are held, and so many that were lost since memory was
-- wanting, they are as many as the hall gave.
pub record Hosts {X : Type 0} (count count_now : ℕ) (got got_now : List X) (given given_now : ℕ)
    (inside inside_now lost : ℕ) : Type 0 where
  pub later : count ≤ count_now
  pub more : List X
  pub are : got_now ≡ got ++ more
  pub many : length more + lost + inside_now + given ≡ given_now + inside

-- Only where memory was wanting was any lost, and only where the hall failed does a stop say so.
abbrev pub StopLoses : ℕ → ℕ → ℕ → Stop → Type 0
StopLoses lost count count_now (Left Memory) = Unit {0}
StopLoses lost count count_now (Left halt) = lost ≡ 0
StopLoses lost count count_now Hall = (lost ≡ 0) × (count < count_now)

-- The same of a result.
abbrev pub LosesBy : {T : Type 0} → ℕ → ℕ → ℕ → Result T Stop → Type 0
LosesBy lost count count_now (Ok x) = lost ≡ 0
LosesBy lost count count_now (Err stop) = StopLoses lost count count_now stop

-- What a call makes of the hall's links.
abbrev pub HostsBy : {T X : Type 0} → ℕ → ℕ → List X → List X → ℕ → ℕ → ℕ → ℕ → Result T Stop → Type 0
HostsBy count count_now got got_now given given_now inside inside_now result =
    (lost : ℕ) × Hosts count count_now got got_now given given_now inside inside_now lost
    × LosesBy lost count count_now result

-- The same where it answers a stop.
abbrev pub HostsTill : {X : Type 0} → ℕ → ℕ → List X → List X → ℕ → ℕ → ℕ → ℕ → Stop → Type 0
HostsTill count count_now got got_now given given_now inside inside_now stop =
    (lost : ℕ) × Hosts count count_now got got_now given given_now inside inside_now lost
    × StopLoses lost count count_now stop

-- The same where it answers whether none was lost.
abbrev pub HostsWhole : {X : Type 0} → ℕ → ℕ → List X → List X → ℕ → ℕ → ℕ → ℕ → Bool → Type 0
HostsWhole count count_now got got_now given given_now inside inside_now whole =
    (lost : ℕ) × Hosts count count_now got got_now given given_now inside inside_now lost
    × (whole ≡ true → lost ≡ 0)

-- Once all links were let go: none was lost where the work is over, and the hall failed where it is
-- why.
abbrev pub IsLetGo : ℕ → ℕ → ℕ → Stop → Type 0
IsLetGo lost count count_now (Left Bye) = lost ≡ 0
IsLetGo lost count count_now (Left halt) = Unit {0}
IsLetGo lost count count_now Hall = count < count_now

-- Each link that was given was handed back once, or was lost since memory was wanting.
abbrev pub LetsGo : {X : Type 0} → ℕ → ℕ → List X → List X → ℕ → ℕ → Stop → Type 0
LetsGo count count_now got got_now given given_now stop =
    (lost : ℕ) × Hosts count count_now got got_now given given_now 0 0 lost
    × IsLetGo lost count count_now stop
