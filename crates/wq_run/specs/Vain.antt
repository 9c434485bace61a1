-- What is so of each link that was handed back, where a run waited in vain.
use Rattle.std.specs.Prelude.{◌≡◌, ◌<◌, ◌⊎◌, ◌&&◌, ◌||◌, not, ℕ, Bool, true, false, List, [], ◌∷◌, ◌++◌, length, Option, Some, All}
use Rattle.std.specs.List.{AllByRecursion, list_all}
use Rattle.flow_types.specs.declared.plan.Plan.{Plan}
use Rattle.flow_types.specs.declared.numbers.Amounts.{Amounts}
use Rattle.flow_types.specs.declared.numbers.LinkNo.{LinkNo}
use Rattle.flow_types.specs.declared.numbers.Needs.TheVariants as needs
use Rattle.flow_types.specs.declared.job.Failure.{Failure}
use Rattle.flow_types.specs.declared.job.Job.{Job}
use Rattle.flow_types.specs.declared.records.Record.{Record}
use Rattle.flow_types.specs.Serial.{Function}
use Rattle.run_history.specs.declared.answers.Check.{Check}
use Rattle.run_history.specs.declared.answers.Check.TheVariants as checks
use Rattle.run_history.specs.declared.options.Options.{Options}
use Rattle.run_history.specs.Admissions.{Admitting, may_be_stored}
use Rattle.run_history.specs.Links.{LinkRow, amounts_on, has_room, is_at_most, load_of, may_run_on, needs_of}
use Rattle.run_history.specs.Storage.{ready_rules}
use Rattle.links.specs.declared.passing.Passed.{Passed}
use Rattle.links.specs.Honesty.{IsAtLeast}
use Rattle.links.specs.Ill.{IsIll}
use Rattle.links.specs.Passings.{received_in}
use Rattle.peers.specs.Serves.{WasHonest}
use Rattle.peers.specs.States.{PeerState, PassesOn}
use Rattle.wq_run.specs.declared.rounds.Turn.{Turn}
use Rattle.wq_run.specs.declared.rounds.Turn.TheVariants as turns
use Rattle.wq_run.specs.Earned.{IsOffered}
use Rattle.wq_run.specs.Losses.{account_of, accounts_of}
use Rattle.wq_run.specs.Seats.{SeatState}

-- rule r may run on link k, which offers this, and fits it with nothing running there
abbrev pub fits_empty : Plan → Options → List Record → ℕ → LinkRow → ℕ → Bool
fits_empty P O H k row r = may_run_on P O r k && has_room k row [] (load_of P H r)

-- No ready rule that is admitted, fits the storage and may run on a link beside the local place fits one that offers this, with nothing running there.
abbrev pub TakesNone : Admitting → Plan → Options → List Record → LinkRow → Type 0
TakesNone A P O H row = (k : ℕ) → 0 < k → list_all (λ r. not (may_be_stored A P O H r) || not (fits_empty P O H k row r)) (ready_rules P H) ≡ true

-- The link is ill among these, or a hello or totals came over it whose offer takes none of the rules.
abbrev pub IsVainLink : {L : Type 0} → Function → (Job → Failure → Type 0) → (L → List Passed) → (L → ℕ) → (L → ℕ) → (L → Bool) → ℕ → Admitting → Plan → Options → List Record → List (Option LinkNo × L) → Option LinkNo × L → Type 0
IsVainLink gives may_fail history count idles closed limit A P O H links link =
    IsIll limit (WasHonest gives may_fail (history link.1)) (accounts_of history count idles closed links) (account_of history count idles closed link.0 link.1)
    ⊎ ((row : LinkRow) × IsOffered (received_in (history link.1)) row × TakesNone A P O H row)

-- Each of the links that were handed back behind those is so, by these records.
pub record AreVain {L : Type 0} (gives : Function) (may_fail : Job → Failure → Type 0) (history : L → List Passed) (count idles : L → ℕ) (closed : L → Bool) (limit : ℕ) (A : Admitting) (P : Plan) (O : Options) (H : List Record) (got got_now : List (Option LinkNo × L)) : Type 0 where
  pub links : List (Option LinkNo × L)
  pub back : got_now ≡ got ++ links
  pub each : All (IsVainLink gives may_fail history count idles closed limit A P O H links) links

-- It is so if the run waited in vain.
abbrev pub IfWaited : Check → Type 0 → Type 0
IfWaited (checks.Waited wait) so = so
IfWaited _ so = Unit {0}

-- A round that tells of a wait in vain leaves no guest, and one that tells of an end tells of none for which a run has to wait.
abbrev pub IsAlone : {L : Type 0} → List (PeerState L) → Turn → Type 0
IsAlone guests (turns.Over check) = IfWaited check ⊥
IsAlone guests (turns.Vain n) = guests ≡ []
IsAlone guests turns.Again = Unit {0}

-- The link is one of these seats', under its number, and what was received there stays.
pub record IsOfSeat {L : Type 0} (history : L → List Passed) (seats : List (SeatState L)) (link : Option LinkNo × L) : Type 0 where
  pub earlier : List (SeatState L)
  pub seat : SeatState L
  pub later : List (SeatState L)
  pub among : seats ≡ earlier ++ (seat ∷ later)
  pub number : link.0 ≡ Some seat.link
  pub comes : PassesOn (history seat.peer.way) (history link.1)

-- As many links were handed back behind those as there were seats, and each is one of theirs.
pub record HandsBack {L : Type 0} (history : L → List Passed) (seats : List (SeatState L)) (got got_now : List (Option LinkNo × L)) : Type 0 where
  pub links : List (Option LinkNo × L)
  pub are : got_now ≡ got ++ links
  pub each : AllByRecursion (IsOfSeat history seats) links
  pub many : length links ≡ length seats

-- Each rule that may run at the local place needs no more than there is, and what each other rule states is at most these amounts.
pub record NeedsAtMost (P : Plan) (O : Options) (least : Amounts) : Type 0 where
  pub here : (r : ℕ) → r < length P.rules → may_run_on P O r 0 ≡ true → is_at_most (amounts_on 0 O.local (needs_of P r)) O.local ≡ true
  pub there : (r : ℕ) (amounts : Amounts) → r < length P.rules → may_run_on P O r 0 ≡ false → needs_of P r ≡ needs.Stated amounts → IsAtLeast amounts least
