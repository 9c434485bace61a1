-- What links had earned that are handed back, and what those offered that have seats.
use Rattle.std.specs.Prelude.{◌≡◌, ◌≤◌, ◌<◌, ◌+◌, ◌⊎◌, ℕ, Bool, true, false, List, ◌++◌, length, Option, Some, None, count_by, filter, is_some}
use Rattle.std.specs.List.{AllByRecursion, last_or}
use Rattle.std.specs.Option.{option_and_then}
use Rattle.flow_types.specs.declared.numbers.Amounts.{Amounts}
use Rattle.flow_types.specs.declared.numbers.LinkNo.{LinkNo}
use Rattle.flow_types.specs.declared.messages.Message.TheVariants as messages
use Rattle.run_history.specs.declared.moves.Move.{Move}
use Rattle.run_history.specs.declared.moves.Move.TheVariants as moves
use Rattle.run_history.specs.declared.links.JoinRefused.{JoinRefused}
use Rattle.run_history.specs.declared.links.JoinRefused.TheVariants as refused
use Rattle.run_history.specs.Links.{LinkRow, names_link, row_in}
use Rattle.run_history.specs.Moves.{is_join, joins_and_changes, most_joins, most_links, next_link}
use Rattle.links.specs.declared.passing.Passed.{Passed}
use Rattle.links.specs.Passings.{received_in}
use Rattle.message_forms.specs.Streams.{Carries}
use Rattle.peers.specs.declared.leave.Leave.{Leave}
use Rattle.peers.specs.declared.leave.Leave.TheVariants as leaves
use Rattle.local_run.specs.declared.halt.Halt.{Halt}
use Rattle.local_run.specs.Links.{link_moves}
use Rattle.wq_run.specs.Seats.{CompanyState, SeatState}

-- ---- offers

-- what a link offers by a hello or totals
abbrev pub row_of : Amounts → Amounts → ℕ → LinkRow
row_of total largest cache = record { total = total; largest = largest; cache = Some cache }

-- Among these bytes came a hello or totals that offer this.
pub record IsOffered (up : List ℕ) (row : LinkRow) : Type 0 where
  pub total : Amounts
  pub largest : Amounts
  pub cache : ℕ
  pub is : row ≡ row_of total largest cache
  pub came : Carries up (messages.Hello total largest cache) ⊎ Carries up (messages.Totals total largest cache)

-- what link k, which isn't the local place, stated last by these moves, if it lives
abbrev pub stated_by : ℕ → List Move → Option LinkRow
stated_by k M = option_and_then row_in (last_or None (filter (names_link k) M))

-- The seat's link joined, and what it stated last was offered there.
pub record OffersAsStated {L : Type 0} (history : L → List Passed) (M : List Move) (s : SeatState L) : Type 0 where
  pub joined : s.link.0 < next_link M
  pub offered : (row : LinkRow) → stated_by s.link.0 M ≡ Some row → IsOffered (received_in (history s.peer.way)) row

-- The move changes this link's amounts as was received there.
abbrev pub IsHeardChange : List ℕ → ℕ → Move → Type 0
IsHeardChange up link (moves.Changed at total largest cache) = (at.0 ≡ link) × Carries up (messages.Totals total largest cache)
IsHeardChange up link _ = ⊥

-- Of the moves that stand behind these, those of links change this link's amounts as was received there.
pub record StatesOn (up : List ℕ) (link : ℕ) (M all : List Move) : Type 0 where
  pub more : List Move
  pub are : link_moves all ≡ link_moves M ++ more
  pub each : AllByRecursion (IsHeardChange up link) more

-- ---- links that are handed back

-- how many of these links have a number
abbrev pub numbered_in : {L : Type 0} → List (Option LinkNo × L) → ℕ
numbered_in links = count_by (λ x. is_some x.0) links

-- A link under this number had earned to be handed back: it is ill, or the desk takes no more joins and changes. One without a number had if it is ill whichever it had, or if the desk has taken as many joins as links may live, or takes no more.
abbrev pub HasEarned : {L : Type 0} → (LinkNo → L → Type 0) → List Move → Option LinkNo → L → Type 0
HasEarned ill M (Some link) way = ill link way ⊎ (most_joins ≤ joins_and_changes M)
HasEarned ill M None way = ((link : LinkNo) → ill link way) ⊎ (most_links ≤ count_by is_join M) ⊎ (most_joins ≤ joins_and_changes M)

-- Each link that was handed back behind those had earned it, each link that joined since was handed back under a number or has a seat, and what the seats' links stated was offered there.
pub record AreEarned {L : Type 0} (ill : LinkNo → L → Type 0) (history : L → List Passed) (before : List (Option LinkNo × L)) (first M : List Move) (seats : List (SeatState L)) (got : List (Option LinkNo × L)) : Type 0 where
  pub links : List (Option LinkNo × L)
  pub are : got ≡ before ++ links
  pub each : AllByRecursion (λ x. HasEarned ill M x.0 x.1) links
  pub joins : count_by is_join M ≤ count_by is_join first + (numbered_in links + length seats)
  pub offered : AllByRecursion (OffersAsStated history M) seats

-- The same where nothing stopped the run, the place where peers come didn't fail and no link was lost.
abbrev pub AreEarnedIf : {L : Type 0} → (LinkNo → L → Type 0) → (L → List Passed) → List (Option LinkNo × L) → List Move → List Move → Option Halt → CompanyState L → List (Option LinkNo × L) → Type 0
AreEarnedIf ill history before first M halt c got = halt ≡ None → c.failed ≡ false → c.lost ≡ false → AreEarned ill history before first M c.seats got

-- Whatever was earned by then, it is so as before, and each link that was handed back since had earned it.
pub record KeepsEarned {L : Type 0} (ill : LinkNo → L → Type 0) (history : L → List Passed) (M all : List Move) (halt halt_now : Option Halt) (c c_now : CompanyState L) (got got_now : List (Option LinkNo × L)) : Type 0 where
  pub goes : (before : List (Option LinkNo × L)) (first : List Move) → AreEarnedIf ill history before first M halt c got → AreEarnedIf ill history before first all halt_now c_now got_now

-- ---- guests

-- Why a guest is left: memory was wanting, or its link is ill whichever number it had.
abbrev pub LeavesGuest : {L : Type 0} → (LinkNo → L → Type 0) → L → Leave → Type 0
LeavesGuest ill way leaves.Memory = Unit {0}
LeavesGuest ill way leave = (link : LinkNo) → ill link way

-- whether a link was lost for want of memory, once the desk refused a guest for this
abbrev pub refused_lost : JoinRefused → Bool → Bool
refused_lost refused.Memory lost = true
refused_lost why lost = lost
