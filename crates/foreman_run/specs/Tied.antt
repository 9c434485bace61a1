-- How what a foreman met of its workers is tied to the links that it handed back.
use Rattle.std.specs.Prelude.{◌≡◌, ◌≤◌, ◌⊎◌, ◌+◌, ℕ, List, [], ◌∷◌, ◌++◌, length, Option, Some, None, Result, Ok, Err}
use Rattle.flow_types.specs.declared.numbers.LinkNo.{LinkNo}
use Rattle.foreman_core.specs.declared.acts.Down.{Down}
use Rattle.foreman_core.specs.Members.{Every}
use Rattle.links.specs.Passings.{received_in}
use Rattle.message_forms.specs.Streams.{BeginsWith}
use Rattle.foreman_run.specs.Lost.{IsHelloFirst, Seen}
use Rattle.foreman_run.specs.Lowers.{AreBegun, HearsOn, IsLost, LowerState, from_link, held_under}
use Rattle.foreman_run.specs.Met.{Met, above, below, lost, AreOnce, lost_under, met_under, one_if, roll_of, told_of}

-- what a foreman's state is seen beside: the count of faults that the link to its parent had first,
-- the links that were handed back before it began and by now, how many links have had a number, and
-- that of the link that was handed back and whose loss is to be met next
pub record Book (L : Type 0) : Type 0 where
  pub faults : ℕ
  pub first : List (Option LinkNo × L)
  pub got : List (Option LinkNo × L)
  pub upto : ℕ
  pub due : Option LinkNo

-- the same where these links are handed back by now, and the losses were met that were to be
abbrev pub with_got : {L : Type 0} → Book L → List (Option LinkNo × L) → Book L
with_got book got = record {
  faults = book.faults;
  first = book.first;
  got = got;
  upto = book.upto;
  due = None;
}

-- the same where so many have had a number, too
abbrev pub with_hall : {L : Type 0} → Book L → List (Option LinkNo × L) → ℕ → Book L
with_hall book got upto = record {
  faults = book.faults;
  first = book.first;
  got = got;
  upto = upto;
  due = None;
}

-- the same where the loss of this link is to be met next
abbrev pub with_due : {L : Type 0} → Book L → Option LinkNo → Book L
with_due book due = record {
  faults = book.faults;
  first = book.first;
  got = book.got;
  upto = book.upto;
  due = due;
}

-- what it is seen beside first, at a new link to its parent
abbrev pub new_book : {L : Type 0} → List (Option LinkNo × L) → Book L
new_book got = record { faults = 0; first = got; got = got; upto = 0; due = None }

-- whether this is the number
abbrev pub due_under : ℕ → Option LinkNo → ℕ
due_under k None = 0
due_under k (Some link) = one_if link.0 k

-- how many of the links were handed back under this number
abbrev pub back_under : {L : Type 0} → ℕ → List (Option LinkNo × L) → ℕ
back_under k [] = 0
back_under k (link ∷ links) = due_under k link.0 + back_under k links

-- A link that was handed back has a number, and what came over it begins with the frames of the
-- messages from below that came under that.
pub record HasCome {L : Type 0} (tells : Type 0) (seen : L → Seen) (told : List Down)
    (link : Option LinkNo × L) : Type 0 where
  pub number : LinkNo
  pub is : link.0 ≡ Some number
  pub begins : tells → BeginsWith (received_in (seen link.1).history) (from_link number.0 told)

-- A link whose loss was met, or is to be met next, is lost for a cause that it shows.
pub record IsLostIf {L : Type 0} (tells : Type 0) (seen : L → Seen) (cap : ℕ) (past : List Met)
    (due : Option LinkNo) (link : Option LinkNo × L) : Type 0 where
  pub cause : tells → (k : LinkNo) → link.0 ≡ Some k → 1 ≤ lost_under k.0 past + due_under k.0 due
      → IsLost (roll_of cap past) k (seen link.1)

-- Where a message is met of a worker nothing was met of it before, or first its hello.
abbrev pub AreGreeted : List Met → Type 0
AreGreeted [] = Unit {0}
AreGreeted (above m ∷ past) = AreGreeted past
AreGreeted (below link m ∷ past) = AreGreeted past
    × ((from_link link.0 (told_of past) ≡ []) ⊎ IsHelloFirst (from_link link.0 (told_of past)))
AreGreeted (lost link ∷ past) = AreGreeted past

-- The link was handed back under its number, or it was lost.
abbrev pub MayHandBack : {L : Type 0} → LinkNo → L → List (Option LinkNo × L)
    → List (Option LinkNo × L) → Type 0
MayHandBack link way got got_now =
    (got_now ≡ got ++ ((Some link, way) ∷ [])) ⊎ (got_now ≡ got)

-- It was handed back where that was answered, and else lost.
abbrev pub HandsBack : {L T E : Type 0} → LinkNo → L → List (Option LinkNo × L)
    → List (Option LinkNo × L) → Result T E → Type 0
HandsBack link way got got_now (Ok x) = got_now ≡ got ++ ((Some link, way) ∷ [])
HandsBack link way got got_now (Err why) = got_now ≡ got

-- A worker's link was handed back or lost, and nothing more had been received there.
pub record LetsGoOne {L : Type 0} (tells : Type 0) (seen : L → Seen)
    (lower : LowerState L) (got got_now : List (Option LinkNo × L)) : Type 0 where
  pub way : L
  pub comes : tells → HearsOn (seen lower.way).history (seen way).history
  pub back : MayHandBack lower.link way got got_now

-- What was met came over the links that are held or were handed back, which have different numbers
-- from 1 upward: of each a first part of what came over it, and then its loss at most. A link that is
-- neither held nor was handed back is missing.
pub record AreTied {L : Type 0} (tells : Type 0) (seen : L → Seen) (cap : ℕ) (past : List Met)
    (lowers : List (LowerState L)) (book : Book L) : Type 0 where
  pub back : List (Option LinkNo × L)
  pub are : book.got ≡ book.first ++ back
  pub missing : ℕ
  pub many : length lowers + length back + missing ≡ book.upto
  pub apart : (k : ℕ) → held_under k lowers + back_under k back ≤ 1
  pub within : (k : ℕ) → 1 ≤ held_under k lowers + back_under k back → (1 ≤ k) × (k ≤ book.upto)
  pub known : (k : ℕ) → 1 ≤ met_under k past → (1 ≤ k) × (k ≤ book.upto)
  pub there : missing ≡ 0 → (k : ℕ) → 1 ≤ met_under k past → 1 ≤ held_under k lowers + back_under k back
  pub once : AreOnce past
  pub unlost : (k : ℕ) → 1 ≤ held_under k lowers + due_under k book.due → lost_under k past ≡ 0
  pub pending : (k : ℕ) → due_under k book.due ≤ back_under k back
  pub greeted : AreGreeted past
  pub begun : AreBegun tells seen (told_of past) lowers
  pub come : Every (HasCome tells seen (told_of past)) back
  pub causes : Every (IsLostIf tells seen cap past book.due) back

-- What a foreman met of its workers came over the links that were handed back in its call, as far as
-- the hall's links tell. Each was handed back under a number, no two under one, and the numbers are
-- those from 1 to the count of the links that the hall gave. Of each number a first part of what came
-- over its link was met, and then its loss at most. Where all links that were given were handed back,
-- whatever was met is of one of these. Where more than one message was met of a link the first is a
-- hello, and a link whose loss was met is lost for a cause that it shows.
pub record CameOver {L : Type 0} (tells : Type 0) (seen : L → Seen) (cap : ℕ)
    (got got_now : List (Option LinkNo × L)) (given given_now : ℕ) (past : List Met) : Type 0 where
  pub links : List (Option LinkNo × L)
  pub back : got_now ≡ got ++ links
  pub apart : (k : ℕ) → back_under k links ≤ 1
  pub within : (k : ℕ) → 1 ≤ back_under k links → (1 ≤ k) × (k + given ≤ given_now)
  pub known : (k : ℕ) → 1 ≤ met_under k past → (1 ≤ k) × (k + given ≤ given_now)
  pub there : length links + given ≡ given_now → (k : ℕ) → 1 ≤ met_under k past → 1 ≤ back_under k links
  pub once : AreOnce past
  pub greeted : AreGreeted past
  pub come : Every (HasCome tells seen (told_of past)) links
  pub causes : Every (IsLostIf tells seen cap past None) links
