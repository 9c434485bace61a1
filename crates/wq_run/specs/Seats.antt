-- Workers that joined, each with the attempts that run there, as the run has them.
use Rattle.std.specs.Prelude.{◌==◌, cond, sum_by, ◌≡◌, ◌≢◌, ◌≤◌, ◌<◌, ◌+◌, ◌⊎◌, ℕ, Bool, true, false, List, [], ◌∷◌, ◌++◌, Option, Some, None, Result, Ok, Err, length, map, slice_get}
use Rattle.std.specs.List.{AllByRecursion}
use Rattle.flow_types.specs.declared.plan.Plan.{Plan}
use Rattle.flow_types.specs.declared.plan.Rule.{Rule}
use Rattle.flow_types.specs.declared.numbers.AttemptNo.{AttemptNo}
use Rattle.flow_types.specs.declared.numbers.LinkNo.{LinkNo}
use Rattle.flow_types.specs.declared.job.Failure.{Failure}
use Rattle.flow_types.specs.declared.job.Job.{Job}
use Rattle.flow_types.specs.declared.job.Outcome.{Outcome}
use Rattle.flow_types.specs.declared.job.Outcome.TheVariants as outcomes
use Rattle.flow_types.specs.declared.job.Start.{Start}
use Rattle.flow_types.specs.Plans.{makes}
use Rattle.flow_types.specs.Serial.{Contents, Function}
use Rattle.run_history.specs.declared.moves.Move.{Move}
use Rattle.run_history.specs.declared.options.Options.{Options}
use Rattle.run_history.specs.Legal.{is_failure_at}
use Rattle.run_history.specs.Links.{is_live}
use Rattle.outside.specs.Disk.{Outcomes}
use Rattle.outside.specs.Files.{Files}
use Rattle.worker_pool.specs.declared.hand.Tally.{Tally}
use Rattle.desk.specs.declared.attempt.Attempt.{Attempt}
use Rattle.desk.specs.State.{AreOutputs, DeskState}
use Rattle.desk.specs.Tasks.{want_at}
use Rattle.link_session.specs.declared.open.Open.{Open}
use Rattle.peers.specs.declared.leave.Leave.{Leave}
use Rattle.peers.specs.States.{PeerState}
use Rattle.local_run.specs.Underway.{AwayState, HeldState, IsHeld, Underway}

-- A peer that joined, the number of its link, the attempts that run there, and the number of the newest that was opened there.
pub record SeatState (L : Type 0) : Type 0 where
  pub peer : PeerState L
  pub link : LinkNo
  pub attempts : List Attempt
  pub newest : Option AttemptNo

-- the same seat with other attempts
abbrev pub seat_with : {L : Type 0} → SeatState L → List Attempt → SeatState L
seat_with seat attempts = record seat { attempts = attempts }

-- each of these attempts is on this link
abbrev pub AreOn : ℕ → List Attempt → Type 0
AreOn link [] = Unit {0}
AreOn link (a ∷ attempts) = (a.link.0 ≡ link) × AreOn link attempts

-- What the session keeps of an open attempt are the bounds of what the rule is wanted to make.
abbrev pub Suits : Plan → ℕ → Open → Type 0
Suits P r o = (row : Rule) → slice_get P.rules r ≡ Some row → o.bounds ≡ map (λ want. want.bound) (map (want_at P) row.outputs)

-- the attempt is at a rule of the plan
abbrev pub IsInside : Plan → Attempt → Type 0
IsInside P a = a.rule.0 < length P.rules

-- Where the attempt is the one that is open, it suits its rule.
abbrev pub SuitsIts : Plan → Open → Attempt → Type 0
SuitsIts P o a = a.number ≡ o.attempt → Suits P a.rule.0 o

-- An open attempt is one of these, and suits its rule.
pub record IsOpenAt (P : Plan) (attempts : List Attempt) (o : Open) : Type 0 where
  pub held : IsHeld o.attempt attempts
  pub suits : AllByRecursion (SuitsIts P o) attempts

-- A seat's link joined and lives, and its attempts are on it.
pub record IsPlaced {L : Type 0} (O : Options) (M : List Move) (s : SeatState L) : Type 0 where
  pub beyond : 0 < s.link.0
  pub lives : is_live O M s.link.0 ≡ true
  pub there : AreOn s.link.0 s.attempts

-- The same, its peer can be heard, and each attempt that is open at its peer is one of these.
pub record IsSeat {L : Type 0} (P : Plan) (O : Options) (M : List Move) (s : SeatState L) : Type 0 where
  pub placed : IsPlaced O M s
  pub opens : AllByRecursion (IsOpenAt P s.attempts) s.peer.session.attempts
  pub going : s.peer.feed.stop ≡ None

-- no seat has this link
abbrev pub IsUnseated : {L : Type 0} → ℕ → List (SeatState L) → Type 0
IsUnseated link [] = Unit {0}
IsUnseated link (s ∷ seats) = (s.link.0 ≢ link) × IsUnseated link seats

-- Each is a seat, and no link has two.
abbrev pub AreSeats : {L : Type 0} → Plan → Options → List Move → List (SeatState L) → Type 0
AreSeats P O M [] = Unit {0}
AreSeats P O M (s ∷ seats) = IsSeat P O M s × IsUnseated s.link.0 seats × AreSeats P O M seats

-- the attempts of all seats
abbrev pub gathered : {L : Type 0} → List (SeatState L) → List Attempt
gathered [] = []
gathered (s ∷ seats) = s.attempts ++ gathered seats

-- An attempt at the rule may end so.
abbrev pub MayEnd : Plan → ℕ → Outcome → Type 0
MayEnd P r (outcomes.Success outs) = AreOutputs P r outs
MayEnd P r (outcomes.Failed why) = is_failure_at why (length (makes P r)) ≡ true
MayEnd P r outcomes.NotRun = Unit {0}

-- The same of each of these attempts that has the number.
abbrev pub MayEndAs : Plan → AttemptNo → Outcome → Attempt → Type 0
MayEndAs P number outcome a = a.number ≡ number → MayEnd P a.rule.0 outcome

-- What a run has come to, seen from one seat: the attempts on links are those of the seat and others before and behind them.
pub record AtSeat {S L : Type 0} (trust : Type 0) (gives : Function) (may_fail : Job → Failure → Type 0) (sources : Contents) (tells kept sure : Type 0) (files : S → Files) (may_leave : S → Outcomes) (moment : S → ℕ)
    (images_since : S → ℕ → Files → Type 0) (front back : List Attempt) (first now : DeskState S) (held : HeldState) (waiting : List Start) (heard : Tally) (s : SeatState L) : Type 0 where
  pub away : AwayState
  pub are : away.attempts ≡ front ++ (s.attempts ++ back)
  pub under : Underway trust gives may_fail sources tells kept sure files may_leave moment images_since away first now held.attempts waiting None heard held.halt
  pub seat : IsSeat now.plan now.options now.moves s

-- It is so of some other attempts, since some desk.
pub record IsAtSeat {S L : Type 0} (trust : Type 0) (gives : Function) (may_fail : Job → Failure → Type 0) (sources : Contents) (tells kept sure : Type 0) (files : S → Files) (may_leave : S → Outcomes) (moment : S → ℕ)
    (images_since : S → ℕ → Files → Type 0) (now : DeskState S) (held : HeldState) (s : SeatState L) : Type 0 where
  pub front : List Attempt
  pub back : List Attempt
  pub first : DeskState S
  pub waiting : List Start
  pub heard : Tally
  pub at : AtSeat trust gives may_fail sources tells kept sure files may_leave moment images_since front back first now held waiting heard s

-- The same of a seat whose peer is heard no more.
pub record AtPlace {S L : Type 0} (trust : Type 0) (gives : Function) (may_fail : Job → Failure → Type 0) (sources : Contents) (tells kept sure : Type 0) (files : S → Files) (may_leave : S → Outcomes) (moment : S → ℕ)
    (images_since : S → ℕ → Files → Type 0) (front back : List Attempt) (first now : DeskState S) (held : HeldState) (waiting : List Start) (heard : Tally) (s : SeatState L) : Type 0 where
  pub away : AwayState
  pub are : away.attempts ≡ front ++ (s.attempts ++ back)
  pub under : Underway trust gives may_fail sources tells kept sure files may_leave moment images_since away first now held.attempts waiting None heard held.halt
  pub place : IsPlaced now.options now.moves s

-- It is so of some other attempts, since some desk.
pub record IsAtPlace {S L : Type 0} (trust : Type 0) (gives : Function) (may_fail : Job → Failure → Type 0) (sources : Contents) (tells kept sure : Type 0) (files : S → Files) (may_leave : S → Outcomes) (moment : S → ℕ)
    (images_since : S → ℕ → Files → Type 0) (now : DeskState S) (held : HeldState) (s : SeatState L) : Type 0 where
  pub front : List Attempt
  pub back : List Attempt
  pub first : DeskState S
  pub waiting : List Start
  pub heard : Tally
  pub at : AtPlace trust gives may_fail sources tells kept sure files may_leave moment images_since front back first now held waiting heard s

-- Each link that lived lives on, and the seat is the same one.
pub record Stays {S L : Type 0} (d after : DeskState S) (s s_now : SeatState L) : Type 0 where
  pub live : (k : ℕ) → is_live d.options d.moves k ≡ true → is_live after.options after.moves k ≡ true
  pub link : s_now.link ≡ s.link

-- Whatever the run has come to, seen from the seat, it comes to the like.
pub record KeepsSeat {S L : Type 0} (trust : Type 0) (gives : Function) (may_fail : Job → Failure → Type 0) (sources : Contents) (tells kept sure : Type 0) (files : S → Files) (may_leave : S → Outcomes) (moment : S → ℕ)
    (images_since : S → ℕ → Files → Type 0) (d after : DeskState S) (held held_now : HeldState) (s s_now : SeatState L) : Type 0 where
  pub keeps : (front back : List Attempt) (first : DeskState S) (waiting : List Start) (heard : Tally)
      → AtSeat trust gives may_fail sources tells kept sure files may_leave moment images_since front back first d held waiting heard s
      → AtSeat trust gives may_fail sources tells kept sure files may_leave moment images_since front back first after held_now waiting heard s_now
  pub stays : Stays d after s s_now

-- The same, but that the peer is heard no more.
pub record LeavesSeat {S L : Type 0} (trust : Type 0) (gives : Function) (may_fail : Job → Failure → Type 0) (sources : Contents) (tells kept sure : Type 0) (files : S → Files) (may_leave : S → Outcomes) (moment : S → ℕ)
    (images_since : S → ℕ → Files → Type 0) (d after : DeskState S) (held held_now : HeldState) (s s_now : SeatState L) : Type 0 where
  pub leaves : (front back : List Attempt) (first : DeskState S) (waiting : List Start) (heard : Tally)
      → AtSeat trust gives may_fail sources tells kept sure files may_leave moment images_since front back first d held waiting heard s
      → AtPlace trust gives may_fail sources tells kept sure files may_leave moment images_since front back first after held_now waiting heard s_now
  pub stays : Stays d after s s_now

-- What a call makes of a seat: it is kept at Ok, and else to be left.
abbrev pub SeatAfter : {S L A : Type 0} → Type 0 → Function → (Job → Failure → Type 0) → Contents → Type 0 → Type 0 → Type 0 → (S → Files) → (S → Outcomes) → (S → ℕ)
    → (S → ℕ → Files → Type 0) → DeskState S → DeskState S → HeldState → HeldState → SeatState L → SeatState L → Result A Leave → Type 0
SeatAfter trust gives may_fail sources tells kept sure files may_leave moment images_since d after held held_now s s_now (Ok x) =
    KeepsSeat trust gives may_fail sources tells kept sure files may_leave moment images_since d after held held_now s s_now
SeatAfter trust gives may_fail sources tells kept sure files may_leave moment images_since d after held held_now s s_now (Err leave) =
    LeavesSeat trust gives may_fail sources tells kept sure files may_leave moment images_since d after held held_now s s_now

-- What a run has come to: the attempts on links are those of the seats.
pub record Manned {S L : Type 0} (trust : Type 0) (gives : Function) (may_fail : Job → Failure → Type 0) (sources : Contents) (tells kept sure : Type 0) (files : S → Files) (may_leave : S → Outcomes) (moment : S → ℕ)
    (images_since : S → ℕ → Files → Type 0) (first now : DeskState S) (held : HeldState) (waiting : List Start) (heard : Tally) (seats : List (SeatState L)) : Type 0 where
  pub away : AwayState
  pub are : away.attempts ≡ gathered seats
  pub under : Underway trust gives may_fail sources tells kept sure files may_leave moment images_since away first now held.attempts waiting None heard held.halt
  pub placed : AreSeats now.plan now.options now.moves seats

-- It is so since some desk.
pub record IsManned {S L : Type 0} (trust : Type 0) (gives : Function) (may_fail : Job → Failure → Type 0) (sources : Contents) (tells kept sure : Type 0) (files : S → Files) (may_leave : S → Outcomes) (moment : S → ℕ)
    (images_since : S → ℕ → Files → Type 0) (now : DeskState S) (held : HeldState) (seats : List (SeatState L)) : Type 0 where
  pub first : DeskState S
  pub waiting : List Start
  pub heard : Tally
  pub manned : Manned trust gives may_fail sources tells kept sure files may_leave moment images_since first now held waiting heard seats

-- Whatever the run has come to, it comes to the like.
abbrev pub KeepsManned : {S L : Type 0} → Type 0 → Function → (Job → Failure → Type 0) → Contents → Type 0 → Type 0 → Type 0 → (S → Files) → (S → Outcomes) → (S → ℕ)
    → (S → ℕ → Files → Type 0) → DeskState S → DeskState S → HeldState → HeldState → List (SeatState L) → List (SeatState L) → Type 0
KeepsManned {S} trust gives may_fail sources tells kept sure files may_leave moment images_since d after held held_now seats seats_now =
    (first : DeskState S) (waiting : List Start) (heard : Tally)
    → Manned trust gives may_fail sources tells kept sure files may_leave moment images_since first d held waiting heard seats
    → Manned trust gives may_fail sources tells kept sure files may_leave moment images_since first after held_now waiting heard seats_now

-- ---- those that the run has

-- The seats, the peers that came and haven't joined yet, whether the place where peers come failed, whether a link was lost for want of memory, and the highest number of a link that was seated.
pub record CompanyState (L : Type 0) : Type 0 where
  pub seats : List (SeatState L)
  pub guests : List (PeerState L)
  pub failed : Bool
  pub lost : Bool
  pub newest : ℕ

-- how many links it has
abbrev pub links_in : {L : Type 0} → CompanyState L → ℕ
links_in c = length c.seats + length c.guests

-- one where the link has this number, and else nothing
abbrev pub one_under : ℕ → Option LinkNo → ℕ
one_under k None = 0
one_under k (Some link) = cond (link.0 == k) 1 0

-- how many of the seats have a link of this number
abbrev pub seats_under : {L : Type 0} → ℕ → List (SeatState L) → ℕ
seats_under k seats = sum_by (λ s. one_under k (Some s.link)) seats

-- how many of the links were handed back under this number
abbrev pub back_under : {L : Type 0} → ℕ → List (Option LinkNo × L) → ℕ
back_under k got = sum_by (λ x. one_under k x.0) got

-- The links that a run has: how many, how many under each number, and the highest number so far.
pub record Inside : Type 0 where
  pub links : ℕ
  pub numbered : ℕ → ℕ
  pub newest : ℕ

-- those of a company
abbrev pub inside_of : {L : Type 0} → CompanyState L → Inside
inside_of c = record { links = links_in c; numbered = λ k. seats_under k c.seats; newest = c.newest }

-- these and one in hand, under its number if it has one
abbrev pub with_hand : Option LinkNo → Inside → Inside
with_hand link i = record { links = i.links + 1; numbered = λ k. i.numbered k + one_under k link; newest = i.newest }

-- Nothing is open at a peer that hasn't joined, it can be heard, and this is so of it.
pub record IsGuest {L : Type 0} (fact : PeerState L → Type 0) (p : PeerState L) : Type 0 where
  pub opens : AllByRecursion (λ (o : Open). ⊥) p.session.attempts
  pub going : p.feed.stop ≡ None
  pub so : fact p

-- Each is a guest.
abbrev pub AreGuests : {L : Type 0} → (PeerState L → Type 0) → List (PeerState L) → Type 0
AreGuests fact guests = AllByRecursion (IsGuest fact) guests

-- More links were handed back, and with those that the run has they are as many as were given.
pub record KeepsCount {X : Type 0} (got got_now : List X) (given given_now inside inside_now : ℕ) : Type 0 where
  pub more : List X
  pub are : got_now ≡ got ++ more
  pub many : length more + inside_now + given ≡ given_now + inside

-- how many links have this number, of those that were handed back and those that the run has
abbrev pub there : {L : Type 0} → ℕ → List (Option LinkNo × L) → Inside → ℕ
there k got i = back_under k got + i.numbered k

-- A link comes under a number once at most, and under one beyond the highest so far; so none is handed back twice under one.
pub record KeepsNumbers {L : Type 0} (got got_now : List (Option LinkNo × L)) (inside inside_now : Inside) : Type 0 where
  pub newest : inside.newest ≤ inside_now.newest
  pub old : (k : ℕ) → k ≤ inside.newest → there k got_now inside_now ≤ there k got inside
  pub once : (k : ℕ) → there k got_now inside_now ≤ there k got inside + 1
  pub beyond : (k : ℕ) → inside_now.newest < k → there k got_now inside_now ≤ there k got inside

-- What a call makes of the hall, by its counts and the links that were handed back, and of the links that the run has and of its two marks.
pub record Meets {L : Type 0} (count count_now : ℕ) (got got_now : List (Option LinkNo × L)) (given given_now idles idles_now : ℕ) (inside inside_now : Inside) (failed failed_now lost lost_now : Bool) : Type 0 where
  pub later : count ≤ count_now
  pub idles_later : idles ≤ idles_now
  pub fails : failed_now ≡ true → (failed ≡ true) ⊎ (count < count_now)
  pub stays : failed ≡ true → failed_now ≡ true
  pub counted : lost_now ≡ false → (lost ≡ false) × KeepsCount got got_now given given_now inside.links inside_now.links
  pub numbers : KeepsNumbers got got_now inside inside_now

-- A seat that is to be left, and the others before and behind it.
pub record Parts {S L : Type 0} (trust : Type 0) (gives : Function) (may_fail : Job → Failure → Type 0) (sources : Contents) (tells kept sure : Type 0) (files : S → Files) (may_leave : S → Outcomes) (moment : S → ℕ)
    (images_since : S → ℕ → Files → Type 0) (first now : DeskState S) (held : HeldState) (waiting : List Start) (heard : Tally) (before behind : List (SeatState L)) (s : SeatState L) : Type 0 where
  pub at : AtPlace trust gives may_fail sources tells kept sure files may_leave moment images_since (gathered before) (gathered behind) first now held waiting heard s
  pub others : AreSeats now.plan now.options now.moves (before ++ behind)
  pub apart : IsUnseated s.link.0 (before ++ behind)

-- It is so since some desk, where the others are these.
pub record IsParting {S L : Type 0} (trust : Type 0) (gives : Function) (may_fail : Job → Failure → Type 0) (sources : Contents) (tells kept sure : Type 0) (files : S → Files) (may_leave : S → Outcomes) (moment : S → ℕ)
    (images_since : S → ℕ → Files → Type 0) (now : DeskState S) (held : HeldState) (others : List (SeatState L)) (s : SeatState L) : Type 0 where
  pub before : List (SeatState L)
  pub behind : List (SeatState L)
  pub are : others ≡ before ++ behind
  pub first : DeskState S
  pub waiting : List Start
  pub heard : Tally
  pub parts : Parts trust gives may_fail sources tells kept sure files may_leave moment images_since first now held waiting heard before behind s

-- The seat at this place among these is to be left.
pub record PartsAt {S L : Type 0} (trust : Type 0) (gives : Function) (may_fail : Job → Failure → Type 0) (sources : Contents) (tells kept sure : Type 0) (files : S → Files) (may_leave : S → Outcomes) (moment : S → ℕ)
    (images_since : S → ℕ → Files → Type 0) (first now : DeskState S) (held : HeldState) (waiting : List Start) (heard : Tally) (seats : List (SeatState L)) (at : ℕ) : Type 0 where
  pub before : List (SeatState L)
  pub seat : SeatState L
  pub behind : List (SeatState L)
  pub are : seats ≡ before ++ seat ∷ behind
  pub place : length before ≡ at
  pub parts : Parts trust gives may_fail sources tells kept sure files may_leave moment images_since first now held waiting heard before behind seat

-- It is so since some desk.
pub record IsPartingAt {S L : Type 0} (trust : Type 0) (gives : Function) (may_fail : Job → Failure → Type 0) (sources : Contents) (tells kept sure : Type 0) (files : S → Files) (may_leave : S → Outcomes) (moment : S → ℕ)
    (images_since : S → ℕ → Files → Type 0) (now : DeskState S) (held : HeldState) (seats : List (SeatState L)) (at : ℕ) : Type 0 where
  pub first : DeskState S
  pub waiting : List Start
  pub heard : Tally
  pub parts : PartsAt trust gives may_fail sources tells kept sure files may_leave moment images_since first now held waiting heard seats at

-- What a call makes of the seats: they are kept at Ok, and else the one at this place is to be left.
abbrev pub SeatsAfter : {S L A : Type 0} → Type 0 → Function → (Job → Failure → Type 0) → Contents → Type 0 → Type 0 → Type 0 → (S → Files) → (S → Outcomes) → (S → ℕ)
    → (S → ℕ → Files → Type 0) → ℕ → DeskState S → DeskState S → HeldState → HeldState → List (SeatState L) → List (SeatState L) → Result A Leave → Type 0
SeatsAfter trust gives may_fail sources tells kept sure files may_leave moment images_since at d after held held_now seats seats_now (Ok x) =
    KeepsManned trust gives may_fail sources tells kept sure files may_leave moment images_since d after held held_now seats seats_now
SeatsAfter {S} trust gives may_fail sources tells kept sure files may_leave moment images_since at d after held held_now seats seats_now (Err leave) =
    (first : DeskState S) (waiting : List Start) (heard : Tally)
    → Manned trust gives may_fail sources tells kept sure files may_leave moment images_since first d held waiting heard seats
    → PartsAt trust gives may_fail sources tells kept sure files may_leave moment images_since first after held_now waiting heard seats_now at

-- What a run with workers has come to, over a pool with these starts and tallies.
pub record IsServed {S L : Type 0} (trust : Type 0) (gives : Function) (may_fail : Job → Failure → Type 0) (sources : Contents) (tells kept sure : Type 0) (files : S → Files) (may_leave : S → Outcomes) (moment : S → ℕ)
    (images_since : S → ℕ → Files → Type 0) (now : DeskState S) (held : HeldState) (waiting : List Start) (heard : Tally) (seats : List (SeatState L)) : Type 0 where
  pub first : DeskState S
  pub manned : Manned trust gives may_fail sources tells kept sure files may_leave moment images_since first now held waiting heard seats

-- Whatever it has come to, it comes to the like.
abbrev pub KeepsServed : {S L : Type 0} → Type 0 → Function → (Job → Failure → Type 0) → Contents → Type 0 → Type 0 → Type 0 → (S → Files) → (S → Outcomes) → (S → ℕ)
    → (S → ℕ → Files → Type 0) → DeskState S → DeskState S → HeldState → HeldState → List Start → List Start → Tally → Tally → List (SeatState L) → List (SeatState L) → Type 0
KeepsServed {S} trust gives may_fail sources tells kept sure files may_leave moment images_since d after held held_now waiting waiting_now heard heard_now seats seats_now =
    (first : DeskState S)
    → Manned trust gives may_fail sources tells kept sure files may_leave moment images_since first d held waiting heard seats
    → Manned trust gives may_fail sources tells kept sure files may_leave moment images_since first after held_now waiting_now heard_now seats_now
