-- A foreman at work.
use Rattle.std.specs.Prelude.{◌≡◌, ◌≤◌, ◌+◌, ℕ, Bool, true, false, List, [], ◌++◌, length, Option, None}
use Rattle.flow_types.specs.declared.job.Failure.{Failure}
use Rattle.flow_types.specs.declared.job.Job.{Job}
use Rattle.flow_types.specs.declared.messages.Message.{Message}
use Rattle.flow_types.specs.declared.numbers.LinkNo.{LinkNo}
use Rattle.flow_types.specs.Serial.{Function}
use Rattle.foreman_core.specs.Foremen.{Foreman}
use Rattle.foreman_core.specs.declared.acts.Down.{Down}
use Rattle.foreman_core.specs.Members.{Every, Stands}
use Rattle.foreman_run.specs.Lost.{Seen}
use Rattle.links.specs.Passings.{received_in, sent_in}
use Rattle.links.specs.Peers.{IsRightLink, MaySay}
use Rattle.message_forms.specs.Streams.{AreFramed, IsFramed, frames_of}
use Rattle.peer_run.specs.Says.{Each}
use Rattle.peer_run.specs.Works.{EarState, Way}
use Rattle.foreman_run.specs.Lowers.{AnswersBelow, AreHeld, AreHonest, LowerState}
use Rattle.foreman_run.specs.Tied.{AreTied, Book, with_hall}
use Rattle.foreman_run.specs.Met.{Met, AreInOrder, foreman_of, has_left, heard_of, roll_of, said_of, sent_of, told_of}
use Rattle.foreman_run.specs.Workers.{IsJoined}

-- What a foreman with such a cache has come to: it met this, it is as that makes it, and it said all
-- that it says by that, but for what is still owed. What it met of its workers came over their links.
-- Where these are trusted to be honest, each result from below answers a task that went down, and what
-- was said is right.
pub record Works {L : Type 0} (gives : Function) (may_fail : Job → Failure → Type 0) (tells : Type 0)
    (trusted : Bool) (below_tells : Type 0) (seen : L → Seen) (honest : L → Type 0)
    (cap : ℕ) (book : Book L) (way : Way) (ear : EarState) (core : Foreman) (lowers : List (LowerState L))
    (owed : List Message) (due : List Down) (left : Bool) : Type 0 where
  pub past : List Met
  pub core_is : core ≡ foreman_of cap past
  pub in_order : AreInOrder past
  pub left_is : left ≡ has_left past
  pub going : ear.stop ≡ None
  pub heard_framed : AreFramed (heard_of past)
  pub told_framed : Every (λ told. IsFramed told.message) (told_of past)
  pub fed_is : ear.fed ≡ length (frames_of (heard_of past)) + length ear.rest
  pub stream : tells → received_in way.history ≡ frames_of (heard_of past) ++ ear.rest
  pub said : List Message
  pub are_said : said_of cap past ≡ said ++ owed
  pub sent : tells → sent_in way.history ≡ frames_of said
  pub right : tells → (trusted ≡ true) → IsRightLink gives may_fail way.history said
  pub may : tells → (trusted ≡ true) → Each (MaySay gives may_fail (received_in way.history)) owed
  pub goes_down : Every (λ d. Stands d (sent_of cap past)) due
  pub answered : (trusted ≡ true)
      → Every (AnswersBelow gives may_fail (sent_of cap past)) (told_of past)
  pub joined : Every (IsJoined (sent_of cap past) (told_of past)) (foreman_of cap past).links
  pub held : AreHeld below_tells seen (roll_of cap past) (told_of past) lowers
  pub tied : AreTied below_tells seen cap past lowers book
  pub all_honest : (trusted ≡ true) → AreHonest honest lowers
  pub closed : way.closed ≡ false
  pub later : book.faults ≤ way.faults

-- A foreman is at work, whatever it met, owes nothing, and trusts nobody.
pub record IsAtWork {L : Type 0} (gives : Function) (may_fail : Job → Failure → Type 0) (tells : Type 0)
    (below_tells : Type 0) (seen : L → Seen) (honest : L → Type 0) (way : Way)
    (ear : EarState) (core : Foreman) (lowers : List (LowerState L)) : Type 0 where
  pub trusted : Bool
  pub untrusted : trusted ≡ false
  pub cap : ℕ
  pub book : Book L
  pub works : Works gives may_fail tells trusted below_tells seen honest cap book way ear core lowers [] [] false

-- The same, where the hall has these links back, and so many have had a number.
pub record IsAtHall {L : Type 0} (gives : Function) (may_fail : Job → Failure → Type 0) (tells : Type 0)
    (below_tells : Type 0) (seen : L → Seen) (honest : L → Type 0)
    (got : List (Option LinkNo × L)) (upto : ℕ) (way : Way) (ear : EarState) (core : Foreman)
    (lowers : List (LowerState L)) : Type 0 where
  pub trusted : Bool
  pub untrusted : trusted ≡ false
  pub cap : ℕ
  pub book : Book L
  pub works : Works gives may_fail tells trusted below_tells seen honest cap
      (with_hall book got upto) way ear core lowers [] [] false
