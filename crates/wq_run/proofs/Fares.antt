-- What calls make of a seat and of the moves, one behind another.
use Rattle.std.proofs.Common.{◌≡◌, ◌≤◌, ◌+◌, ◌⊎◌, inl, inr, ⊎_elim, ◌∙◌, ℕ, Bool, true, false, List, [], ◌∷◌, ◌++◌, Option, Some, None, Result, Ok, Err, refl, sym, ap, subst, arith, append_assoc, true≢false}
use Rattle.std.specs.Prelude.{All, cond, IfErr, IfOk, OnOk, is_none}
use Rattle.std.specs.List.{list_any}
use Rattle.std.proofs.lemmas.Bool.{ltb-false, or_left, or_parts}
use Rattle.std.proofs.lemmas.List.{append-nil}
use Rattle.std.proofs.lemmas.List.Elements.{All-append, All-cons, All-head, All-nil, All-tail, All-weaker}
use Rattle.std.proofs.lemmas.List.Folds.{list_any-append}
use Rattle.flow_types.specs.declared.numbers.Amounts.{Amounts}
use Rattle.flow_types.specs.declared.numbers.AttemptNo.{AttemptNo}
use Rattle.flow_types.specs.declared.numbers.LinkNo.{LinkNo}
use Rattle.flow_types.specs.declared.job.Failure.{Failure}
use Rattle.flow_types.specs.declared.job.Job.{Job}
use Rattle.flow_types.specs.declared.job.Outcome.{Outcome}
use Rattle.flow_types.specs.declared.job.Task.{Task}
use Rattle.flow_types.specs.declared.job.Outcome.TheVariants as outcomes
use Rattle.flow_types.specs.declared.records.Record.{Record}
use Rattle.flow_types.specs.declared.records.Record.TheVariants as records
use Rattle.flow_types.specs.Serial.{Function}
use Rattle.run_history.specs.declared.moves.Move.{Move}
use Rattle.run_history.specs.declared.moves.Move.TheVariants as moves
use Rattle.run_history.specs.declared.links.JoinRefused.{JoinRefused}
use Rattle.run_history.specs.declared.links.JoinRefused.TheVariants as refused
use Rattle.run_history.specs.Links.{records_of}
use Rattle.run_history.specs.Moves.{change_refusal, has_join_room, joins_and_changes, most_joins}
use Rattle.links.specs.declared.passing.Passed.{Passed}
use Rattle.links.specs.Ill.{closed as ill_closed, failed as ill_failed, misspeaks as ill_misspeaks}
use Rattle.links.specs.Passings.{received_in, sent_in}
use Rattle.link_session.specs.Sessions.{State}
use Rattle.wq_frames.specs.Streams.{Stream}
use Rattle.flow_types.specs.declared.messages.Message.{Message}
use Rattle.message_forms.specs.Streams.{AreFramed, frames_of}
use Rattle.desk.specs.declared.attempt.Attempt.{Attempt}
use Rattle.desk.specs.Links.{Changes, Joins, Leaves}
use Rattle.desk.specs.State.{DeskState}
use Rattle.peers.specs.declared.leave.Leave.{Leave}
use Rattle.peers.specs.declared.leave.Leave.TheVariants as leaves
use Rattle.peers.specs.declared.told.Told.{Told}
use Rattle.peers.specs.declared.told.Told.TheVariants as tell
use Rattle.peers.specs.Hears.{IsResult, ServesOn}
use Rattle.peers.specs.Provides.{WasProvided}
use Rattle.peers.specs.Serves.{Serves}
use Rattle.peers.specs.States.{LeavesAs, MaySend, PeerState, PassesOn}
use Rattle.local_run.specs.declared.halt.Halt.{Halt}
use Rattle.local_run.specs.Links.{link_moves}
use Rattle.local_run.specs.Losses.{EndsHere, EndsIt, LosesIt, SparesAll, done_as, failed_as, is_lost, starts_on}
use Rattle.local_run.proofs.Going.{links_grown, records_grown}
use Rattle.flow_types.specs.declared.messages.Message.TheVariants as messages
use Rattle.message_forms.specs.Streams.{Carries, IsAmong}
use Rattle.message_forms.proofs.Parses.{carries_more, frames_append}
use Rattle.peers.proofs.Owing.{went_and_came}
use Rattle.wq_run.specs.Earned.{StatesOn}
use Rattle.wq_run.specs.Seats.{SeatState}
use Rattle.wq_run.proofs.Heards.{come_on, heard_come, heard_same, joins_append, ok_step, ok_with, quiet_on}
use Rattle.wq_run.proofs.Earned.{linked_one, states_none, states_one, states_then}
use Rattle.wq_run.specs.Losses.{GaveBack}
use Rattle.wq_run.specs.Results.{ShowsEnd, WasTold}
use Rattle.wq_run.specs.Dues.{AddsSo, EndsWith, FaresSeat, GivesUp, IsShownOn, ShowsOutcome, HasHeard, HearsOn, IsFull, IsIllLink, IsStartedOn, LeavesFor, OffersMore, Shows, StaysHeard, ended}

-- ---- what came stays

pub received_then : (old mid new : List Passed) → PassesOn old mid → PassesOn mid new → PassesOn old new
received_then old mid new one two = (
  one.0 ++ two.0,
  two.1 ∙ ap (λ (b : List ℕ). b ++ two.0) one.1 ∙ append_assoc (received_in old) one.0 two.0,
  (one.2.0 ++ two.2.0, two.2.1 ∙ ap (λ (b : List ℕ). b ++ two.2.0) one.2.1 ∙ append_assoc (sent_in old) one.2.0 two.2.0),
)

pub received_same : (old new : List Passed) → new ≡ old → PassesOn old new
received_same old new same = ([], ap received_in same ∙ sym (append-nil (received_in old)), ([], ap sent_in same ∙ sym (append-nil (sent_in old))))

pub gave_later : (up more : List ℕ) (all : List ℕ) (number : AttemptNo) → all ≡ up ++ more → GaveBack up number → GaveBack all number
gave_later up more all number is back = record {
  heard = back.heard;
  came = (
    back.came.0 ++ more,
    record {
      framed_all = back.came.1.framed_all;
      are = is ∙ ap (λ (b : List ℕ). b ++ more) back.came.1.are ∙ append_assoc (frames_of back.heard) back.came.0 more;
    },
  );
  so = back.so;
}

pub gave_on : (old new : List Passed) (number : AttemptNo) → PassesOn old new → GaveBack (received_in old) number → GaveBack (received_in new) number
gave_on old new number on back = gave_later (received_in old) on.0 (received_in new) number on.1 back

framed_front : (xs ys : List Message) → AreFramed (xs ++ ys) → AreFramed xs
framed_front [] ys all = tt
framed_front (x ∷ xs) ys all = (all.0, framed_front xs ys all.1)

told_on : (old new : List Passed) (number : AttemptNo) (outcome : Outcome) → PassesOn old new → WasTold old number outcome → WasTold new number outcome
told_on old new number outcome on is = record {
  came = subst (λ (b : List ℕ). Carries b (messages.Done number outcome)) (sym on.1) (carries_more (received_in old) on.0 (messages.Done number outcome) is.came);
  task = is.task;
  of_attempt = is.of_attempt;
  before = is.before;
  asked = (
    is.asked.0 ++ on.2.0,
    record {
      framed_all = is.asked.1.framed_all;
      are = on.2.1 ∙ ap (λ (b : List ℕ). b ++ on.2.0) is.asked.1.are ∙ append_assoc (frames_of (is.before ++ (messages.Task is.task ∷ []))) is.asked.0 on.2.0;
    },
  );
  inputs = is.inputs;
}

-- what a link shows it shows still where more passed
pub shows_on : (old new : List Passed) → PassesOn old new → (x : Record) → ShowsEnd x old → ShowsEnd x new
shows_on old new on (records.Opened moment run retries limit plan sources) is = tt
shows_on old new on (records.Resumed moment run retries limit) is = tt
shows_on old new on (records.Started moment rule attempt at) is = tt
shows_on old new on (records.Done moment rule attempt rows) is = (is.0, is.1, told_on old new attempt (outcomes.Success is.0) on is.2)
shows_on old new on (records.Failed moment rule attempt why) is = told_on old new attempt (outcomes.Failed why) on is
shows_on old new on (records.Lost moment rule attempt) is = gave_on old new attempt on is
shows_on old new on (records.Dropped moment file) is = tt
shows_on old new on (records.Ended moment kind) is = tt

-- ---- records behind others

pub any_later : (test : Record → Bool) (H more all : List Record) → all ≡ H ++ more → list_any test H ≡ true → list_any test all ≡ true
any_later test H more all are is = ap (list_any test) are ∙ list_any-append test H more ∙ or_left (list_any test H) (list_any test more) is

all_unlost : (here so : Record → Type 0) → ((x : Record) → is_lost x ≡ false → here x → so x) → (xs : List Record) → list_any is_lost xs ≡ false → All here xs → All so xs
all_unlost here so un [] none all = All-nil so
all_unlost here so un (x ∷ xs) none all = let parts = or_parts (is_lost x) (list_any is_lost xs) none in All-cons so x xs (un x parts.0 (All-head here x xs all)) (all_unlost here so un xs parts.1 (All-tail here x xs all))

-- what is so of each record that was added is so of those that were added by then
pub adds_then : (so so_now : List Record → Record → Type 0) (M mid all : List Move) → ((x : Record) → so (records_of mid) x → so_now (records_of all) x) → AddsSo so M mid → AddsSo so_now mid all → AddsSo so_now M all
adds_then so so_now M mid all step one two = record {
  more = one.more ++ two.more;
  are = two.are ∙ ap (λ (N : List Move). N ++ two.more) one.are ∙ append_assoc M one.more two.more;
  each = subst (All (so_now (records_of all))) (sym (records_grown one.more two.more))
      (All-append (so_now (records_of all)) (records_of one.more) (records_of two.more) (All-weaker (so (records_of mid)) (so_now (records_of all)) step (records_of one.more) one.each) two.each);
}

-- the records of moves behind others
pub records_after : (so : List Record → Record → Type 0) (M all : List Move) (added : AddsSo so M all) → records_of all ≡ records_of M ++ records_of added.more
records_after so M all added = ap records_of added.are ∙ records_grown M added.more

pub unlost_back : (past : List Passed) (link : ℕ) (all : List Record) (x : Record) → is_lost x ≡ false → EndsHere all x → IsShownOn past link all x
unlost_back past link all (records.Opened moment run retries limit plan sources) none here = tt
unlost_back past link all (records.Resumed moment run retries limit) none here = tt
unlost_back past link all (records.Started moment rule attempt at) none here = tt
unlost_back past link all (records.Done moment rule attempt outs) none here = inl here
unlost_back past link all (records.Failed moment rule attempt why) none here = inl here
unlost_back past link all (records.Lost moment rule attempt) none here = absurd (true≢false none)
unlost_back past link all (records.Dropped moment file) none here = tt
unlost_back past link all (records.Ended moment kind) none here = tt

pub unlost_started : (link : ℕ) (all : List Record) (x : Record) → is_lost x ≡ false → EndsHere all x → IsStartedOn link all x
unlost_started link all (records.Opened moment run retries limit plan sources) none here = tt
unlost_started link all (records.Resumed moment run retries limit) none here = tt
unlost_started link all (records.Started moment rule attempt at) none here = tt
unlost_started link all (records.Done moment rule attempt outs) none here = here
unlost_started link all (records.Failed moment rule attempt why) none here = here
unlost_started link all (records.Lost moment rule attempt) none here = absurd (true≢false none)
unlost_started link all (records.Dropped moment file) none here = tt
unlost_started link all (records.Ended moment kind) none here = tt

-- a call that spares all
pub spares_so : (so : List Record → Record → Type 0) (M all : List Move) → ((H : List Record) (x : Record) → is_lost x ≡ false → EndsHere H x → so H x) → SparesAll M all → AddsSo so M all
spares_so so M all un spares = record { more = spares.more; are = spares.are; each = all_unlost (EndsHere (records_of all)) (so (records_of all)) (un (records_of all)) (records_of spares.more) spares.none spares.here }

-- nothing was added
pub spares_same : (M all : List Move) → all ≡ M → SparesAll M all
spares_same M all same = record { more = []; are = same ∙ sym (append-nil M); none = refl; here = All-nil (EndsHere (records_of all)); quiet = refl }

pub same_so : (so : List Record → Record → Type 0) (M all : List Move) → all ≡ M → AddsSo so M all
same_so so M all same = record { more = []; are = same ∙ sym (append-nil M); each = All-nil (so (records_of all)) }

pub back_later : (past past_now : List Passed) (link : ℕ) (H more all : List Record) → ((x : Record) → ShowsEnd x past → ShowsEnd x past_now) → all ≡ H ++ more → (x : Record) → IsShownOn past link H x → IsShownOn past_now link all x
back_later past past_now link H more all on are (records.Opened moment run retries limit plan sources) is = tt
back_later past past_now link H more all on are (records.Resumed moment run retries limit) is = tt
back_later past past_now link H more all on are (records.Started moment rule attempt at) is = tt
back_later past past_now link H more all on are (records.Done moment rule attempt outs) is =
    ⊎_elim (λ here. inl (any_later (starts_on 0 rule.0 attempt.0) H more all are here)) (λ there. inr (any_later (starts_on link rule.0 attempt.0) H more all are there.0, on (records.Done moment rule attempt outs) there.1)) is
back_later past past_now link H more all on are (records.Failed moment rule attempt why) is =
    ⊎_elim (λ here. inl (any_later (starts_on 0 rule.0 attempt.0) H more all are here)) (λ there. inr (any_later (starts_on link rule.0 attempt.0) H more all are there.0, on (records.Failed moment rule attempt why) there.1)) is
back_later past past_now link H more all on are (records.Lost moment rule attempt) is = (any_later (starts_on link rule.0 attempt.0) H more all are is.0, on (records.Lost moment rule attempt) is.1)
back_later past past_now link H more all on are (records.Dropped moment file) is = tt
back_later past past_now link H more all on are (records.Ended moment kind) is = tt

pub started_later : (link : ℕ) (H more all : List Record) → all ≡ H ++ more → (x : Record) → IsStartedOn link H x → IsStartedOn link all x
started_later link H more all are (records.Opened moment run retries limit plan sources) is = tt
started_later link H more all are (records.Resumed moment run retries limit) is = tt
started_later link H more all are (records.Started moment rule attempt at) is = tt
started_later link H more all are (records.Done moment rule attempt outs) is = any_later (starts_on 0 rule.0 attempt.0) H more all are is
started_later link H more all are (records.Failed moment rule attempt why) is = any_later (starts_on 0 rule.0 attempt.0) H more all are is
started_later link H more all are (records.Lost moment rule attempt) is = any_later (starts_on link rule.0 attempt.0) H more all are is
started_later link H more all are (records.Dropped moment file) is = tt
started_later link H more all are (records.Ended moment kind) is = tt

-- one attempt was given up
pub it_so : (so : List Record → Record → Type 0) (M all : List Move) (a : Attempt) → (loses : LosesIt M a all)
    → (list_any (starts_on a.link.0 a.rule.0 a.number.0) (records_of all) ≡ true → so (records_of all) (records.Lost loses.moment a.rule a.number)) → AddsSo so M all
it_so so M all a loses step = record {
  more = moves.Logged (records.Lost loses.moment a.rule a.number) ∷ [];
  are = loses.are;
  each = All-cons (so (records_of all)) (records.Lost loses.moment a.rule a.number) []
      (step (any_later (starts_on a.link.0 a.rule.0 a.number.0) (records_of M) (records.Lost loses.moment a.rule a.number ∷ []) (records_of all) (ap records_of loses.are ∙ records_grown M (moves.Logged (records.Lost loses.moment a.rule a.number) ∷ [])) loses.started))
      (All-nil (so (records_of all)));
}

-- one attempt came to its end
end_so : (so : List Record → Record → Type 0) (M all : List Move) (a : Attempt) (entry : ℕ → Record) → (ends : EndsIt M a entry all)
    → (list_any (starts_on a.link.0 a.rule.0 a.number.0) (records_of all) ≡ true → so (records_of all) (entry ends.moment)) → AddsSo so M all
end_so so M all a entry ends step = let x = entry ends.moment in record {
  more = moves.Logged x ∷ [];
  are = ends.are;
  each = All-cons (so (records_of all)) x []
      (step (any_later (starts_on a.link.0 a.rule.0 a.number.0) (records_of M) (x ∷ []) (records_of all) (ap records_of ends.are ∙ records_grown M (moves.Logged x ∷ [])) ends.started))
      (All-nil (so (records_of all)));
}

pub halted_never : (why : Halt) (halt : Option Halt) → halt ≡ Some why → halt ≡ None → ⊥
halted_never why halt is none = true≢false (sym (ap is_none (sym is ∙ none)))

-- ---- what a call makes of a seat

-- no link joined or changed
hears_quiet : {L A : Type 0} (history : L → List Passed) {M all : List Move} (r : Result A Leave) (p p_now : PeerState L) (on : PassesOn (history p.way) (history p_now.way)) → joins_and_changes all ≡ joins_and_changes M → OnOk r (StaysHeard history p p_now)
    → (n : ℕ) → HasHeard history p n → HearsOn history M all p_now r n
hears_quiet history r p p_now on same heard n was = record {
  now = n;
  came = come_on (received_in (history p.way)) (received_in (history p_now.way)) on.0 n on.1 (heard_come history p n was);
  heard = ok_step r (StaysHeard history p p_now) (HasHeard history p_now n) (λ stays. stays n was) heard;
  enough = omega (arith, same);
}

module _ {L A : Type 0} {ill : LinkNo → L → Type 0} {history : L → List Passed} where
  -- It went on, and then came to that.
  pub fares_then : {B : Type 0} {M mid all : List Move} {halt halt_mid halt_now : Option Halt} {s s_mid s_now : SeatState L} {x : B} {r : Result A Leave}
      → FaresSeat ill history M mid halt halt_mid s s_mid (Ok x) → FaresSeat ill history mid all halt_mid halt_now s_mid s_now r → FaresSeat ill history M all halt halt_now s s_now r
  fares_then {B} {M} {mid} {all} {halt} {halt_mid} {halt_now} {s} {s_mid} {s_now} {x} {r} one two = record {
    link = two.link ∙ one.link;
    comes = received_then (history s.peer.way) (history s_mid.peer.way) (history s_now.peer.way) one.comes two.comes;
    going = λ none. one.going (two.going none);
    loses = λ none.
        let later = two.loses none in
        let second = subst (λ (l : LinkNo). AddsSo (IsShownOn (history s_now.peer.way) l.0) mid all) one.link later in
        adds_then (IsShownOn (history s_mid.peer.way) s.link.0) (IsShownOn (history s_now.peer.way) s.link.0) M mid all
        (back_later (history s_mid.peer.way) (history s_now.peer.way) s.link.0 (records_of mid) (records_of later.more) (records_of all)
        (shows_on (history s_mid.peer.way) (history s_now.peer.way) two.comes) (records_after (IsShownOn (history s_now.peer.way) s_mid.link.0) mid all later))
        (one.loses (two.going none)) second;
    leaves = two.leaves;
    counts = λ none n was.
        let first = one.counts (two.going none) n was in
        let last = two.counts none first.now first.heard in
        let few = first.enough in
        let more = last.enough in
        record { now = last.now; came = last.came; heard = last.heard; enough = omega (arith, few, more) };
    states = λ none. states_then (received_in (history s_mid.peer.way)) two.comes.0 (received_in (history s_now.peer.way)) s.link.0 M mid all two.comes.1 (one.states (two.going none))
        (subst (λ (l : LinkNo). StatesOn (received_in (history s_now.peer.way)) l.0 mid all) one.link (two.states none));
  }

  -- The run stopped.
  pub fares_stopped : {M all : List Move} {halt halt_now : Option Halt} {s s_now : SeatState L} {r : Result A Leave} (why : Halt) → s_now.link ≡ s.link → PassesOn (history s.peer.way) (history s_now.peer.way) → halt_now ≡ Some why → FaresSeat ill history M all halt halt_now s s_now r
  fares_stopped {M} {all} {halt} {halt_now} why link comes stopped = record {
    link = link;
    comes = comes;
    going = λ none. absurd (halted_never why halt_now stopped none);
    loses = λ none. absurd (halted_never why halt_now stopped none);
    leaves = λ none. absurd (halted_never why halt_now stopped none);
    counts = λ none. absurd (halted_never why halt_now stopped none);
    states = λ none. absurd (halted_never why halt_now stopped none);
  }

  pub fares_stopped_same : {M all : List Move} {halt halt_now : Option Halt} {s : SeatState L} {r : Result A Leave} (why : Halt) → halt_now ≡ Some why → FaresSeat ill history M all halt halt_now s s r
  fares_stopped_same {M} {all} {halt} {halt_now} {s} why stopped = fares_stopped why refl (received_same (history s.peer.way) (history s.peer.way) refl) stopped

  -- Nothing was given up.
  pub fares_spared : {M all : List Move} {halt halt_now : Option Halt} {s s_now : SeatState L} {r : Result A Leave} → s_now.link ≡ s.link → PassesOn (history s.peer.way) (history s_now.peer.way) → halt_now ≡ halt → SparesAll M all → link_moves all ≡ link_moves M
      → IfErr r (LeavesFor ill all s_now) → OnOk r (StaysHeard history s.peer s_now.peer) → FaresSeat ill history M all halt halt_now s s_now r
  fares_spared {M} {all} {halt} {halt_now} {s} {s_now} {r} link comes same spares unlinked leaves heard = record {
    link = link;
    comes = comes;
    going = λ none. sym same ∙ none;
    loses = λ none. spares_so (IsShownOn (history s_now.peer.way) s.link.0) M all (unlost_back (history s_now.peer.way) s.link.0) spares;
    leaves = λ none. leaves;
    counts = λ none. hears_quiet history r s.peer s_now.peer comes (quiet_on M spares.more all spares.are spares.quiet) heard;
    states = λ none. states_none (received_in (history s_now.peer.way)) s.link.0 M all unlinked;
  }

  -- The moves are the same.
  pub fares_still : {M all : List Move} {halt halt_now : Option Halt} {s s_now : SeatState L} {r : Result A Leave} → s_now.link ≡ s.link → PassesOn (history s.peer.way) (history s_now.peer.way) → halt_now ≡ halt → all ≡ M
      → IfErr r (LeavesFor ill all s_now) → OnOk r (StaysHeard history s.peer s_now.peer) → FaresSeat ill history M all halt halt_now s s_now r
  fares_still {M} link comes same still leaves heard = fares_spared link comes same (spares_same _ _ still) (ap link_moves still) leaves heard

  -- The same however else it was answered, where it went well.
  pub fares_ok : {B : Type 0} {M all : List Move} {halt halt_now : Option Halt} {s s_now : SeatState L} {x : B} {y : A} → FaresSeat ill history M all halt halt_now s s_now (Ok x) → FaresSeat ill history M all halt halt_now s s_now (Ok y)
  fares_ok fares = record {
    link = fares.link;
    comes = fares.comes;
    going = fares.going;
    loses = fares.loses;
    leaves = λ none. tt;
    counts = λ none n was. let is = fares.counts none n was in record { now = is.now; came = is.came; heard = is.heard; enough = is.enough };
    states = fares.states;
  }

  -- And where it is left for the same.
  pub fares_err : {B : Type 0} {M all : List Move} {halt halt_now : Option Halt} {s s_now : SeatState L} {leave : Leave} → FaresSeat {A = B} ill history M all halt halt_now s s_now (Err leave) → FaresSeat {A = A} ill history M all halt halt_now s s_now (Err leave)
  fares_err fares = record {
    link = fares.link;
    comes = fares.comes;
    going = fares.going;
    loses = fares.loses;
    leaves = fares.leaves;
    counts = λ none n was. let is = fares.counts none n was in record { now = is.now; came = is.came; heard = tt; enough = is.enough };
    states = fares.states;
  }

  -- A step that gives nothing up, and then this.
  pub fares_behind : {M mid all : List Move} {halt halt_now : Option Halt} {s s_mid s_now : SeatState L} {r : Result A Leave} → s_mid.link ≡ s.link → PassesOn (history s.peer.way) (history s_mid.peer.way) → SparesAll M mid → link_moves mid ≡ link_moves M → StaysHeard history s.peer s_mid.peer
      → FaresSeat ill history mid all halt halt_now s_mid s_now r → FaresSeat ill history M all halt halt_now s s_now r
  fares_behind {M} {mid} {all} {halt} {halt_now} {s} {s_mid} {s_now} {r} link comes spares unlinked heard fares =
      let one : FaresSeat ill history M mid halt halt s s_mid (ended Leave) = record {
        link = link;
        comes = comes;
        going = λ none. none;
        loses = λ none. spares_so (IsShownOn (history s_mid.peer.way) s.link.0) M mid (unlost_back (history s_mid.peer.way) s.link.0) spares;
        leaves = λ none. tt;
        counts = λ none. hears_quiet history (ended Leave) s.peer s_mid.peer comes (quiet_on M spares.more mid spares.are spares.quiet) heard;
        states = λ none. states_none (received_in (history s_mid.peer.way)) s.link.0 M mid unlinked;
      } in
      fares_then one fares

module _ {L A : Type 0} {ill : LinkNo → L → Type 0} {history : L → List Passed} where
  -- where the seat is the same
  pub fares_spared_same : {M all : List Move} {halt : Option Halt} {s : SeatState L} {x : A} → SparesAll M all → link_moves all ≡ link_moves M → FaresSeat ill history M all halt halt s s (Ok x)
  fares_spared_same {M} {all} {halt} {s} spares unlinked = fares_spared refl (received_same (history s.peer.way) (history s.peer.way) refl) refl spares unlinked tt (λ n was. was)

  pub fares_same : {M : List Move} {halt : Option Halt} {s : SeatState L} {x : A} → FaresSeat ill history M M halt halt s s (Ok x)
  fares_same {M} = fares_spared_same (spares_same M M refl) refl

pub same_way : {L : Type 0} (history : L → List Passed) (s s_now : SeatState L) → s_now.peer.way ≡ s.peer.way → PassesOn (history s.peer.way) (history s_now.peer.way)
same_way history s s_now same = received_same (history s.peer.way) (history s_now.peer.way) (ap history same)

-- An attempt ended so.
pub ends_so : (past : List Passed) (M all : List Move) (a : Attempt) (outcome : Outcome) → EndsWith M a outcome all → ShowsOutcome past a.number outcome → AddsSo (IsShownOn past a.link.0) M all
ends_so past M all a (outcomes.Success outs) ends shown = end_so (IsShownOn past a.link.0) M all a (done_as a outs) ends (λ started. inr (started, (outs, refl, shown)))
ends_so past M all a (outcomes.Failed why) ends shown = end_so (IsShownOn past a.link.0) M all a (failed_as a why) ends (λ started. inr (started, shown))
ends_so past M all a outcomes.NotRun ends shown = it_so (IsShownOn past a.link.0) M all a ends (λ started. (started, shown))

ends_quiet : (M all : List Move) (a : Attempt) (outcome : Outcome) → EndsWith M a outcome all → joins_and_changes all ≡ joins_and_changes M
ends_quiet M all a (outcomes.Success outs) ends = quiet_on M (moves.Logged (done_as a outs ends.moment) ∷ []) all ends.are refl
ends_quiet M all a (outcomes.Failed why) ends = quiet_on M (moves.Logged (failed_as a why ends.moment) ∷ []) all ends.are refl
ends_quiet M all a outcomes.NotRun ends = quiet_on M (moves.Logged (records.Lost ends.moment a.rule a.number) ∷ []) all ends.are refl

-- as many offers were heard as before
pub ends_heard : {L : Type 0} (history : L → List Passed) (p p_now : PeerState L) (M all : List Move) (a : Attempt) (outcome : Outcome) → EndsWith M a outcome all → PassesOn (history p.way) (history p_now.way) → p_now ≡ p → (n : ℕ) → HasHeard history p n → HearsOn history M all p_now (ended Leave) n
ends_heard history p p_now M all a outcome ends comes same = hears_quiet history (ended Leave) p p_now comes (ends_quiet M all a outcome ends) (heard_same history p p_now same)

-- ---- why a link is left

module _ {L : Type 0} (gives : Function) (may_fail : Job → Failure → Type 0) (history : L → List Passed) (count idles : L → ℕ) (closed : L → Bool) (limit : ℕ) where
  abbrev pub Ill : LinkNo → L → Type 0
  Ill link way = IsIllLink gives may_fail history count idles closed limit link way

  -- a call that sends failed
  pub send_leaves : {A : Type 0} (M : List Move) (before : ℕ) (s : SeatState L) (r : Result A Leave) → MaySend before (count s.peer.way) r → IfErr r (LeavesFor Ill M s)
  send_leaves M before s (Ok x) may = tt
  send_leaves M before s (Err leaves.Closed) may = absurd may.fails
  send_leaves M before s (Err leaves.Failed) may = inl (λ others. ill_failed (let risen = may.fails in omega (arith, risen)))
  send_leaves M before s (Err leaves.Bad) may = absurd may.fails
  send_leaves M before s (Err leaves.Unexpected) may = absurd may.fails
  send_leaves M before s (Err leaves.Memory) may = tt

  -- a call that waits for bytes left
  pub listen_leaves : {A : Type 0} (M : List Move) (before : ℕ) (s : SeatState L) (r : Result A Leave) → IfErr r (LeavesAs (closed s.peer.way) before (count s.peer.way)) → IfErr r (LeavesFor Ill M s)
  listen_leaves M before s (Ok x) may = tt
  listen_leaves M before s (Err leaves.Closed) may = inl (λ others. ill_closed may)
  listen_leaves M before s (Err leaves.Failed) may = inl (λ others. ill_failed (omega (arith, may)))
  listen_leaves M before s (Err leaves.Bad) may = absurd may
  listen_leaves M before s (Err leaves.Unexpected) may = absurd may
  listen_leaves M before s (Err leaves.Memory) may = tt

  -- what came left the grammar or was out of turn
  pub misspeaks_leaves : (M : List Move) (s : SeatState L) (leave : Leave) → (let r : Result Told Leave = Err leave in Shows (history s.peer.way) r) → LeavesFor Ill M s leave
  misspeaks_leaves M s leaves.Closed mis = inl (λ others. ill_misspeaks mis)
  misspeaks_leaves M s leaves.Failed mis = inl (λ others. ill_misspeaks mis)
  misspeaks_leaves M s leaves.Bad mis = inl (λ others. ill_misspeaks mis)
  misspeaks_leaves M s leaves.Unexpected mis = inl (λ others. ill_misspeaks mis)
  misspeaks_leaves M s leaves.Memory mis = tt

  what_came : (past : List Passed) (feed : Stream) (session : State) (said heard : List Message) (m : Message) → Serves gives may_fail past feed session said heard None → IsAmong m heard → Carries (received_in past) m
  what_came past feed session said heard m serves among = (went_and_came gives may_fail past feed session said heard None m serves).1 among

  -- a result came, and its task had been sent
  told_by : (past : List Passed) (feed : Stream) (session : State) (said heard : List Message) (number : AttemptNo) (outcome : Outcome) → ((t : Task) → IsAmong (messages.Task t) said → WasProvided said t) → Serves gives may_fail past feed session said heard None
      → IsResult gives may_fail past said heard number outcome → WasTold past number outcome
  told_by past feed session said heard number outcome provided serves is =
      let p = provided is.task is.asked in
      let head : List Message = p.before ++ (messages.Task is.task ∷ []) in
      let row : said ≡ head ++ p.after = p.row ∙ sym (append_assoc p.before (messages.Task is.task ∷ []) p.after) in
      record {
        came = what_came past feed session said heard (messages.Done number outcome) serves is.came;
        task = is.task;
        of_attempt = is.of_attempt;
        before = p.before;
        asked = (
          frames_of p.after,
          record {
            framed_all = framed_front head p.after (subst AreFramed row serves.said_framed);
            are = serves.sent ∙ ap frames_of row ∙ frames_append head p.after;
          },
        );
        inputs = p.inputs;
      }

  -- what a peer tells shows what was told or given back, and why it is left
  pub shows_by : (past : List Passed) (said heard : List Message) → ((t : Task) → IsAmong (messages.Task t) said → WasProvided said t) → (feed : Stream) (session : State) (t : Result Told Leave) → ServesOn gives may_fail past said heard t feed session → Shows past t
  shows_by past said heard provided feed session (Ok tell.Nothing) on = tt
  shows_by past said heard provided feed session (Ok (tell.Joined total largest cache)) on = tt
  shows_by past said heard provided feed session (Ok (tell.Changed total largest cache)) on = what_came past feed session said (heard ++ (on.message ∷ [])) (messages.Totals total largest cache) on.serves on.is_so
  shows_by past said heard provided feed session (Ok (tell.Finish attempt outs)) on = told_by past feed session said (heard ++ (on.message ∷ [])) attempt (outcomes.Success outs) provided on.serves on.is_so
  shows_by past said heard provided feed session (Ok (tell.Fail attempt why)) on = told_by past feed session said (heard ++ (on.message ∷ [])) attempt (outcomes.Failed why) provided on.serves on.is_so
  shows_by past said heard provided feed session (Ok (tell.Lose attempt)) on = record { heard = heard ++ (on.message ∷ []); came = (feed.rest, on.serves.came); so = on.is_so }
  shows_by past said heard provided feed session (Ok (tell.PutAgain attempt files)) on = tt
  shows_by past said heard provided feed session (Ok (tell.Stale attempt)) on = tt
  shows_by past said heard provided feed session (Err leaves.Closed) on = on.1
  shows_by past said heard provided feed session (Err leaves.Failed) on = on.1
  shows_by past said heard provided feed session (Err leaves.Bad) on = on.1
  shows_by past said heard provided feed session (Err leaves.Unexpected) on = on.1
  shows_by past said heard provided feed session (Err leaves.Memory) on = tt

-- the desk takes no more changes
pub change_full : (M : List Move) (why : JoinRefused) → change_refusal M ≡ Some why → IsFull M
change_full M why is = by_room (has_join_room M) refl
  where
    by_room : (b : Bool) → has_join_room M ≡ b → IsFull M
    by_room true room = absurd (true≢false (ap is_none (sym (ap (λ (b : Bool). cond b None (Some refused.TooManyJoins)) room) ∙ is)))
    by_room false room = ltb-false (joins_and_changes M) most_joins room

module _ {S : Type 0} where
  -- What a change of amounts makes of the moves.
  changes_so : (so : List Record → Record → Type 0) (d after : DeskState S) (link : LinkNo) (total largest : Amounts) (cache : ℕ) (r : Result (Unit {0}) JoinRefused) → Changes d link total largest cache r after → AddsSo so d.moves after.moves
  changes_so so d after link total largest cache (Ok done) h = record { more = moves.Changed link total largest cache ∷ []; are = ap (λ (b : DeskState S). b.moves) h.1; each = All-nil (so (records_of after.moves)) }
  changes_so so d after link total largest cache (Err refused.TooManyLinks) h = same_so so d.moves after.moves (ap (λ (b : DeskState S). b.moves) h.1)
  changes_so so d after link total largest cache (Err refused.TooManyJoins) h = same_so so d.moves after.moves (ap (λ (b : DeskState S). b.moves) h.1)
  changes_so so d after link total largest cache (Err refused.Memory) h = same_so so d.moves after.moves (ap (λ (b : DeskState S). b.moves) h)

  changes_few : (d after : DeskState S) (link : LinkNo) (total largest : Amounts) (cache : ℕ) (r : Result (Unit {0}) JoinRefused) → Changes d link total largest cache r after → joins_and_changes after.moves ≤ joins_and_changes d.moves + 1
  changes_few d after link total largest cache (Ok done) h = let one = joins_append d.moves (moves.Changed link total largest cache ∷ []) after.moves (ap (λ (b : DeskState S). b.moves) h.1) in omega (arith, one)
  changes_few d after link total largest cache (Err refused.TooManyLinks) h = let same = ap (λ (b : DeskState S). joins_and_changes b.moves) h.1 in omega (arith, same)
  changes_few d after link total largest cache (Err refused.TooManyJoins) h = let same = ap (λ (b : DeskState S). joins_and_changes b.moves) h.1 in omega (arith, same)
  changes_few d after link total largest cache (Err refused.Memory) h = let same = ap (λ (b : DeskState S). joins_and_changes b.moves) h in omega (arith, same)

  -- What it makes of what the link states.
  changes_state : (up : List ℕ) (d after : DeskState S) (link : LinkNo) (total largest : Amounts) (cache : ℕ) (r : Result (Unit {0}) JoinRefused) → Changes d link total largest cache r after → Carries up (messages.Totals total largest cache) → StatesOn up link.0 d.moves after.moves
  changes_state up d after link total largest cache (Ok done) h came = states_one up link.0 d.moves (moves.Changed link total largest cache) after.moves refl (ap (λ (b : DeskState S). b.moves) h.1) (refl, came)
  changes_state up d after link total largest cache (Err refused.TooManyLinks) h came = states_none up link.0 d.moves after.moves (ap (λ (b : DeskState S). link_moves b.moves) h.1)
  changes_state up d after link total largest cache (Err refused.TooManyJoins) h came = states_none up link.0 d.moves after.moves (ap (λ (b : DeskState S). link_moves b.moves) h.1)
  changes_state up d after link total largest cache (Err refused.Memory) h came = states_none up link.0 d.moves after.moves (ap (λ (b : DeskState S). link_moves b.moves) h)

  -- A seat of which an offer more was heard changes its amounts, or is left.
  pub fares_changed : {L A : Type 0} {ill : LinkNo → L → Type 0} {history : L → List Passed} {halt : Option Halt} {before : SeatState L} (s s_now : SeatState L) (d after : DeskState S) (link : LinkNo) (total largest : Amounts) (cache : ℕ) (reply : Result (Unit {0}) JoinRefused) (r : Result A Leave)
      → s_now ≡ s → Changes d link total largest cache reply after → OffersMore history before s → link ≡ s.link → Carries (received_in (history s.peer.way)) (messages.Totals total largest cache) → IfErr r (LeavesFor ill after.moves s_now) → FaresSeat ill history d.moves after.moves halt halt before s_now r
  fares_changed {L} {A} {ill} {history} {halt} {before} s s_now d after link total largest cache reply r same changes offers its came leaves =
      let more = subst (λ (x : SeatState L). OffersMore history before x) (sym same) offers in
      record {
        link = more.link;
        comes = more.comes;
        going = λ none. none;
        loses = λ none. changes_so (IsShownOn (history s_now.peer.way) before.link.0) d after link total largest cache reply changes;
        leaves = λ none. leaves;
        counts = λ none n was.
            let heard = more.more n was in
            let few = changes_few d after link total largest cache reply changes in
            let above = heard.1 in
            record { now = heard.0; came = heard_come history s_now.peer heard.0 heard.2; heard = ok_with r (HasHeard history s_now.peer heard.0) heard.2; enough = omega (arith, few, above) };
        states = λ none.
            let up = received_in (history s_now.peer.way) in
            subst (λ (l : LinkNo). StatesOn up l.0 d.moves after.moves) (its ∙ sym (ap (λ (x : SeatState L). x.link) same) ∙ more.link)
            (changes_state up d after link total largest cache reply changes (subst (λ (x : SeatState L). Carries (received_in (history x.peer.way)) (messages.Totals total largest cache)) (sym same) came));
      }

  -- why it is left then
  pub changes_full : (d after : DeskState S) (link : LinkNo) (total largest : Amounts) (cache : ℕ) (why : JoinRefused) → (let r : Result (Unit {0}) JoinRefused = Err why in Changes d link total largest cache r after) → (why ≡ refused.Memory → ⊥) → IsFull after.moves
  changes_full d after link total largest cache refused.TooManyLinks h other = subst (λ (b : DeskState S). IsFull b.moves) (sym h.1) (change_full d.moves refused.TooManyLinks h.0)
  changes_full d after link total largest cache refused.TooManyJoins h other = subst (λ (b : DeskState S). IsFull b.moves) (sym h.1) (change_full d.moves refused.TooManyJoins h.0)
  changes_full d after link total largest cache refused.Memory h other = absurd (other refl)

-- ---- all that ran at a seat is given up

pub gives_halted : {link : ℕ} {M all : List Move} {halt halt_now : Option Halt} (why : Halt) → halt_now ≡ Some why → GivesUp link M all halt halt_now
gives_halted {link} {M} {all} {halt} {halt_now} why stopped = record { going = λ none. absurd (halted_never why halt_now stopped none); loses = λ none. absurd (halted_never why halt_now stopped none); quiet = λ none. absurd (halted_never why halt_now stopped none); unlinked = λ none. absurd (halted_never why halt_now stopped none) }

pub gives_then : {link : ℕ} {M mid all : List Move} {halt halt_mid halt_now : Option Halt} → GivesUp link M mid halt halt_mid → GivesUp link mid all halt_mid halt_now → GivesUp link M all halt halt_now
gives_then {link} {M} {mid} {all} {halt} {halt_mid} {halt_now} one two = record {
  going = λ none. one.going (two.going none);
  loses = λ none.
      let later = two.loses none in
      adds_then (IsStartedOn link) (IsStartedOn link) M mid all (started_later link (records_of mid) (records_of later.more) (records_of all) (records_after (IsStartedOn link) mid all later)) (one.loses (two.going none)) later;
  quiet = λ none. two.quiet none ∙ one.quiet (two.going none);
  unlinked = λ none. two.unlinked none ∙ one.unlinked (two.going none);
}

pub loses_gives : (M all : List Move) (link : ℕ) (a : Attempt) (halt : Option Halt) → a.link.0 ≡ link → LosesIt M a all → GivesUp link M all halt halt
loses_gives M all link a halt on loses = record {
  going = λ none. none;
  loses = λ none. it_so (IsStartedOn link) M all a loses (λ started. subst (λ (k : ℕ). list_any (starts_on k a.rule.0 a.number.0) (records_of all) ≡ true) on started);
  quiet = λ none. quiet_on M (moves.Logged (records.Lost loses.moment a.rule a.number) ∷ []) all loses.are refl;
  unlinked = λ none. ap link_moves loses.are ∙ links_grown M (moves.Logged (records.Lost loses.moment a.rule a.number) ∷ []) ∙ append-nil (link_moves M);
}

module _ {S : Type 0} where
  pub leaves_linked : (d after : DeskState S) (link : LinkNo) → Leaves d link after → link_moves after.moves ≡ link_moves d.moves ++ (moves.Left link ∷ [])
  leaves_linked d after link h = linked_one d.moves (moves.Left link) after.moves refl (ap (λ (b : DeskState S). b.moves) h)

  pub leaves_spare : (d after : DeskState S) (link : LinkNo) → Leaves d link after → SparesAll d.moves after.moves
  leaves_spare d after link h = record { more = moves.Left link ∷ []; are = ap (λ (b : DeskState S). b.moves) h; none = refl; here = All-nil (EndsHere (records_of after.moves)); quiet = refl }

  -- What a join makes of the moves.
  pub joins_so : (so : List Record → Record → Type 0) (d after : DeskState S) (total largest : Amounts) (cache : ℕ) (link : LinkNo) → (let r : Result LinkNo JoinRefused = Ok link in Joins d total largest cache r after) → AddsSo so d.moves after.moves
  joins_so so d after total largest cache link h = record { more = moves.Joined link total largest cache ∷ []; are = ap (λ (b : DeskState S). b.moves) h.2; each = All-nil (so (records_of after.moves)) }

  pub joins_one : (d after : DeskState S) (total largest : Amounts) (cache : ℕ) (link : LinkNo) → (let r : Result LinkNo JoinRefused = Ok link in Joins d total largest cache r after) → joins_and_changes after.moves ≡ joins_and_changes d.moves + 1
  joins_one d after total largest cache link h = let one = joins_append d.moves (moves.Joined link total largest cache ∷ []) after.moves (ap (λ (b : DeskState S). b.moves) h.2) in omega (arith, one)

  pub joins_none_spare : (d after : DeskState S) (total largest : Amounts) (cache : ℕ) (why : JoinRefused) → (let r : Result LinkNo JoinRefused = Err why in Joins d total largest cache r after) → SparesAll d.moves after.moves
  joins_none_spare d after total largest cache refused.TooManyLinks h = spares_same d.moves after.moves (ap (λ (b : DeskState S). b.moves) h.1)
  joins_none_spare d after total largest cache refused.TooManyJoins h = spares_same d.moves after.moves (ap (λ (b : DeskState S). b.moves) h.1)
  joins_none_spare d after total largest cache refused.Memory h = spares_same d.moves after.moves (ap (λ (b : DeskState S). b.moves) h)

-- it did something
pub never_false : {E : Type 0} (r : Result Bool E) (P : Type 0) → IfOk r (λ did. did ≡ true) → IfOk r (λ did. did ≡ false → P)
never_false (Ok did) P is = λ not. absurd (true≢false (sym is ∙ not))
never_false (Err why) P is = tt
