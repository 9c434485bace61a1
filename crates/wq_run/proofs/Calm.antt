-- Over sure links no attempt fails and none is given up: records, and one seat.
use Rattle.std.proofs.Common.{◌≡◌, ◌≤◌, ◌<◌, ◌+◌, ◌⊎◌, inl, inr, ◌∙◌, ℕ, zero, suc, length, drop, Bool, true, false, List, [], ◌∷◌, ◌++◌, Option, Some, None, Result, Ok, Err, refl, sym, ap, subst, arith, append_assoc, true≢false}
use Rattle.std.specs.Prelude.{◌||◌, IfErr, IfOk, OnOk, cond, is_none}
use Rattle.std.specs.List.{list_any}
use Rattle.std.proofs.lemmas.Bool.{or_parts}
use Rattle.std.proofs.lemmas.List.{append-nil}
use Rattle.std.proofs.lemmas.List.Folds.{list_any-append}
use Rattle.std.proofs.lemmas.List.Sums.{sum_by-append, sum_by-cons}
use Rattle.flow_types.specs.declared.numbers.Amounts.{Amounts}
use Rattle.flow_types.specs.declared.numbers.AttemptNo.{AttemptNo}
use Rattle.flow_types.specs.declared.numbers.FileNo.{FileNo}
use Rattle.flow_types.specs.declared.numbers.LinkNo.{LinkNo}
use Rattle.flow_types.specs.declared.job.Failure.{Failure}
use Rattle.flow_types.specs.declared.job.Job.{Job}
use Rattle.flow_types.specs.declared.job.Outcome.{Outcome}
use Rattle.flow_types.specs.declared.job.Outcome.TheVariants as outcomes
use Rattle.flow_types.specs.declared.job.Start.{Start}
use Rattle.flow_types.specs.declared.job.Task.{Task}
use Rattle.flow_types.specs.declared.messages.Key.{Key}
use Rattle.flow_types.specs.declared.messages.Message.{Message}
use Rattle.flow_types.specs.declared.messages.Message.TheVariants as messages
use Rattle.flow_types.specs.declared.records.Record.{Record}
use Rattle.flow_types.specs.Serial.{Contents, Function}
use Rattle.run_history.specs.declared.moves.Move.{Move}
use Rattle.run_history.specs.declared.moves.Move.TheVariants as moves
use Rattle.run_history.specs.declared.links.JoinRefused.{JoinRefused}
use Rattle.run_history.specs.declared.links.JoinRefused.TheVariants as refused
use Rattle.run_history.specs.Links.{records_of}
use Rattle.outside.specs.Disk.{Outcomes}
use Rattle.outside.specs.Files.{Files}
use Rattle.worker_pool.specs.declared.hand.Tally.{Tally}
use Rattle.link_session.specs.Keys.{lacking}
use Rattle.link_session.specs.Sessions.{State, started}
use Rattle.links.specs.declared.passing.Passed.{Passed}
use Rattle.links.specs.Honesty.{OwesNothing}
use Rattle.links.specs.Passings.{received_in, sent_in}
use Rattle.message_forms.specs.Streams.{IsAmong}
use Rattle.wq_frames.specs.Streams.{Stream}
use Rattle.desk.specs.declared.answers.Claim.{Claim}
use Rattle.desk.specs.declared.answers.Claim.TheVariants as claims
use Rattle.desk.specs.declared.attempt.Attempt.{Attempt}
use Rattle.desk.specs.Links.{Changes, Joins}
use Rattle.desk.specs.State.{DeskState, IsFine}
use Rattle.peers.specs.declared.leave.Leave.{Leave}
use Rattle.peers.specs.declared.leave.Leave.TheVariants as leaves
use Rattle.peers.specs.declared.told.Told.{Told}
use Rattle.peers.specs.declared.told.Told.TheVariants as tell
use Rattle.peers.specs.Hears.{Hears, IsCalm, Means, ServesOn, Tells}
use Rattle.peers.specs.Provides.{Provides, ProvidesAsked, ProvidesHeard, ProvidesOpened, ProvidesPut, ProvidesSaid, keys_of}
use Rattle.peers.specs.Serves.{IsNew, Serves}
use Rattle.peers.specs.States.{GoesOn, PeerState}
use Rattle.peers.proofs.Serving.{among_or}
use Rattle.local_run.specs.declared.halt.Halt.{Halt}
use Rattle.local_run.specs.Beyond.{claimed_by}
use Rattle.local_run.specs.Ends.{failed_count, is_failed}
use Rattle.local_run.specs.Losses.{EndsIt, SparesAll, done_as, is_lost}
use Rattle.local_run.specs.Underway.{AwayState, HeldState, StoppedBy, Underway, halt_after}
use Rattle.local_run.proofs.Going.{records_grown}
use Rattle.wq_run.specs.Calm.{AddsWell, Asked, FaresWell, IsSureOf, IsSureGuest, IsSureSeat, IsSureToAsk, IsTended, IsWantOr, StaysOr, goes_wrong}
use Rattle.wq_run.specs.Dues.{IsFull}
use Rattle.wq_run.specs.Seats.{IsAtSeat, SeatState}
use Rattle.wq_run.specs.Trusted.{IsUpTo}
use Rattle.wq_run.proofs.Fares.{halted_never}
use Rattle.wq_run.proofs.Known.{known_on}

-- ---- records

none_parts : (a b : ℕ) → a + b ≡ 0 → (a ≡ 0) × (b ≡ 0)
none_parts a b none = (omega (arith, none), omega (arith, none))

not_one : (b : Bool) → (let n : ℕ = cond b 1 0 in n ≡ 0) → b ≡ false
not_one true is = absurd (let wrong : ⊥ = omega (arith, is) in wrong)
not_one false is = refl

both_false : (a b c : Bool) → a ≡ false → b ≡ false → c ≡ false → ((a || b) || c) ≡ false
both_false true b c one two three = absurd (true≢false one)
both_false false true c one two three = absurd (true≢false two)
both_false false false c one two three = three

or_false : (a b : Bool) → a ≡ false → b ≡ false → (a || b) ≡ false
or_false true b one two = absurd (true≢false one)
or_false false b one two = two

none_wrong : (xs : List Record) → list_any is_lost xs ≡ false → failed_count xs ≡ 0 → list_any goes_wrong xs ≡ false
none_wrong [] unlost unfailed = refl
none_wrong (x ∷ xs) unlost unfailed =
    let lost = or_parts (is_lost x) (list_any is_lost xs) unlost in
    let failed = none_parts (cond (is_failed x) 1 0) (failed_count xs) (sym (sum_by-cons (λ (y : Record). cond (is_failed y) 1 0) x xs) ∙ unfailed) in
    both_false (is_failed x) (is_lost x) (list_any goes_wrong xs) (not_one (is_failed x) failed.0) lost.0 (none_wrong xs lost.1 failed.1)

more_none : (a b all : ℕ) → all ≡ a + b → all ≡ a → b ≡ 0
more_none a b all sum same = omega (arith, sum, same)

-- Nothing was given up, and no more failures are logged.
pub well_by : (M all : List Move) → SparesAll M all → failed_count (records_of all) ≡ failed_count (records_of M) → AddsWell M all
well_by M all spares same = record {
  more = spares.more;
  are = spares.are;
  none = none_wrong (records_of spares.more) spares.none
      (more_none (failed_count (records_of M)) (failed_count (records_of spares.more)) (failed_count (records_of all))
      (ap (λ (N : List Move). failed_count (records_of N)) spares.are ∙ ap failed_count (records_grown M spares.more) ∙ sum_by-append (λ (x : Record). cond (is_failed x) 1 0) (records_of M) (records_of spares.more)) same);
}

pub well_same : (M all : List Move) → all ≡ M → AddsWell M all
well_same M all same = record { more = []; are = same ∙ sym (append-nil M); none = refl }

pub well_then : (M mid all : List Move) → AddsWell M mid → AddsWell mid all → AddsWell M all
well_then M mid all one two = record {
  more = one.more ++ two.more;
  are = two.are ∙ ap (λ (N : List Move). N ++ two.more) one.are ∙ append_assoc M one.more two.more;
  none = ap (list_any goes_wrong) (records_grown one.more two.more) ∙ list_any-append goes_wrong (records_of one.more) (records_of two.more)
      ∙ or_false (list_any goes_wrong (records_of one.more)) (list_any goes_wrong (records_of two.more)) one.none two.none;
}

-- a link joins, changes its amounts, or is refused
pub changes_well : {S : Type 0} (d after : DeskState S) (link : LinkNo) (total largest : Amounts) (cache : ℕ) (r : Result (Unit {0}) JoinRefused) → Changes d link total largest cache r after → AddsWell d.moves after.moves
changes_well {S} d after link total largest cache (Ok done) h = record { more = moves.Changed link total largest cache ∷ []; are = ap (λ (b : DeskState S). b.moves) h.1; none = refl }
changes_well {S} d after link total largest cache (Err refused.TooManyLinks) h = well_same d.moves after.moves (ap (λ (b : DeskState S). b.moves) h.1)
changes_well {S} d after link total largest cache (Err refused.TooManyJoins) h = well_same d.moves after.moves (ap (λ (b : DeskState S). b.moves) h.1)
changes_well {S} d after link total largest cache (Err refused.Memory) h = well_same d.moves after.moves (ap (λ (b : DeskState S). b.moves) h)

pub joins_well : {S : Type 0} (d after : DeskState S) (total largest : Amounts) (cache : ℕ) (r : Result LinkNo JoinRefused) → Joins d total largest cache r after → AddsWell d.moves after.moves
joins_well {S} d after total largest cache (Ok link) h = record { more = moves.Joined link total largest cache ∷ []; are = ap (λ (b : DeskState S). b.moves) h.2; none = refl }
joins_well {S} d after total largest cache (Err refused.TooManyLinks) h = well_same d.moves after.moves (ap (λ (b : DeskState S). b.moves) h.1)
joins_well {S} d after total largest cache (Err refused.TooManyJoins) h = well_same d.moves after.moves (ap (λ (b : DeskState S). b.moves) h.1)
joins_well {S} d after total largest cache (Err refused.Memory) h = well_same d.moves after.moves (ap (λ (b : DeskState S). b.moves) h)

-- ---- how many failures are logged

count_same : (a b first f f_now g g_now : ℕ) → a ≡ first + f + g → b ≡ first + f_now + g_now → f_now ≡ f → g_now ≡ g → b ≡ a
count_same a b first f f_now g g_now one two same there = omega (arith, one, two, same, there)

fine_of : {S : Type 0} (tells kept sure : Type 0) (files : S → Files) (d now : DeskState S) (heard : Tally) (halt : Option Halt) → halt ≡ None → StoppedBy tells kept sure files d now heard halt → IsFine now.trouble
fine_of tells kept sure files d now heard halt none stopped = (subst (StoppedBy tells kept sure files d now heard) none stopped).0

-- Where the run goes on, the same of those that were heard failed, and of those on links, no more failures are logged.
pub failures_same : {S : Type 0} {trust : Type 0} {gives : Function} {may_fail : Job → Failure → Type 0} {sources : Contents} {tells kept sure : Type 0} {files : S → Files} {may_leave : S → Outcomes} {moment : S → ℕ} {images_since : S → ℕ → Files → Type 0}
    {away away_now : AwayState} {first d after : DeskState S} {held held_now : List Attempt} {waiting waiting_now : List Start} {loose loose_now : Option Attempt} {heard heard_now : Tally} {halt halt_now : Option Halt}
    → Underway trust gives may_fail sources tells kept sure files may_leave moment images_since away first d held waiting loose heard halt → Underway trust gives may_fail sources tells kept sure files may_leave moment images_since away_now first after held_now waiting_now loose_now heard_now halt_now
    → halt ≡ None → halt_now ≡ None → heard_now.failed ≡ heard.failed → away_now.failed ≡ away.failed → failed_count (records_of after.moves) ≡ failed_count (records_of d.moves)
failures_same {S} {trust} {gives} {may_fail} {sources} {tells} {kept} {sure} {files} {may_leave} {moment} {images_since} {away} {away_now} {first} {d} {after} {held} {held_now} {waiting} {waiting_now} {loose} {loose_now} {heard} {heard_now} {halt} {halt_now} u v none none_now same there =
    count_same (failed_count (records_of d.moves)) (failed_count (records_of after.moves)) (failed_count (records_of first.moves)) heard.failed heard_now.failed away.failed away_now.failed
    (u.failures (fine_of tells kept sure files first d heard halt none u.stopped)) (v.failures (fine_of tells kept sure files first after heard_now halt_now none_now v.stopped)) same there

-- The same over sure runners.
pub failures_sure : {S : Type 0} {trust : Type 0} {gives : Function} {may_fail : Job → Failure → Type 0} {sources : Contents} {tells kept sure : Type 0} {files : S → Files} {may_leave : S → Outcomes} {moment : S → ℕ} {images_since : S → ℕ → Files → Type 0}
    {away : AwayState} {first d after : DeskState S} {held held_now : List Attempt} {waiting waiting_now : List Start} {loose loose_now : Option Attempt} {heard heard_now : Tally} {halt halt_now : Option Halt}
    → sure → Underway trust gives may_fail sources tells kept sure files may_leave moment images_since away first d held waiting loose heard halt → Underway trust gives may_fail sources tells kept sure files may_leave moment images_since away first after held_now waiting_now loose_now heard_now halt_now
    → halt ≡ None → halt_now ≡ None → failed_count (records_of after.moves) ≡ failed_count (records_of d.moves)
failures_sure is u v none none_now = failures_same u v none none_now (v.never is ∙ sym (u.never is)) refl

-- a claim makes nothing fail
pub claimed_failed : (r : Result Claim Halt) (front back : List Attempt) (away : AwayState) → (claimed_by r front back away).failed ≡ away.failed
claimed_failed (Ok (claims.Taken attempt)) front back away = refl
claimed_failed (Ok (claims.Nothing why)) front back away = refl
claimed_failed (Err why) front back away = refl

-- ---- what a call comes to

pub on_ok : {A : Type 0} (r : Result A Leave) (P Q : Type 0) → (P → Q) → OnOk r P → OnOk r Q
on_ok (Ok x) P Q on is = on is
on_ok (Err leave) P Q on is = tt

pub wide_leave : (full : Type 0) (leave : Leave) → IsWantOr ⊥ leave → IsWantOr full leave
wide_leave full leaves.Closed is = absurd is
wide_leave full leaves.Failed is = absurd is
wide_leave full leaves.Bad is = absurd is
wide_leave full leaves.Unexpected is = absurd is
wide_leave full leaves.Memory is = tt

wide_err : {A : Type 0} (full : Type 0) (r : Result A Leave) → IfErr r (IsWantOr ⊥) → IfErr r (IsWantOr full)
wide_err full (Ok x) is = tt
wide_err full (Err leave) is = wide_leave full leave is

pub leaves_want : (full : Type 0) (leave : Leave) → leave ≡ leaves.Memory → IsWantOr full leave
leaves_want full leave is = subst (IsWantOr full) (sym is) tt

module _ {A : Type 0} {P full : Type 0} where
  pub stays_ok : {x : A} → P → (let r : Result A Leave = Ok x in StaysOr P full r)
  stays_ok is = record { stays = is; leaves = tt }

  -- it stays so, as it was before
  pub stays_as : {Q : Type 0} (r : Result A Leave) → (Q → P) → StaysOr Q full r → StaysOr P full r
  stays_as {Q} r on is = record { stays = on_ok r Q P on is.stays; leaves = is.leaves }

  -- it is left for want of memory alone, and so for that or for a full desk
  pub stays_wide : (r : Result A Leave) → StaysOr P ⊥ r → StaysOr P full r
  stays_wide r is = record { stays = is.stays; leaves = wide_err full r is.leaves }

  -- however else it was answered
  pub stays_err : {B Q : Type 0} (leave : Leave) → (let r : Result B Leave = Err leave in StaysOr Q full r) → (let r : Result A Leave = Err leave in StaysOr P full r)
  stays_err leave is = record { stays = tt; leaves = is.leaves }

  -- it is left for this
  pub stays_left : {leave : Leave} → IsWantOr full leave → (let r : Result A Leave = Err leave in StaysOr P full r)
  stays_left is = record { stays = tt; leaves = is }

  pub wants_memory : (leave : Leave) → leave ≡ leaves.Memory → (let r : Result A Leave = Err leave in StaysOr P full r)
  wants_memory leave is = record { stays = tt; leaves = subst (IsWantOr full) (sym is) tt }

module _ {A : Type 0} where
  -- It stopped.
  pub fares_halted : {M all : List Move} {halt_now : Option Halt} {r : Result A Leave} {P : Type 0} (why : Halt) → halt_now ≡ Some why → FaresWell M all halt_now r P
  fares_halted {M} {all} {halt_now} why stopped none = absurd (halted_never why halt_now stopped none)

  -- Nothing was logged.
  pub fares_quiet : {M all : List Move} {halt_now : Option Halt} {r : Result A Leave} {P : Type 0} → all ≡ M → StaysOr P (IsFull all) r → FaresWell M all halt_now r P
  fares_quiet {M} {all} same stays none = (well_same M all same, stays)

  -- It went well, and then came to that.
  pub fares_after : {M mid all : List Move} {halt_now : Option Halt} {r : Result A Leave} {P : Type 0} → AddsWell M mid → FaresWell mid all halt_now r P → FaresWell M all halt_now r P
  fares_after {M} {mid} {all} one two none = let it = two none in (well_then M mid all one it.0, it.1)

-- ---- what is relied on

pub sure_of_on : {L : Type 0} {honest sure : L → Type 0} {offers : L → Amounts → Type 0} {asked : Option Asked} {way way_now : L} → GoesOn honest sure offers way way_now → IsSureOf sure offers asked way → IsSureOf sure offers asked way_now
sure_of_on on is = record { surely = on.surely is.surely; offering = λ a so. on.offering a.least (is.offering a so) }

-- after a call that waited for bytes the link is idle only where nothing is owed
pub piece_owes : (now : ℕ) (owes : Type 0) → now ≡ 0 → 0 < now → owes
piece_owes now owes none some = absurd (let wrong : ⊥ = omega (arith, none, some) in wrong)

-- ---- one seat

task_is : (t task : Task) → messages.Task t ≡ messages.Task task → t ≡ task
task_is t task is = ap of_message is
  where
    of_message : Message → Task
    of_message (messages.Task x) = x
    of_message m = t

no_put : (key : Key) (content : List ℕ) (t : Task) → messages.Task t ≡ messages.Put key content → ⊥
no_put key content t is = true≢false (ap is_task is)
  where
    is_task : Message → Bool
    is_task (messages.Task x) = true
    is_task m = false

no_unlink : (key : Key) (t : Task) → messages.Task t ≡ messages.Unlink key → ⊥
no_unlink key t is = true≢false (ap is_task is)
  where
    is_task : Message → Bool
    is_task (messages.Task x) = true
    is_task m = false

module _ {L : Type 0} (gives : Function) (may_fail : Job → Failure → Type 0) (history : L → List Passed) (sure : L → Type 0) where
  abbrev Tended : PeerState L → List Message → List Message → Option Task → List Key → Type 0
  Tended p said heard waiting left = IsTended gives may_fail history sure p said heard waiting left

  abbrev Sure : SeatState L → Type 0
  Sure s = IsSureSeat gives may_fail history sure s

  abbrev Asks : SeatState L → Task → List Key → Type 0
  Asks s task left = IsSureToAsk gives may_fail history sure s task left

  abbrev Served : PeerState L → List Message → List Message → Option Task → Type 0
  Served p said heard waiting = Serves gives may_fail (history p.way) p.feed p.session said heard waiting

  abbrev Older : Option AttemptNo → List Message → Type 0
  Older newest said = (t : Task) → IsAmong (messages.Task t) said → IsUpTo newest t.attempt

  -- a seat with the same peer
  pub sure_as : (s s_now : SeatState L) → s_now.peer ≡ s.peer → s_now.newest ≡ s.newest → Sure s → Sure s_now
  sure_as s s_now same newest is = record {
    said = is.said;
    heard = is.heard;
    tended = subst (λ (p : PeerState L). Tended p is.said is.heard None []) (sym same) is.tended;
    older = λ t among. subst (λ (n : Option AttemptNo). IsUpTo n t.attempt) (sym newest) (is.older t among);
  }

  -- a new seat
  pub sure_new : {idles : L → ℕ} (s : SeatState L) → IsSureGuest gives may_fail history idles sure s.peer → Sure s
  sure_new s is = record { said = []; heard = is.heard; tended = is.tended; older = λ t among. absurd among }

  -- bytes came
  pub tended_come : (p p_now : PeerState L) (said heard : List Message) (waiting : Option Task) (left : List Key) → p_now.session ≡ p.session → (Served p said heard waiting → Served p_now said heard waiting) → (sure p.way → sure p_now.way)
      → Tended p said heard waiting left → Tended p_now said heard waiting left
  tended_come p p_now said heard waiting left same serves on is = record {
    serves = serves is.serves;
    provides = subst (λ (x : State). Provides x.known said waiting left) (sym same) is.provides;
    surely = on is.surely;
  }

  pub sure_come : (s : SeatState L) (p : PeerState L) → p.session ≡ s.peer.session → ((said heard : List Message) (waiting : Option Task) → Served s.peer said heard waiting → Served p said heard waiting) → (sure s.peer.way → sure p.way) → Sure s → Sure (record s { peer = p })
  sure_come s p same serves on is = record { said = is.said; heard = is.heard; tended = tended_come s.peer p is.said is.heard None [] same (serves is.said is.heard None) on is.tended; older = is.older }

  pub guest_come : {idles : L → ℕ} (p p_now : PeerState L) → p_now.session ≡ p.session → ((said heard : List Message) (waiting : Option Task) → Served p said heard waiting → Served p_now said heard waiting) → (sure p.way → sure p_now.way)
      → (0 < idles p_now.way → OwesNothing (sent_in (history p_now.way)) (received_in (history p_now.way))) → IsSureGuest gives may_fail history idles sure p → IsSureGuest gives may_fail history idles sure p_now
  guest_come p p_now same serves on owes is = record { heard = is.heard; tended = tended_come p p_now [] is.heard None [] same (serves [] is.heard None) on is.tended; owes = owes }

  -- ---- what is said

  older_more : (newest : Option AttemptNo) (said : List Message) (m : Message) → ((t : Task) → messages.Task t ≡ m → IsUpTo newest t.attempt) → Older newest said → Older newest (said ++ (m ∷ []))
  older_more newest said m own was t among = by_place (among_or (messages.Task t) m said among)
    where
      by_place : IsAmong (messages.Task t) said ⊎ (messages.Task t ≡ m) → IsUpTo newest t.attempt
      by_place (inl is) = was t is
      by_place (inr is) = own t is

  -- a word was said that changes nothing
  pub sure_word : (s : SeatState L) (p : PeerState L) (key : Key) → ProvidesSaid → p.session ≡ s.peer.session
      → ((said heard : List Message) (waiting : Option Task) → Served s.peer said heard waiting → Served p (said ++ (messages.Unlink key ∷ [])) heard waiting) → (sure s.peer.way → sure p.way) → Sure s → Sure (record s { peer = p })
  sure_word s p key goes same serves on is = record {
    said = is.said ++ (messages.Unlink key ∷ []);
    heard = is.heard;
    tended = record {
      serves = serves is.said is.heard None is.tended.serves;
      provides = subst (λ (x : State). Provides x.known (is.said ++ (messages.Unlink key ∷ [])) None []) (sym same) (goes s.peer.session.known [] is.said None (messages.Unlink key) (no_unlink key) is.tended.provides);
      surely = on is.tended.surely;
    };
    older = older_more s.newest is.said (messages.Unlink key) (λ t wrong. absurd (no_unlink key t wrong)) is.older;
  }

  -- one more of the inputs was put
  pub sure_put : (s : SeatState L) (p : PeerState L) (key : Key) (content : List ℕ) (task : Task) (left : List Key) → ProvidesPut → p.session ≡ s.peer.session
      → ((said heard : List Message) (waiting : Option Task) → Served s.peer said heard waiting → Served p (said ++ (messages.Put key content ∷ [])) heard waiting) → (sure s.peer.way → sure p.way) → Asks s task (key ∷ left) → Asks (record s { peer = p }) task left
  sure_put s p key content task left puts same serves on is = record {
    said = is.said ++ (messages.Put key content ∷ []);
    heard = is.heard;
    tended = record {
      serves = serves is.said is.heard (Some task) is.tended.serves;
      provides = subst (λ (x : State). Provides x.known (is.said ++ (messages.Put key content ∷ [])) (Some task) left) (sym same) (puts s.peer.session.known left is.said (Some task) key content is.tended.provides);
      surely = on is.tended.surely;
    };
    older = older_more s.newest is.said (messages.Put key content) (λ t wrong. absurd (no_put key content t wrong)) is.older;
    newest = is.newest;
  }

  -- the task was asked
  pub sure_asked : (s : SeatState L) (p : PeerState L) (task : Task) → ProvidesAsked → p.session ≡ s.peer.session
      → ((said heard : List Message) → Served s.peer said heard (Some task) → Served p (said ++ (messages.Task task ∷ [])) heard None) → (sure s.peer.way → sure p.way) → Asks s task [] → Sure (record s { peer = p })
  sure_asked s p task asks same serves on is = record {
    said = is.said ++ (messages.Task task ∷ []);
    heard = is.heard;
    tended = record {
      serves = serves is.said is.heard is.tended.serves;
      provides = subst (λ (x : State). Provides x.known (is.said ++ (messages.Task task ∷ [])) None []) (sym same) (asks s.peer.session.known is.said task is.tended.provides);
      surely = on is.tended.surely;
    };
    older = older_more s.newest is.said (messages.Task task) (λ t one. subst (λ (x : Task). IsUpTo s.newest x.attempt) (sym (task_is t task one)) is.newest) is.older;
  }

  -- its attempt was opened
  less_apart : (m n : AttemptNo) → m.0 < n.0 → m ≡ n → ⊥
  less_apart m n less same = let is : m.0 ≡ n.0 = ap (λ (k : AttemptNo). k.0) same in omega (arith, less, is)

  less_up : (m n : ℕ) → m < n → m ≤ n
  less_up m n less = omega (arith, less)

  newer_by : (newest : Option AttemptNo) (number n : AttemptNo) → ((last : AttemptNo) → newest ≡ Some last → last.0 < number.0) → IsUpTo newest n → n.0 < number.0
  newer_by None number n newer up = absurd up
  newer_by (Some last) number n newer up = let less = newer last refl in omega (arith, less, up)

  pub sure_opened : (s : SeatState L) (p : PeerState L) (task : Task) (files : List FileNo) → ProvidesOpened → p.session ≡ started s.peer.session task → files ≡ lacking s.peer.session.known task.run task.inputs
      → ((said heard : List Message) → Served s.peer said heard None → IsNew task.attempt said → Served p said heard (Some task)) → (sure s.peer.way → sure p.way) → ((last : AttemptNo) → s.newest ≡ Some last → last.0 < task.attempt.0) → Sure s
      → Asks (record s { peer = p; newest = Some task.attempt }) task (keys_of task.run files)
  sure_opened s p task files opens now left serves on newer is =
      let earlier : (t : Task) → IsAmong (messages.Task t) is.said → t.attempt.0 < task.attempt.0 = λ t among. newer_by s.newest task.attempt t.attempt newer (is.older t among) in
      record {
        said = is.said;
        heard = is.heard;
        tended = record {
          serves = serves is.said is.heard is.tended.serves (λ t among same. less_apart t.attempt task.attempt (earlier t among) same);
          provides = subst (λ (x : State). Provides x.known is.said (Some task) (keys_of task.run files)) (sym now)
              (subst (λ (xs : List FileNo). Provides (started s.peer.session task).known is.said (Some task) (keys_of task.run xs)) (sym left) (opens s.peer.session.known is.said task is.tended.provides));
          surely = on is.tended.surely;
        };
        older = λ t among. less_up t.attempt.0 task.attempt.0 (earlier t among);
        newest = (let n = task.attempt.0 in omega arith);
      }

  -- ---- what is heard

  -- what the peer is served with once that was heard
  pub record ServedNow (p : PeerState L) (said : List Message) : Type 0 where
    pub heard : List Message
    pub serves : Served p said heard None

  now_tells : (p : PeerState L) (said heard : List Message) (t : Told) → Tells gives may_fail (history p.way) p.feed p.session said heard t → ServedNow p said
  now_tells p said heard t it = record { heard = heard ++ (it.message ∷ []); serves = it.serves }

  now_by : (p : PeerState L) (said heard : List Message) (t : Told) → (let r : Result Told Leave = Ok t in ServesOn gives may_fail (history p.way) said heard r p.feed p.session) → ServedNow p said
  now_by p said heard tell.Nothing it = record { heard = heard; serves = it }
  now_by p said heard (tell.Joined total largest cache) it = now_tells p said heard (tell.Joined total largest cache) it
  now_by p said heard (tell.Changed total largest cache) it = now_tells p said heard (tell.Changed total largest cache) it
  now_by p said heard (tell.Finish attempt outs) it = now_tells p said heard (tell.Finish attempt outs) it
  now_by p said heard (tell.Fail attempt why) it = now_tells p said heard (tell.Fail attempt why) it
  now_by p said heard (tell.Lose attempt) it = now_tells p said heard (tell.Lose attempt) it
  now_by p said heard (tell.PutAgain attempt files) it = now_tells p said heard (tell.PutAgain attempt files) it
  now_by p said heard (tell.Stale attempt) it = now_tells p said heard (tell.Stale attempt) it

  -- The peer is tended on, with what it told.
  tended_on : (p p_now : PeerState L) (said heard : List Message) (t : Told) → ProvidesHeard → p_now.way ≡ p.way
      → (p.feed.stop ≡ None → (let r : Result Told Leave = Ok t in Hears p.feed p.session r p_now.feed p_now.session))
      → (let r : Result Told Leave = Ok t in ServesOn gives may_fail (history p_now.way) said heard r p_now.feed p_now.session)
      → Tended p said heard None [] → (now : ServedNow p_now said) × Tended p_now said now.heard None []
  tended_on p p_now said heard t known way hears serves is =
      let now = now_by p_now said heard t serves in
      (now, record { serves = now.serves; provides = known_on p.feed p_now.feed p.session p_now.session t said known (hears is.serves.going) is.provides; surely = subst sure (sym way) is.surely })

  pub sure_heard : (s : SeatState L) (p : PeerState L) (t : Told) → ProvidesHeard → p.way ≡ s.peer.way
      → (s.peer.feed.stop ≡ None → (let r : Result Told Leave = Ok t in Hears s.peer.feed s.peer.session r p.feed p.session))
      → ((said heard : List Message) → Served s.peer said heard None → (let r : Result Told Leave = Ok t in ServesOn gives may_fail (history p.way) said heard r p.feed p.session))
      → Sure s → Sure (record s { peer = p })
  sure_heard s p t known way hears serves is =
      let on = tended_on s.peer p is.said is.heard t known way hears (serves is.said is.heard is.tended.serves) is.tended in
      record { said = is.said; heard = on.0.heard; tended = on.1; older = is.older }

  pub guest_heard : {idles : L → ℕ} (p p_now : PeerState L) (t : Told) → ProvidesHeard → p_now.way ≡ p.way
      → (p.feed.stop ≡ None → (let r : Result Told Leave = Ok t in Hears p.feed p.session r p_now.feed p_now.session))
      → ((said heard : List Message) → Served p said heard None → (let r : Result Told Leave = Ok t in ServesOn gives may_fail (history p_now.way) said heard r p_now.feed p_now.session))
      → IsSureGuest gives may_fail history idles sure p → IsSureGuest gives may_fail history idles sure p_now
  guest_heard {idles} p p_now t known way hears serves is =
      let on = tended_on p p_now [] is.heard t known way hears (serves [] is.heard is.tended.serves) is.tended in
      record {
        heard = on.0.heard;
        tended = on.1;
        owes = subst (λ (w : L). 0 < idles w → OwesNothing (sent_in (history w)) (received_in (history w))) (sym way) is.owes;
      }

-- ---- what a sure peer tells

abbrev pub IsCalmTold : Told → Type 0
IsCalmTold t = let r : Result Told Leave = Ok t in IsCalm r

calm_want : (full : Type 0) (leave : Leave) → (let r : Result Told Leave = Err leave in IsCalm r) → IsWantOr full leave
calm_want full leaves.Closed is = absurd is
calm_want full leaves.Failed is = absurd is
calm_want full leaves.Bad is = absurd is
calm_want full leaves.Unexpected is = absurd is
calm_want full leaves.Memory is = tt

pub calm_leave : {A : Type 0} {P full : Type 0} (leave : Leave) → (let r : Result Told Leave = Err leave in IsCalm r) → (let r : Result A Leave = Err leave in StaysOr P full r)
calm_leave {A} {P} {full} leave is = record { stays = tt; leaves = calm_want full leave is }

-- ---- small steps

pub not_going : (h : Option Halt) → is_none h ≡ false → h ≡ None → ⊥
not_going h not none = true≢false (sym (ap is_none none) ∙ not)

some_is : (x y : AttemptNo) → (let one : Option AttemptNo = Some x in one ≡ Some y) → x ≡ y
some_is x y same = ap value same
  where
    value : Option AttemptNo → AttemptNo
    value (Some z) = z
    value None = x

pub newest_some : (inside now : Option AttemptNo) (n last : AttemptNo) → inside ≡ now → inside ≡ Some n → now ≡ Some last → n ≡ last
newest_some inside now n last same is other = some_is n last (sym is ∙ same ∙ other)

pub newest_none : (inside now : Option AttemptNo) (last : AttemptNo) → inside ≡ now → inside ≡ None → now ≡ Some last → ⊥
newest_none inside now last same is other = true≢false (sym (ap is_none (sym (sym is ∙ same ∙ other))) ∙ refl)

pub if_three : {X E : Type 0} (r : Result X E) (Q : X → Type 0) (P R : Type 0) (V : X → Type 0) → IfOk r Q → OnOk r P → OnOk r R → ((x : X) → Q x → P → R → V x) → IfOk r V
if_three (Ok x) Q P R V one two three step = step x one two three
if_three (Err e) Q P R V one two three step = tt

pub none_left : {X : Type 0} (xs : List X) (at : ℕ) → length xs ≤ at → drop at xs ≡ []
none_left [] zero few = refl
none_left [] (suc at) few = refl
none_left (x ∷ xs) zero few = (let wrong : ⊥ = omega (arith, few) in absurd wrong)
none_left (x ∷ xs) (suc at) few = none_left xs at (omega (arith, few))

-- ---- a claim at a seat

module _ {S : Type 0} (trust : Type 0) (gives : Function) (may_fail : Job → Failure → Type 0) (sources : Contents) (tells kept sure : Type 0) (files : S → Files) (may_leave : S → Outcomes) (moment : S → ℕ) (images_since : S → ℕ → Files → Type 0) where
  abbrev Runs : AwayState → DeskState S → DeskState S → List Attempt → List Start → Tally → Option Halt → Type 0
  Runs away first d held waiting heard halt = Underway trust gives may_fail sources tells kept sure files may_leave moment images_since away first d held waiting None heard halt

  pub claims_well : {L : Type 0} (d after : DeskState S) (held : HeldState) (s : SeatState L) (r : Result Claim Halt) → held.halt ≡ None → halt_after r None ≡ None → SparesAll d.moves after.moves
      → ((away : AwayState) (front back : List Attempt) (first : DeskState S) (xs : List Attempt) (waiting : List Start) (heard : Tally) → away.attempts ≡ front ++ back → Runs away first d xs waiting heard None → Runs (claimed_by r front back away) first after xs waiting heard (halt_after r None))
      → IsAtSeat trust gives may_fail sources tells kept sure files may_leave moment images_since d held s → AddsWell d.moves after.moves
  claims_well {L} d after held s r going none spares step is =
      let away = is.at.away in
      let u : Runs away is.first d held.attempts is.waiting is.heard None = subst (Runs away is.first d held.attempts is.waiting is.heard) going is.at.under in
      let front = is.front ++ s.attempts in
      let v = step away front is.back is.first held.attempts is.waiting is.heard (is.at.are ∙ sym (append_assoc is.front s.attempts is.back)) u in
      well_by d.moves after.moves spares (failures_same u v refl none refl (claimed_failed r front is.back away))

-- an attempt ends well
pub ends_well : {S : Type 0} (d after : DeskState S) (a : Attempt) (outs : List (List ℕ)) (r : Result (Unit {0}) Halt) → OnOk r (EndsIt d.moves a (done_as a outs) after.moves) → OnOk r (AddsWell d.moves after.moves)
ends_well d after a outs (Ok done) ends = record { more = moves.Logged (done_as a outs ends.moment) ∷ []; are = ends.are; none = refl }
ends_well d after a outs (Err why) ends = tt

abbrev is_success : Outcome → Bool
is_success (outcomes.Success outs) = true
is_success outcome = false

pub not_failed : (o : Outcome) (outs : List (List ℕ)) (why : Failure) → o ≡ outcomes.Success outs → o ≡ outcomes.Failed why → ⊥
not_failed o outs why one other = true≢false (sym (ap is_success one) ∙ ap is_success other)

pub not_unrun : (o : Outcome) (outs : List (List ℕ)) → o ≡ outcomes.Success outs → o ≡ outcomes.NotRun → ⊥
not_unrun o outs one other = true≢false (sym (ap is_success one) ∙ ap is_success other)
