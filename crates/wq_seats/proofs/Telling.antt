-- What a message that was heard makes of a session, of what runs and of what is stated.
use Rattle.std.proofs.Common.{◌≡◌, ◌≤◌, ◌+◌, ◌⊎◌, inl, inr, ℕ, Bool, true, false, cond, List, [], ◌∷◌, ◌++◌, Option, Some, None, Result, Ok, refl, sym, ap, ◌∙◌, subst, arith, append_assoc}
use Rattle.std.specs.Prelude.{nat_lt, slice_get}
use Rattle.std.proofs.lemmas.Bool.{eq-eqb}
use Rattle.flow_types.specs.declared.job.Failure.{Failure}
use Rattle.flow_types.specs.declared.job.Job.{Job}
use Rattle.flow_types.specs.declared.job.Outcome.{Outcome}
use Rattle.flow_types.specs.declared.job.Outcome.TheVariants as outcomes
use Rattle.flow_types.specs.declared.messages.Message.{Message}
use Rattle.flow_types.specs.declared.messages.Message.TheVariants as messages
use Rattle.flow_types.specs.declared.numbers.AttemptNo.{AttemptNo}
use Rattle.flow_types.specs.declared.numbers.FileNo.{FileNo}
use Rattle.flow_types.specs.Serial.{Function}
use Rattle.links.specs.declared.passing.Passed.{Passed}
use Rattle.link_session.specs.declared.open.Open.{Open}
use Rattle.link_session.specs.declared.session.Stage.{Stage}
use Rattle.link_session.specs.declared.session.Stage.TheVariants as stages
use Rattle.link_session.specs.declared.word.Word.{Word}
use Rattle.link_session.specs.declared.word.Word.TheVariants as words
use Rattle.link_session.specs.declared.word.SessionFault.{SessionFault}
use Rattle.link_session.specs.Fits.{has_all, outcome_fits}
use Rattle.link_session.specs.Sessions.{State, Told as Turn, breaks, closed_at, ended_at, ended_by, greets, hears, lacked_at, lacked_by, lost, missed, most_misses, place, put_again, says, told, told_by, word_of}
use Rattle.message_forms.proofs.Parses.{begin_together}
use Rattle.message_forms.specs.Streams.{AreFramed, IsAmong, IsStream, framed, frames_of}
use Rattle.wq_frames.specs.Streams.{Stream}
use Rattle.wq_messages.proofs.Shown.{spelled_apart}
use Rattle.peers.specs.declared.told.Told.{Told}
use Rattle.peers.specs.declared.told.Told.TheVariants as tell
use Rattle.peers.specs.Hears.{IsTold, Takes, most_missings, told_as}
use Rattle.peers.specs.Serves.{missings_of}
use Rattle.peers.proofs.Frames.{came_next}
use Rattle.resource_pack.specs.declared.occupied.Stated.{Stated}
use Rattle.wq_seats.specs.declared.run.Again.{Again}
use Rattle.wq_seats.specs.declared.run.Run.{Run}
use Rattle.peer_health.specs.Healths.{IsRested, HealthState}
use Rattle.wq_seats.specs.Tellings.{StaysRested, told_again, told_runs, told_stated}
use Rattle.wq_seats.specs.Seats.{AreOpen, AreWell, IsOffered, IsStated, WasSaid, closed_runs, times_open}
use Rattle.wq_seats.proofs.Counting.{one_if, open_less, open_set, run_closed}
use Rattle.wq_seats.proofs.Messages.{among_last, among_left}

-- ---- the session

-- the same attempts are open
abbrev pub SameOpen : State → State → Type 0
SameOpen s now = (n : ℕ) → times_open n now.attempts ≡ times_open n s.attempts

-- The attempt was open, and was closed once.
pub record ClosesOne (attempt : AttemptNo) (s now : State) : Type 0 where
  pub less : (n : ℕ) → times_open n s.attempts ≡ times_open n now.attempts + one_if n attempt.0

-- What a word leaves of a session.
abbrev pub AfterWord : Word → Message → State → State → Type 0
AfterWord (words.Joined total largest cache) m s now = SameOpen s now
AfterWord (words.Changed total largest cache) m s now = SameOpen s now × (now.stage ≡ s.stage)
AfterWord (words.Finish attempt) m s now = ClosesOne attempt s now × (now.stage ≡ s.stage)
AfterWord (words.Fail attempt why) m s now = ClosesOne attempt s now × (now.stage ≡ s.stage)
AfterWord (words.Lose attempt) m s now = ClosesOne attempt s now × (now.stage ≡ s.stage)
AfterWord (words.PutAgain attempt files) m s now = (m ≡ messages.Missing attempt files) × SameOpen s now × (now.stage ≡ s.stage)
AfterWord (words.Stale attempt) m s now = SameOpen s now × (now.stage ≡ s.stage)

abbrev said_word : Word → Result Word SessionFault
said_word w = Ok w

word_is : (a b : Word) → said_word a ≡ Ok b → a ≡ b
word_is a b is = cc

abbrev breaks_so : State → Result Word SessionFault
breaks_so s = (breaks s).answer

no_word : (s : State) (word : Word) → breaks_so s ≡ Ok word → ⊥
no_word s word is = cc

greeted : (s : State) (m : Message) (word : Word) → (greets s m).answer ≡ Ok word → AfterWord word m s (greets s m).state
greeted s (messages.Hello total largest cache) word is =
    subst (λ (w : Word). AfterWord w (messages.Hello total largest cache) s (record s { stage = stages.Greeted })) (word_is (words.Joined total largest cache) word is) (λ n. refl)
greeted s (messages.Put key content) word is = absurd (no_word s word is)
greeted s (messages.Task task) word is = absurd (no_word s word is)
greeted s (messages.Done attempt outcome) word is = absurd (no_word s word is)
greeted s (messages.Missing attempt files) word is = absurd (no_word s word is)
greeted s (messages.Cancel attempt) word is = absurd (no_word s word is)
greeted s (messages.Unlink key) word is = absurd (no_word s word is)
greeted s (messages.Totals total largest cache) word is = absurd (no_word s word is)
greeted s messages.Bye word is = absurd (no_word s word is)

closes : (s : State) (attempt : AttemptNo) (at : ℕ) → place attempt s.attempts ≡ Some at → ClosesOne attempt s (closed_at s at)
closes s attempt at is = record { less = λ n. open_less n s.attempts at attempt is }

ends_as : (s : State) (m : Message) (attempt : AttemptNo) (outcome : Outcome) (at : ℕ) → place attempt s.attempts ≡ Some at → AfterWord (word_of attempt outcome) m s (closed_at s at)
ends_as s m attempt (outcomes.Success contents) at is = (closes s attempt at is, refl)
ends_as s m attempt (outcomes.Failed why) at is = (closes s attempt at is, refl)
ends_as s m attempt outcomes.NotRun at is = (closes s attempt at is, refl)

stale : (s : State) (m : Message) (attempt : AttemptNo) (word : Word) → said_word (words.Stale attempt) ≡ Ok word → AfterWord word m s s
stale s m attempt word is = subst (λ (w : Word). AfterWord w m s s) (word_is (words.Stale attempt) word is) ((λ n. refl), refl)

ended_fits : (s : State) (m : Message) (attempt : AttemptNo) (outcome : Outcome) (at : ℕ) (word : Word) (b : Bool) → place attempt s.attempts ≡ Some at
    → (let t : Turn = cond b (says (closed_at s at) (word_of attempt outcome)) (breaks s) in t.answer ≡ Ok word → AfterWord word m s t.state)
ended_fits s m attempt outcome at word true is same = subst (λ (w : Word). AfterWord w m s (closed_at s at)) (word_is (word_of attempt outcome) word same) (ends_as s m attempt outcome at is)
ended_fits s m attempt outcome at word false is same = absurd (no_word s word same)

ended_of : (s : State) (m : Message) (attempt : AttemptNo) (outcome : Outcome) (at : ℕ) (word : Word) (p : Option Open) → place attempt s.attempts ≡ Some at
    → (ended_by s attempt outcome at p).answer ≡ Ok word → AfterWord word m s (ended_by s attempt outcome at p).state
ended_of s m attempt outcome at word None is same = stale s m attempt word same
ended_of s m attempt outcome at word (Some o) is same = ended_fits s m attempt outcome at word (outcome_fits o.bounds outcome) is same

ended : (s : State) (m : Message) (attempt : AttemptNo) (outcome : Outcome) (word : Word) (p : Option ℕ) → place attempt s.attempts ≡ p
    → (ended_at s attempt outcome p).answer ≡ Ok word → AfterWord word m s (ended_at s attempt outcome p).state
ended s m attempt outcome word None is same = stale s m attempt word same
ended s m attempt outcome word (Some at) is same = ended_of s m attempt outcome at word (slice_get s.attempts at) is same

lacked_few : (s : State) (attempt : AttemptNo) (files : List FileNo) (at : ℕ) (o : Open) (word : Word) (b : Bool) → place attempt s.attempts ≡ Some at → slice_get s.attempts at ≡ Some o
    → (let t : Turn = cond b (put_again s attempt files at o) (lost s attempt files at o) in t.answer ≡ Ok word → AfterWord word (messages.Missing attempt files) s t.state)
lacked_few s attempt files at o word true is there same =
    subst (λ (w : Word). AfterWord w (messages.Missing attempt files) s (put_again s attempt files at o).state) (word_is (words.PutAgain attempt files) word same)
    (refl, (λ n. open_set n s.attempts at o (missed o) there refl), refl)
lacked_few s attempt files at o word false is there same =
    subst (λ (w : Word). AfterWord w (messages.Missing attempt files) s (lost s attempt files at o).state) (word_is (words.Lose attempt) word same)
    (record { less = λ n. open_less n s.attempts at attempt is }, refl)

lacked_all : (s : State) (attempt : AttemptNo) (files : List FileNo) (at : ℕ) (o : Open) (word : Word) (b c : Bool) → place attempt s.attempts ≡ Some at → slice_get s.attempts at ≡ Some o
    → (let t : Turn = cond b (cond c (put_again s attempt files at o) (lost s attempt files at o)) (breaks s) in t.answer ≡ Ok word → AfterWord word (messages.Missing attempt files) s t.state)
lacked_all s attempt files at o word true c is there same = lacked_few s attempt files at o word c is there same
lacked_all s attempt files at o word false c is there same = absurd (no_word s word same)

lacked_of : (s : State) (attempt : AttemptNo) (files : List FileNo) (at : ℕ) (word : Word) (p : Option Open) → place attempt s.attempts ≡ Some at → slice_get s.attempts at ≡ p
    → (lacked_by s attempt files at p).answer ≡ Ok word → AfterWord word (messages.Missing attempt files) s (lacked_by s attempt files at p).state
lacked_of s attempt files at word None is there same = stale s (messages.Missing attempt files) attempt word same
lacked_of s attempt files at word (Some o) is there same = lacked_all s attempt files at o word (has_all o.files files) (nat_lt o.misses most_misses) is there same

lacked : (s : State) (attempt : AttemptNo) (files : List FileNo) (word : Word) (p : Option ℕ) → place attempt s.attempts ≡ p
    → (lacked_at s attempt files p).answer ≡ Ok word → AfterWord word (messages.Missing attempt files) s (lacked_at s attempt files p).state
lacked s attempt files word None is same = stale s (messages.Missing attempt files) attempt word same
lacked s attempt files word (Some at) is same = lacked_of s attempt files at word (slice_get s.attempts at) is refl same

heard : (s : State) (m : Message) (word : Word) → (hears s m).answer ≡ Ok word → AfterWord word m s (hears s m).state
heard s (messages.Done attempt outcome) word is = ended s (messages.Done attempt outcome) attempt outcome word (place attempt s.attempts) refl is
heard s (messages.Missing attempt files) word is = lacked s attempt files word (place attempt s.attempts) refl is
heard s (messages.Totals total largest cache) word is =
    subst (λ (w : Word). AfterWord w (messages.Totals total largest cache) s s) (word_is (words.Changed total largest cache) word is) ((λ n. refl), refl)
heard s (messages.Hello total largest cache) word is = absurd (no_word s word is)
heard s (messages.Put key content) word is = absurd (no_word s word is)
heard s (messages.Task task) word is = absurd (no_word s word is)
heard s (messages.Cancel attempt) word is = absurd (no_word s word is)
heard s (messages.Unlink key) word is = absurd (no_word s word is)
heard s messages.Bye word is = absurd (no_word s word is)

by_stage : (s : State) (m : Message) (word : Word) (stage : Stage) → (told_by s m stage).answer ≡ Ok word → AfterWord word m s (told_by s m stage).state
by_stage s m word stages.New is = greeted s m word is
by_stage s m word stages.Greeted is = heard s m word is
by_stage s m word stages.Broken is = absurd (let wrong : ⊥ = cc in wrong)

-- What the message leaves of the session.
pub told_after : (s : State) (m : Message) (word : Word) → (told s m).answer ≡ Ok word → AfterWord word m s (told s m).state
told_after s m word is = by_stage s m word s.stage is

-- ---- the messages that were heard

pub well_before : (heard : List Message) (m : Message) → AreWell (heard ++ m ∷ []) → AreWell heard
well_before heard m well = record {
  ran = λ attempt among. well.ran attempt (among_left (messages.Done attempt outcomes.NotRun) heard (m ∷ []) among);
  there = λ attempt files among. well.there attempt files (among_left (messages.Missing attempt files) heard (m ∷ []) among);
}

some_missing : (attempt : AttemptNo) (heard : List Message) → AreWell heard → 1 ≤ missings_of attempt heard → ⊥
some_missing attempt [] well some = omega (arith, some)
some_missing attempt (messages.Missing other files ∷ ms) well some = well.there other files (inl refl)
some_missing attempt (messages.Hello total largest cache ∷ ms) well some = some_missing attempt ms (record { ran = λ a among. well.ran a (inr among); there = λ a files among. well.there a files (inr among) }) some
some_missing attempt (messages.Put key content ∷ ms) well some = some_missing attempt ms (record { ran = λ a among. well.ran a (inr among); there = λ a files among. well.there a files (inr among) }) some
some_missing attempt (messages.Task task ∷ ms) well some = some_missing attempt ms (record { ran = λ a among. well.ran a (inr among); there = λ a files among. well.there a files (inr among) }) some
some_missing attempt (messages.Done other outcome ∷ ms) well some = some_missing attempt ms (record { ran = λ a among. well.ran a (inr among); there = λ a files among. well.there a files (inr among) }) some
some_missing attempt (messages.Cancel other ∷ ms) well some = some_missing attempt ms (record { ran = λ a among. well.ran a (inr among); there = λ a files among. well.there a files (inr among) }) some
some_missing attempt (messages.Unlink key ∷ ms) well some = some_missing attempt ms (record { ran = λ a among. well.ran a (inr among); there = λ a files among. well.there a files (inr among) }) some
some_missing attempt (messages.Totals total largest cache ∷ ms) well some = some_missing attempt ms (record { ran = λ a among. well.ran a (inr among); there = λ a files among. well.there a files (inr among) }) some
some_missing attempt (messages.Bye ∷ ms) well some = some_missing attempt ms (record { ran = λ a among. well.ran a (inr among); there = λ a files among. well.there a files (inr among) }) some

last_same : (heard : List Message) (m n : Message) (one two : List ℕ) → AreFramed (heard ++ m ∷ []) → AreFramed (heard ++ n ∷ []) → frames_of (heard ++ m ∷ []) ++ one ≡ frames_of (heard ++ n ∷ []) ++ two → m ≡ n
last_same [] m n one two all some same =
    (begin_together spelled_apart m n ([] ++ one) ([] ++ two) all.0 some.0 (sym (append_assoc (framed m) [] one) ∙ same ∙ append_assoc (framed n) [] two)).0
last_same (x ∷ heard) m n one two all some same =
    let step = begin_together spelled_apart x x (frames_of (heard ++ m ∷ []) ++ one) (frames_of (heard ++ n ∷ []) ++ two) all.0 some.0
    (sym (append_assoc (framed x) (frames_of (heard ++ m ∷ [])) one) ∙ same ∙ append_assoc (framed x) (frames_of (heard ++ n ∷ [])) two) in
    last_same heard m n one two all.1 some.1 step.1

-- The message that was taken is the one that was heard.
pub same_message : (bytes : List ℕ) (heard : List Message) (feed next : Stream) (after : List ℕ) (m n : Message) → IsStream bytes heard feed.rest → Takes n feed next → IsStream bytes (heard ++ m ∷ []) after → m ≡ n
same_message bytes heard feed next after m n was takes is =
    let came = came_next bytes heard feed.rest next.rest n was takes.whole takes.parts in
    last_same heard m n after next.rest is.framed_all came.framed_all (sym is.are ∙ came.are)

-- ---- by what is told

module _ (gives : Function) (may_fail : Job → Failure → Type 0) (past : List Passed) (said : List Message) where
  owed_by : (heard : List Message) (t : Told) (again : Option Again) → IsTold gives may_fail past said heard t → ((a : Again) → again ≡ Some a → WasSaid a.attempt said) → (a : Again) → told_again t again ≡ Some a → WasSaid a.attempt said
  owed_by heard tell.Nothing again so owed = owed
  owed_by heard (tell.Joined total largest cache) again so owed = owed
  owed_by heard (tell.Changed total largest cache) again so owed = owed
  owed_by heard (tell.Finish attempt outs) again so owed = owed
  owed_by heard (tell.Fail attempt why) again so owed = owed
  owed_by heard (tell.Lose attempt) again so owed = owed
  owed_by heard (tell.PutAgain attempt files) again so owed = λ a is. (so.0, so.1 ∙ ap (λ (x : Option Again). attempt_in x) is, so.2)
    where
      attempt_in : Option Again → AttemptNo
      attempt_in None = attempt
      attempt_in (Some x) = x.attempt
  owed_by heard (tell.Stale attempt) again so owed = owed

  pub now_owed : (heard : List Message) (t : Told) (again again_now : Option Again) → again_now ≡ told_again t again → IsTold gives may_fail past said heard t → ((a : Again) → again ≡ Some a → WasSaid a.attempt said)
      → (a : Again) → again_now ≡ Some a → WasSaid a.attempt said
  now_owed heard t again again_now same so owed a is = owed_by heard t again so owed a (sym same ∙ is)

  offered_more : (heard : List Message) (m : Message) (offer : Stated) → IsOffered offer heard → IsOffered offer (heard ++ m ∷ [])
  offered_more heard m offer is = record { cache = is.cache; cache_is = is.cache_is; said = by is.said }
    where
      by : IsAmong (messages.Hello offer.total offer.largest is.cache) heard ⊎ IsAmong (messages.Totals offer.total offer.largest is.cache) heard
          → IsAmong (messages.Hello offer.total offer.largest is.cache) (heard ++ m ∷ []) ⊎ IsAmong (messages.Totals offer.total offer.largest is.cache) (heard ++ m ∷ [])
      by (inl hello) = inl (among_left (messages.Hello offer.total offer.largest is.cache) heard (m ∷ []) hello)
      by (inr totals) = inr (among_left (messages.Totals offer.total offer.largest is.cache) heard (m ∷ []) totals)

  stated_more : (heard : List Message) (m : Message) (stated : Option Stated) (s now : State) → now.stage ≡ s.stage → IsStated stated s.stage heard → IsStated stated now.stage (heard ++ m ∷ [])
  stated_more heard m stated s now same is greeted = let was = is (sym same ∙ greeted) in (was.0, was.1, offered_more heard m was.0 was.2)

  stated_by : (heard : List Message) (stated : Option Stated) (s now : State) (word : Word) (m : Message) → AfterWord word m s now → IsTold gives may_fail past said (heard ++ m ∷ []) (told_as word m) → IsStated stated s.stage heard
      → IsStated (told_stated (told_as word m) stated) now.stage (heard ++ m ∷ [])
  stated_by heard stated s now (words.Joined total largest cache) m after so is = λ greeted. (
    record { total = total; largest = largest; cache = Some cache },
    refl,
    record { cache = cache; cache_is = refl; said = inl (subst (IsAmong (messages.Hello total largest cache)) (sym so) (inl refl)) },
  )
  stated_by heard stated s now (words.Changed total largest cache) m after so is = λ greeted. (
    record { total = total; largest = largest; cache = Some cache },
    refl,
    record { cache = cache; cache_is = refl; said = inr so },
  )
  stated_by heard stated s now (words.Finish attempt) m after so is = stated_more heard m stated s now after.1 is
  stated_by heard stated s now (words.Fail attempt why) m after so is = stated_more heard m stated s now after.1 is
  stated_by heard stated s now (words.Lose attempt) m after so is = stated_more heard m stated s now after.1 is
  stated_by heard stated s now (words.PutAgain attempt files) m after so is = stated_more heard m stated s now after.2 is
  stated_by heard stated s now (words.Stale attempt) m after so is = stated_more heard m stated s now after.1 is

  pub now_stated : (heard : List Message) (stated : Option Stated) (s now : State) (t : Told) (word : Word) (m : Message) → t ≡ told_as word m → AfterWord word m s now → IsTold gives may_fail past said (heard ++ m ∷ []) t
      → IsStated stated s.stage heard → IsStated (told_stated t stated) now.stage (heard ++ m ∷ [])
  now_stated heard stated s now t word m same after so is =
      subst (λ (x : Told). IsStated (told_stated x stated) now.stage (heard ++ m ∷ [])) (sym same)
      (stated_by heard stated s now word m after (subst (λ (x : Told). IsTold gives may_fail past said (heard ++ m ∷ []) x) same so) is)

  lost_well : (heard : List Message) (attempt : AttemptNo) → AreWell heard → IsAmong (messages.Done attempt outcomes.NotRun) heard ⊎ (most_missings ≤ missings_of attempt heard) → ⊥
  lost_well heard attempt well (inl among) = well.ran attempt among
  lost_well heard attempt well (inr many) = some_missing attempt heard well (omega (arith, many))

  well_by : (heard : List Message) (again : Option Again) (health health_now : HealthState) (word : Word) (m : Message) (s now : State) → AfterWord word m s now → IsTold gives may_fail past said (heard ++ m ∷ []) (told_as word m)
      → StaysRested (told_as word m) health health_now → AreWell (heard ++ m ∷ []) → (again ≡ None) × IsRested health → (told_again (told_as word m) again ≡ None) × IsRested health_now
  well_by heard again health health_now (words.Joined total largest cache) m s now after so rested well was = (was.0, rested was.1)
  well_by heard again health health_now (words.Changed total largest cache) m s now after so rested well was = (was.0, rested was.1)
  well_by heard again health health_now (words.Finish attempt) m s now after so rested well was = (was.0, rested was.1)
  well_by heard again health health_now (words.Fail attempt why) m s now after so rested well was = (was.0, rested was.1)
  well_by heard again health health_now (words.Lose attempt) m s now after so rested well was = absurd (lost_well (heard ++ m ∷ []) attempt well so)
  well_by heard again health health_now (words.PutAgain attempt files) m s now after so rested well was =
      absurd (well.there attempt files (subst (λ (x : Message). IsAmong x (heard ++ m ∷ [])) after.0 (among_last m heard)))
  well_by heard again health health_now (words.Stale attempt) m s now after so rested well was = (was.0, rested was.1)

  pub now_well : (heard : List Message) (again again_now : Option Again) (health health_now : HealthState) (t : Told) (word : Word) (m : Message) (s now : State) → t ≡ told_as word m → AfterWord word m s now
      → IsTold gives may_fail past said (heard ++ m ∷ []) t → again_now ≡ told_again t again → StaysRested t health health_now → AreWell (heard ++ m ∷ []) → (again ≡ None) × IsRested health → (again_now ≡ None) × IsRested health_now
  now_well heard again again_now health health_now t word m s now same after so again_is rested well was =
      let is = well_by heard again health health_now word m s now after (subst (λ (x : Told). IsTold gives may_fail past said (heard ++ m ∷ []) x) same so) (subst (λ (x : Told). StaysRested x health health_now) same rested) well was in
      (again_is ∙ ap (λ (x : Told). told_again x again) same ∙ is.0, is.1)

same_runs : (runs : List Run) (s now : State) → SameOpen s now → AreOpen runs s.attempts → AreOpen runs now.attempts
same_runs runs s now same are n = are n ∙ sym (same n)

closed_open : (runs : List Run) (attempt : AttemptNo) (s now : State) → ClosesOne attempt s now → AreOpen runs s.attempts → AreOpen (closed_runs attempt runs) now.attempts
closed_open runs attempt s now closes are n =
    let here = closes.less attempt.0 in
    let same_here = are attempt.0 in
    let one = one_is attempt.0 in
    let less = closes.less n in
    let same = are n in
    let closed = run_closed n attempt runs (omega (arith, here, same_here, one)) in
    omega (arith, less, same, closed)
  where
    one_is : (k : ℕ) → one_if k k ≡ 1
    one_is k = ap (λ (b : Bool). cond b 1 0) (eq-eqb k k refl)

open_by : (runs : List Run) (s now : State) (word : Word) (m : Message) → AfterWord word m s now → AreOpen runs s.attempts → AreOpen (told_runs (told_as word m) runs) now.attempts
open_by runs s now (words.Joined total largest cache) m after are = same_runs runs s now after are
open_by runs s now (words.Changed total largest cache) m after are = same_runs runs s now after.0 are
open_by runs s now (words.Finish attempt) m after are = closed_open runs attempt s now after.0 are
open_by runs s now (words.Fail attempt why) m after are = closed_open runs attempt s now after.0 are
open_by runs s now (words.Lose attempt) m after are = closed_open runs attempt s now after.0 are
open_by runs s now (words.PutAgain attempt files) m after are = same_runs runs s now after.1 are
open_by runs s now (words.Stale attempt) m after are = same_runs runs s now after.0 are

-- What runs is open still.
pub now_open : (runs : List Run) (s now : State) (t : Told) (word : Word) (m : Message) → t ≡ told_as word m → AfterWord word m s now → AreOpen runs s.attempts → AreOpen (told_runs t runs) now.attempts
now_open runs s now t word m same after are = subst (λ (x : Told). AreOpen (told_runs x runs) now.attempts) (sym same) (open_by runs s now word m after are)
