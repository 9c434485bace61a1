-- What a run comes to that is served.
use Rattle.std.proofs.Common.{◌≡◌, ◌≤◌, ◌+◌, ◌∙◌, ℕ, List, [], ◌∷◌, length, Option, Some, None, Result, Ok, Err, refl, sym, ap, subst, arith, true≢false}
use Rattle.std.specs.Prelude.{Bool, is_none, true, false}
use Rattle.flow_types.specs.declared.plan.Plan.{Plan}
use Rattle.flow_types.specs.declared.job.Job.{Job}
use Rattle.flow_types.specs.declared.job.Failure.{Failure}
use Rattle.flow_types.specs.declared.job.Start.{Start}
use Rattle.flow_types.specs.declared.records.Record.{Record}
use Rattle.flow_types.specs.Serial.{Contents, Function}
use Rattle.run_history.specs.declared.answers.Check.{Check}
use Rattle.run_history.specs.Admissions.{Admitting}
use Rattle.run_history.specs.Links.{records_of}
use Rattle.run_history.specs.Storage.{running_rules}
use Rattle.outside.specs.Disk.{IsImage, Outcomes}
use Rattle.outside.specs.Files.{Files}
use Rattle.worker_pool.specs.declared.hand.Tally.{Tally}
use Rattle.worker_pool.specs.Tallies.{GrowsWith, IsWithin, none}
use Rattle.desk.specs.declared.answers.Trouble.{Trouble}
use Rattle.desk.specs.declared.attempt.Attempt.{Attempt}
use Rattle.desk.specs.State.{DeskState, IsFine}
use Rattle.local_run.specs.declared.halt.Halt.{Halt}
use Rattle.local_run.specs.declared.halt.Halt.TheVariants as halts
use Rattle.local_run.specs.Collecting.{IsUntouched}
use Rattle.local_run.specs.Course.{GoesOn, HasNothing, IsHalt}
use Rattle.local_run.specs.Ends.{HasFailed, IsSureEnd, IsSureHalt}
use Rattle.local_run.specs.Runs.{IsClosedRun, ended_by}
use Rattle.local_run.specs.Underway.{AwayState, ComesTo, IsWant, IsWantHalt, Matches, Underway, none_away, settled}
use Rattle.local_run.proofs.Alone.{alone_same}
use Rattle.local_run.proofs.Done.{sure_ended}
use Rattle.local_run.proofs.Going.{stays}
use Rattle.std.specs.Prelude.{IfErr, OnOk}

-- ---- of how a run ended

-- a run that is closed didn't stop for want of memory
pub closed_unwanting : (r : Result Check Halt) → IsClosedRun (ended_by r) → IsWant r → ⊥
closed_unwanting (Ok check) closed wants = wants
closed_unwanting (Err (halts.Damaged file logged found)) closed wants = wants
closed_unwanting (Err halts.Runner) closed wants = wants
closed_unwanting (Err halts.Site) closed wants = wants
closed_unwanting (Err halts.Memory) closed wants = closed

-- sure runners make a sure end
pub surely_ended : (r : Result Check Halt) (sure : Type 0) (before now : ℕ) → HasFailed before now (ended_by r) → OnOk r (sure → now ≡ before) → IfErr r (λ halt. sure → IsSureHalt halt) → sure → IsSureEnd (ended_by r)
surely_ended (Ok check) sure before now failed same h is = sure_ended (Ok check) sure before now failed (same is) h is
surely_ended (Err (halts.Damaged file logged found)) sure before now failed same h is = tt
surely_ended (Err halts.Runner) sure before now failed same h is = h is
surely_ended (Err halts.Site) sure before now failed same h is = tt
surely_ended (Err halts.Memory) sure before now failed same h is = tt

-- ---- of what is held

-- where no start waits nothing is held
held_none : (P : Plan) (fine : Type 0) (H : List Record) (trust : Type 0) (contents : Contents) (held : List Attempt) (waiting : List Start) → Matches P fine H trust contents held waiting → waiting ≡ [] → held ≡ []
held_none P fine H trust contents [] waiting matches empty = refl
held_none P fine H trust contents (a ∷ held) waiting matches empty = absurd (subst (Matches P fine H trust contents (a ∷ held)) empty matches)

abbrev went_well : Result (Unit {0}) Halt → Bool
went_well (Ok done) = true
went_well (Err why) = false

halts_not : (halt : Option Halt) → settled halt ≡ Ok tt → halt ≡ None
halts_not None is = refl
halts_not (Some why) is = absurd (true≢false (sym (ap went_well is)))

-- how often jobs weren't run is counted by the runners
halt_counted : (t : Trouble) (unrun count now : ℕ) (why : Halt) → unrun + count ≤ now → IsHalt t 0 unrun why → IsHalt t count now why
halt_counted t unrun count now (halts.Damaged file logged found) fewer h = h
halt_counted t unrun count now halts.Runner fewer h = (h.0, (let some = h.1 in omega (arith, some, fewer)))
halt_counted t unrun count now halts.Site fewer h = h
halt_counted t unrun count now halts.Memory fewer h = tt

-- ---- of the run

module _ {S : Type 0} (trust : Type 0) (gives : Function) (may_fail : Job → Failure → Type 0) (sources : Contents) (tells kept sure : Type 0) (files : S → Files) (may_leave : S → Outcomes) (moment : S → ℕ)
    (images_since : S → ℕ → Files → Type 0) (away : AwayState) where
  abbrev pub Under : DeskState S → DeskState S → List Attempt → List Start → Tally → Option Halt → Type 0
  Under first now held waiting heard halt = Underway trust gives may_fail sources tells kept sure files may_leave moment images_since away first now held waiting None heard halt

  -- the same desk
  pub under_at : (first d e : DeskState S) (held : List Attempt) (waiting : List Start) (heard : Tally) (halt : Option Halt) → d ≡ e → Under first d held waiting heard halt → Under first e held waiting heard halt
  under_at first d e held waiting heard halt same under = subst (λ (x : DeskState S). Under first x held waiting heard halt) same under

  -- and the same of what is held and of what waits
  pub under_left : (first d : DeskState S) (held kept : List Attempt) (waiting left : List Start) (heard told : Tally) (halt why : Option Halt) → held ≡ kept → waiting ≡ left → heard ≡ told → halt ≡ why
      → Under first d held waiting heard halt → Under first d kept left told why
  under_left first d held kept waiting left heard told halt why h w t k under =
      subst (λ (x : List Attempt). Under first d x left told why) h
      (subst (λ (x : List Start). Under first d held x told why) w
      (subst (λ (x : Tally). Under first d held waiting x why) t
      (subst (λ (x : Option Halt). Under first d held waiting heard x) k under)))

module _ {S : Type 0} (trust : Type 0) (gives : Function) (may_fail : Job → Failure → Type 0) (sources : Contents) (tells kept sure : Type 0) (files : S → Files) (may_leave : S → Outcomes) (moment : S → ℕ)
    (images_since : S → ℕ → Files → Type 0) where
  abbrev pub UnderHere : DeskState S → DeskState S → List Attempt → List Start → Tally → Option Halt → Type 0
  UnderHere first now held waiting heard halt = Underway trust gives may_fail sources tells kept sure files may_leave moment images_since none_away first now held waiting None heard halt

  abbrev pub Comes : Admitting → DeskState S → DeskState S → ℕ → ℕ → ℕ → ℕ → Result (Unit {0}) Halt → Type 0
  Comes A d after count count_now failures failures_now result = ComesTo A trust gives may_fail sources tells kept sure files may_leave moment images_since d after count count_now failures failures_now result

  -- what a crash leaves at the last moment of a site is what it may leave now
  abbrev pub OnlyNow : S → Type 0
  OnlyNow s = tells → (image : Files) → images_since s (moment s) image → IsImage (may_leave s) image

  goes_self : (d : DeskState S) → OnlyNow d.site → GoesOn trust gives may_fail sources tells files may_leave moment images_since [] d d
  goes_self d only_now =
      stays trust gives may_fail sources tells files may_leave moment images_since d d.stop d.trouble d.site (λ unset. unset) (λ fine. fine)
      (λ told. alone_same files may_leave moment images_since (IsUntouched d.plan d.log (records_of d.moves)) d.site (only_now told))

  -- as it begins
  pub begins : (d : DeskState S) → OnlyNow d.site → IsFine d.trouble → length (running_rules d.plan (records_of d.moves)) ≤ 0 → UnderHere d d [] [] none None
  begins d only_now fine idle = record {
    goes = goes_self d only_now;
    matches = tt;
    taken = tt;
    here = tt;
    beyond = tt;
    all = λ works. idle;
    stopped = (fine, refl);
    failures = λ works. omega arith;
    unended = λ unended. unended;
    never = λ is. refl;
    due = λ going is smooth. omega arith;
  }

  pub begins_at : (d : DeskState S) (held : List Attempt) (waiting : List Start) (heard : Tally) (halt : Option Halt) → held ≡ [] → waiting ≡ [] → heard ≡ none → halt ≡ None
      → OnlyNow d.site → IsFine d.trouble → length (running_rules d.plan (records_of d.moves)) ≤ 0 → UnderHere d d held waiting heard halt
  begins_at d held waiting heard halt h w t k only_now fine idle =
      subst (λ (x : List Attempt). UnderHere d d x waiting heard halt) (sym h)
      (subst (λ (x : List Start). UnderHere d d [] x heard halt) (sym w)
      (subst (λ (x : Tally). UnderHere d d [] [] x halt) (sym t)
      (subst (λ (x : Option Halt). UnderHere d d [] [] none x) (sym k) (begins d only_now fine idle))))

  -- where memory was wanting before it began
  pub comes_want : (A : Admitting) (d : DeskState S) (count failures : ℕ) → OnlyNow d.site → length (running_rules d.plan (records_of d.moves)) ≤ 0 → Comes A d d count count failures failures (Err halts.Memory)
  comes_want A d count failures only_now idle = record {
    goes = goes_self d only_now;
    idle = λ works. idle;
    closed = tt;
    halts = tt;
    damage = λ told apart. tt;
    whole = λ told keeps. tt;
    never = λ is. tt;
    later = omega arith;
    risen = omega arith;
    failed = λ works unwanting. absurd (unwanting tt);
    unended = λ unended. unended;
    due = tt;
    none = tt;
    rests = tt;
  }

  module _ (d after : DeskState S) (heard put : Tally) (count count_now failures failures_now : ℕ) where
    -- no more jobs weren't run than the runners counted
    counted_unrun : IsWithin heard put → GrowsWith none put count count_now failures failures_now → heard.unrun + count ≤ count_now
    counted_unrun within grows = let fewer = within.0 in let rose = grows.0 in omega (arith, fewer, rose)

    counted_failed : heard ≡ put → GrowsWith none put count count_now failures failures_now → heard.failed + failures ≡ failures_now
    counted_failed even grows = let same = ap (λ (t : Tally). t.failed) even in let rose = grows.1 in omega (arith, same, rose)

    came_to : (A : Admitting) (last : Option Halt) → UnderHere d after [] [] heard last → IsWithin heard put → GrowsWith none put count count_now failures failures_now
        → (IsFine after.trouble → (IsWant (settled last) → ⊥) → heard ≡ put) → (last ≡ None → HasNothing A after)
        → Comes A d after count count_now failures failures_now (settled last)
    came_to A None under within grows even rests =
        let fine = under.stopped.0 in
        let failed = counted_failed (even fine (λ wants. wants)) grows in
        record {
          goes = under.goes;
          idle = λ works. under.all works;
          closed = under.stopped;
          halts = tt;
          damage = tt;
          whole = tt;
          never = tt;
          later = (let more = counted_unrun within grows in omega (arith, more));
          risen = omega (arith, failed);
          failed = λ works unwanting. (let logged = under.failures works in omega (arith, logged, failed));
          unended = under.unended;
          due = λ is. (let few = under.due tt is (refl, refl) in omega (arith, few));
          none = λ is. (let zero_failed = under.never is in omega (arith, zero_failed, failed));
          rests = rests refl;
        }
    came_to A (Some why) under within grows even rests =
        let more = counted_unrun within grows in
        record {
          goes = under.goes;
          idle = λ works. under.all works;
          closed = tt;
          halts = halt_counted after.trouble heard.unrun count count_now why more under.stopped.is;
          damage = under.stopped.damage;
          whole = under.stopped.whole;
          never = under.stopped.never;
          later = omega (arith, more);
          risen = (let rose = grows.1 in omega (arith, rose));
          failed = λ works unwanting. (let logged = under.failures works in let failed = counted_failed (even works unwanting) grows in omega (arith, logged, failed));
          unended = under.unended;
          due = tt;
          none = tt;
          rests = tt;
        }

  -- once all runners have ended, and what was held is given up
  pub comes : (A : Admitting) (d mid after : DeskState S) (held : List Attempt) (waiting : List Start) (heard put : Tally) (halt last : Option Halt) (result : Result (Unit {0}) Halt) (count count_now failures failures_now : ℕ)
      → UnderHere d mid held waiting heard halt → ((IsWantHalt halt → ⊥) → waiting ≡ []) → (halt ≡ None → HasNothing A mid)
      → (held ≡ [] → (after ≡ mid) × (result ≡ settled halt)) → (IsWantHalt halt → IsFine after.trouble → IsWant result)
      → result ≡ settled last → UnderHere d after [] [] heard last
      → IsWithin heard put → (waiting ≡ [] → heard ≡ put) → GrowsWith none put count count_now failures failures_now
      → Comes A d after count count_now failures failures_now result
  comes A d mid after held waiting heard put halt last result count count_now failures failures_now was empties rests same wants is under within even grows =
      let empty : IsFine after.trouble → (IsWant (settled last) → ⊥) → waiting ≡ [] = λ fine unwanting. empties (λ wanted. unwanting (subst IsWant is (wants wanted fine))) in
      subst (Comes A d after count count_now failures failures_now) (sym is)
      (came_to d after heard put count count_now failures failures_now A last under within grows (λ fine unwanting. even (empty fine unwanting))
      (λ going. rested last going is under empty))
    where
      rested : (last : Option Halt) → last ≡ None → result ≡ settled last → UnderHere d after [] [] heard last → (IsFine after.trouble → (IsWant (settled last) → ⊥) → waiting ≡ []) → HasNothing A after
      rested (Some why) going is under empty = absurd (true≢false (sym (ap is_none going)))
      rested None going is under empty =
          let none_waits = empty under.stopped.0 (λ wants. wants) in
          let settles = same (held_none mid.plan (IsFine mid.trouble) (records_of mid.moves) trust _ held waiting was.matches none_waits) in
          subst (HasNothing A) (sym settles.0) (rests (halts_not halt (sym settles.1 ∙ is)))

  -- over a stronger fact
  pub comes_less : (A : Admitting) (more : Type 0) (d after : DeskState S) (count count_now failures failures_now : ℕ) (result : Result (Unit {0}) Halt) → (more → sure) → Comes A d after count count_now failures failures_now result
      → ComesTo A trust gives may_fail sources tells kept more files may_leave moment images_since d after count count_now failures failures_now result
  comes_less A more d after count count_now failures failures_now (Ok done) so came = record {
    goes = came.goes;
    idle = came.idle;
    closed = came.closed;
    halts = tt;
    damage = tt;
    whole = tt;
    never = tt;
    later = came.later;
    risen = came.risen;
    failed = came.failed;
    unended = came.unended;
    due = λ is. came.due (so is);
    none = λ is. came.none (so is);
    rests = came.rests;
  }
  comes_less A more d after count count_now failures failures_now (Err why) so came = record {
    goes = came.goes;
    idle = came.idle;
    closed = tt;
    halts = came.halts;
    damage = came.damage;
    whole = came.whole;
    never = λ is. came.never (so is);
    later = came.later;
    risen = came.risen;
    failed = came.failed;
    unended = came.unended;
    due = tt;
    none = tt;
    rests = tt;
  }
