-- How far a run has come, call by call.
use Rattle.std.proofs.Common.{◌≡◌, ◌≢◌, ◌≤◌, ◌∙◌, ℕ, true, List, [], ◌∷◌, ◌++◌, length, Option, Some, None, sym, ap, subst, arith, length-append}
use Rattle.flow_types.specs.declared.plan.Plan.{Plan}
use Rattle.flow_types.specs.declared.job.Job.{Job}
use Rattle.flow_types.specs.declared.job.Failure.{Failure}
use Rattle.flow_types.specs.declared.job.Start.{Start}
use Rattle.flow_types.specs.declared.numbers.AttemptNo.{AttemptNo}
use Rattle.flow_types.specs.declared.records.Record.{Record}
use Rattle.flow_types.specs.Serial.{Contents, Function, serial}
use Rattle.run_history.specs.declared.options.Options.{Options}
use Rattle.run_history.specs.Links.{may_run_on, records_of}
use Rattle.run_history.specs.Storage.{running_rules}
use Rattle.outside.specs.Disk.{Outcomes}
use Rattle.outside.specs.Files.{Files}
use Rattle.worker_pool.specs.declared.hand.Tally.{Tally}
use Rattle.desk.specs.declared.attempt.Attempt.{Attempt}
use Rattle.desk.specs.State.{DeskState, IsFine}
use Rattle.local_run.specs.declared.halt.Halt.{Halt}
use Rattle.local_run.specs.declared.halt.Halt.TheVariants as halts
use Rattle.local_run.specs.Course.{GoesOn, IsBroken}
use Rattle.local_run.specs.Ends.{records_due}
use Rattle.local_run.specs.Underway.{AreAway, AreHere, AwayState, IsGoing, IsJobAt, IsLoose, Matches, MayStop, NoneHas, RunsAt, StoppedBy, Underway}
use Rattle.local_run.proofs.Beyond.{away_on, runs_away_on}
use Rattle.local_run.proofs.Going.{goes_on}
use Rattle.local_run.proofs.RunsBegun.{RunOn, run_on_same}

-- ---- attempts and their starts

-- each attempt that runs here runs there
abbrev pub AllRunOn : Plan → Type 0 → List Record → Type 0 → List Record → Type 0
AllRunOn P fine H later all = (a : Attempt) → RunsAt P fine H a → RunsAt P later all a

pub matches_on : (P : Plan) (fine later : Type 0) (H all : List Record) (trust : Type 0) (contents : Contents) (held : List Attempt) (waiting : List Start) → AllRunOn P fine H later all
    → Matches P fine H trust contents held waiting → Matches P later all trust contents held waiting
matches_on P fine later H all trust contents [] [] on m = tt
matches_on P fine later H all trust contents [] (start ∷ starts) on m = absurd m
matches_on P fine later H all trust contents (a ∷ attempts) [] on m = absurd m
matches_on P fine later H all trust contents (a ∷ attempts) (start ∷ starts) on m = (on a m.0, m.1, m.2, m.3, matches_on P fine later H all trust contents attempts starts on m.4)

loose_on : (P : Plan) (fine later : Type 0) (H all : List Record) (held : List Attempt) (loose : Option Attempt) → AllRunOn P fine H later all → IsLoose P fine H held loose → IsLoose P later all held loose
loose_on P fine later H all held None on h = tt
loose_on P fine later H all held (Some a) on h = (on a h.0, h.1)

-- a number that none has that runs is none of theirs
pub none_of : (P : Plan) (fine : Type 0) (H : List Record) (trust : Type 0) (contents : Contents) (number : AttemptNo) (held : List Attempt) (waiting : List Start)
    → ((a : Attempt) → RunsAt P fine H a → a.number ≢ number) → Matches P fine H trust contents held waiting → NoneHas number held
none_of P fine H trust contents number [] [] other m = tt
none_of P fine H trust contents number [] (start ∷ starts) other m = absurd m
none_of P fine H trust contents number (a ∷ attempts) [] other m = absurd m
none_of P fine H trust contents number (a ∷ attempts) (start ∷ starts) other m = (other a m.0, none_of P fine H trust contents number attempts starts other m.4)

none_more : (number : AttemptNo) (held : List Attempt) (a : Attempt) → NoneHas number held → a.number ≢ number → NoneHas number (held ++ (a ∷ []))
none_more number [] a none other = (other, tt)
none_more number (b ∷ held) a none other = (none.0, none_more number held a none.1 other)

-- one more that is held, of a start more
matches_more : (P : Plan) (fine : Type 0) (H : List Record) (trust : Type 0) (contents : Contents) (held : List Attempt) (waiting : List Start) (a : Attempt) (start : Start)
    → RunsAt P fine H a → NoneHas a.number held → a.number ≡ start.attempt → IsJobAt P trust contents a.rule.0 start.job → Matches P fine H trust contents held waiting
    → Matches P fine H trust contents (held ++ (a ∷ [])) (waiting ++ (start ∷ []))
matches_more P fine H trust contents [] [] a start runs none same job m = (runs, tt, same, job, tt)
matches_more P fine H trust contents [] (s ∷ waiting) a start runs none same job m = absurd m
matches_more P fine H trust contents (b ∷ held) [] a start runs none same job m = absurd m
matches_more P fine H trust contents (b ∷ held) (s ∷ waiting) a start runs none same job m =
    (m.0, none_more b.number held a m.1 (λ is. none.0 (sym is)), m.2, m.3, matches_more P fine H trust contents held waiting a start runs none.1 same job m.4)

other_last : (number : AttemptNo) (held : List Attempt) (a : Attempt) → NoneHas number (held ++ (a ∷ [])) → NoneHas number held × (a.number ≢ number)
other_last number [] a none = (tt, none.0)
other_last number (b ∷ held) a none = let rest = other_last number held a none.1 in ((none.0, rest.0), rest.1)

here_more : (P : Plan) (O : Options) (held : List Attempt) (a : Attempt) → AreHere P O held → a.link.0 ≡ 0 → may_run_on P O a.rule.0 0 ≡ true → AreHere P O (held ++ (a ∷ []))
here_more P O [] a here at may = (at, may, tt)
here_more P O (b ∷ held) a here at may = (here.0, here.1, here_more P O held a here.2 at may)

here_less : (P : Plan) (O : Options) (held : List Attempt) (a : Attempt) → AreHere P O (held ++ (a ∷ [])) → AreHere P O held
here_less P O [] a here = tt
here_less P O (b ∷ held) a here = (here.0, here.1, here_less P O held a here.2)

-- What is known of the last that is held.
record LastOf (P : Plan) (fine : Type 0) (H : List Record) (trust : Type 0) (contents : Contents) (held : List Attempt) (a : Attempt) : Type 0 where
  starts : List Start
  matches : Matches P fine H trust contents held starts
  runs : RunsAt P fine H a
  none : NoneHas a.number held

last_of : (P : Plan) (fine : Type 0) (H : List Record) (trust : Type 0) (contents : Contents) (held : List Attempt) (a : Attempt) (waiting : List Start)
    → Matches P fine H trust contents (held ++ (a ∷ [])) waiting → LastOf P fine H trust contents held a
last_of P fine H trust contents [] a [] m = absurd m
last_of P fine H trust contents [] a (start ∷ starts) m = record { starts = []; matches = tt; runs = m.0; none = tt }
last_of P fine H trust contents (b ∷ held) a [] m = absurd m
last_of P fine H trust contents (b ∷ held) a (start ∷ starts) m =
    let rest = last_of P fine H trust contents held a starts m.4 in
    let other = other_last b.number held a m.1 in
    record { starts = start ∷ rest.starts; matches = (m.0, other.0, m.2, m.3, rest.matches); runs = rest.runs; none = ((λ is. other.1 (sym is)), rest.none) }

-- ---- why a run stopped

module _ {S : Type 0} (tells kept sure : Type 0) (files : S → Files) (first now : DeskState S) (heard : Tally) where
  pub stops_site : IsBroken now.trouble → StoppedBy tells kept sure files first now heard (Some halts.Site)
  stops_site broken = record { is = broken; damage = λ told apart. tt; whole = λ told keeps. tt; never = λ sure. tt }

  pub may_want : MayStop tells kept sure files now heard halts.Memory
  may_want = record { is = tt; damage = λ told apart. tt; whole = λ told keeps. tt; never = λ sure. tt }

module _ {S : Type 0} (trust : Type 0) (gives : Function) (may_fail : Job → Failure → Type 0) (sources : Contents) (tells kept sure : Type 0) (files : S → Files) (may_leave : S → Outcomes) (moment : S → ℕ)
    (images_since : S → ℕ → Files → Type 0) (away : AwayState) where
  abbrev pub Goes : DeskState S → DeskState S → Type 0
  Goes d after = GoesOn trust gives may_fail sources tells files may_leave moment images_since [] d after

  abbrev pub Under : DeskState S → DeskState S → List Attempt → List Start → Option Attempt → Tally → Option Halt → Type 0
  Under first now held waiting loose heard halt = Underway trust gives may_fail sources tells kept sure files may_leave moment images_since away first now held waiting loose heard halt

  -- a call behind which what ran runs on
  pub runs_on : (first d after : DeskState S) (held : List Attempt) (waiting : List Start) (loose : Option Attempt) (heard : Tally) (halt next : Option Halt) → Goes d after
      → RunOn d.plan (records_of d.moves) (records_of after.moves) → StoppedBy tells kept sure files first after heard next
      → (IsGoing next → IsGoing halt × (records_due after.plan (records_of after.moves) ≤ records_due d.plan (records_of d.moves)))
      → Under first d held waiting loose heard halt → Under first after held waiting loose heard next
  runs_on first d after held waiting loose heard halt next goes on stops dues u =
      let H = records_of d.moves in
      let all = records_of after.moves in
      let fine : Type 0 = IsFine d.trouble in
      let later : Type 0 = IsFine after.trouble in
      let each : AllRunOn d.plan fine H later all = λ a at. record { rule = at.rule; runs = λ works. on.runs a.rule.0 a.number.0 a.link.0 (at.runs (goes.works works)) } in
      record {
        goes = goes_on trust gives may_fail sources tells files may_leave moment images_since away.links first d after u.goes goes;
        matches = subst (λ (P : Plan). Matches P later all trust (serial P gives sources) held waiting) (sym goes.plan) (matches_on d.plan fine later H all trust (serial d.plan gives sources) held waiting each u.matches);
        taken = subst (λ (P : Plan). IsLoose P later all held loose) (sym goes.plan) (loose_on d.plan fine later H all held loose each u.taken);
        here = u.here;
        beyond = subst (λ (P : Plan). AreAway P later after.moves held loose away.attempts) (sym goes.plan)
            (away_on d.plan fine later d.moves after.moves held held loose loose away.attempts
            (λ a at unheld other. (runs_away_on d.plan fine later d.moves after.moves goes.passed a goes.moves (each a) at, unheld, other)) u.beyond);
        all = λ works.
            let count = on.count in let was = u.all (goes.works works) in let same = ap (λ (P : Plan). length (running_rules P all)) goes.plan in omega (arith, count, was, same);
        stopped = stops;
        failures = λ works. on.failed ∙ u.failures (goes.works works);
        unended = λ unended. on.unended (u.unended unended);
        never = u.never;
        due = λ going sure smooth. let both = dues going in let less = both.1 in let was = u.due both.0 sure smooth in omega (arith, less, was);
      }

  -- a call that adds no record
  pub stands_on : (first d after : DeskState S) (held : List Attempt) (waiting : List Start) (loose : Option Attempt) (heard : Tally) (halt next : Option Halt) → Goes d after
      → records_of after.moves ≡ records_of d.moves → StoppedBy tells kept sure files first after heard next
      → (IsGoing next → IsGoing halt) → Under first d held waiting loose heard halt → Under first after held waiting loose heard next
  stands_on first d after held waiting loose heard halt next goes same stops going u =
      runs_on first d after held waiting loose heard halt next goes (run_on_same d.plan (records_of d.moves) (records_of after.moves) same) stops
      (λ further. (going further, due_same same)) u
    where
      due_same : records_of after.moves ≡ records_of d.moves → records_due after.plan (records_of after.moves) ≤ records_due d.plan (records_of d.moves)
      due_same are =
          let one = ap (λ (P : Plan). records_due P (records_of after.moves)) goes.plan in
          let two = ap (λ (G : List Record). records_due d.plan G) are in
          omega (arith, one, two)

  -- a rule that may run here might when the run began
  pub may_first : (first now : DeskState S) (held : List Attempt) (waiting : List Start) (loose : Option Attempt) (heard : Tally) (halt : Option Halt) (r : ℕ) → Under first now held waiting loose heard halt
      → may_run_on now.plan now.options r 0 ≡ true → may_run_on first.plan first.options r 0 ≡ true
  may_first first now held waiting loose heard halt r u may =
      subst (λ (P : Plan). may_run_on P first.options r 0 ≡ true) u.goes.plan (subst (λ (O : Options). may_run_on now.plan O r 0 ≡ true) u.goes.options may)

  -- memory was wanting
  pub wants_on : (first now : DeskState S) (held : List Attempt) (waiting : List Start) (loose : Option Attempt) (heard : Tally) (halt : Option Halt) → Under first now held waiting loose heard halt
      → Under first now held waiting loose heard (Some halts.Memory)
  wants_on first now held waiting loose heard halt u = record {
    goes = u.goes;
    matches = u.matches;
    taken = u.taken;
    here = u.here;
    beyond = u.beyond;
    all = u.all;
    stopped = may_want tells kept sure files first now heard;
    failures = u.failures;
    unended = u.unended;
    never = u.never;
    due = λ going. absurd going;
  }

  -- the loose attempt is held, and its start waits
  pub holds_on : (first now : DeskState S) (held : List Attempt) (waiting : List Start) (a : Attempt) (heard : Tally) (halt : Option Halt) (start : Start) → a.link.0 ≡ 0 → may_run_on first.plan first.options a.rule.0 0 ≡ true → a.number ≡ start.attempt
      → IsJobAt now.plan trust (serial now.plan gives sources) a.rule.0 start.job → Under first now held waiting (Some a) heard halt
      → Under first now (held ++ (a ∷ [])) (waiting ++ (start ∷ [])) None heard halt
  holds_on first now held waiting a heard halt start at may same job u =
      let longer = length-append held (a ∷ []) in
      record {
        goes = u.goes;
        matches = matches_more now.plan (IsFine now.trouble) (records_of now.moves) trust (serial now.plan gives sources) held waiting a start u.taken.0 u.taken.1 same job u.matches;
        taken = tt;
        here = here_more first.plan first.options held a u.here at may;
        beyond = away_on now.plan (IsFine now.trouble) (IsFine now.trouble) now.moves now.moves held (held ++ (a ∷ [])) (Some a) None away.attempts
            (λ b runs unheld other. (runs, none_more b.number held a unheld other, tt)) u.beyond;
        all = λ works. let was = u.all works in omega (arith, was, longer);
        stopped = u.stopped;
        failures = u.failures;
        unended = u.unended;
        never = u.never;
        due = λ going sure smooth. let was = u.due going sure smooth in omega (arith, was, longer);
      }

  -- the last that is held is loose, and its start is forgotten
  pub last_loose : (first now : DeskState S) (held : List Attempt) (waiting : List Start) (a : Attempt) (heard : Tally) (halt : Option Halt) → Under first now (held ++ (a ∷ [])) waiting None heard halt
      → (starts : List Start) × Under first now held starts (Some a) heard halt
  last_loose first now held waiting a heard halt u =
      let longer = length-append held (a ∷ []) in
      let last = last_of now.plan (IsFine now.trouble) (records_of now.moves) trust (serial now.plan gives sources) held a waiting u.matches in (
        last.starts,
        record {
          goes = u.goes;
          matches = last.matches;
          taken = (last.runs, last.none);
          here = here_less first.plan first.options held a u.here;
          beyond = away_on now.plan (IsFine now.trouble) (IsFine now.trouble) now.moves now.moves (held ++ (a ∷ [])) held None (Some a) away.attempts
              (λ b at unheld other. let both = other_last b.number held a unheld in (at, both.0, both.1)) u.beyond;
          all = λ works. let was = u.all works in omega (arith, was, longer);
          stopped = u.stopped;
          failures = u.failures;
          unended = u.unended;
          never = u.never;
          due = λ going sure smooth. let was = u.due going sure smooth in omega (arith, was, longer);
        },
      )
