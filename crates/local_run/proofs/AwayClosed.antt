-- Attempts on links that are closed, and those that are begun there.
use Rattle.std.proofs.Common.{◌≡◌, ◌≢◌, ◌+◌, ℕ, true, List, [], ◌∷◌, ◌++◌, length, Option, Some, None, sym, ap, subst, arith, length-append}
use Rattle.std.specs.List.{list_any}
use Rattle.flow_types.specs.declared.plan.Plan.{Plan}
use Rattle.flow_types.specs.declared.job.Job.{Job}
use Rattle.flow_types.specs.declared.job.Failure.{Failure}
use Rattle.flow_types.specs.declared.job.Start.{Start}
use Rattle.flow_types.specs.declared.numbers.AttemptNo.{AttemptNo}
use Rattle.flow_types.specs.Serial.{Contents, Function}
use Rattle.run_history.specs.declared.moves.Move.{Move}
use Rattle.run_history.specs.Links.{names_link}
use Rattle.outside.specs.Disk.{Outcomes}
use Rattle.outside.specs.Files.{Files}
use Rattle.worker_pool.specs.declared.hand.Tally.{Tally}
use Rattle.desk.specs.declared.attempt.Attempt.{Attempt}
use Rattle.desk.specs.State.{DeskState, IsFine}
use Rattle.local_run.specs.declared.halt.Halt.{Halt}
use Rattle.local_run.specs.Underway.{AreAway, AwayState, NoneHas, RunsAway, Underway}
use Rattle.local_run.proofs.HeldClosed.{none_at, none_less}

none_with : (number : AttemptNo) (front : List Attempt) (a : Attempt) (back : List Attempt) → NoneHas number (front ++ back) → a.number ≢ number → NoneHas number (front ++ (a ∷ back))
none_with number [] a back none other = (other, none)
none_with number (f ∷ fs) a back none other = (none.0, none_with number fs a back none.1 other)

module _ (P : Plan) (fine : Type 0) (M : List Move) (held : List Attempt) where
  -- one among those that run on links
  pub away_at : (front : List Attempt) (a : Attempt) (back : List Attempt) → AreAway P fine M held None (front ++ (a ∷ back)) → RunsAway P fine M a × NoneHas a.number held
  away_at [] a back h = (h.0, h.1)
  away_at (f ∷ fs) a back h = away_at fs a back h.4

  others_from : (a : Attempt) (back : List Attempt) → NoneHas a.number back → AreAway P fine M held None back → AreAway P fine M held (Some a) back
  others_from a [] none h = tt
  others_from a (b ∷ bs) none h = (h.0, h.1, (λ is. none.0 (sym is)), h.3, others_from a bs none.1 h.4)

  -- the others, where it is the loose one
  pub away_less : (front : List Attempt) (a : Attempt) (back : List Attempt) → AreAway P fine M held None (front ++ (a ∷ back)) → AreAway P fine M held (Some a) (front ++ back)
  away_less [] a back h = others_from a back h.3 h.4
  away_less (f ∷ fs) a back h = (h.0, h.1, none_at f.number fs a back h.3, none_less f.number fs a back h.3, away_less fs a back h.4)

  none_from : (a : Attempt) (back : List Attempt) → AreAway P fine M held (Some a) back → NoneHas a.number back
  none_from a [] h = tt
  none_from a (b ∷ bs) h = ((λ is. h.2 (sym is)), none_from a bs h.4)

  unloosed : (a : Attempt) (back : List Attempt) → AreAway P fine M held (Some a) back → AreAway P fine M held None back
  unloosed a [] h = tt
  unloosed a (b ∷ bs) h = (h.0, h.1, tt, h.3, unloosed a bs h.4)

  -- and these with it
  pub away_more : (front : List Attempt) (a : Attempt) (back : List Attempt) → RunsAway P fine M a → NoneHas a.number held → AreAway P fine M held (Some a) (front ++ back) → AreAway P fine M held None (front ++ (a ∷ back))
  away_more [] a back runs unheld h = (runs, unheld, tt, none_from a back h, unloosed a back h)
  away_more (f ∷ fs) a back runs unheld h = (h.0, h.1, tt, none_with f.number fs a back h.3 h.2, away_more fs a back runs unheld h.4)

module _ {S : Type 0} (trust : Type 0) (gives : Function) (may_fail : Job → Failure → Type 0) (sources : Contents) (tells kept sure : Type 0) (files : S → Files) (may_leave : S → Outcomes) (moment : S → ℕ)
    (images_since : S → ℕ → Files → Type 0) (away : AwayState) where
  abbrev pub UnderBy : AwayState → DeskState S → DeskState S → List Attempt → List Start → Option Attempt → Tally → Option Halt → Type 0
  UnderBy next first now held waiting loose heard halt = Underway trust gives may_fail sources tells kept sure files may_leave moment images_since next first now held waiting loose heard halt

  -- an attempt on a link is the loose one
  pub away_out : (first now : DeskState S) (held : List Attempt) (waiting : List Start) (heard : Tally) (halt : Option Halt) (front : List Attempt) (a : Attempt) (back : List Attempt) → away.attempts ≡ front ++ (a ∷ back)
      → UnderBy away first now held waiting None heard halt → UnderBy (record away { attempts = front ++ back }) first now held waiting (Some a) heard halt
  away_out first now held waiting heard halt front a back are u =
      let all : AreAway now.plan (IsFine now.trouble) now.moves held None (front ++ (a ∷ back)) = subst (AreAway now.plan (IsFine now.trouble) now.moves held None) are u.beyond in
      let here = away_at now.plan (IsFine now.trouble) now.moves held front a back all in
      let one : length away.attempts ≡ length (front ++ back) + 1 = (let whole = ap length are in let long = length-append front (a ∷ back) in let short = length-append front back in omega (arith, whole, long, short)) in
      record {
        goes = u.goes;
        matches = u.matches;
        taken = (here.0.at, here.1);
        here = u.here;
        beyond = away_less now.plan (IsFine now.trouble) now.moves held front a back all;
        all = λ works. let was = u.all works in omega (arith, was, one);
        stopped = u.stopped;
        failures = u.failures;
        unended = u.unended;
        never = u.never;
        due = λ going is smooth. let was = u.due going is smooth in omega (arith, was, one);
      }

  -- the loose one is an attempt on a link
  pub away_in : (first now : DeskState S) (held : List Attempt) (waiting : List Start) (heard : Tally) (halt : Option Halt) (front : List Attempt) (a : Attempt) (back : List Attempt) → away.attempts ≡ front ++ back
      → a.link.0 ≢ 0 → list_any (names_link a.link.0) now.moves ≡ true
      → UnderBy away first now held waiting (Some a) heard halt → UnderBy (record away { attempts = front ++ (a ∷ back) }) first now held waiting None heard halt
  away_in first now held waiting heard halt front a back are beyond named u =
      let all : AreAway now.plan (IsFine now.trouble) now.moves held (Some a) (front ++ back) = subst (AreAway now.plan (IsFine now.trouble) now.moves held (Some a)) are u.beyond in
      let runs : RunsAway now.plan (IsFine now.trouble) now.moves a = record { at = u.taken.0; beyond = beyond; named = named } in
      let one : length (front ++ (a ∷ back)) ≡ length away.attempts + 1 = (let whole = ap length are in let long = length-append front (a ∷ back) in let short = length-append front back in omega (arith, whole, long, short)) in
      record {
        goes = u.goes;
        matches = u.matches;
        taken = tt;
        here = u.here;
        beyond = away_more now.plan (IsFine now.trouble) now.moves held front a back runs u.taken.1 all;
        all = λ works. let was = u.all works in omega (arith, was, one);
        stopped = u.stopped;
        failures = u.failures;
        unended = u.unended;
        never = u.never;
        due = λ going is smooth. let was = u.due going is smooth in omega (arith, was, one);
      }
