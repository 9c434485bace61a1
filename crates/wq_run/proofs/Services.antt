-- What a service comes to, from its beginning to its end.
use Rattle.flow_types.specs.declared.numbers.LinkNo.{LinkNo}
use Rattle.std.proofs.Common.{◌≡◌, ◌≤◌, ◌+◌, ◌∙◌, ℕ, Bool, List, [], length, Option, Some, None, Result, Ok, Err, refl, sym, ap, subst, arith}
use Rattle.flow_types.specs.declared.job.Job.{Job}
use Rattle.flow_types.specs.declared.job.Failure.{Failure}
use Rattle.flow_types.specs.declared.job.Start.{Start}
use Rattle.flow_types.specs.Serial.{Contents, Function}
use Rattle.run_history.specs.Admissions.{Admitting, all_admitted}
use Rattle.run_history.specs.Links.{records_of}
use Rattle.run_history.specs.Storage.{running_rules}
use Rattle.outside.specs.Disk.{IsImage, Outcomes}
use Rattle.outside.specs.Files.{Files}
use Rattle.worker_pool.specs.declared.hand.Tally.{Tally}
use Rattle.worker_pool.specs.Tallies.{GrowsWith, IsWithin, none}
use Rattle.desk.specs.declared.attempt.Attempt.{Attempt}
use Rattle.desk.specs.State.{DeskState, IsFine}
use Rattle.local_run.specs.declared.halt.Halt.{Halt}
use Rattle.local_run.specs.declared.halt.Halt.TheVariants as halts
use Rattle.desk.specs.declared.answers.Trouble.{Trouble}
use Rattle.local_run.specs.Course.{IsHalt}
use Rattle.local_run.specs.Underway.{AwayState, ComesTo, HeldState, Underway, none_away, settled}
use Rattle.local_run.proofs.RunsServed.{begins_at, comes_want}
use Rattle.local_run.proofs.StandsBegun.{wants_on}
use Rattle.wq_run.specs.Comes.{ComesOn, Finished}
use Rattle.wq_run.specs.Seats.{AreSeats, CompanyState, Manned, Meets, SeatState, gathered, Inside, inside_of}
use Rattle.wq_run.proofs.Counting.{meets_none, meets_then}
use Rattle.wq_run.proofs.Shares.{manned_on}

-- ---- what calls make of the hall, with all but the facts found by the checker

pub met_none : {L : Type 0} {count : ℕ} {got : List (Option LinkNo × L)} {given idles : ℕ} {inside : Inside} {failed lost : Bool} → Meets count count got got given given idles idles inside inside failed failed lost lost
met_none = meets_none _ _ _ _ _ _ _

pub met_then : {L : Type 0} {count count_mid count_now : ℕ} {got got_mid got_now : List (Option LinkNo × L)} {given given_mid given_now idles idles_mid idles_now : ℕ} {inside inside_mid inside_now : Inside} {failed failed_mid failed_now lost lost_mid lost_now : Bool}
    → Meets count count_mid got got_mid given given_mid idles idles_mid inside inside_mid failed failed_mid lost lost_mid
    → Meets count_mid count_now got_mid got_now given_mid given_now idles_mid idles_now inside_mid inside_now failed_mid failed_now lost_mid lost_now
    → Meets count count_now got got_now given given_now idles idles_now inside inside_now failed failed_now lost lost_now
met_then one two = meets_then _ _ _ _ _ _ _ _ _ _ _ _ _ _ _ _ _ _ _ _ _ one two

-- the same company by another name
pub met_same : {L : Type 0} {count count_now : ℕ} {got got_now : List (Option LinkNo × L)} {given given_now idles idles_now : ℕ} {inside : Inside} {failed lost : Bool} (mid after : CompanyState L) → after ≡ mid
    → Meets count count_now got got_now given given_now idles idles_now inside (inside_of mid) failed mid.failed lost mid.lost
    → Meets count count_now got got_now given given_now idles idles_now inside (inside_of after) failed after.failed lost after.lost
met_same {L} {count} {count_now} {got} {got_now} {given} {given_now} {idles} {idles_now} {inside} {failed} {lost} mid after same m =
    subst (λ (x : CompanyState L). Meets count count_now got got_now given given_now idles idles_now inside (inside_of x) failed x.failed lost x.lost) (sym same) m

-- no more jobs weren't run than the runners counted
pub counted_more : (heard put : Tally) (count count_now failures failures_now : ℕ) → IsWithin heard put → GrowsWith none put count count_now failures failures_now → (heard.unrun + count ≤ count_now) × (failures ≤ failures_now)
counted_more heard put count count_now failures failures_now within grows =
    let fewer = within.0 in
    let rose = grows.0 in
    let failed = grows.1 in
    (omega (arith, fewer, rose), omega (arith, failed))

-- how often jobs weren't run is counted by the runners
pub halt_by_count : (t : Trouble) (unrun count now : ℕ) (why : Halt) → unrun + count ≤ now → IsHalt t 0 unrun why → IsHalt t count now why
halt_by_count t unrun count now (halts.Damaged file logged found) fewer h = h
halt_by_count t unrun count now halts.Runner fewer h = (h.0, (let some = h.1 in omega (arith, some, fewer)))
halt_by_count t unrun count now halts.Site fewer h = h
halt_by_count t unrun count now halts.Memory fewer h = tt

module _ {S : Type 0} (trust : Type 0) (gives : Function) (may_fail : Job → Failure → Type 0) (sources : Contents) (tells kept sure : Type 0) (files : S → Files) (may_leave : S → Outcomes) (moment : S → ℕ)
    (images_since : S → ℕ → Files → Type 0) where
  abbrev pub On : DeskState S → DeskState S → ℕ → ℕ → ℕ → ℕ → Result (Unit {0}) Halt → Type 0
  On d after count count_now failures failures_now result = ComesOn trust gives may_fail sources tells kept sure files may_leave moment images_since d after count count_now failures failures_now result

  -- as it begins
  pub begins_manned : {L : Type 0} (d : DeskState S) (held : HeldState) (waiting : List Start) (heard : Tally) (seats : List (SeatState L)) → held.attempts ≡ [] → waiting ≡ [] → heard ≡ none → held.halt ≡ None
      → (tells → (image : Files) → images_since d.site (moment d.site) image → IsImage (may_leave d.site) image) → IsFine d.trouble → length (running_rules d.plan (records_of d.moves)) ≤ 0
      → AreSeats d.plan d.options d.moves seats → gathered seats ≡ [] → Manned trust gives may_fail sources tells kept sure files may_leave moment images_since d d held waiting heard seats
  begins_manned d held waiting heard seats h w t k only_now fine idle are empty = record {
    away = none_away;
    are = sym empty;
    under = begins_at trust gives may_fail sources tells kept sure files may_leave moment images_since d held.attempts waiting heard held.halt h w t k only_now fine idle;
    placed = are;
  }

  -- what is so of a run here
  on_from : (A : Admitting) (d after : DeskState S) (count count_now failures failures_now : ℕ) (result : Result (Unit {0}) Halt)
      → ComesTo A trust gives may_fail sources tells kept sure files may_leave moment images_since d after count count_now failures failures_now result → On d after count count_now failures failures_now result
  on_from A d after count count_now failures failures_now result came = record {
    links = [];
    goes = came.goes;
    idle = came.idle;
    closed = came.closed;
    halts = came.halts;
    damage = came.damage;
    whole = came.whole;
    never = came.never;
    later = came.later;
    risen = came.risen;
    unended = came.unended;
  }

  -- where memory was wanting before it began
  pub on_want : (d : DeskState S) (count failures : ℕ) → (tells → (image : Files) → images_since d.site (moment d.site) image → IsImage (may_leave d.site) image)
      → length (running_rules d.plan (records_of d.moves)) ≤ 0 → On d d count count failures failures (Err halts.Memory)
  on_want d count failures only_now idle =
      on_from all_admitted d d count count failures failures (Err halts.Memory) (comes_want trust gives may_fail sources tells kept sure files may_leave moment images_since all_admitted d count failures only_now idle)

  -- over a stronger fact
  pub on_less : (more : Type 0) (d after : DeskState S) (count count_now failures failures_now : ℕ) (result : Result (Unit {0}) Halt) → (more → sure) → On d after count count_now failures failures_now result
      → ComesOn trust gives may_fail sources tells kept more files may_leave moment images_since d after count count_now failures failures_now result
  on_less more d after count count_now failures failures_now (Ok done) so came = record {
    links = came.links;
    goes = came.goes;
    idle = came.idle;
    closed = came.closed;
    halts = tt;
    damage = tt;
    whole = tt;
    never = tt;
    later = came.later;
    risen = came.risen;
    unended = came.unended;
  }
  on_less more d after count count_now failures failures_now (Err why) so came = record {
    links = came.links;
    goes = came.goes;
    idle = came.idle;
    closed = tt;
    halts = came.halts;
    damage = came.damage;
    whole = came.whole;
    never = λ is. came.never (so is);
    later = came.later;
    risen = came.risen;
    unended = came.unended;
  }

  -- nothing is held any more
  abbrev pub UnderOn : AwayState → DeskState S → DeskState S → Tally → Option Halt → Type 0
  UnderOn away d after heard halt = Underway trust gives may_fail sources tells kept sure files may_leave moment images_since away d after [] [] None heard halt

  idle_on : (away : AwayState) (d after : DeskState S) (heard : Tally) (halt : Option Halt) → away.attempts ≡ [] → UnderOn away d after heard halt → IsFine after.trouble → length (running_rules after.plan (records_of after.moves)) ≤ 0
  idle_on away d after heard halt empty under fine =
      let few = under.all fine in
      let zero_away = ap (λ (xs : List Attempt). length xs) empty in
      omega (arith, few, zero_away)

  came_on : (away : AwayState) (d after : DeskState S) (heard : Tally) (count count_now failures failures_now : ℕ) (halt : Option Halt) → away.attempts ≡ [] → UnderOn away d after heard halt
      → heard.unrun + count ≤ count_now → failures ≤ failures_now → On d after count count_now failures failures_now (settled halt)
  came_on away d after heard count count_now failures failures_now None empty under more rose = record {
    links = away.links;
    goes = under.goes;
    idle = idle_on away d after heard None empty under;
    closed = under.stopped;
    halts = tt;
    damage = tt;
    whole = tt;
    never = tt;
    later = omega (arith, more);
    risen = rose;
    unended = under.unended;
  }
  came_on away d after heard count count_now failures failures_now (Some why) empty under more rose = record {
    links = away.links;
    goes = under.goes;
    idle = idle_on away d after heard (Some why) empty under;
    closed = tt;
    halts = halt_by_count after.trouble heard.unrun count count_now why more under.stopped.is;
    damage = under.stopped.damage;
    whole = under.stopped.whole;
    never = under.stopped.never;
    later = omega (arith, more);
    risen = rose;
    unended = under.unended;
  }

  pub came_finished : {L : Type 0} (d after : DeskState S) (heard : Tally) (seats : List (SeatState L)) (count count_now failures failures_now : ℕ) (result : Result (Unit {0}) Halt)
      → Finished trust gives may_fail sources tells kept sure files may_leave moment images_since d after heard seats result → heard.unrun + count ≤ count_now → failures ≤ failures_now
      → On d after count count_now failures failures_now result
  came_finished d after heard seats count count_now failures failures_now result f more rose =
      subst (On d after count count_now failures failures_now) (sym f.is) (came_on f.away d after heard count count_now failures failures_now f.halt f.none f.under more rose)

  -- once what was held here is given up, where nothing runs at workers
  pub finished_by : {L : Type 0} (first d after : DeskState S) (held : HeldState) (waiting : List Start) (heard : Tally) (seats : List (SeatState L)) (result : Result (Unit {0}) Halt)
      → (m : Manned trust gives may_fail sources tells kept sure files may_leave moment images_since first d held waiting heard seats) → gathered seats ≡ []
      → ((halt : Option Halt) × (result ≡ settled halt) × UnderOn m.away first after heard halt)
      → Finished trust gives may_fail sources tells kept sure files may_leave moment images_since first after heard seats result
  finished_by first d after held waiting heard seats result m empty settles = record {
    away = m.away;
    none = m.are ∙ empty;
    halt = settles.0;
    is = settles.1;
    under = settles.2;
    placed = (manned_on trust gives may_fail sources tells kept sure files may_leave moment images_since first d after held (record { attempts = []; halt = settles.0 }) waiting [] heard heard seats m settles.2).placed;
    empty = empty;
  }

  pub manned_same : {L : Type 0} (first d : DeskState S) (held : HeldState) (waiting : List Start) (heard : Tally) (mid after : CompanyState L) → after ≡ mid
      → Manned trust gives may_fail sources tells kept sure files may_leave moment images_since first d held waiting heard mid.seats
      → Manned trust gives may_fail sources tells kept sure files may_leave moment images_since first d held waiting heard after.seats
  manned_same {L} first d held waiting heard mid after same m =
      subst (λ (x : CompanyState L). Manned trust gives may_fail sources tells kept sure files may_leave moment images_since first d held waiting heard x.seats) (sym same) m

  pub manned_at : {L : Type 0} (first d e : DeskState S) (held : HeldState) (waiting : List Start) (heard : Tally) (seats : List (SeatState L)) → d ≡ e
      → Manned trust gives may_fail sources tells kept sure files may_leave moment images_since first d held waiting heard seats
      → Manned trust gives may_fail sources tells kept sure files may_leave moment images_since first e held waiting heard seats
  manned_at first d e held waiting heard seats same m = subst (λ (x : DeskState S). Manned trust gives may_fail sources tells kept sure files may_leave moment images_since first x held waiting heard seats) same m

  pub manned_left : {L : Type 0} (first d : DeskState S) (held keeps : HeldState) (waiting left : List Start) (heard told : Tally) (seats rest : List (SeatState L)) → held ≡ keeps → waiting ≡ left → heard ≡ told → seats ≡ rest
      → Manned trust gives may_fail sources tells kept sure files may_leave moment images_since first d held waiting heard seats
      → Manned trust gives may_fail sources tells kept sure files may_leave moment images_since first d keeps left told rest
  manned_left {L} first d held keeps waiting left heard told seats rest h w t s m =
      subst (λ (x : HeldState). Manned trust gives may_fail sources tells kept sure files may_leave moment images_since first d x left told rest) h
      (subst (λ (x : List Start). Manned trust gives may_fail sources tells kept sure files may_leave moment images_since first d held x told rest) w
      (subst (λ (x : Tally). Manned trust gives may_fail sources tells kept sure files may_leave moment images_since first d held waiting x rest) t
      (subst (λ (x : List (SeatState L)). Manned trust gives may_fail sources tells kept sure files may_leave moment images_since first d held waiting heard x) s m)))

-- a run that memory was wanting for, where nothing had stopped it
pub wanting_halts : (held held_now : HeldState) → (held.halt ≡ None → held_now ≡ record held { halt = Some halts.Memory }) → ((why : Halt) → held.halt ≡ Some why → held_now ≡ held) → (why : Halt) × (held_now.halt ≡ Some why)
wanting_halts held held_now wants stays = by_halt held.halt refl
  where
    by_halt : (h : Option Halt) → held.halt ≡ h → (why : Halt) × (held_now.halt ≡ Some why)
    by_halt None is = (halts.Memory, ap (λ (x : HeldState). x.halt) (wants is))
    by_halt (Some why) is = (why, ap (λ (x : HeldState). x.halt) (stays why is) ∙ is)

module _ {S L : Type 0} (trust : Type 0) (gives : Function) (may_fail : Job → Failure → Type 0) (sources : Contents) (tells kept sure : Type 0) (files : S → Files) (may_leave : S → Outcomes) (moment : S → ℕ)
    (images_since : S → ℕ → Files → Type 0) where
  pub manned_want : (first d : DeskState S) (held held_now : HeldState) (waiting : List Start) (heard : Tally) (seats : List (SeatState L)) → (held.halt ≡ None → held_now ≡ record held { halt = Some halts.Memory }) → ((why : Halt) → held.halt ≡ Some why → held_now ≡ held)
      → Manned trust gives may_fail sources tells kept sure files may_leave moment images_since first d held waiting heard seats → Manned trust gives may_fail sources tells kept sure files may_leave moment images_since first d held_now waiting heard seats
  manned_want first d held held_now waiting heard seats wants stays m = by_halt held.halt refl
    where
      by_halt : (h : Option Halt) → held.halt ≡ h → Manned trust gives may_fail sources tells kept sure files may_leave moment images_since first d held_now waiting heard seats
      by_halt None is = manned_on trust gives may_fail sources tells kept sure files may_leave moment images_since first d d held held_now waiting waiting heard heard seats m
          (subst (λ (h : HeldState). Underway trust gives may_fail sources tells kept sure files may_leave moment images_since m.away first d h.attempts waiting None heard h.halt) (sym (wants is))
          (wants_on trust gives may_fail sources tells kept sure files may_leave moment images_since m.away first d held.attempts waiting None heard held.halt m.under))
      by_halt (Some why) is = subst (λ (h : HeldState). Manned trust gives may_fail sources tells kept sure files may_leave moment images_since first d h waiting heard seats) (sym (stays why is)) m
