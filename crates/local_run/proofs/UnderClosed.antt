-- What a run has come to behind the closing of an attempt.
use Rattle.std.proofs.Common.{◌≡◌, ◌≢◌, ◌≤◌, ◌+◌, ◌∙◌, ◌⊎◌, ⊎_elim, ℕ, Bool, true, false, cond, List, [], ◌∷◌, ◌++◌, length, Option, Some, None, Result, Ok, refl, sym, ap, subst, arith}
use Rattle.std.specs.Prelude.{count_by, slice_get}
use Rattle.flow_types.specs.declared.plan.Plan.{Plan}
use Rattle.flow_types.specs.declared.plan.Rule.{Rule}
use Rattle.flow_types.specs.declared.job.Job.{Job}
use Rattle.flow_types.specs.declared.job.Failure.{Failure}
use Rattle.flow_types.specs.declared.job.Start.{Start}
use Rattle.flow_types.specs.declared.numbers.Content.{Content}
use Rattle.flow_types.specs.declared.records.Record.{Record}
use Rattle.flow_types.specs.declared.records.Record.TheVariants as records
use Rattle.flow_types.specs.Plans.{IsValid, makes}
use Rattle.flow_types.specs.Serial.{Contents, Function, job_of, serial}
use Rattle.run_history.specs.declared.answers.Stop.{Stop}
use Rattle.run_history.specs.declared.moves.Move.{Move}
use Rattle.run_history.specs.Links.{records_of}
use Rattle.run_history.specs.Storage.{running_rules}
use Rattle.outside.specs.Disk.{IsImage, Outcomes}
use Rattle.outside.specs.Files.{Files}
use Rattle.rule_graph.specs.Spelling.{plan_digest}
use Rattle.task_core.proofs.Pushing.{count-push}
use Rattle.worker_pool.specs.declared.hand.Tally.{Tally}
use Rattle.desk.specs.declared.answers.CloseRefused.{CloseRefused}
use Rattle.desk.specs.declared.answers.Trouble.{Trouble}
use Rattle.desk.specs.declared.attempt.Attempt.{Attempt}
use Rattle.desk.specs.Kept.{IsElse, IsLegal, ReadsStay, StaysBeside}
use Rattle.desk.specs.State.{Closes, DeskState, IsFine, runs_with}
use Rattle.desk.proofs.Presents.{runs_from}
use Rattle.desk.proofs.Running.{closing}
use Rattle.local_run.specs.declared.halt.Halt.{Halt}
use Rattle.local_run.specs.declared.halt.Halt.TheVariants as halts
use Rattle.local_run.specs.Collecting.{IsUntouched}
use Rattle.local_run.specs.Course.{GoesOn, IsBroken, IsHalt, LeavesAlone}
use Rattle.local_run.specs.Ends.{IsApart, IsFoundDamaged, failed_count, is_failed, records_due}
use Rattle.local_run.specs.Underway.{AreAway, AwayState, IsGoing, IsSmooth, Matches, MayStop, NoneHas, RunsAt, RunsAway, StoppedBy, Underway}
use Rattle.local_run.proofs.Alone.{alone_same, log_alone, outputs_alone}
use Rattle.local_run.proofs.Beyond.{away_on, runs_away_on}
use Rattle.local_run.proofs.Closings.{closes_goes}
use Rattle.local_run.proofs.Elsewhere.{named_unlinked, runs_started_away}
use Rattle.local_run.proofs.Fresh.{due_done}
use Rattle.local_run.proofs.Going.{adds_plain, goes_on}
use Rattle.local_run.proofs.Logging.{closes_logs, closes_unended, unfinished}
use Rattle.local_run.proofs.RunsClosed.{Ending, IsClosed, closed_fine, damage_on, matches_on, still_runs, worked_or_same}

-- one where it is so
abbrev count_one : Bool → ℕ
count_one b = cond b 1 0

-- ---- why it stopped

halt_on : (t u : Trouble) (now later : ℕ) (why : Halt) → u ≡ t → now ≤ later → IsHalt t 0 now why → IsHalt u 0 later why
halt_on t u now later (halts.Damaged file logged found) same le h = subst IsFine (sym same) h
halt_on t u now later halts.Runner same le h = (subst IsFine (sym same) h.0, (let more = h.1 in omega (arith, more, le)))
halt_on t u now later halts.Site same le h = subst IsBroken (sym same) h
halt_on t u now later halts.Memory same le h = tt

module _ {S : Type 0} (tells kept sure : Type 0) (files : S → Files) where
  -- Why it stopped is so at a later desk too, where what was damaged still is.
  pub may_stop_on : (d after : DeskState S) (heard later : Tally) (why : Halt) → after.trouble ≡ d.trouble → heard.unrun ≤ later.unrun
      → (tells → (IsApart d.plan d.log → IsFoundDamaged d.plan (records_of d.moves) (files d.site) why) → IsApart after.plan after.log → IsFoundDamaged after.plan (records_of after.moves) (files after.site) why)
      → MayStop tells kept sure files d heard why → MayStop tells kept sure files after later why
  may_stop_on d after heard later why same le on stop = record {
    is = halt_on d.trouble after.trouble heard.unrun later.unrun why same le stop.is;
    damage = λ told. on told (stop.damage told);
    whole = stop.whole;
    never = stop.never;
  }

  -- the same of what may be why it stopped
  pub stopped_on : (first d after : DeskState S) (heard later : Tally) (halt : Option Halt) → after.trouble ≡ d.trouble → after.stop ≡ d.stop → heard.unrun ≤ later.unrun
      → ((why : Halt) → tells → (IsApart d.plan d.log → IsFoundDamaged d.plan (records_of d.moves) (files d.site) why) → IsApart after.plan after.log → IsFoundDamaged after.plan (records_of after.moves) (files after.site) why)
      → StoppedBy tells kept sure files first d heard halt → StoppedBy tells kept sure files first after later halt
  stopped_on first d after heard later None same stop le on h = (subst IsFine (sym same) h.0, stop ∙ h.1)
  stopped_on first d after heard later (Some why) same stop le on h = may_stop_on d after heard later why same le (on why) h

  -- the site failed
  pub stopped_site : (after : DeskState S) (heard : Tally) → IsBroken after.trouble → MayStop tells kept sure files after heard halts.Site
  stopped_site after heard broken = record { is = broken; damage = λ told apart. tt; whole = λ told held. tt; never = λ is. tt }

  -- memory was wanting
  pub stopped_memory : (after : DeskState S) (heard : Tally) → MayStop tells kept sure files after heard halts.Memory
  stopped_memory after heard = record { is = tt; damage = λ told apart. tt; whole = λ told held. tt; never = λ is. tt }

-- ---- the whole

-- a closing that writes to outputs of its rule
pub closing_alone : {S : Type 0} (files : S → Files) (may_leave : S → Outcomes) (moment : S → ℕ) (images_since : S → ℕ → Files → Type 0) (d after : DeskState S) (r number link : ℕ) → IsValid d.plan
    → ((image : Files) → images_since d.site (moment d.site) image → IsImage (may_leave d.site) image) → (IsFine d.trouble → runs_with (records_of d.moves) r number link ≡ true) → IsFine d.trouble ⊎ (after ≡ d)
    → StaysBeside may_leave moment images_since (IsElse d.plan d.log (makes d.plan r)) d.site after.site → ReadsStay files (IsElse d.plan d.log (makes d.plan r)) d.site after.site
    → LeavesAlone files may_leave moment images_since (IsUntouched d.plan d.log (records_of d.moves)) d.site after.site
closing_alone {S} files may_leave moment images_since d after r number link valid only_now runs worked stays reads =
    ⊎_elim (λ (fine : IsFine d.trouble). outputs_alone files may_leave moment images_since d.plan d.log (records_of d.moves) r d.site after.site valid (unfinished (records_of d.moves) r number link (runs fine)) stays reads)
    (λ (same : after ≡ d). subst (λ (a : DeskState S). LeavesAlone files may_leave moment images_since (IsUntouched d.plan d.log (records_of d.moves)) d.site a.site) (sym same)
    (alone_same files may_leave moment images_since (IsUntouched d.plan d.log (records_of d.moves)) d.site only_now)) worked

module _ {S : Type 0} (trust : Type 0) (gives : Function) (may_fail : Job → Failure → Type 0) (sources : Contents) (tells kept sure : Type 0) (files : S → Files) (may_leave : S → Outcomes) (moment : S → ℕ)
    (images_since : S → ℕ → Files → Type 0) (away : AwayState) where
  abbrev pub Under : DeskState S → DeskState S → List Attempt → List Start → Option Attempt → Tally → Option Halt → Type 0
  Under first d held waiting loose heard halt = Underway trust gives may_fail sources tells kept sure files may_leave moment images_since away first d held waiting loose heard halt

  abbrev pub UnderBy : AwayState → DeskState S → DeskState S → List Attempt → List Start → Option Attempt → Tally → Option Halt → Type 0
  UnderBy next first d held waiting loose heard halt = Underway trust gives may_fail sources tells kept sure files may_leave moment images_since next first d held waiting loose heard halt

  -- behind a call that closes the loose attempt, or fails, with this going on on links
  pub closes_then : (next : AwayState) (count : S → ℕ) (first d mid after : DeskState S) (k : Option Stop) (a : Attempt) (x : Record) (r : Result (Unit {0}) CloseRefused) (held : List Attempt) (waiting : List Start) (heard later : Tally) (halt halt_now : Option Halt)
      → next.attempts ≡ away.attempts → next.links ≡ away.links → Ending a.rule.0 x → mid ≡ record d { stop = k } → GoesOn trust gives may_fail sources tells files may_leave moment images_since [] d after
      → Closes count mid a.rule a.number a.link x r after → later.failed + next.failed ≡ heard.failed + away.failed + count_one (is_failed x) → (sure → heard.failed ≡ 0 → later.failed ≡ 0) → StoppedBy tells kept sure files first after later halt_now
      → (IsGoing halt_now → IsGoing halt × (sure → IsSmooth next → IsSmooth away × (records_due after.plan (records_of after.moves) + 1 ≤ records_due d.plan (records_of d.moves))))
      → Under first d held waiting (Some a) heard halt → UnderBy next first after held waiting None later halt_now
  closes_then next count first d mid after k a x r held waiting heard later halt halt_now attempts links ending same goes h counted never stopped due u =
      let H = records_of d.moves in
      let G = records_of after.moves in
      let loose : RunsAt d.plan (IsFine d.trouble) H a × NoneHas a.number held = u.taken in
      let logs : IsFine after.trouble → G ≡ H ++ (x ∷ []) = λ fine. closes_logs count d mid k a.rule a.number a.link x r after same (loose.0.runs (goes.works fine)) h fine in
      let many : length next.attempts ≡ length away.attempts = ap length attempts in
      record {
        goes = subst (λ (l : List Move). GoesOn trust gives may_fail sources tells files may_leave moment images_since l first after) (sym links)
            (goes_on trust gives may_fail sources tells files may_leave moment images_since away.links first d after u.goes goes);
        matches = subst (λ (P : Plan). Matches P (IsFine after.trouble) G trust (serial P gives sources) held waiting) (sym goes.plan)
            (matches_on d.plan (IsFine d.trouble) (IsFine after.trouble) H G trust (serial d.plan gives sources) a.number held waiting
            (λ b other was. still_runs d.plan (IsFine d.trouble) (IsFine after.trouble) H G x a b ending.closes goes.works logs loose.0.runs other was) loose.1 u.matches);
        taken = tt;
        here = u.here;
        beyond = subst (AreAway after.plan (IsFine after.trouble) after.moves held None) (sym attempts)
            (subst (λ (P : Plan). AreAway P (IsFine after.trouble) after.moves held None away.attempts) (sym goes.plan)
            (away_on d.plan (IsFine d.trouble) (IsFine after.trouble) d.moves after.moves held held (Some a) None away.attempts
            (λ b at unheld other. (
              runs_away_on d.plan (IsFine d.trouble) (IsFine after.trouble) d.moves after.moves goes.passed b goes.moves
                  (still_runs d.plan (IsFine d.trouble) (IsFine after.trouble) H G x a b ending.closes goes.works logs loose.0.runs (λ same. other (sym same))) at,
              unheld,
              tt,
            )) u.beyond));
        all = λ fine.
            let few : length (running_rules d.plan H) ≤ length held + 1 + length away.attempts = u.all (goes.works fine) in
            let less : length (running_rules d.plan (H ++ (x ∷ []))) + 1 ≤ length (running_rules d.plan H) =
            closing d.plan H x a.rule.0 a.number.0 ending.closes.outs (runs_from d.plan H a.rule.0 a.number.0 a.link.0 loose.0.rule (loose.0.runs (goes.works fine))) ending.closes.stays ending.closes.opens ending.closes.says ending.closes.logs in
            let are : length (running_rules after.plan G) ≡ length (running_rules d.plan (H ++ (x ∷ []))) =
            ap (λ (P : Plan). length (running_rules P G)) goes.plan ∙ ap (λ (L : List Record). length (running_rules d.plan L)) (logs fine) in
            omega (arith, few, less, are, many);
        stopped = stopped;
        failures = λ fine.
            let was : failed_count H ≡ failed_count (records_of first.moves) + heard.failed + away.failed = u.failures (goes.works fine) in
            let more : count_by is_failed (H ++ (x ∷ [])) ≡ count_by is_failed H + count_one (is_failed x) = count-push is_failed H x in
            let are : failed_count G ≡ count_by is_failed (H ++ (x ∷ [])) = ap failed_count (logs fine) in
            omega (arith, was, more, are, counted);
        unended = λ none. closes_unended count d mid k a.rule a.number a.link x r after same ending.closes.stays ending.closes.opens ending.ends h (u.unended none);
        never = λ is. never is (u.never is);
        due = λ going is smooth.
            let both = due going in
            let now = both.1 is smooth in
            let was : records_due d.plan H ≤ records_due first.plan (records_of first.moves) + length held + 1 + length away.attempts = u.due both.0 is now.0 in
            let less : records_due after.plan G + 1 ≤ records_due d.plan H = now.1 in
            omega (arith, was, less, many);
      }

  -- and with nothing else gone on there
  pub closes_under : (count : S → ℕ) (first d mid after : DeskState S) (k : Option Stop) (a : Attempt) (x : Record) (r : Result (Unit {0}) CloseRefused) (held : List Attempt) (waiting : List Start) (heard later : Tally) (halt halt_now : Option Halt)
      → Ending a.rule.0 x → mid ≡ record d { stop = k } → GoesOn trust gives may_fail sources tells files may_leave moment images_since [] d after → Closes count mid a.rule a.number a.link x r after
      → later.failed ≡ heard.failed + count_one (is_failed x) → (sure → heard.failed ≡ 0 → later.failed ≡ 0) → StoppedBy tells kept sure files first after later halt_now
      → (IsGoing halt_now → IsGoing halt × (sure → records_due after.plan (records_of after.moves) + 1 ≤ records_due d.plan (records_of d.moves)))
      → Under first d held waiting (Some a) heard halt → Under first after held waiting None later halt_now
  closes_under count first d mid after k a x r held waiting heard later halt halt_now ending same goes h counted never stopped due u =
      closes_then away count first d mid after k a x r held waiting heard later halt halt_now refl refl ending same goes h (omega (arith, counted)) never stopped
      (λ going. let both = due going in (both.0, λ is smooth. (smooth, both.1 is))) u

  -- How it stopped behind a call that closed an attempt and set no stop: as it had.
  pub closed_stopped : (count : S → ℕ) (first d after : DeskState S) (a : Attempt) (x : Record) (r : Result (Unit {0}) CloseRefused) (held : List Attempt) (waiting : List Start) (heard later : Tally) (halt : Option Halt)
      → IsValid d.plan → Ending a.rule.0 x → r ≡ Ok tt → Closes count d a.rule a.number a.link x r after → GoesOn trust gives may_fail sources tells files may_leave moment images_since [] d after → heard.unrun ≤ later.unrun
      → (tells → ReadsStay files (IsElse d.plan d.log (makes d.plan a.rule.0)) d.site after.site) → Under first d held waiting (Some a) heard halt → StoppedBy tells kept sure files first after later halt
  closed_stopped count first d after a x r held waiting heard later halt valid ending is h goes le reads u =
      let closed : IsClosed d d.stop after = closed_fine count d d d.stop a.rule a.number a.link x r after refl is h in
      let loose : RunsAt d.plan (IsFine d.trouble) (records_of d.moves) a × NoneHas a.number held = u.taken in
      let fine : IsFine after.trouble = subst IsFine (sym closed.trouble) closed.fine in
      let runs = loose.0.runs closed.fine in
      let logs : records_of after.moves ≡ records_of d.moves ++ (x ∷ []) = closes_logs count d d d.stop a.rule a.number a.link x r after refl runs h fine in
      stopped_on tells kept sure files first d after heard later halt closed.trouble closed.stop le
      (λ why told damaged apart. damage_on files d after x a.rule.0 a.number.0 a.link.0 why valid ending runs goes.plan goes.log logs (reads told) damaged apart) u.stopped

  -- the same of a record that is no failure's
  pub closes_plain : (count : S → ℕ) (first d mid after : DeskState S) (k : Option Stop) (a : Attempt) (x : Record) (r : Result (Unit {0}) CloseRefused) (held : List Attempt) (waiting : List Start) (heard : Tally) (halt halt_now : Option Halt)
      → Ending a.rule.0 x → is_failed x ≡ false → mid ≡ record d { stop = k } → GoesOn trust gives may_fail sources tells files may_leave moment images_since [] d after → Closes count mid a.rule a.number a.link x r after
      → StoppedBy tells kept sure files first after heard halt_now
      → (IsGoing halt_now → IsGoing halt × (sure → records_due after.plan (records_of after.moves) + 1 ≤ records_due d.plan (records_of d.moves)))
      → Under first d held waiting (Some a) heard halt → Under first after held waiting None heard halt_now
  closes_plain count first d mid after k a x r held waiting heard halt halt_now ending plain same goes h stopped due u =
      let none : count_one (is_failed x) ≡ 0 = ap count_one plain in
      closes_under count first d mid after k a x r held waiting heard heard halt halt_now ending same goes h (omega (arith, none)) (λ is zero. zero) stopped due u

  -- Why a run is stopped is so behind the giving up of an attempt.
  pub lost_stops : (count : S → ℕ) (d mid after : DeskState S) (k : Option Stop) (a : Attempt) (x : Record) (r : Result (Unit {0}) CloseRefused) (heard : Tally) (why : Halt)
      → IsValid d.plan → Ending a.rule.0 x → mid ≡ record d { stop = k } → r ≡ Ok tt → Closes count mid a.rule a.number a.link x r after → GoesOn trust gives may_fail sources tells files may_leave moment images_since [] d after
      → RunsAt d.plan (IsFine d.trouble) (records_of d.moves) a → (tells → ReadsStay files (λ m. m ≢ mid.log) mid.site after.site) → (IsFine d.trouble → MayStop tells kept sure files d heard why) → MayStop tells kept sure files after heard why
  lost_stops count d mid after k a x r heard why valid ending same is h goes runs_at reads stop =
      let closed : IsClosed d k after = closed_fine count d mid k a.rule a.number a.link x r after same is h in
      let fine : IsFine after.trouble = subst IsFine (sym closed.trouble) closed.fine in
      let runs = runs_at.runs closed.fine in
      let logs : records_of after.moves ≡ records_of d.moves ++ (x ∷ []) = closes_logs count d mid k a.rule a.number a.link x r after same runs h fine in
      may_stop_on tells kept sure files d after heard heard why closed.trouble (omega arith)
      (λ told damaged apart. damage_on files d after x a.rule.0 a.number.0 a.link.0 why valid ending runs goes.plan goes.log logs
      (λ m other. (subst (λ (s : DeskState S). ReadsStay files (λ m. m ≢ s.log) s.site after.site) same (reads told)) m other.0) damaged apart) (stop closed.fine)

  -- an attempt that is finished
  pub finish_goes : (count : S → ℕ) (d after : DeskState S) (a : Attempt) (time : ℕ) (rows : List Content) (r : Result (Unit {0}) CloseRefused) → IsValid d.plan
      → (tells → (image : Files) → images_since d.site (moment d.site) image → IsImage (may_leave d.site) image) → RunsAt d.plan (IsFine d.trouble) (records_of d.moves) a
      → (tells → StaysBeside may_leave moment images_since (IsElse d.plan d.log (makes d.plan a.rule.0)) d.site after.site) → (tells → ReadsStay files (IsElse d.plan d.log (makes d.plan a.rule.0)) d.site after.site)
      → Closes count d a.rule a.number a.link (records.Done time a.rule a.number rows) r after → GoesOn trust gives may_fail sources tells files may_leave moment images_since [] d after
  finish_goes count d after a time rows r valid only_now runs_at others reads h =
      closes_goes trust gives may_fail sources tells files may_leave moment images_since count d d d.stop a.rule a.number a.link (records.Done time a.rule a.number rows) r after refl (λ trusted. tt) (λ none. none)
      (λ fine. adds_plain d.moves d.stop (records.Done time a.rule a.number rows) (λ none. refl)) refl (λ f. refl)
      (λ told. closing_alone files may_leave moment images_since d after a.rule.0 a.number.0 a.link.0 valid (only_now told) runs_at.runs
      (worked_or_same count d a.rule a.number a.link (records.Done time a.rule a.number rows) r after h) (others told) (reads told)) h

  -- a record more that was due
  pub finish_due : (count : S → ℕ) (d after : DeskState S) (a : Attempt) (time : ℕ) (rows : List Content) (r : Result (Unit {0}) CloseRefused) → RunsAt d.plan (IsFine d.trouble) (records_of d.moves) a → r ≡ Ok tt
      → Closes count d a.rule a.number a.link (records.Done time a.rule a.number rows) r after → GoesOn trust gives may_fail sources tells files may_leave moment images_since [] d after
      → records_due after.plan (records_of after.moves) + 1 ≤ records_due d.plan (records_of d.moves)
  finish_due count d after a time rows r runs_at is h goes =
      let x : Record = records.Done time a.rule a.number rows in
      let closed : IsClosed d d.stop after = closed_fine count d d d.stop a.rule a.number a.link x r after refl is h in
      let fine : IsFine after.trouble = subst IsFine (sym closed.trouble) closed.fine in
      let runs = runs_at.runs closed.fine in
      subst (λ (P : Plan). records_due P (records_of after.moves) + 1 ≤ records_due d.plan (records_of d.moves)) (sym goes.plan)
      (due_done d.plan (records_of d.moves) (records_of after.moves) time a.rule a.number rows (closes_logs count d d d.stop a.rule a.number a.link x r after refl runs h fine) runs_at.rule
      (unfinished (records_of d.moves) a.rule.0 a.number.0 a.link.0 runs))

  -- an attempt that is given up, behind a stop
  pub give_up_goes : (count : S → ℕ) (d mid after : DeskState S) (k : Option Stop) (a : Attempt) (time : ℕ) (r : Result (Unit {0}) CloseRefused) → mid ≡ record d { stop = k } → (k ≡ None → ⊥)
      → (tells → StaysBeside may_leave moment images_since (λ m. m ≢ mid.log) mid.site after.site) → (tells → ReadsStay files (λ m. m ≢ mid.log) mid.site after.site)
      → Closes count mid a.rule a.number a.link (records.Lost time a.rule a.number) r after → GoesOn trust gives may_fail sources tells files may_leave moment images_since [] d after
  give_up_goes count d mid after k a time r same unset others reads h =
      closes_goes trust gives may_fail sources tells files may_leave moment images_since count d mid k a.rule a.number a.link (records.Lost time a.rule a.number) r after same (λ trusted. tt)
      (λ none. absurd (unset none)) (λ fine none. absurd (unset none)) refl (λ f. refl)
      (λ told. log_alone files may_leave moment images_since mid.plan mid.log (records_of mid.moves) mid.site after.site (others told) (reads told)) h

  -- an attempt whose command failed
  pub fail_goes : (count : S → ℕ) (d after : DeskState S) (a : Attempt) (time : ℕ) (why : Failure) (r : Result (Unit {0}) CloseRefused)
      → (trust → (row : Rule) → slice_get d.plan.rules a.rule.0 ≡ Some row → may_fail (job_of d.plan row (serial d.plan gives sources)) why)
      → (tells → StaysBeside may_leave moment images_since (λ m. m ≢ d.log) d.site after.site) → (tells → ReadsStay files (λ m. m ≢ d.log) d.site after.site)
      → Closes count d a.rule a.number a.link (records.Failed time a.rule a.number why) r after → GoesOn trust gives may_fail sources tells files may_leave moment images_since [] d after
  fail_goes count d after a time why r honest others reads h =
      closes_goes trust gives may_fail sources tells files may_leave moment images_since count d d d.stop a.rule a.number a.link (records.Failed time a.rule a.number why) r after refl honest
      (λ none. none) (λ fine. adds_plain d.moves d.stop (records.Failed time a.rule a.number why) (λ none. refl)) refl (λ f. refl)
      (λ told. log_alone files may_leave moment images_since d.plan d.log (records_of d.moves) d.site after.site (others told) (reads told)) h

  -- an attempt on a link that is given up
  pub lose_goes : (count : S → ℕ) (d after : DeskState S) (a : Attempt) (time : ℕ) (r : Result (Unit {0}) CloseRefused) → IsLegal d.plan (records_of d.moves) → RunsAway d.plan (IsFine d.trouble) d.moves a
      → (tells → StaysBeside may_leave moment images_since (λ m. m ≢ d.log) d.site after.site) → (tells → ReadsStay files (λ m. m ≢ d.log) d.site after.site)
      → Closes count d a.rule a.number a.link (records.Lost time a.rule a.number) r after → GoesOn trust gives may_fail sources tells files may_leave moment images_since [] d after
  lose_goes count d after a time r legal runs others reads h =
      closes_goes trust gives may_fail sources tells files may_leave moment images_since count d d d.stop a.rule a.number a.link (records.Lost time a.rule a.number) r after refl (λ trusted. tt)
      (λ none. none)
      (λ fine none. (
        runs_started_away d.plan (plan_digest d.plan) (records_of d.moves) a.rule.0 a.number.0 a.link.0 legal runs.beyond (runs.at.runs fine),
        λ unlinked. absurd (named_unlinked a.link.0 d.moves runs.named unlinked),
      )) refl (λ f. refl)
      (λ told. log_alone files may_leave moment images_since d.plan d.log (records_of d.moves) d.site after.site (others told) (reads told)) h
