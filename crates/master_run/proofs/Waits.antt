-- When a call ends since nobody came.
use Rattle.std.proofs.Common.{◌≡◌, ◌≤◌, ◌∙◌, ℕ, Bool, true, false, not, ◌&&◌, List, [], ◌∷◌, Option, Some, None, Result, Ok, Err, IfOk, refl, sym, ap, subst, true≢false}
use Rattle.std.specs.Prelude.{IsOk, filter, find, if◌then◌else◌, is_some, unwrap_or}
use Rattle.std.specs.List.{list_all}
use Rattle.std.specs.Option.{option_and_then, option_map_or}
use Rattle.flow_types.specs.declared.job.Failure.{Failure}
use Rattle.flow_types.specs.declared.numbers.Content.{Content}
use Rattle.flow_types.specs.declared.numbers.FileNo.{FileNo}
use Rattle.flow_types.specs.declared.plan.Plan.{Plan}
use Rattle.flow_types.specs.declared.records.Record.{Record}
use Rattle.flow_types.specs.Plans.{is_empty, is_source, rule_numbers}
use Rattle.run_history.specs.Admissions.{Admitting, is_in_vain_by}
use Rattle.run_history.specs.declared.answers.Check.{Check}
use Rattle.run_history.specs.declared.answers.Check.TheVariants as check
use Rattle.run_history.specs.declared.answers.Stop.{Stop}
use Rattle.run_history.specs.declared.answers.Stop.TheVariants as stops
use Rattle.run_history.specs.declared.answers.Wait.{Wait}
use Rattle.run_history.specs.declared.moves.Move.{Move}
use Rattle.run_history.specs.declared.options.Options.{Options as RunOptions}
use Rattle.run_history.specs.declared.states.Found.{Found}
use Rattle.run_history.specs.Answers.{before_end, collected_count, end_over, failed_answer, idles_in, is_halt, last_why, log_full, no_room, of_least, or_else, passes_inputs, rule_no, where_none, where_so}
use Rattle.run_history.specs.Legal.{has_places}
use Rattle.run_history.specs.Storage.{fits_storage, has_failed, input_bytes, is_complete, ready_rules, running_rules, wanted}
use Rattle.outside.specs.declared.fault.Fault.TheVariants as devices
use Rattle.desk.specs.declared.answers.StartFault.TheVariants as faults
use Rattle.log_recover.specs.declared.fault.RecoverFault.{RecoverFault}
use Rattle.log_recover.specs.declared.fault.RecoverFault.TheVariants as recovery
use Rattle.local_run.specs.declared.halt.Halt.TheVariants as halts
use Rattle.local_run.specs.declared.ended.Stopped.{Stopped}
use Rattle.local_run.specs.declared.ended.Stopped.TheVariants as stopped
use Rattle.local_run.specs.Ends.{IsRunEnd}
use Rattle.local_run.proofs.EndKinds.{Says, least_says, so_says}
use Rattle.wq_run.specs.Ends.{EndsWaiting, IsVain}
use Rattle.wq_run.specs.Vain.{IfWaited as IfAnswered}
use Rattle.flow_run.proofs.Dues.{by_either}
use Rattle.command_words.specs.declared.options.Options.{Options}
use Rattle.report.specs.declared.cause.Cause.{Cause}
use Rattle.report.specs.declared.cause.Cause.TheVariants as causes
use Rattle.report.specs.Causes.{kind_of}
use Rattle.master_run.specs.declared.ask.Ask.{Ask}
use Rattle.master_run.specs.declared.rises.Rise.{Rise}
use Rattle.master_run.specs.Asked.{IsLocal, run_options}
use Rattle.master_run.specs.Headline.{IfWaited, WaitsInVain, is_run_end, is_waited}
use Rattle.master_run.specs.Runs.{run_cause, unread_cause}

-- ---- of what an end answers

-- if the answer is a wait, this was the stop
abbrev Because : Option Stop → Check → Type 0
Because stop (check.Waited wait) = stop ≡ Some (stops.Waited wait.idles)
Because stop ended = Unit {0}

else_says : (Q : Check → Type 0) (first rest : Option Check) → Says Q first → Says Q rest → Says Q (or_else first rest)
else_says Q None rest here later = later
else_says Q (Some ended) rest here later = here

at_last : (Q : Check → Type 0) (o : Option Check) → Q check.Going → Says Q o → Q (unwrap_or o check.Going)
at_last Q None going said = going
at_last Q (Some ended) going said = said

failed_says : (Q : Check → Type 0) (H : List Record) (o : Option ℕ) → ((r : ℕ) (why : Failure) → Q (check.CommandFailed (rule_no r) why)) → Says Q (option_and_then (failed_answer H) o)
failed_says Q H None each = tt
failed_says Q H (Some r) each = by_why (last_why H r)
  where
    by_why : (w : Option Failure) → Says Q (option_map_or (λ why. Some (check.CommandFailed (rule_no r) why)) w None)
    by_why None = tt
    by_why (Some why) = each r why

none_says : (Q : Check → Type 0) (others xs : List ℕ) (said : ℕ → Check) → ((r : ℕ) → Q (said r)) → Says Q (where_none others xs said)
none_says Q [] xs said each = least_says Q xs said each
none_says Q (y ∷ ys) xs said each = tt

wait_says : (stop : Option Stop) (roomy : List ℕ) → Says (Because stop) (option_and_then (λ idles. of_least roomy (λ r. check.Waited (record { idles = idles; rule = rule_no r }))) (option_and_then idles_in stop))
wait_says None roomy = tt
wait_says (Some stops.Halt) roomy = tt
wait_says (Some (stops.Waited idles)) roomy = least_says (Because (Some (stops.Waited idles))) roomy (λ r. check.Waited (record { idles = idles; rule = rule_no r })) (λ r. refl)

-- if the answer is a wait, this holds of it
abbrev Answers : (Wait → Type 0) → Check → Type 0
Answers fact (check.Waited wait) = fact wait
Answers fact ended = Unit {0}

-- An end answers a wait only by a stop for it.
waits_by : (P : Plan) (O : RunOptions) (H : List Record) (stop : Option Stop) → Because stop (end_over P O H stop)
waits_by P O H stop =
    let Q : Check → Type 0 = Because stop in
    let ready : List ℕ = ready_rules P H in
    let roomy : List ℕ = filter (fits_storage P H) ready in
    let wants : Bool = is_some (wanted P O.mode H) in
    at_last Q _ tt
    (else_says Q (where_so (not (is_empty (running_rules P H))) check.Going) _ (so_says Q (not (is_empty (running_rules P H))) check.Going (λ is. tt))
    (else_says Q (where_so (option_map_or is_halt stop false) check.Halted) _ (so_says Q (option_map_or is_halt stop false) check.Halted (λ is. tt))
    (else_says Q (option_and_then (failed_answer H) (find (has_failed H) (rule_numbers P))) _ (failed_says Q H (find (has_failed H) (rule_numbers P)) (λ r why. tt))
    (else_says Q (where_so (wants && not (has_places P H 1)) (log_full H)) _ (so_says Q (wants && not (has_places P H 1)) (log_full H) (λ is. tt))
    (else_says Q (where_so wants check.Going) _ (so_says Q wants check.Going (λ is. tt))
    (else_says Q (where_so (list_all (is_complete H) (rule_numbers P)) (check.Complete (collected_count P H))) _ (so_says Q (list_all (is_complete H) (rule_numbers P)) (check.Complete (collected_count P H)) (λ is. tt))
    (else_says Q (option_and_then (λ idles. of_least roomy (λ r. check.Waited (record { idles = idles; rule = rule_no r }))) (option_and_then idles_in stop)) _ (wait_says stop roomy)
    (else_says Q (of_least (filter (passes_inputs P H) ready) (λ r. check.InputsTooLarge (rule_no r) (input_bytes P H r))) _ (least_says Q (filter (passes_inputs P H) ready) (λ r. check.InputsTooLarge (rule_no r) (input_bytes P H r)) (λ r. tt))
    (else_says Q (where_so (not (has_places P H 2)) (log_full H)) _ (so_says Q (not (has_places P H 2)) (log_full H) (λ is. tt))
    (else_says Q (where_none roomy ready (no_room P H)) None (none_says Q roomy ready (no_room P H) (λ r. tt)) tt))))))))))

-- ---- of how a run ended

vain_at : (E : Admitting) (P : Plan) (O : RunOptions) (M : List Move) (limit rise idles : ℕ) (stop : Option Stop) → stop ≡ Some (stops.Waited idles) → IsVain E P O M limit rise stop → (limit ≤ idles) × (idles ≤ rise) × (is_in_vain_by E P O M ≡ true)
vain_at E P O M limit rise idles stop same vain = subst (IsVain E P O M limit rise) same vain

waits_in : (E : Admitting) (wq : Bool) (P : Plan) (O : RunOptions) (most rise : ℕ) (limit : Option ℕ) (records : List Record) (wait : Wait) → O.wq ≡ wq → (wq ≡ false → IsRunEnd limit (check.Waited wait)) → (wq ≡ true → EndsWaiting E P O most rise records (check.Waited wait))
    → WaitsInVain E P O most rise records wait
waits_in E false P O most rise limit records wait is closed away = absurd (closed refl)
waits_in E true P O most rise limit records wait is closed away =
    let w = away refl in
    let because : w.stop ≡ Some (stops.Waited wait.idles) = subst (Because w.stop) (sym w.answer) (waits_by P O (before_end records) w.stop) in
    let vain = vain_at E P O w.moves most rise wait.idles w.stop because w.vain in
    record { asked = is; least = vain.0; most = vain.1; moves = w.moves; logged = w.logged; vain = vain.2 }

damage_waits : (fact : Wait → Type 0) (source : Bool) (file : FileNo) (logged : Content) (found : Found) → IfWaited (if source then causes.SourceChanged file logged found else causes.FileDamaged file logged found) fact
damage_waits fact true file logged found = tt
damage_waits fact false file logged found = tt

-- where the cause of a run is a wait this holds of it, since the run answered it
cause_waits : (fact : Wait → Type 0) (P : Plan) (s r h : Rise) (how : Result Check Stopped) → IfOk how (Answers fact) → IfWaited (run_cause s r h P how) fact
cause_waits fact P s r h (Ok (check.Complete collected)) says = tt
cause_waits fact P s r h (Ok (check.CommandFailed rule why)) says = tt
cause_waits fact P s r h (Ok (check.InputsTooLarge rule total)) says = tt
cause_waits fact P s r h (Ok (check.LogFull count)) says = tt
cause_waits fact P s r h (Ok (check.NoRoom rule need bytes limit)) says = tt
cause_waits fact P s r h (Ok (check.Waited wait)) says = says
cause_waits fact P s r h (Ok check.Going) says = tt
cause_waits fact P s r h (Ok check.Halted) says = tt
cause_waits fact P s r h (Err (stopped.Refused (faults.OtherFlow logged found))) says = tt
cause_waits fact P s r h (Err (stopped.Refused (faults.NotLegal at))) says = tt
cause_waits fact P s r h (Err (stopped.Refused (faults.LogFull count))) says = tt
cause_waits fact P s r h (Err (stopped.Refused (faults.StoredAboveLimit bytes limit))) says = tt
cause_waits fact P s r h (Err (stopped.Refused (faults.SourceMissing file))) says = tt
cause_waits fact P s r h (Err (stopped.Refused (faults.SourceTooLarge file size))) says = tt
cause_waits fact P s r h (Err (stopped.Refused (faults.SourceChanged file logged found))) says = tt
cause_waits fact P s r h (Err (stopped.Refused (faults.FileDamaged file logged found))) says = tt
cause_waits fact P s r h (Err (stopped.Refused (faults.Site old new))) says = tt
cause_waits fact P s r h (Err (stopped.Refused faults.Memory)) says = tt
cause_waits fact P s r h (Err (stopped.Halted (halts.Damaged file logged found))) says = damage_waits fact (is_source P file.0) file logged found
cause_waits fact P s r h (Err (stopped.Halted halts.Runner)) says = tt
cause_waits fact P s r h (Err (stopped.Halted halts.Site)) says = tt
cause_waits fact P s r h (Err (stopped.Halted halts.Memory)) says = tt
cause_waits fact P s r h (Err stopped.Hall) says = tt
cause_waits fact P s r h (Err (stopped.Unheard devices.Failed)) says = tt
cause_waits fact P s r h (Err (stopped.Unheard devices.Memory)) says = tt
cause_waits fact P s r h (Err (stopped.Unopened devices.Failed)) says = tt
cause_waits fact P s r h (Err (stopped.Unopened devices.Memory)) says = tt

waits_ended : (E : Admitting) (ask : Ask) (rise : ℕ) (records : List Record) (ended : Check) → (ask.options.wq ≡ false → IsRunEnd ask.options.limit ended) → (ask.options.wq ≡ true → EndsWaiting E ask.plan ask.options ask.workers.limit rise records ended)
    → Answers (WaitsInVain E ask.plan ask.options ask.workers.limit rise records) ended
waits_ended E ask rise records (check.Waited wait) closed away = waits_in E ask.options.wq ask.plan ask.options ask.workers.limit rise ask.options.limit records wait refl closed away
waits_ended E ask rise records _ closed away = tt

-- where the cause of a run is a wait it waited in vain
pub waited_run : (E : Admitting) (ask : Ask) (rise : ℕ) (s r h : Rise) (records : List Record) (how : Result Check Stopped) → (ask.options.wq ≡ false → IfOk how (IsRunEnd ask.options.limit)) → (ask.options.wq ≡ true → IfOk how (EndsWaiting E ask.plan ask.options ask.workers.limit rise records))
    → IfWaited (run_cause s r h ask.plan how) (WaitsInVain E ask.plan ask.options ask.workers.limit rise records)
waited_run E ask rise s r h records (Ok ended) closed away = cause_waits (WaitsInVain E ask.plan ask.options ask.workers.limit rise records) ask.plan s r h (Ok ended) (waits_ended E ask rise records ended closed away)
waited_run E ask rise s r h records (Err why) closed away = cause_waits (WaitsInVain E ask.plan ask.options ask.workers.limit rise records) ask.plan s r h (Err why) tt

vain_ended : (so : Type 0) (wq : Bool) (limit : Option ℕ) (ended : Check) → (wq ≡ false → IsRunEnd limit ended) → (wq ≡ true → IfAnswered ended so) → Answers (λ wait. so) ended
vain_ended so wq limit (check.Waited wait) closed away = by_either wq (λ is. away is) (λ alone. absurd (closed alone))
vain_ended so wq limit _ closed away = tt

-- where the cause of a run is a wait what is so of it with workers is so
pub vain_run : (so : Type 0) (wq : Bool) (limit : Option ℕ) (P : Plan) (s r h : Rise) (how : Result Check Stopped) → (wq ≡ false → IfOk how (IsRunEnd limit)) → (wq ≡ true → IfOk how (λ ended. IfAnswered ended so)) → IfWaited (run_cause s r h P how) (λ wait. so)
vain_run so wq limit P s r h (Ok ended) closed away = cause_waits (λ (wait : Wait). so) P s r h (Ok ended) (vain_ended so wq limit ended closed away)
vain_run so wq limit P s r h (Err why) closed away = cause_waits (λ (wait : Wait). so) P s r h (Err why) tt

-- ---- of other calls

pub none_waits : (fact : Wait → Type 0) (cause : Cause) → is_waited (kind_of cause) ≡ false → IfWaited cause fact
none_waits fact (causes.Waited wait) none = absurd (true≢false none)
none_waits fact _ none = tt

pub unread_waits : (fact : Wait → Type 0) (s : Rise) (why : RecoverFault) → IfWaited (unread_cause s why) fact
unread_waits fact s recovery.Site = tt
unread_waits fact s recovery.BadHeader = tt
unread_waits fact s (recovery.BadRecord at) = tt
unread_waits fact s recovery.Memory = tt

-- work that runs nothing
pub still_waits : (fact : Wait → Type 0) (cause : Cause) → is_run_end (kind_of cause) ≡ false → IfWaited cause fact
still_waits fact (causes.Waited wait) still = absurd (true≢false still)
still_waits fact _ still = tt

-- ---- of the words

-- where no worker is asked for none is asked for
pub local_ask : (choice : Result Options Cause) (ask : Ask) → IsOk choice → ((options : Options) → choice ≡ Ok options → ask.options ≡ run_options options) → IsLocal choice → ask.options.wq ≡ false
local_ask (Ok options) ask ok goes_by local = ap (λ (O : RunOptions). O.wq) (goes_by options refl) ∙ local
local_ask (Err refusal) ask ok goes_by local = absurd (true≢false (sym ok))
