-- What an end answers of a run without a stop.
use Rattle.std.proofs.Common.{◌≡◌, ◌+◌, ◌∙◌, ℕ, Bool, true, false, cond, not, ◌&&◌, ◌||◌, List, [], ◌∷◌, length, Option, Some, None, Result, Ok, Err, refl, sym, ap, subst, arith, true≢false}
use Rattle.std.specs.Prelude.{filter, find, is_none, is_some, nat_lt, unwrap_or}
use Rattle.std.specs.List.{before_last, list_all, list_any}
use Rattle.std.specs.Option.{option_and_then, option_map_or}
use Rattle.std.proofs.lemmas.Bool.{and_parts, ltb-true}
use Rattle.flow_types.specs.declared.job.Failure.{Failure}
use Rattle.flow_types.specs.declared.plan.Plan.{Plan}
use Rattle.flow_types.specs.declared.records.Record.{Record}
use Rattle.flow_types.specs.Plans.{IsValid, is_empty, rule_numbers}
use Rattle.run_history.specs.declared.options.Options.{Options}
use Rattle.run_history.specs.declared.moves.Move.{Move}
use Rattle.run_history.specs.declared.answers.Stop.{Stop}
use Rattle.run_history.specs.declared.answers.Stop.TheVariants as stops
use Rattle.run_history.specs.declared.answers.Nothing.{Nothing}
use Rattle.run_history.specs.declared.answers.Nothing.TheVariants as nothing
use Rattle.run_history.specs.declared.answers.Check.{Check}
use Rattle.run_history.specs.declared.answers.Check.TheVariants as checks
use Rattle.run_history.specs.History.{is_end, part, since_opening}
use Rattle.run_history.specs.States.{limit_of}
use Rattle.run_history.specs.Storage.{fits_storage, has_failed, input_bytes, is_complete, is_ready, is_within, ready_rules, reserved, rule_bound, running_rules, stored, wanted}
use Rattle.run_history.specs.Legal.{has_places, is_stopped}
use Rattle.run_history.specs.Links.{fits, records_of}
use Rattle.run_history.specs.Admissions.{Admitting, by_admitted, claim_by, may_be_stored}
use Rattle.run_history.specs.Answers.{collected_count, end_of, end_over, failed_answer, file_no, has_ended, idles_in, is_halt, is_waited_end, last_why, log_full, no_room, of_least, or_else, passes_inputs, rule_no, where_none, where_so}
use Rattle.run_history.proofs.Bools.{range_all}
use Rattle.run_history.proofs.Completes.{all_kept}
use Rattle.run_history.proofs.Going.{going-rule, idle-fits}
use Rattle.rule_graph.specs.Spelling.{plan_digest}
use Rattle.task_core.specs.Collections.{collection_by, collection_of}
use Rattle.desk.specs.Kept.{IsLegal}
use Rattle.local_run.specs.Course.{is_collect_first}
use Rattle.local_run.specs.Ends.{FitsHere, IsRunEnd}
use Rattle.local_run.proofs.Failures.{none_failed}
use Rattle.local_run.proofs.Permitted.{admitted_there, not_refused, roomy_there}

-- it is so of the answer, where there is one
abbrev pub Says : (Check → Type 0) → Option Check → Type 0
Says Q None = Unit {0}
Says Q (Some check) = Q check

else_says : (Q : Check → Type 0) (first rest : Option Check) → Says Q first → (first ≡ None → Says Q rest) → Says Q (or_else first rest)
else_says Q None rest here then = then refl
else_says Q (Some check) rest here then = here

at_last : (Q : Check → Type 0) (o : Option Check) → Q checks.Going → Says Q o → Q (unwrap_or o checks.Going)
at_last Q None going said = going
at_last Q (Some check) going said = said

pub so_says : (Q : Check → Type 0) (b : Bool) (check : Check) → (b ≡ true → Q check) → Says Q (where_so b check)
so_says Q true check so = so refl
so_says Q false check so = tt

pub least_says : (Q : Check → Type 0) (xs : List ℕ) (said : ℕ → Check) → ((r : ℕ) → Q (said r)) → Says Q (of_least xs said)
least_says Q [] said each = tt
least_says Q (x ∷ xs) said each = each x

failed_says : (Q : Check → Type 0) (H : List Record) (o : Option ℕ) → ((r : ℕ) → o ≡ Some r → (why : Failure) → Q (checks.CommandFailed (rule_no r) why)) → Says Q (option_and_then (failed_answer H) o)
failed_says Q H None each = tt
failed_says Q H (Some r) each = by_why (last_why H r)
  where
    by_why : (w : Option Failure) → Says Q (option_map_or (λ why. Some (checks.CommandFailed (rule_no r) why)) w None)
    by_why None = tt
    by_why (Some why) = each r refl why

room_says : (Q : Check → Type 0) (others xs : List ℕ) (said : ℕ → Check) → others ≡ xs → Says Q (where_none others xs said)
room_says Q [] [] said same = tt
room_says Q [] (x ∷ xs) said same = absurd (true≢false (ap is_empty same))
room_says Q (y ∷ ys) xs said same = tt

-- without a limit each rule has room
all_fit : (P : Plan) (H : List Record) → limit_of H ≡ None → filter (fits_storage P H) (ready_rules P H) ≡ ready_rules P H
all_fit P H limitless = all_kept (fits_storage P H) (ready_rules P H) (λ r. ap (is_within (stored P H + reserved P H + rule_bound P r)) limitless)

none_says : (Q : Check → Type 0) (others xs : List ℕ) (said : ℕ → Check) → ((r : ℕ) → Q (said r)) → Says Q (where_none others xs said)
none_says Q [] xs said each = least_says Q xs said each
none_says Q (y ∷ ys) xs said each = tt

-- only where there is a limit is there no room
limit_says : (Q : Check → Type 0) (P : Plan) (H : List Record) (limit : Option ℕ) → limit_of H ≡ limit → ((r most : ℕ) → limit ≡ Some most → Q (checks.NoRoom (rule_no r) (rule_bound P r) (stored P H) most))
    → Says Q (where_none (filter (fits_storage P H) (ready_rules P H)) (ready_rules P H) (no_room P H))
limit_says Q P H None is room = room_says Q (filter (fits_storage P H) (ready_rules P H)) (ready_rules P H) (no_room P H) (all_fit P H is)
limit_says Q P H (Some most) is room =
    none_says Q (filter (fits_storage P H) (ready_rules P H)) (ready_rules P H) (no_room P H)
    (λ r. subst (λ (n : ℕ). Q (checks.NoRoom (rule_no r) (rule_bound P r) (stored P H) n)) (sym (ap (λ (o : Option ℕ). unwrap_or o 0) is)) (room r most refl))

-- a stop for waiting says that the run waited for one of these
waited_says : (Q : Check → Type 0) (rules : List ℕ) (stop : Option Stop) → ((idles r : ℕ) → stop ≡ Some (stops.Waited idles) → Q (checks.Waited (record { idles = idles; rule = rule_no r })))
    → Says Q (option_and_then (λ idles. of_least rules (λ r. checks.Waited (record { idles = idles; rule = rule_no r }))) (option_and_then idles_in stop))
waited_says Q rules None each = tt
waited_says Q rules (Some stops.Halt) each = tt
waited_says Q rules (Some (stops.Waited idles)) each = least_says Q rules (λ r. checks.Waited (record { idles = idles; rule = rule_no r })) (λ r. each idles r refl)

-- What may be so of every answer of an end over records with this limit, where the run may have waited in vain and wasn't stopped at once.
pub over_says_by : (Q : Check → Type 0) (P : Plan) (O : Options) (H : List Record) (limit : Option ℕ) (stop : Option Stop) → limit_of H ≡ limit → option_map_or is_halt stop false ≡ false → Q checks.Going
    → ((r : ℕ) → find (has_failed H) (rule_numbers P) ≡ Some r → (why : Failure) → Q (checks.CommandFailed (rule_no r) why))
    → ((is_some (wanted P O.mode H) && not (has_places P H 1)) ≡ true → Q (log_full H))
    → Q (checks.Complete (collected_count P H))
    → ((idles r : ℕ) → stop ≡ Some (stops.Waited idles) → Q (checks.Waited (record { idles = idles; rule = rule_no r })))
    → (list_all (is_complete H) (rule_numbers P) ≡ false → Says Q (of_least (filter (passes_inputs P H) (ready_rules P H)) (λ r. checks.InputsTooLarge (rule_no r) (input_bytes P H r))))
    → (list_all (is_complete H) (rule_numbers P) ≡ false → not (has_places P H 2) ≡ true → Q (log_full H))
    → ((r most : ℕ) → limit ≡ Some most → Q (checks.NoRoom (rule_no r) (rule_bound P r) (stored P H) most))
    → Q (end_over P O H stop)
over_says_by Q P O H limit stop limited unstopped going failed wanting complete waited large full room =
    let ready : List ℕ = ready_rules P H in
    let roomy : List ℕ = filter (fits_storage P H) ready in
    let all : Bool = list_all (is_complete H) (rule_numbers P) in
    at_last Q _ going
    (else_says Q (where_so (not (is_empty (running_rules P H))) checks.Going) _ (so_says Q (not (is_empty (running_rules P H))) checks.Going (λ runs. going)) (λ n1.
    (else_says Q (where_so (option_map_or is_halt stop false) checks.Halted) _ (so_says Q (option_map_or is_halt stop false) checks.Halted (λ is. absurd (true≢false (sym is ∙ unstopped)))) (λ n2.
    (else_says Q (option_and_then (failed_answer H) (find (has_failed H) (rule_numbers P))) _ (failed_says Q H (find (has_failed H) (rule_numbers P)) failed) (λ n3.
    (else_says Q (where_so (is_some (wanted P O.mode H) && not (has_places P H 1)) (log_full H)) _ (so_says Q (is_some (wanted P O.mode H) && not (has_places P H 1)) (log_full H) wanting) (λ n4.
    (else_says Q (where_so (is_some (wanted P O.mode H)) checks.Going) _ (so_says Q (is_some (wanted P O.mode H)) checks.Going (λ wants. going)) (λ n5.
    (else_says Q (where_so all (checks.Complete (collected_count P H))) _ (so_says Q all (checks.Complete (collected_count P H)) (λ done. complete)) (λ n6.
    (let more : all ≡ false = not_all all n6 in
    else_says Q (option_and_then (λ idles. of_least roomy (λ r. checks.Waited (record { idles = idles; rule = rule_no r }))) (option_and_then idles_in stop)) _ (waited_says Q roomy stop waited) (λ n7.
    (else_says Q (of_least (filter (passes_inputs P H) ready) (λ r. checks.InputsTooLarge (rule_no r) (input_bytes P H r))) _ (large more) (λ n8.
    (else_says Q (where_so (not (has_places P H 2)) (log_full H)) _ (so_says Q (not (has_places P H 2)) (log_full H) (full more)) (λ n9.
    (else_says Q (where_none roomy ready (no_room P H)) None (limit_says Q P H limit limited room) (λ n10. tt))))))))))))))))))))
  where
    not_all : (all : Bool) → where_so all (checks.Complete (collected_count P H)) ≡ None → all ≡ false
    not_all true is = absurd (true≢false (ap is_some is))
    not_all false is = refl

-- The same without a stop.
pub over_says : (Q : Check → Type 0) (P : Plan) (O : Options) (H : List Record) (limit : Option ℕ) → limit_of H ≡ limit → Q checks.Going
    → ((r : ℕ) → find (has_failed H) (rule_numbers P) ≡ Some r → (why : Failure) → Q (checks.CommandFailed (rule_no r) why))
    → ((is_some (wanted P O.mode H) && not (has_places P H 1)) ≡ true → Q (log_full H))
    → Q (checks.Complete (collected_count P H))
    → (list_all (is_complete H) (rule_numbers P) ≡ false → Says Q (of_least (filter (passes_inputs P H) (ready_rules P H)) (λ r. checks.InputsTooLarge (rule_no r) (input_bytes P H r))))
    → (list_all (is_complete H) (rule_numbers P) ≡ false → not (has_places P H 2) ≡ true → Q (log_full H))
    → ((r most : ℕ) → limit ≡ Some most → Q (checks.NoRoom (rule_no r) (rule_bound P r) (stored P H) most))
    → Q (end_over P O H None)
over_says Q P O H limit limited going failed wanting complete large full room =
    over_says_by Q P O H limit None limited refl going failed wanting complete (λ idles r waits. absurd (true≢false (ap is_none waits))) large full room

-- the answer is one of a run's ends, or that it goes on
abbrev EndsOrGoes : Option ℕ → Check → Type 0
EndsOrGoes limit (checks.Complete collected) = Unit {0}
EndsOrGoes limit (checks.CommandFailed rule why) = Unit {0}
EndsOrGoes limit (checks.InputsTooLarge rule total) = Unit {0}
EndsOrGoes limit (checks.LogFull records) = Unit {0}
EndsOrGoes limit (checks.NoRoom rule need stored most) = limit ≡ Some most
EndsOrGoes limit checks.Going = Unit {0}
EndsOrGoes limit check = ⊥

run_end : (limit : Option ℕ) (check : Check) → EndsOrGoes limit check → (check ≡ checks.Going → ⊥) → IsRunEnd limit check
run_end limit (checks.Complete collected) is stays = tt
run_end limit (checks.CommandFailed rule why) is stays = tt
run_end limit (checks.InputsTooLarge rule total) is stays = tt
run_end limit (checks.LogFull records) is stays = tt
run_end limit (checks.NoRoom rule need stored most) is stays = is
run_end limit checks.Going is stays = absurd (stays refl)
run_end limit (checks.Waited wait) is stays = absurd is
run_end limit checks.Halted is stays = absurd is

-- an end over the records of a run that hasn't ended
pub unended_over : (P : Plan) (O : Options) (M : List Move) → has_ended (records_of M) ≡ false → end_of P O M None ≡ end_over P O (records_of M) None
unended_over P O M unended = by_test (has_ended (records_of M)) unended
  where
    by_test : (b : Bool) → b ≡ false
        → end_over P O (cond b (before_last is_end (records_of M)) (records_of M)) (cond (b && not (list_any is_waited_end (since_opening (records_of M)))) None None) ≡ end_over P O (records_of M) None
    by_test true is = absurd (true≢false is)
    by_test false is = refl

-- Where no rule runs or has failed by these records, no file is wanted and some ready rule fits the storage, one that does is admitted.
abbrev pub AdmitsHere : Admitting → Plan → Options → List Record → Type 0
AdmitsHere A P O H =
    is_empty (running_rules P H) ≡ true → list_any (has_failed H) (rule_numbers P) ≡ false → is_none (wanted P O.mode H) ≡ true → list_any (fits_storage P H) (ready_rules P H) ≡ true
    → list_any (may_be_stored A P O H) (ready_rules P H) ≡ true

-- What holds of the desk of a run as a claim for the local place gives nothing.
pub record Rests (A : Admitting) (P : Plan) (O : Options) (M : List Move) : Type 0 where
  pub valid : IsValid P
  pub legal : IsLegal P (records_of M)
  pub opened : is_empty (part (records_of M)) ≡ false
  pub idle : is_empty (running_rules P (records_of M)) ≡ true
  pub unended : has_ended (records_of M) ≡ false
  pub limited : limit_of (records_of M) ≡ O.limit
  pub why : Nothing
  pub none : claim_by A P O M None 0 ≡ Err why
  pub undropped : is_collect_first why ≡ true → (file : ℕ) → collection_of P O M ≡ Ok (Some file) → ⊥
  pub one : AdmitsHere A P O (records_of M)

fits_all : (P : Plan) (O : Options) (M : List Move) (rs : List ℕ) → is_empty (running_rules P (records_of M)) ≡ true → FitsHere P O → list_all (λ r. nat_lt r (length P.rules)) rs ≡ true
    → list_all (λ r. fits P O M r 0) (filter (is_ready P (records_of M)) rs) ≡ true
fits_all P O M [] idle here inside = refl
fits_all P O M (r ∷ rs) idle here inside =
    let parts = and_parts (nat_lt r (length P.rules)) (list_all (λ r. nat_lt r (length P.rules)) rs) inside in
    by_test (is_ready P (records_of M) r) (idle-fits P O M r idle (here.needs r (ltb-true r (length P.rules) parts.0))) (fits_all P O M rs idle here parts.1)
  where
    by_test : (b : Bool) → fits P O M r 0 ≡ true → list_all (λ r. fits P O M r 0) (filter (is_ready P (records_of M)) rs) ≡ true
        → list_all (λ r. fits P O M r 0) (cond b (r ∷ filter (is_ready P (records_of M)) rs) (filter (is_ready P (records_of M)) rs)) ≡ true
    by_test true fit rest = ap (λ t. t && list_all (λ r. fits P O M r 0) (filter (is_ready P (records_of M)) rs)) fit ∙ rest
    by_test false fit rest = rest

-- what is to be dropped first comes before all else of a run that isn't stopped
first_of_all : (stopped : Bool) (file : Option ℕ) (f : ℕ) (rest : Option Nothing) (rule : Result ℕ Nothing) (admitted : List ℕ) (why : Nothing) → stopped ≡ false → file ≡ Some f
    → by_admitted (option_map_or Err (or_else (where_so stopped nothing.Stopping) (or_else (option_map_or (λ g. Some (nothing.CollectFirst (file_no g))) file None) rest)) rule) admitted ≡ Err why → is_collect_first why ≡ true
first_of_all true file f rest rule admitted why going is claim = absurd (true≢false going)
first_of_all false None f rest rule admitted why going is claim = absurd (true≢false (sym (ap is_some is)))
first_of_all false (Some g) f rest rule admitted why going is claim = sym (ap is_first claim)
  where
    is_first : Result ℕ Nothing → Bool
    is_first (Ok r) = false
    is_first (Err n) = is_collect_first n

-- a wanted file is dropped where the log has a place
collection_there : (file : Option ℕ) (f : ℕ) (place : Bool) → file ≡ Some f → place ≡ true → collection_by file place ≡ Ok (Some f)
collection_there None f place is there = absurd (true≢false (sym (ap is_some is)))
collection_there (Some g) f true is there = ap Ok is
collection_there (Some g) f false is there = absurd (true≢false (sym there))

abbrev is_going : Check → Bool
is_going checks.Going = true
is_going check = false

failed_stops : (H : List Record) (failing : Option ℕ) (check : Check) → option_and_then (failed_answer H) failing ≡ Some check → is_going check ≡ false
failed_stops H None check is = absurd (true≢false (sym (ap is_some is)))
failed_stops H (Some r) check is = by_why (last_why H r) is
  where
    by_why : (w : Option Failure) → option_map_or (λ why. Some (checks.CommandFailed (rule_no r) why)) w None ≡ Some check → is_going check ≡ false
    by_why None is = absurd (true≢false (sym (ap is_some is)))
    by_why (Some why) is = sym (ap (λ (o : Option Check). option_map_or is_going o false) is)

-- where a file is wanted the answer is a failed command's, or that the log is full
wanting_answer : (H : List Record) (idle wants place : Bool) (failing : Option ℕ) (failed : Option Check) (rest : Option Check) → option_and_then (failed_answer H) failing ≡ failed → idle ≡ true → wants ≡ true
    → (failed ≡ None → place ≡ false)
    → unwrap_or (or_else (where_so (not idle) checks.Going) (or_else failed (or_else (where_so (wants && not place) (log_full H)) (or_else (where_so wants checks.Going) rest)))) checks.Going ≡ checks.Going → ⊥
wanting_answer H false wants place failing failed rest are idle is full going = true≢false (sym idle)
wanting_answer H true false place failing failed rest are idle is full going = true≢false (sym is)
wanting_answer H true true true failing None rest are idle is full going = true≢false (full refl)
wanting_answer H true true false failing None rest are idle is full going = true≢false (sym (ap is_going going))
wanting_answer H true true place failing (Some check) rest are idle is full going = true≢false (sym (ap is_going going) ∙ failed_stops H failing check are)

unstopped : (ended failed : Bool) → ended ≡ false → failed ≡ false → (ended || failed) ≡ false
unstopped ended failed one two = ap (λ (b : Bool). b || failed) one ∙ two

wanted_ends : (A : Admitting) (P : Plan) (O : Options) (M : List Move) (f : ℕ) → Rests A P O M → wanted P O.mode (records_of M) ≡ Some f → end_of P O M None ≡ checks.Going → ⊥
wanted_ends A P O M f rests is going =
    let H = records_of M in
    let failing : Option ℕ = find (has_failed H) (rule_numbers P) in
    wanting_answer H (is_empty (running_rules P H)) (is_some (wanted P O.mode H)) (has_places P H 1) failing (option_and_then (failed_answer H) failing) _ refl rests.idle (ap is_some is)
    (λ none. by_place (has_places P H 1) refl (first_of_all (is_stopped P H) (wanted P O.mode H) f _ _ _ rests.why (unstopped (has_ended H) (list_any (has_failed H) (rule_numbers P)) rests.unended (none_failed P H none)) is rests.none))
    (sym (unended_over P O M rests.unended) ∙ going)
  where
    by_place : (b : Bool) → has_places P (records_of M) 1 ≡ b → is_collect_first rests.why ≡ true → b ≡ false
    by_place true there first = absurd (rests.undropped first f (collection_there (wanted P O.mode (records_of M)) f (has_places P (records_of M) 1) is there))
    by_place false there first = refl

-- where an end goes on and nothing runs no rule has failed
sound_going : (H : List Record) (idle : Bool) (failing : Option ℕ) (failed rest : Option Check) → option_and_then (failed_answer H) failing ≡ failed → idle ≡ true
    → unwrap_or (or_else (where_so (not idle) checks.Going) (or_else failed rest)) checks.Going ≡ checks.Going → failed ≡ None
sound_going H false failing failed rest are idle going = absurd (true≢false (sym idle))
sound_going H true failing None rest are idle going = refl
sound_going H true failing (Some check) rest are idle going = absurd (true≢false (sym (ap is_going going) ∙ failed_stops H failing check are))

-- it isn't to go on
pub not_going : (A : Admitting) (P : Plan) (O : Options) (M : List Move) → Rests A P O M → FitsHere P O → end_of P O M None ≡ checks.Going → ⊥
not_going A P O M rests here going = by_wanted (wanted P O.mode (records_of M)) refl
  where
    by_wanted : (file : Option ℕ) → wanted P O.mode (records_of M) ≡ file → ⊥
    by_wanted None is =
        let H = records_of M in
        let failing : Option ℕ = find (has_failed H) (rule_numbers P) in
        let fitting = fits_all P O M (rule_numbers P) rests.idle here (range_all 0 (length P.rules) (length P.rules) (omega arith)) in
        let claim = going-rule P (plan_digest P) O M None rests.valid rests.legal rests.opened rests.idle rests.unended here.here (ap is_none is) fitting going in
        let sound = none_failed P H (sound_going H (is_empty (running_rules P H)) failing (option_and_then (failed_answer H) failing) _ refl rests.idle (sym (unended_over P O M rests.unended) ∙ going)) in
        let there = roomy_there P O M claim.0 here.here fitting claim.1 in
        not_refused A P O M None 0 claim.0 rests.why claim.1
        (admitted_there A P O M here.here fitting (rests.one rests.idle sound (ap is_none is) there)) rests.none
    by_wanted (Some f) is = wanted_ends A P O M f rests is going

-- but answers one of the ends of a run
pub ends_so : (A : Admitting) (P : Plan) (O : Options) (M : List Move) → Rests A P O M → FitsHere P O → IsRunEnd O.limit (end_of P O M None)
ends_so A P O M rests here =
    let H = records_of M in
    run_end O.limit (end_of P O M None)
    (subst (EndsOrGoes O.limit) (sym (unended_over P O M rests.unended))
    (over_says (EndsOrGoes O.limit) P O H O.limit rests.limited tt (λ r found why. tt) (λ wants. tt) tt
    (λ more. least_says (EndsOrGoes O.limit) (filter (passes_inputs P H) (ready_rules P H)) (λ r. checks.InputsTooLarge (rule_no r) (input_bytes P H r)) (λ r. tt)) (λ more full. tt) (λ r most is. is)))
    (not_going A P O M rests here)
