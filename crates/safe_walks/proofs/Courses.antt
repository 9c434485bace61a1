-- A run that starts only what is admitted stays within, and an end of it never answers that there
-- is no room.
use Rattle.std.proofs.Common.{◌≡◌, ℕ, Bool, true, false, cond, not, ◌&&◌, ◌||◌, List, [], ◌∷◌, ◌++◌}
use Rattle.std.proofs.Common.{length, Option, Some, None, refl, ap, sym, ◌∙◌, arith, append-nil}
use Rattle.std.proofs.Common.{append_assoc, true≢false}
use Rattle.std.specs.Prelude.{◌==◌, filter, find, is_some, is_none, unwrap_or}
use Rattle.std.specs.List.{list_any, list_all, before_last}
use Rattle.std.specs.Option.{option_map_or, option_and_then}
use Rattle.std.proofs.lemmas.Bool.{and_parts, eqb-true, ltb-true, false_from_ne_true}
use Rattle.flow_types.specs.declared.plan.Plan.{Plan}
use Rattle.flow_types.specs.declared.job.Failure.{Failure}
use Rattle.flow_types.specs.declared.records.Record.{Record}
use Rattle.flow_types.specs.declared.records.Record.TheVariants as records
use Rattle.flow_types.specs.Plans.{IsValid, is_empty, rule_numbers, contains_number}
use Rattle.run_history.specs.declared.options.Options.{Options}
use Rattle.run_history.specs.declared.moves.Move.{Move}
use Rattle.run_history.specs.declared.answers.Stop.{Stop}
use Rattle.run_history.specs.declared.answers.Check.{Check}
use Rattle.run_history.specs.declared.answers.Check.TheVariants as check
use Rattle.run_history.specs.History.{is_cleaned, is_opening, is_end, part, since_opening}
use Rattle.run_history.specs.States.{limit_of, limit_in}
use Rattle.run_history.specs.Storage.{is_complete, has_failed, ready_rules, running_rules}
use Rattle.run_history.specs.Storage.{input_bytes, fits_storage, wanted}
use Rattle.run_history.specs.Legal.{is_allowed, is_legal, has_places}
use Rattle.run_history.specs.Links.{records_of}
use Rattle.run_history.specs.Answers.{end_of, end_over, or_else, of_least, where_so, where_none}
use Rattle.run_history.specs.Answers.{passes_inputs, rule_no, no_room, log_full, failed_answer}
use Rattle.run_history.specs.Answers.{last_why, collected_count, has_ended, is_halt, idles_in}
use Rattle.run_history.specs.Answers.{is_waited_end}
use Rattle.run_history.proofs.Bools.{not_true, not_false}
use Rattle.run_history.proofs.Claims.{not_so}
use Rattle.run_history.proofs.Going.{none-failed}
use Rattle.run_history.proofs.Steps.{limit-push}
use Rattle.safe_walks.specs.Safe.{collects, is_safe, admits_under, admits_by, safely_admitted}
use Rattle.safe_walks.specs.Safe.{is_admitted, is_admitted_course, is_no_room}
use Rattle.safe_walks.specs.Laws.{starts_none}
use Rattle.safe_walks.proofs.Records.{start-keeps}
use Rattle.safe_walks.proofs.Keeps.{record-keeps}
use Rattle.safe_walks.proofs.Admits.{MayStart, first-rule, some_fails}

no_limit : (x : Record) → is_opening x ≡ false → limit_in x ≡ None
no_limit (records.Opened moment run retries limit plan sources) none = absurd (true≢false none)
no_limit (records.Resumed moment run retries limit) none = absurd (true≢false none)
no_limit (records.Started moment r attempt link) none = refl
no_limit (records.Done moment r attempt outs) none = refl
no_limit (records.Failed moment r attempt why) none = refl
no_limit (records.Lost moment r attempt) none = refl
no_limit (records.Dropped moment f) none = refl
no_limit (records.Ended moment kind) none = refl

-- the limit stands until the next opening
same_limit : (H : List Record) (x : Record) → is_cleaned x ≡ false → is_opening x ≡ false
    → limit_of (H ++ (x ∷ [])) ≡ limit_of H
same_limit H x more none = limit-push H x more
    ∙ ap (λ l. option_map_or (λ limit. limit) l (limit_of H)) (no_limit x none)

admits_now : (P : Plan) (O : Options) (H : List Record) (limit r : ℕ) → collects O.mode ≡ true
    → limit_of H ≡ Some limit → safely_admitted P O H r ≡ true → admits_under P H limit r ≡ true
admits_now P O H limit r collecting under admitted =
    sym (ap (λ b. not b || admits_by P H r (limit_of H)) collecting ∙ ap (admits_by P H r) under)
    ∙ admitted

-- one record of a run
step-safe : (P : Plan) (digest : List ℕ) (O : Options) (H : List Record) (x : Record) (limit : ℕ)
    → collects O.mode ≡ true → limit_of H ≡ Some limit
    → is_allowed P digest H x ≡ true → is_cleaned x ≡ false → is_admitted P O H x ≡ true
    → is_safe P H limit ≡ true → is_safe P (H ++ (x ∷ [])) limit ≡ true
step-safe P digest O H (records.Started moment r attempt link) limit collecting under allowed more
    admitted safe =
    start-keeps P H moment r attempt link limit
    (admits_now P O H limit r.0 collecting under admitted) safe
step-safe P digest O H (records.Opened moment run retries now plan sources) limit collecting under
    allowed more admitted safe =
    record-keeps P digest H (records.Opened moment run retries now plan sources) limit more refl
    allowed safe
step-safe P digest O H (records.Resumed moment run retries now) limit collecting under allowed more
    admitted safe =
    record-keeps P digest H (records.Resumed moment run retries now) limit more refl allowed safe
step-safe P digest O H (records.Done moment r attempt outs) limit collecting under allowed more
    admitted safe =
    record-keeps P digest H (records.Done moment r attempt outs) limit more refl allowed safe
step-safe P digest O H (records.Failed moment r attempt why) limit collecting under allowed more
    admitted safe =
    record-keeps P digest H (records.Failed moment r attempt why) limit more refl allowed safe
step-safe P digest O H (records.Lost moment r attempt) limit collecting under allowed more admitted
    safe =
    record-keeps P digest H (records.Lost moment r attempt) limit more refl allowed safe
step-safe P digest O H (records.Dropped moment f) limit collecting under allowed more admitted
    safe =
    record-keeps P digest H (records.Dropped moment f) limit more refl allowed safe
step-safe P digest O H (records.Ended moment kind) limit collecting under allowed more admitted
    safe =
    record-keeps P digest H (records.Ended moment kind) limit more refl allowed safe

course-safe : (P : Plan) (digest : List ℕ) (O : Options) (H xs : List Record) (limit : ℕ)
    → collects O.mode ≡ true → limit_of H ≡ Some limit → is_safe P H limit ≡ true
    → is_admitted_course P digest O H xs ≡ true → is_safe P (H ++ xs) limit ≡ true
course-safe P digest O H [] limit collecting under safe course =
    ap (λ xs. is_safe P xs limit) (append-nil H) ∙ safe
course-safe P digest O H (x ∷ xs) limit collecting under safe course =
    let h4 = and_parts _ _ course in let h3 = and_parts _ _ h4.0 in let h2 = and_parts _ _ h3.0
    in let h1 = and_parts _ _ h2.0 in
    let more : is_cleaned x ≡ false = not_true (is_cleaned x) h1.1 in
    let stays : is_opening x ≡ false = not_true (is_opening x) h2.1 in
    ap (λ ys. is_safe P ys limit) (sym (append_assoc H (x ∷ []) xs))
    ∙ course-safe P digest O (H ++ (x ∷ [])) xs limit collecting (same_limit H x more stays ∙ under)
    (step-safe P digest O H x limit collecting under h1.0 more h3.1 safe) h4.1

pub opens_limit : (x : Record) (limit : ℕ) → limit_in x ≡ Some (Some limit) → (is_cleaned x ≡ false)
    × (starts_none x ≡ true)
opens_limit (records.Opened moment run retries now plan sources) limit says = (refl, refl)
opens_limit (records.Resumed moment run retries now) limit says = (refl, refl)
opens_limit (records.Started moment r attempt link) limit says = absurd cc
opens_limit (records.Done moment r attempt outs) limit says = absurd cc
opens_limit (records.Failed moment r attempt why) limit says = absurd cc
opens_limit (records.Lost moment r attempt) limit says = absurd cc
opens_limit (records.Dropped moment f) limit says = absurd cc
opens_limit (records.Ended moment kind) limit says = absurd cc

-- A run that starts only what is admitted stays within the limit of its opening.
pub run-safe : (P : Plan) (digest : List ℕ) (O : Options) (H : List Record) (opening : Record)
    (since : List Record) (limit : ℕ) → collects O.mode ≡ true
    → limit_in opening ≡ Some (Some limit) → is_allowed P digest H opening ≡ true
    → is_safe P H limit ≡ true → is_admitted_course P digest O (H ++ (opening ∷ [])) since
    ≡ true
    → is_safe P ((H ++ (opening ∷ [])) ++ since) limit ≡ true
run-safe P digest O H opening since limit collecting says allowed safe course =
    let is = opens_limit opening limit says in
    course-safe P digest O (H ++ (opening ∷ [])) since limit collecting
    (limit-push H opening is.0 ∙ ap (λ l. option_map_or (λ limit. limit) l (limit_of H)) says)
    (record-keeps P digest H opening limit is.0 is.1 allowed safe) course

abbrev Tells : Option Check → Type 0
Tells answer = (x : Check) → answer ≡ Some x → is_no_room x ≡ false

passed : (first rest : Option Check) → Tells first
    → is_no_room (unwrap_or (or_else first rest) check.Going) ≡ true → (first ≡ None)
    × (is_no_room (unwrap_or rest check.Going) ≡ true)
passed None rest tells is = (refl, is)
passed (Some x) rest tells is = absurd (true≢false (sym is ∙ tells x refl))

same_tells : (y : Check) → is_no_room y ≡ false → Tells (Some y)
same_tells y other x is = let same : y ≡ x = cc in ap is_no_room (sym same) ∙ other

none_tells : Tells None
none_tells x is = absurd cc

so_tells : (b : Bool) (y : Check) → is_no_room y ≡ false → Tells (where_so b y)
so_tells true y other = same_tells y other
so_tells false y other = none_tells

least_tells : (xs : List ℕ) (said : ℕ → Check) → ((r : ℕ) → is_no_room (said r) ≡ false)
    → Tells (of_least xs said)
least_tells [] said other = none_tells
least_tells (x ∷ xs) said other = same_tells (said x) (other x)

failed_tells : (H : List Record) (o : Option ℕ) → Tells (option_and_then (failed_answer H) o)
failed_tells H None = none_tells
failed_tells H (Some r) = by_why (last_why H r)
  where
    by_why : (w : Option Failure)
        → Tells (option_map_or (λ why. Some (check.CommandFailed (rule_no r) why)) w None)
    by_why None = none_tells
    by_why (Some w) = same_tells (check.CommandFailed (rule_no r) w) refl

waited_tells : (o : Option ℕ) (xs : List ℕ)
    → Tells (option_and_then
    (λ idles. of_least xs (λ r. check.Waited (record { idles = idles; rule = rule_no r }))) o)
waited_tells None xs = none_tells
waited_tells (Some idles) xs = least_tells xs
    (λ r. check.Waited (record { idles = idles; rule = rule_no r })) (λ r. refl)

kept_has : (p : ℕ → Bool) (xs : List ℕ) (r : ℕ) → contains_number r xs ≡ true → p r ≡ true
    → is_empty (filter p xs) ≡ false
kept_has p [] r some passes = absurd (true≢false (sym some))
kept_has p (x ∷ xs) r some passes = by_test (p x) refl (x == r) refl some
    (λ later. kept_has p xs r later passes)
  where
    by_test : (b : Bool) → p x ≡ b → (c : Bool) → (x == r) ≡ c → (c || contains_number r xs) ≡ true
        → (contains_number r xs ≡ true → is_empty (filter p xs) ≡ false)
        → is_empty (cond b (x ∷ filter p xs) (filter p xs)) ≡ false
    by_test true is c same some later = refl
    by_test false is true same some later =
        absurd (true≢false (sym passes ∙ ap p (sym (eqb-true x r same)) ∙ is))
    by_test false is false same some later = later some

room_left : (roomy ready : List ℕ) (said : ℕ → Check) → is_empty roomy ≡ false
    → is_no_room (unwrap_or (or_else (where_none roomy ready said) None) check.Going) ≡ true → ⊥
room_left [] ready said some is = true≢false some
room_left (x ∷ xs) ready said some is = true≢false (sym is)

not_wanted : (o : Option ℕ) → is_some o ≡ false → is_none o ≡ true
not_wanted None none = refl
not_wanted (Some f) none = absurd (true≢false none)

over-room : (P : Plan) (digest : List ℕ) (O : Options) (H : List Record) (stop : Option Stop)
    (limit : ℕ) → IsValid P → is_legal P digest H ≡ true → is_empty (part H) ≡ false
    → collects O.mode ≡ true → limit_of H ≡ Some limit → is_safe P H limit ≡ true
    → is_no_room (end_over P O H stop) ≡ true → ⊥
over-room P digest O H stop limit valid legal begun collecting under safe is =
    let ready : List ℕ = ready_rules P H in
    let roomy : List ℕ = filter (fits_storage P H) ready in
    let failing : Option ℕ = find (has_failed H) (rule_numbers P) in
    let want : Bool = is_some (wanted P O.mode H) in
    let all : Bool = list_all (is_complete H) (rule_numbers P) in
    let s1 = passed (where_so (not (is_empty (running_rules P H))) check.Going) _
    (so_tells (not (is_empty (running_rules P H))) check.Going refl) is in
    let s2 = passed (where_so (option_map_or is_halt stop false) check.Halted) _
    (so_tells (option_map_or is_halt stop false) check.Halted refl) s1.1 in
    let s3 = passed (option_and_then (failed_answer H) failing) _ (failed_tells H failing) s2.1 in
    let s4 = passed (where_so (want && not (has_places P H 1)) (log_full H)) _
    (so_tells (want && not (has_places P H 1)) (log_full H) refl) s3.1 in
    let s5 = passed (where_so want check.Going) _ (so_tells want check.Going refl) s4.1 in
    let s6 = passed (where_so all (check.Complete (collected_count P H))) _
    (so_tells all (check.Complete (collected_count P H)) refl) s5.1 in
    let s7 = passed
    (option_and_then
    (λ idles. of_least roomy (λ r. check.Waited (record { idles = idles; rule = rule_no r })))
    (option_and_then idles_in stop)) _
    (waited_tells (option_and_then idles_in stop) roomy) s6.1 in
    let s8 = passed (of_least (filter (passes_inputs P H) ready)
    (λ r. check.InputsTooLarge (rule_no r) (input_bytes P H r))) _
    (least_tells (filter (passes_inputs P H) ready)
    (λ r. check.InputsTooLarge (rule_no r) (input_bytes P H r)) (λ r. refl)) s7.1 in
    let s9 = passed (where_so (not (has_places P H 2)) (log_full H)) _
    (so_tells (not (has_places P H 2)) (log_full H) refl) s8.1 in
    let idle : is_empty (running_rules P H) ≡ true =
    not_false (is_empty (running_rules P H))
    (not_so (not (is_empty (running_rules P H))) check.Going s1.0) in
    let sound : list_any (has_failed H) (rule_numbers P) ≡ false = none-failed P H s3.0 in
    let unwanted : is_none (wanted P O.mode H) ≡ true =
    not_wanted (wanted P O.mode H) (not_so want check.Going s5.0) in
    let unfinished : all ≡ false = not_so all (check.Complete (collected_count P H)) s6.0 in
    let some = some_fails (is_complete H) 0 (length P.rules) (length P.rules) (omega arith)
    unfinished in
    let found : MayStart P H limit =
    first-rule P digest H O.mode limit some.0 valid legal begun collecting under safe idle sound
    unwanted (ltb-true some.0 (length P.rules) some.1) some.2 in
    room_left roomy ready (no_room P H)
    (kept_has (fits_storage P H) ready found.number found.ready found.fits) s9.1

-- Where the walk stays within the limit, an end never answers that there is no room.
pub safe-has_room : (P : Plan) (digest : List ℕ) (O : Options) (M : List Move) (stop : Option Stop)
    (limit : ℕ) → IsValid P → is_legal P digest (records_of M) ≡ true
    → is_empty (part (records_of M)) ≡ false → has_ended (records_of M) ≡ false → collects O.mode
    ≡ true → limit_of (records_of M) ≡ Some limit → is_safe P (records_of M) limit ≡ true
    → is_no_room (end_of P O M stop) ≡ false
safe-has_room P digest O M stop limit valid legal begun unended collecting under safe =
    let H : List Record = records_of M in
    ap (λ b. is_no_room
    (end_over P O (cond b (before_last is_end H) H)
    (cond (b && not (list_any is_waited_end (since_opening H))) None stop))) unended
    ∙ false_from_ne_true (is_no_room (end_over P O H stop))
    (λ is. over-room P digest O H stop limit valid legal begun collecting under safe is)
