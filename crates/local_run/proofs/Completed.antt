-- When a run comes to its end with all rules complete.
use Rattle.std.proofs.Common.{◌≡◌, ◌≤◌, ◌+◌, ◌∙◌, ℕ, Bool, true, false, not, ◌&&◌, List, [], length, Option, Some, None, refl, sym, ap, subst, arith, true≢false}
use Rattle.std.specs.Prelude.{filter, find, is_none, is_some, sum_by, unwrap_or}
use Rattle.std.specs.Option.{option_map_or}
use Rattle.std.proofs.lemmas.Bool.{ltb-true}
use Rattle.flow_types.specs.declared.plan.Plan.{Plan}
use Rattle.flow_types.specs.declared.numbers.Content.{Content}
use Rattle.flow_types.specs.declared.records.Record.{Record}
use Rattle.flow_types.specs.Plans.{most_input_bytes, rule_numbers, takes}
use Rattle.flow_types.specs.Serial.{Contents, Function, serial}
use Rattle.flow_types.proofs.Totals.{total, total-is, total-le}
use Rattle.run_history.specs.declared.options.Options.{Options}
use Rattle.run_history.specs.declared.moves.Move.{Move}
use Rattle.run_history.specs.declared.states.FileState.{FileState}
use Rattle.run_history.specs.declared.states.FileState.TheVariants as file
use Rattle.run_history.specs.declared.answers.Stop.{Stop}
use Rattle.run_history.specs.declared.answers.Stop.TheVariants as stops
use Rattle.run_history.specs.declared.answers.Check.{Check}
use Rattle.run_history.specs.declared.answers.Check.TheVariants as checks
use Rattle.run_history.specs.Legal.{has_places, most_records}
use Rattle.run_history.specs.Links.{records_of}
use Rattle.run_history.specs.Laws.{IsPresent}
use Rattle.run_history.specs.States.{file_state, limit_of}
use Rattle.run_history.specs.Storage.{has_failed, input_bytes, ready_rules, rule_bound, running_rules, size_in, size_of, stored, wanted}
use Rattle.run_history.specs.Admissions.{Admitting}
use Rattle.run_history.specs.Answers.{collected_count, end_of, end_over, is_halt, of_least, passes_inputs, rule_no}
use Rattle.task_core.proofs.Collecting.{wanted-free}
use Rattle.outside.specs.Files.{Files}
use Rattle.file_store.specs.Outputs.{file_name}
use Rattle.desk.specs.Kept.{Fits, Holds, Keeps}
use Rattle.local_run.specs.Completing.{SerialInputsFit}
use Rattle.local_run.specs.Ends.{FitsHere, IsCompleteEnd, records_due}
use Rattle.local_run.proofs.EndKinds.{Rests, Says, not_going, over_says_by, unended_over}
use Rattle.local_run.proofs.Fresh.{drop_place, places_left}
use Rattle.local_run.proofs.Started.{none_pass}

-- all rules are complete, or there is a limit and no room, or the run goes on
abbrev EndsWell : Option ℕ → Check → Type 0
EndsWell limit (checks.Complete collected) = Unit {0}
EndsWell limit (checks.NoRoom rule need stored most) = limit ≡ Some most
EndsWell limit checks.Going = Unit {0}
EndsWell limit check = ⊥

complete_end : (limit : Option ℕ) (check : Check) → EndsWell limit check → (check ≡ checks.Going → ⊥) → IsCompleteEnd limit check
complete_end limit (checks.Complete collected) is stays = tt
complete_end limit (checks.CommandFailed rule why) is stays = absurd is
complete_end limit (checks.InputsTooLarge rule total) is stays = absurd is
complete_end limit (checks.LogFull records) is stays = absurd is
complete_end limit checks.Going is stays = absurd (stays refl)
complete_end limit (checks.NoRoom rule need stored most) is stays = is
complete_end limit (checks.Waited wait) is stays = absurd is
complete_end limit checks.Halted is stays = absurd is

-- a file that is present has the size that the serial run leaves
held_size : (content : Content) (there serial_there : Option (List ℕ)) → Holds content there → there ≡ serial_there → content.size ≤ length (unwrap_or serial_there [])
held_size content None serial_there holds same = absurd holds
held_size content (Some bytes) serial_there holds same =
    let size : content.size ≡ length bytes = ap (λ (c : Content). c.size) holds in
    let long : length (unwrap_or serial_there []) ≡ length bytes = ap (λ (o : Option (List ℕ)). length (unwrap_or o [])) (sym same) in
    omega (arith, size, long)

size_by : (P : Plan) (H : List Record) (f most : ℕ) (s : FileState) → file_state P H f ≡ s → ((content : Content) → IsPresent P H f content → content.size ≤ most) → option_map_or (λ size. size) (size_in s) 0 ≤ most
size_by P H f most (file.Present content) is fits = fits content is
size_by P H f most file.Absent is fits = omega arith
size_by P H f most file.Collected is fits = omega arith

-- so the inputs of each rule are within their limit where they are in the serial run
pub inputs_fit : (trust : Type 0) (P : Plan) (gives : Function) (sources : Contents) (log : List ℕ) (H : List Record) (image : Files) → trust → Keeps (Fits trust gives sources) P log H image → SerialInputsFit P gives sources
    → (r : ℕ) → passes_inputs P H r ≡ false
inputs_fit trust P gives sources log H image trusted keeps fit r = by_test (passes_inputs P H r) refl
  where
    each : (f : ℕ) → option_map_or (λ size. size) (size_of P H f) 0 ≤ length (unwrap_or (serial P gives sources f) [])
    each f = size_by P H f (length (unwrap_or (serial P gives sources f) [])) (file_state P H f) refl
        (λ content present. let h = keeps.files f content present in held_size content (image (file_name P f)) (serial P gives sources f) h.0 (h.1 trusted))

    few : input_bytes P H r ≤ most_input_bytes
    few =
        let le = total-le (λ f. option_map_or (λ size. size) (size_of P H f) 0) (λ f. length (unwrap_or (serial P gives sources f) [])) (takes P r) each in
        let one : total (λ f. option_map_or (λ size. size) (size_of P H f) 0) (takes P r) ≡ input_bytes P H r = total-is (λ f. option_map_or (λ size. size) (size_of P H f) 0) (takes P r) in
        let other : total (λ f. length (unwrap_or (serial P gives sources f) [])) (takes P r) ≡ sum_by (λ f. length (unwrap_or (serial P gives sources f) [])) (takes P r) =
        total-is (λ f. length (unwrap_or (serial P gives sources f) [])) (takes P r) in
        let most = fit r in
        omega (arith, le, one, other, most)

    by_test : (b : Bool) → passes_inputs P H r ≡ b → b ≡ false
    by_test true is = absurd (let more = ltb-true most_input_bytes (input_bytes P H r) is in let least = few in let wrong : ⊥ = omega (arith, more, least) in wrong)
    by_test false is = refl

none_large : (Q : Check → Type 0) (P : Plan) (H : List Record) → ((r : ℕ) → passes_inputs P H r ≡ false)
    → Says Q (of_least (filter (passes_inputs P H) (ready_rules P H)) (λ r. checks.InputsTooLarge (rule_no r) (input_bytes P H r)))
none_large Q P H small =
    subst (λ (xs : List ℕ). Says Q (of_least xs (λ r. checks.InputsTooLarge (rule_no r) (input_bytes P H r)))) (sym (none_pass (passes_inputs P H) (ready_rules P H) small)) tt

placed_so : (o : Option ℕ) (place : Bool) → ((f : ℕ) → o ≡ Some f → place ≡ true) → (is_some o && not place) ≡ true → ⊥
placed_so None place there wants = true≢false (sym wants)
placed_so (Some f) place there wants = true≢false (sym wants ∙ ap not (there f refl))

-- What may be so of the answer of an end where none has failed, no inputs are too many and the log has room: that all rules are complete, that there is a limit and no room, that the run waited where that was the stop, or that it goes on.
pub well_says : (Q : Check → Type 0) (P : Plan) (O : Options) (H : List Record) (stop : Option Stop) → limit_of H ≡ O.limit → option_map_or is_halt stop false ≡ false → ((r : ℕ) → find (has_failed H) (rule_numbers P) ≡ Some r → ⊥)
    → ((r : ℕ) → passes_inputs P H r ≡ false) → length (running_rules P H) ≤ 0 → records_due P H + 1 ≤ most_records → Q checks.Going → Q (checks.Complete (collected_count P H))
    → ((idles r : ℕ) → stop ≡ Some (stops.Waited idles) → Q (checks.Waited (record { idles = idles; rule = rule_no r })))
    → ((r most : ℕ) → O.limit ≡ Some most → Q (checks.NoRoom (rule_no r) (rule_bound P r) (stored P H) most)) → Q (end_over P O H stop)
well_says Q P O H stop limited unstopped sound small idle few going complete waited room =
    over_says_by Q P O H O.limit stop limited unstopped going (λ r found why. absurd (sound r found))
    (λ wants. absurd (placed_so (wanted P O.mode H) (has_places P H 1) (λ f is. drop_place P H f idle (wanted-free P O.mode H f is) few) wants)) complete waited
    (λ more. none_large Q P H small) (λ more full. absurd (true≢false (sym full ∙ ap not (places_left P H idle more few)))) room

-- So is it of an end without a stop, which isn't to go on.
pub completes_so : (A : Admitting) (P : Plan) (O : Options) (M : List Move) → Rests A P O M → FitsHere P O → ((r : ℕ) → find (has_failed (records_of M)) (rule_numbers P) ≡ Some r → ⊥) → ((r : ℕ) → passes_inputs P (records_of M) r ≡ false)
    → length (running_rules P (records_of M)) ≤ 0 → records_due P (records_of M) + 1 ≤ most_records → IsCompleteEnd O.limit (end_of P O M None)
completes_so A P O M rests here sound small idle few =
    complete_end O.limit (end_of P O M None)
    (subst (EndsWell O.limit) (sym (unended_over P O M rests.unended))
    (well_says (EndsWell O.limit) P O (records_of M) None rests.limited refl sound small idle few tt tt (λ idles r waits. absurd (true≢false (ap is_none waits))) (λ r most is. is)))
    (not_going A P O M rests here)
