-- No claim answers that a rule isn't admitted where every rule is.
use Rattle.std.proofs.Common.{◌≡◌, ◌∙◌, ℕ, Bool, true, false, not, ◌||◌, Option, Some, None, List, [], ◌∷◌, Result, Ok, Err, ap, refl}
use Rattle.std.specs.Prelude.{filter, is_some, unwrap_or}
use Rattle.std.specs.Option.{option_map_or}
use Rattle.flow_types.specs.declared.plan.Plan.{Plan}
use Rattle.flow_types.specs.declared.records.Record.{Record}
use Rattle.flow_types.specs.Plans.{is_empty}
use Rattle.run_history.specs.declared.options.Options.{Options}
use Rattle.run_history.specs.declared.moves.Move.{Move}
use Rattle.run_history.specs.declared.answers.Nothing.{Nothing}
use Rattle.run_history.specs.declared.answers.Nothing.TheVariants as nothing
use Rattle.run_history.specs.declared.answers.Stop.{Stop}
use Rattle.run_history.specs.Answers.{claim_refusal, file_no, first_of, fitting_on, no_storage, of_least, or_else, passes_inputs, ready_on, rule_no, startable_on, where_none, where_so}
use Rattle.run_history.specs.Legal.{has_places, is_stopped}
use Rattle.run_history.specs.Links.{records_of}
use Rattle.run_history.specs.Storage.{input_bytes, wanted}
use Rattle.task_core.proofs.Permits.{claim-all}
use Rattle.table_laws.specs.Admitting.{NoneIsUnadmitted, is_unadmitted}

-- the refusal, where there is one, is that none is admitted
abbrev says : Option Nothing → Bool
says None = false
says (Some why) = is_unadmitted (Err why)

either : (o rest : Option Nothing) → says o ≡ false → says rest ≡ false → says (or_else o rest) ≡ false
either None rest here later = later
either (Some why) rest here later = here

so : (b : Bool) (why : Nothing) → is_unadmitted (Err why) ≡ false → says (where_so b why) ≡ false
so true why is = is
so false why is = refl

least : (rules : List ℕ) (said : ℕ → Nothing) → ((r : ℕ) → is_unadmitted (Err (said r)) ≡ false) → says (of_least rules said) ≡ false
least [] said is = refl
least (r ∷ rs) said is = is r

none : (others rules : List ℕ) (said : ℕ → Nothing) → ((r : ℕ) → is_unadmitted (Err (said r)) ≡ false) → says (where_none others rules said) ≡ false
none [] rules said is = least rules said is
none (r ∷ rs) rules said is = refl

first : (file : Option ℕ) → says (option_map_or (λ f. Some (nothing.CollectFirst (file_no f))) file None) ≡ false
first None = refl
first (Some f) = refl

refusal : (P : Plan) (O : Options) (M : List Move) (stop : Option Stop) (k : ℕ) → says (claim_refusal P O M stop k) ≡ false
refusal P O M stop k =
    let H : List Record = records_of M in
    let ready : List ℕ = ready_on P O M k in
    let fitting : List ℕ = fitting_on P O M k in
    let both : List ℕ = startable_on P O M k in
    let o6 : Option Nothing = where_none both fitting (no_storage P H) in
    let o5 : Option Nothing = where_none fitting ready (λ r. nothing.NoFit (rule_no r)) in
    let o4 : Option Nothing = of_least (filter (passes_inputs P H) ready) (λ r. nothing.InputsTooLarge (rule_no r) (input_bytes P H r)) in
    let o3 : Option Nothing = where_so (is_empty ready) nothing.NoneReady in
    let o2 : Option Nothing = where_so (not (has_places P H 2)) nothing.LogPlaces in
    let o1 : Option Nothing = option_map_or (λ f. Some (nothing.CollectFirst (file_no f))) (wanted P O.mode H) None in
    let o0 : Option Nothing = where_so (is_some stop || is_stopped P H) nothing.Stopping in
    either o0 (first_of (o1 ∷ o2 ∷ o3 ∷ o4 ∷ o5 ∷ o6 ∷ [])) (so (is_some stop || is_stopped P H) nothing.Stopping refl)
    (either o1 (first_of (o2 ∷ o3 ∷ o4 ∷ o5 ∷ o6 ∷ [])) (first (wanted P O.mode H))
    (either o2 (first_of (o3 ∷ o4 ∷ o5 ∷ o6 ∷ [])) (so (not (has_places P H 2)) nothing.LogPlaces refl)
    (either o3 (first_of (o4 ∷ o5 ∷ o6 ∷ [])) (so (is_empty ready) nothing.NoneReady refl)
    (either o4 (first_of (o5 ∷ o6 ∷ [])) (least (filter (passes_inputs P H) ready) (λ r. nothing.InputsTooLarge (rule_no r) (input_bytes P H r)) (λ r. refl))
    (either o5 (first_of (o6 ∷ [])) (none fitting ready (λ r. nothing.NoFit (rule_no r)) (λ r. refl)) (either o6 (first_of []) (none both fitting (no_storage P H) (λ r. refl)) refl))))))

answer : (o : Option Nothing) (both : List ℕ) → says o ≡ false → is_unadmitted (option_map_or Err o (unwrap_or (of_least both Ok) (Err nothing.NoneReady))) ≡ false
answer None [] is = refl
answer None (r ∷ rs) is = refl
answer (Some why) both is = is

pub none-unadmitted : NoneIsUnadmitted
none-unadmitted P O M stop k = ap is_unadmitted (claim-all P O M stop k) ∙ answer (claim_refusal P O M stop k) (startable_on P O M k) (refusal P O M stop k)
