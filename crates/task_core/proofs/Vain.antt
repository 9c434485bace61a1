-- Waiting in vain where an admission has a say.
use Rattle.std.proofs.Common.{◌≡◌, ℕ, Bool, true, false, cond, not, ◌&&◌, ◌||◌, List, [], ◌∷◌, Option, Some, None, refl, ap, sym, ◌∙◌, true≢false}
use Rattle.std.specs.Prelude.{find, is_none, is_some}
use Rattle.std.specs.List.{list_all, list_any}
use Rattle.flow_types.specs.declared.plan.Plan.{Plan}
use Rattle.flow_types.specs.declared.records.Record.{Record}
use Rattle.flow_types.specs.Plans.{is_empty}
use Rattle.run_history.specs.declared.options.Options.{Options}
use Rattle.run_history.specs.declared.moves.Move.{Move}
use Rattle.run_history.specs.declared.answers.Stop.{Stop}
use Rattle.run_history.specs.declared.answers.Stop.TheVariants as stops
use Rattle.run_history.specs.Admissions.{Admitting, is_in_vain_by, sets_by, stop_by}
use Rattle.run_history.specs.Links.{records_of}
use Rattle.task_core.specs.declared.asking.Asked.TheVariants as asked
use Rattle.task_core.specs.Admissions.{asks_by}
use Rattle.task_core.specs.Known.{Known, can_start, has_storage, is_taken_by_one, known_from, ready, rules_of, running, wants}
use Rattle.task_core.specs.Stands.{Stands}
use Rattle.task_core.specs.States.{TableState, known_in}
use Rattle.task_core.proofs.Allowing.{any-both}
use Rattle.task_core.proofs.Numbers.{find-any}
use Rattle.task_core.proofs.Same.{wanted-same}
use Rattle.task_core.proofs.Standing.{knows}
use Rattle.task_core.proofs.Waiting.{none-taken}

-- rule r is admitted and fits the storage
abbrev pub is_stored_by : Admitting → Known → List Record → ℕ → Bool
is_stored_by A K H r = A K.plan K.options H r && has_storage K r

-- waiting is in vain, where this file is wanted
abbrev pub vain_in : Admitting → Known → List Record → Option ℕ → Bool
vain_in A K H file =
    is_empty (running K) && is_none file
    && list_any (is_stored_by A K H) (ready K)
    && list_all (λ r. not (is_stored_by A K H r) || not (is_taken_by_one K r)) (ready K)

pub vain-known : (A : Admitting) (t : TableState) (M : List Move) → Stands t M → vain_in A (known_in t) (records_of M) (wants (known_in t)) ≡ is_in_vain_by A t.plan t.options M
vain-known A t M stands =
    ap (λ (K : Known). vain_in A K (records_of M) (wants K)) (knows t M stands) ∙ ap (vain_in A (known_from t.plan t.options M) (records_of M)) (wanted-same t.plan t.options M t.options.mode)

three_false : (a c d : Bool) → (a && false && c && d) ≡ false
three_false true c d = refl
three_false false c d = refl

-- where a rule runs or a file is wanted, waiting isn't in vain
pub vain-busy : (A : Admitting) (K : Known) (H : List Record) (file : Option ℕ) → is_empty (running K) ≡ false → vain_in A K H file ≡ false
vain-busy A K H file busy = ap (λ b. b && is_none file && list_any (is_stored_by A K H) (ready K) && list_all (λ r. not (is_stored_by A K H r) || not (is_taken_by_one K r)) (ready K)) busy

pub vain-unwanted : (A : Admitting) (K : Known) (H : List Record) (file : Option ℕ) → is_some file ≡ true → vain_in A K H file ≡ false
vain-unwanted A K H None some = absurd (true≢false (sym some))
vain-unwanted A K H (Some f) some = three_false (is_empty (running K)) (list_any (is_stored_by A K H) (ready K)) (list_all (λ r. not (is_stored_by A K H r) || not (is_taken_by_one K r)) (ready K))

find_eq : (p q : ℕ → Bool) → ((x : ℕ) → p x ≡ q x) → (xs : List ℕ) → find p xs ≡ find q xs
find_eq p q same [] = refl
find_eq p q same (x ∷ xs) = ap (λ b. cond b (Some x) (find p xs)) (same x) ∙ ap (λ o. cond (q x) (Some x) o) (find_eq p q same xs)

last_first : (a b c : Bool) → (a && (b && c)) ≡ ((a && c) && b)
last_first false b c = refl
last_first true true true = refl
last_first true true false = refl
last_first true false true = refl
last_first true false false = refl

inner_last : (a b c d : Bool) → (a && ((b && c) && d)) ≡ ((a && (c && d)) && b)
inner_last false b c d = refl
inner_last true true true true = refl
inner_last true true true false = refl
inner_last true true false d = refl
inner_last true false true true = refl
inner_last true false true false = refl
inner_last true false false d = refl

-- some admitted ready rule fits the storage exactly where one is found
some-stored : (A : Admitting) (K : Known) (H : List Record) → list_any (is_stored_by A K H) (ready K) ≡ is_some (find (asks_by A K H asked.Roomy) (rules_of K))
some-stored A K H =
    sym (any-both (can_start K) (is_stored_by A K H) (rules_of K))
    ∙ ap is_some (find_eq (λ r. can_start K r && is_stored_by A K H r) (asks_by A K H asked.Roomy) (λ r. last_first (can_start K r) (A K.plan K.options H r) (has_storage K r)) (rules_of K))

-- none of these is taken exactly where none that is taken is found
none-gone : (A : Admitting) (K : Known) (H : List Record) → list_all (λ r. not (is_stored_by A K H r) || not (is_taken_by_one K r)) (ready K) ≡ not (is_some (find (asks_by A K H asked.Taken) (rules_of K)))
none-gone A K H =
    none-taken (can_start K) (is_stored_by A K H) (is_taken_by_one K) (rules_of K)
    ∙ ap not (sym (find-any (λ r. can_start K r && (is_stored_by A K H r && is_taken_by_one K r)) (rules_of K)))
    ∙ ap (λ (o : Option ℕ). not (is_some o)) (find_eq (λ r. can_start K r && (is_stored_by A K H r && is_taken_by_one K r)) (asks_by A K H asked.Taken) (λ r. inner_last (can_start K r) (A K.plan K.options H r) (has_storage K r) (is_taken_by_one K r)) (rules_of K))

-- waiting is in vain by what was found
pub vain-found : (A : Admitting) (K : Known) (H : List Record) (some gone : Bool) → is_empty (running K) ≡ true → wants K ≡ None → is_some (find (asks_by A K H asked.Roomy) (rules_of K)) ≡ some → is_some (find (asks_by A K H asked.Taken) (rules_of K)) ≡ gone
    → vain_in A K H (wants K) ≡ (some && not gone)
vain-found A K H some gone idle unwanted offered taken =
    ap (vain_in A K H) unwanted
    ∙ ap (λ b. b && true && list_any (is_stored_by A K H) (ready K) && list_all (λ r. not (is_stored_by A K H r) || not (is_taken_by_one K r)) (ready K)) idle
    ∙ ap (λ b. b && list_all (λ r. not (is_stored_by A K H r) || not (is_taken_by_one K r)) (ready K)) (some-stored A K H ∙ offered)
    ∙ ap (λ b. some && b) (none-gone A K H ∙ ap not taken)

-- a stop that stands stays
pub stays-by : (A : Admitting) (P : Plan) (O : Options) (M : List Move) (stop : Option Stop) (why : Stop) → is_some stop ≡ true → stop ≡ stop_by A P O M stop why
stays-by A P O M None why stands = absurd (true≢false (sym stands))
stays-by A P O M (Some first) why stands = refl

-- where none stands, the stop is set or none stands still
pub set-by : (A : Admitting) (P : Plan) (O : Options) (M : List Move) (stop : Option Stop) (why : Stop) (b : Bool) → is_some stop ≡ false → b ≡ sets_by A P O M why → cond b (Some why) stop ≡ stop_by A P O M stop why
set-by A P O M (Some first) why b none sets = absurd (true≢false none)
set-by A P O M None stops.Halt b none sets = ap (λ c. cond c (Some stops.Halt) None) sets
set-by A P O M None (stops.Waited idles) b none sets = ap (λ c. cond c (Some (stops.Waited idles)) None) sets
