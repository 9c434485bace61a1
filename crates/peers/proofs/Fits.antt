-- What fits a task, told by what a session keeps of it.
use Rattle.std.proofs.Common.{◌≡◌, ◌≤◌, ◌<◌, ℕ, Bool, true, false, List, [], ◌∷◌, length, map, refl, sym, ap, ◌∙◌, subst, arith}
use Rattle.std.specs.Prelude.{◌==◌, ◌&&◌, ◌||◌, nat_le, nat_lt, sum_by, IsTrue}
use Rattle.std.proofs.lemmas.Bool.{leb-true, leb-false, ltb-true, ltb-false}
use Rattle.std.proofs.lemmas.List.{length-map}
use Rattle.flow_types.specs.declared.job.Failure.{Failure}
use Rattle.flow_types.specs.declared.job.Failure.TheVariants as failures
use Rattle.flow_types.specs.declared.job.Outcome.{Outcome}
use Rattle.flow_types.specs.declared.job.Outcome.TheVariants as outcomes
use Rattle.flow_types.specs.declared.job.Task.{Task}
use Rattle.flow_types.specs.declared.job.Want.{Want}
use Rattle.flow_types.specs.declared.numbers.FileNo.{FileNo}
use Rattle.flow_types.specs.declared.plan.Port.{Port}
use Rattle.flow_types.specs.Plans.{contains_number, files_of, most_bytes}
use Rattle.links.specs.Ill.{OutcomeFits, TakesIn}
use Rattle.link_session.specs.Fits.{are_within, contains_file, has_all, names_output, outcome_fits}
use Rattle.outside.specs.Jobs.{AllFit, NamesOutput}

-- a test and what it tests
abbrev pub Tells : Bool → Type 0 → Type 0
Tells true fact = fact
Tells false fact = fact → ⊥

abbrev pub bounds_of : List Want → List ℕ
bounds_of wants = map (λ want. want.bound) wants

both : (a b : Bool) (A B : Type 0) → Tells a A → Tells b B → Tells (a && b) (A × B)
both true true A B a b = (a, b)
both true false A B a b = λ p. b p.1
both false b A B a c = λ p. a p.0

le_by : (a b : ℕ) (t : Bool) → nat_le a b ≡ t → Tells t (a ≤ b)
le_by a b true e = leb-true a b e
le_by a b false e = λ le. let wrong : ⊥ = omega (arith, leb-false a b e, le) in wrong

tells_le : (a b : ℕ) → Tells (nat_le a b) (a ≤ b)
tells_le a b = le_by a b (nat_le a b) refl

lt_by : (a b : ℕ) (t : Bool) → nat_lt a b ≡ t → Tells t (a < b)
lt_by a b true e = ltb-true a b e
lt_by a b false e = λ lt. let wrong : ⊥ = omega (arith, ltb-false a b e, lt) in wrong

tells_lt : (a b : ℕ) → Tells (nat_lt a b) (a < b)
tells_lt a b = lt_by a b (nat_lt a b) refl

within : (wants : List Want) (contents : List (List ℕ)) → Tells (are_within (bounds_of wants) contents) (AllFit wants contents)
within [] [] = tt
within [] (c ∷ cs) = λ none. none
within (w ∷ ws) [] = λ none. none
within (w ∷ ws) (c ∷ cs) =
    both (nat_le (length c) w.bound) (are_within (bounds_of ws) cs) (length c ≤ w.bound) (AllFit ws cs) (tells_le (length c) w.bound) (within ws cs)

names : (why : Failure) (n : ℕ) → Tells (names_output why n) (NamesOutput why n)
names (failures.Status code) n = tt
names (failures.MissingOutput index) n = tells_lt index n
names (failures.TooLong index size) n = tells_lt index n

outcome_tells : (t : Task) (outcome : Outcome) → Tells (outcome_fits (bounds_of t.outputs) outcome) (OutcomeFits t outcome)
outcome_tells t (outcomes.Success contents) =
    let total = sum_by (λ (c : List ℕ). length c) contents in
    both (are_within (bounds_of t.outputs) contents) (nat_le total most_bytes) (AllFit t.outputs contents) (total ≤ most_bytes) (within t.outputs contents) (tells_le total most_bytes)
outcome_tells t (outcomes.Failed why) =
    subst (λ (n : ℕ). Tells (names_output why n) (NamesOutput why (length t.outputs))) (sym (length-map t.outputs (λ (w : Want). w.bound))) (names why (length t.outputs))
outcome_tells t outcomes.NotRun = tt

-- The session's test of an outcome by the bounds that it keeps is whether it fits the task.
pub fits_by : (t : Task) (bounds : List ℕ) (outcome : Outcome) (b : Bool) → bounds ≡ bounds_of t.outputs → outcome_fits bounds outcome ≡ b
    → Tells b (OutcomeFits t outcome)
fits_by t bounds outcome b same e =
    subst (λ (x : Bool). Tells x (OutcomeFits t outcome)) (ap (λ (bs : List ℕ). outcome_fits bs outcome) (sym same) ∙ e) (outcome_tells t outcome)

-- ---- files

abbrev pub numbered : List Port → List FileNo
numbered ports = map (λ port. port.file) ports

one_file : (file : FileNo) (ports : List Port) → contains_file file (numbered ports) ≡ contains_number file.0 (files_of ports)
one_file file [] = refl
one_file file (port ∷ ports) = ap (λ (b : Bool). (port.file.0 == file.0) || b) (one_file file ports)

truth : (b : Bool) → Tells b (IsTrue b)
truth true = refl
truth false = λ e. let wrong : ⊥ = cc in wrong

files_tell : (t : Task) (wanted : List FileNo) → Tells (has_all (numbered t.inputs) wanted) (TakesIn t wanted)
files_tell t [] = tt
files_tell t (file ∷ wanted) =
    let b = contains_number file.0 (files_of t.inputs) in
    let rest = has_all (numbered t.inputs) wanted in
    subst (λ (x : Bool). Tells (x && rest) (IsTrue b × TakesIn t wanted)) (sym (one_file file t.inputs)) (both b rest (IsTrue b) (TakesIn t wanted) (truth b) (files_tell t wanted))

-- The session's test of missing files by those that it keeps is whether the task takes them in.
pub takes_by : (t : Task) (files wanted : List FileNo) (b : Bool) → files ≡ numbered t.inputs → has_all files wanted ≡ b → Tells b (TakesIn t wanted)
takes_by t files wanted b same e =
    subst (λ (x : Bool). Tells x (TakesIn t wanted)) (ap (λ (fs : List FileNo). has_all fs wanted) (sym same) ∙ e) (files_tell t wanted)
