-- What is noted of a table is what its records say.
use Rattle.std.proofs.Common.{◌≡◌, ℕ, ◌<◌, Bool, true, false, cond, not, ◌&&◌, ◌||◌, List, [], ◌∷◌}
use Rattle.std.proofs.Common.{◌+◌, length, refl, ap, sym, ◌∙◌, arith}
use Rattle.std.specs.Prelude.{◌==◌, slice_index_or, slice_set}
use Rattle.std.proofs.lemmas.Bool.{eqb-false, eqb-true}
use Rattle.std.proofs.lemmas.List.{get_or-set_other, get_or-set_same}
use Rattle.std.specs.List.{list_any}
use Rattle.flow_types.specs.declared.plan.Plan.{Plan}
use Rattle.flow_types.specs.declared.records.Record.{Record}
use Rattle.flow_types.specs.declared.records.Record.TheVariants as records
use Rattle.run_history.specs.History.{part}
use Rattle.run_history.specs.Storage.{is_complete}
use Rattle.task_core.specs.Stands.{has_started, is_start_of}
use Rattle.safe_storage.specs.declared.stand.Phase.{Phase}
use Rattle.safe_storage.specs.declared.stand.Phase.TheVariants as phase
use Rattle.safe_storage.specs.declared.stand.Stand.{Stand}
use Rattle.safe_walks.specs.Walk.{is_claimed, standing, starts, was_started}
use Rattle.safe_storage.specs.Counters.{is_claimed_phase, is_complete_phase, phase_at, told}
use Rattle.safe_storage.specs.Pacing.{bytes_in, phase_in}
use Rattle.safe_storage.proofs.Alike.{IsAlike}

same_start : (r : ℕ) (x : Record) → starts r x ≡ is_start_of r x
same_start r (records.Opened moment run retries limit plan sources) = refl
same_start r (records.Resumed moment run retries limit) = refl
same_start r (records.Started moment rule attempt link) = refl
same_start r (records.Done moment rule attempt outs) = refl
same_start r (records.Failed moment rule attempt why) = refl
same_start r (records.Lost moment rule attempt) = refl
same_start r (records.Dropped moment file) = refl
same_start r (records.Ended moment kind) = refl

any_start : (r : ℕ) (xs : List Record) → list_any (starts r) xs ≡ list_any (is_start_of r) xs
any_start r [] = refl
any_start r (x ∷ xs) = ap (λ b. b || list_any (starts r) xs) (same_start r x)
    ∙ ap (λ b. is_start_of r x || b) (any_start r xs)

-- a table tells of a Started as the walk's definitions do
pub started-is : (H : List Record) (r : ℕ) → was_started H r ≡ has_started H r
started-is H r = any_start r (part H)

pub claimed-is : (H : List Record) (r : ℕ)
    → is_claimed H r ≡ (not (is_complete H r) && has_started H r)
claimed-is H r = ap (λ b. not (is_complete H r) && b) (started-is H r)

complete_told : (c s : Bool)
    → is_complete_phase (cond c phase.Complete (cond s phase.Claimed phase.Open)) ≡ c
complete_told true s = refl
complete_told false true = refl
complete_told false false = refl

claimed_told : (c s : Bool)
    → is_claimed_phase (cond c phase.Complete (cond s phase.Claimed phase.Open)) ≡ (not c && s)
claimed_told true s = refl
claimed_told false true = refl
claimed_told false false = refl

-- What is noted of rules stands as the records say, with their bytes.
pub noted-rules : (P : Plan) (H : List Record) (s : Stand)
    → ((r : ℕ) → r < length P.rules → phase_at s.phases.items r ≡ phase_in H r)
    → IsAlike P
    (record { complete = (told s).complete; claimed = (told s).claimed; bytes = bytes_in P H })
    (standing P H)
noted-rules P H s rules = record {
  complete = λ r inside. ap is_complete_phase (rules r inside)
      ∙ complete_told (is_complete H r) (was_started H r);
  claimed = λ r inside. ap is_claimed_phase (rules r inside)
      ∙ claimed_told (is_complete H r) (was_started H r);
  bytes = λ f inside. refl;
}

-- What is noted stands as the records say.
pub noted-alike : (P : Plan) (H : List Record) (s : Stand)
    → ((r : ℕ) → r < length P.rules → phase_at s.phases.items r ≡ phase_in H r)
    → ((f : ℕ) → f < length P.files → slice_index_or s.bytes.items f 0 ≡ bytes_in P H f)
    → IsAlike P (told s) (standing P H)
noted-alike P H s rules files =
    let are = noted-rules P H s rules in
    record { complete = are.complete; claimed = are.claimed; bytes = files }

-- one rule more is noted
pub noted-next : (phases : List Phase) (n : ℕ) (x : Phase) (g : ℕ → Phase) → n < length phases
    → ((r : ℕ) → r < n → phase_at phases r ≡ g r) → x ≡ g n → (r : ℕ) → r < n + 1
    → phase_at (slice_set phases n x) r ≡ g r
noted-next phases n x g inside below here r less = by_rule (n == r) refl
  where
    by_rule : (b : Bool) → (n == r) ≡ b → phase_at (slice_set phases n x) r ≡ g r
    by_rule true same =
        let one : n ≡ r = eqb-true n r same in
        ap (phase_at (slice_set phases n x)) (sym one)
        ∙ get_or-set_same phases n x phase.Open inside ∙ here ∙ ap g one
    by_rule false other =
        let apart : n ≡ r → ⊥ = eqb-false n r other in
        get_or-set_other phases n r x phase.Open (λ same. apart (sym same))
        ∙ below r (omega (arith, less, apart))
