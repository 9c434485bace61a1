-- The part of a history.
use Rattle.std.proofs.Common.{◌≡◌, ◌∙◌, ℕ, zero, suc, ◌+◌, ◌<◌, ◌≤◌, Bool, true, false, cond, List, [], ◌∷◌, ◌++◌, length, take, drop, get_or, ap, sym, refl, arith}
use Rattle.std.specs.Prelude.{fold}
use Rattle.std.specs.List.{list_all, list_any}
use Rattle.std.proofs.lemmas.Bool.{and_parts}
use Rattle.std.proofs.lemmas.List.{take_more, length-take-le}
use Rattle.std.proofs.lemmas.List.Folds.{list_all-append, list_any-append}
use Rattle.flow_types.specs.declared.plan.Plan.{Plan}
use Rattle.flow_types.specs.declared.records.Record.{Record}
use Rattle.flow_types.specs.declared.records.Record.TheVariants as records
use Rattle.run_history.specs.History.{is_cleaned, part}
use Rattle.run_history.specs.Legal.{is_allowed}
use Rattle.run_history.proofs.Allowed.{finishes, starts}
use Rattle.run_history.proofs.Along.{kept-legal}
use Rattle.run_history.proofs.Bools.{both}
use Rattle.run_history.proofs.Steps.{part-cleaned, part-push}
use Rattle.log_text.specs.Tallies.{HasLegal, is_below}

-- the front with one record more
front_more : (H : List Record) (i : ℕ) (x : Record) → i < length H → x ≡ get_or H i x → take (i + 1) H ≡ take i H ++ (x ∷ [])
front_more H i x inside here = take_more H i x inside ∙ ap (λ (y : Record). take i H ++ (y ∷ [])) (sym here)

past_end : (H : List Record) (n : ℕ) → length H ≤ n → drop n H ≡ []
past_end [] zero le = refl
past_end [] (suc n) le = refl
past_end (y ∷ H) zero le = absurd (let wrong : ⊥ = omega (arith, le) in wrong)
past_end (y ∷ H) (suc n) le = past_end H n (omega (arith, le))

drop_last : (H : List Record) (n : ℕ) (x : Record) → n ≤ length H → drop n (H ++ (x ∷ [])) ≡ drop n H ++ (x ∷ [])
drop_last H zero x le = refl
drop_last [] (suc n) x le = absurd (let wrong : ⊥ = omega (arith, le) in wrong)
drop_last (y ∷ H) (suc n) x le = drop_last H n x (omega (arith, le))

-- the part of one record more
pub part_cleans : (H : List Record) (i : ℕ) (x : Record) → i < length H → x ≡ get_or H i x → is_cleaned x ≡ true → drop (i + 1) (take (i + 1) H) ≡ part (take (i + 1) H)
part_cleans H i x inside here cleans =
    past_end (take (i + 1) H) (i + 1) (let long = length-take-le (i + 1) H (omega (arith, inside)) in omega (arith, long))
    ∙ sym (ap part (front_more H i x inside here) ∙ part-cleaned (take i H) x cleans)

pub part_goes_on : (H : List Record) (i start : ℕ) (x : Record) → i < length H → x ≡ get_or H i x → is_cleaned x ≡ false → start ≤ i → drop start (take i H) ≡ part (take i H)
    → drop start (take (i + 1) H) ≡ part (take (i + 1) H)
part_goes_on H i start x inside here more le is =
    ap (drop start) (front_more H i x inside here)
    ∙ drop_last (take i H) start x (let long = length-take-le i H (omega (arith, inside)) in omega (arith, long, le))
    ∙ ap (λ (l : List Record). l ++ (x ∷ [])) is ∙ sym (part-push (take i H) x more) ∙ sym (ap part (front_more H i x inside here))

-- no cleaning stands in a part
pub part-goes : (H : List Record) → list_any is_cleaned (part H) ≡ false
part-goes H = along [] H refl
  where
    next : (kept : List Record) (x : Record) (b : Bool) → is_cleaned x ≡ b → list_any is_cleaned kept ≡ false → list_any is_cleaned (cond b [] (kept ++ (x ∷ []))) ≡ false
    next kept x true cleans none = refl
    next kept x false more none = grind (arith, more, none, list_any-append is_cleaned kept (x ∷ []))

    along : (kept xs : List Record) → list_any is_cleaned kept ≡ false → list_any is_cleaned (fold (λ k x. cond (is_cleaned x) [] (k ++ (x ∷ []))) kept xs) ≡ false
    along kept [] none = none
    along kept (x ∷ xs) none = along (cond (is_cleaned x) [] (kept ++ (x ∷ []))) xs (next kept x (is_cleaned x) refl none)

below_one : (P : Plan) (digest : List ℕ) (H : List Record) (x : Record) → is_allowed P digest H x ≡ true → is_below (length P.rules) x ≡ true
below_one P digest H (records.Opened moment run retries limit plan sources) allowed = refl
below_one P digest H (records.Resumed moment run retries limit) allowed = refl
below_one P digest H (records.Started moment r attempt link) allowed = (starts P digest H moment r attempt link allowed).in_plan
below_one P digest H (records.Done moment r attempt outs) allowed = (and_parts _ _ (finishes P digest H moment r attempt outs allowed).runs).0
below_one P digest H (records.Failed moment r attempt why) allowed = let h1 = and_parts _ _ allowed in (and_parts _ _ h1.0).0
below_one P digest H (records.Lost moment r attempt) allowed = (and_parts _ _ allowed).0
below_one P digest H (records.Dropped moment f) allowed = refl
below_one P digest H (records.Ended moment kind) allowed = refl

-- a part of a legal history names rules of the plan alone
pub part-below : (P : Plan) (H : List Record) → HasLegal P H → list_all (is_below (length P.rules)) (part H) ≡ true
part-below P H legal = kept-legal P legal.0 (λ G. list_all (is_below (length P.rules)) (part G) ≡ true) (record {
  start = λ G none. ap (list_all (is_below (length P.rules))) none;
  step = λ G x more allowed before.
      ap (list_all (is_below (length P.rules))) (part-push G x more) ∙ list_all-append (is_below (length P.rules)) (part G) (x ∷ [])
      ∙ both _ _ before (both _ _ (below_one P legal.0 G x allowed) refl);
}) H legal.1
