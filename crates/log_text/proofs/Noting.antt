-- What a tally tells behind one more record, kind by kind.
use Rattle.std.proofs.Common.{◌≡◌, ◌<◌, ◌+◌, ℕ, true, cond, ◌||◌, List, [], ◌∷◌, ◌++◌, length, Some, None, refl, ap, sym, subst, ◌∙◌, arith}
use Rattle.std.specs.Prelude.{◌==◌, is_some}
use Rattle.std.specs.Option.{option_map_or}
use Rattle.std.proofs.lemmas.Bool.{eq-eqb}
use Rattle.flow_types.specs.declared.job.Failure.{Failure}
use Rattle.flow_types.specs.declared.numbers.AttemptNo.{AttemptNo}
use Rattle.flow_types.specs.declared.numbers.Content.{Content}
use Rattle.flow_types.specs.declared.numbers.LinkNo.{LinkNo}
use Rattle.flow_types.specs.declared.numbers.RuleNo.{RuleNo}
use Rattle.flow_types.specs.declared.records.Record.{Record}
use Rattle.flow_types.specs.declared.records.Record.TheVariants as records
use Rattle.log_text.specs.declared.tally.Row.{Row}
use Rattle.log_text.specs.declared.tally.Tally.{Tally}
use Rattle.log_text.specs.Tallies.{IsPut, IsRow, Tells, row_at, row_in}
use Rattle.log_text.proofs.Telling.{attempt_in, row-push, run-is, tells-put}

-- the row is that of a rule of this tally
abbrev pub IsRowOf : Tally → ℕ → Row → Type 0
IsRowOf t r row = row ≡ row_in t.runs (row_at t r)

told_row : (t : Tally) (H : List Record) (r : ℕ) (row : Row) → Tells t H → r < length t.rows.items → IsRowOf t r row → IsRow H r row
told_row t H r row told inside is = subst (IsRow H r) (sym is) (told.rows r inside)

in_run : (t : Tally) (r : ℕ) (row : Row) → IsRowOf t r row → row.run ≡ t.runs
in_run t r row is = ap (λ (y : Row). y.run) is ∙ run-is t.runs (row_at t r)

pub tells-started : (t u : Tally) (H : List Record) (moment : ℕ) (r : RuleNo) (attempt : AttemptNo) (link : LinkNo) (row : Row) → Tells t H → r.0 < length t.rows.items
    → IsRowOf t r.0 row → IsPut t r.0 (record { done = row.done; run = row.run; running = Some attempt; failures = row.failures }) u
    → Tells u (H ++ (records.Started moment r attempt link ∷ []))
tells-started t u H moment r attempt link row told inside is put =
    let x : Record = records.Started moment r attempt link in
    let same : (r.0 == r.0) ≡ true = eq-eqb r.0 r.0 refl in
    tells-put t u H x r.0 _ told put inside (in_run t r.0 row is) refl refl refl
    (λ q other. record { outs = refl; running = ap (λ b. cond b (Some (Some (attempt, link))) None) other; failures = refl })
    (row-push H x r.0 row _ refl refl (told_row t H r.0 row told inside is) refl
    (ap (λ b. option_map_or attempt_in (cond b (Some (Some (attempt, link))) None) row.running) (sym same))
    (omega arith))

pub tells-done : (t u : Tally) (H : List Record) (moment : ℕ) (r : RuleNo) (attempt : AttemptNo) (outs : List Content) (row : Row) → Tells t H → r.0 < length t.rows.items
    → IsRowOf t r.0 row → IsPut t r.0 (record { done = true; run = row.run; running = None; failures = row.failures }) u
    → Tells u (H ++ (records.Done moment r attempt outs ∷ []))
tells-done t u H moment r attempt outs row told inside is put =
    let x : Record = records.Done moment r attempt outs in
    let same : (r.0 == r.0) ≡ true = eq-eqb r.0 r.0 refl in
    tells-put t u H x r.0 _ told put inside (in_run t r.0 row is) refl refl refl
    (λ q other. record { outs = ap (λ b. cond b (Some outs) None) other; running = ap (λ b. cond b (Some None) None) other; failures = refl })
    (row-push H x r.0 row _ refl refl (told_row t H r.0 row told inside is)
    (ap (λ b. is_some (cond b (Some outs) None) || row.done) (sym same))
    (ap (λ b. option_map_or attempt_in (cond b (Some None) None) row.running) (sym same))
    (omega arith))

pub tells-failed : (t u : Tally) (H : List Record) (moment : ℕ) (r : RuleNo) (attempt : AttemptNo) (why : Failure) (row : Row) → Tells t H → r.0 < length t.rows.items
    → IsRowOf t r.0 row → IsPut t r.0 (record { done = row.done; run = row.run; running = None; failures = row.failures + 1 }) u
    → Tells u (H ++ (records.Failed moment r attempt why ∷ []))
tells-failed t u H moment r attempt why row told inside is put =
    let x : Record = records.Failed moment r attempt why in
    let same : (r.0 == r.0) ≡ true = eq-eqb r.0 r.0 refl in
    tells-put t u H x r.0 _ told put inside (in_run t r.0 row is) refl refl refl
    (λ q other. record { outs = refl; running = ap (λ b. cond b (Some None) None) other; failures = other })
    (row-push H x r.0 row _ refl refl (told_row t H r.0 row told inside is) refl
    (ap (λ b. option_map_or attempt_in (cond b (Some None) None) row.running) (sym same))
    (ap (λ b. row.failures + cond b 1 0) (sym same)))

pub tells-lost : (t u : Tally) (H : List Record) (moment : ℕ) (r : RuleNo) (attempt : AttemptNo) (row : Row) → Tells t H → r.0 < length t.rows.items
    → IsRowOf t r.0 row → IsPut t r.0 (record { done = row.done; run = row.run; running = None; failures = row.failures }) u
    → Tells u (H ++ (records.Lost moment r attempt ∷ []))
tells-lost t u H moment r attempt row told inside is put =
    let x : Record = records.Lost moment r attempt in
    let same : (r.0 == r.0) ≡ true = eq-eqb r.0 r.0 refl in
    tells-put t u H x r.0 _ told put inside (in_run t r.0 row is) refl refl refl
    (λ q other. record { outs = refl; running = ap (λ b. cond b (Some None) None) other; failures = refl })
    (row-push H x r.0 row _ refl refl (told_row t H r.0 row told inside is) refl
    (ap (λ b. option_map_or attempt_in (cond b (Some None) None) row.running) (sym same))
    (omega arith))
