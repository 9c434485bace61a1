-- What a tally tells of a history, and of one with one record more.
use Rattle.std.proofs.Common.{◌≡◌, ◌≤◌, ◌<◌, ◌+◌, ℕ, Bool, true, false, cond, ◌||◌, List, [], ◌∷◌, ◌++◌, length, Option, Some, None, refl, ap, sym, subst, ◌∙◌, arith}
use Rattle.std.specs.Prelude.{◌==◌, count_by, is_some, nat_le, option_map, slice_index_or, slice_set, unwrap_or}
use Rattle.std.specs.Option.{option_map_or}
use Rattle.std.proofs.lemmas.Bool.{eq-eqb, eqb-true, eqb-false}
use Rattle.std.proofs.lemmas.List.{get_or-set_same, get_or-set_other, length-set}
use Rattle.std.proofs.lemmas.List.Sums.{fold-append}
use Rattle.flow_types.specs.declared.numbers.AttemptNo.{AttemptNo}
use Rattle.flow_types.specs.declared.numbers.Content.{Content}
use Rattle.flow_types.specs.declared.records.Record.{Record}
use Rattle.run_history.specs.declared.states.RuleState.TheVariants as rule
use Rattle.run_history.specs.History.{is_cleaned, is_opening, last_said, part, since_opening}
use Rattle.run_history.specs.States.{Place, failures_of, is_failure_of, outs_in, outs_of, retries_in, retries_of, rule_state, running_in, running_says, unfinished_state}
use Rattle.run_history.proofs.Steps.{last_said-push, outs-push, part-push, running-opened, running-push, said_or, since-push}
use Rattle.log_text.specs.declared.tally.Row.{Row}
use Rattle.log_text.specs.declared.tally.Tally.{Tally}
use Rattle.log_text.specs.Tallies.{IsOpened, IsPut, IsRow, Tells, blank_row, open_state, row_at, row_in, state_of}

-- the attempt of a place
abbrev pub attempt_in : Option Place → Option AttemptNo
attempt_in place = option_map (λ p. p.0) place

told_by : (outs : Option (List Content)) (place : Option Place) (failed : Bool)
    → option_map_or (λ o. rule.Complete) outs (unfinished_state place failed) ≡ cond (is_some outs) rule.Complete (open_state (attempt_in place) failed)
told_by (Some outs) place failed = refl
told_by None (Some place) failed = refl
told_by None None true = refl
told_by None None false = refl

-- the state of a rule is that of its row
pub state-is : (H : List Record) (r retries : ℕ) (row : Row) → IsRow H r row → retries ≡ retries_of H → rule_state H r ≡ state_of retries row
state-is H r retries row is same =
    told_by (outs_of H r) (running_in H r) (nat_le (retries_of H + 1) (failures_of H r))
    ∙ ap (λ n. cond (is_some (outs_of H r)) rule.Complete (open_state (attempt_in (running_in H r)) (nat_le (n + 1) (failures_of H r)))) (sym same)
    ∙ ap (λ n. cond (is_some (outs_of H r)) rule.Complete (open_state (attempt_in (running_in H r)) (nat_le (retries + 1) n))) (sym is.failures)
    ∙ ap (λ a. cond (is_some (outs_of H r)) rule.Complete (open_state a (nat_le (retries + 1) row.failures))) (sym is.running)
    ∙ ap (λ b. cond b rule.Complete (open_state row.running (nat_le (retries + 1) row.failures))) (sym is.done)

-- a row of this run is taken as it is
pub row-now : (run : ℕ) (row : Row) → row.run ≡ run → row_in run row ≡ row
row-now run row now = ap (λ b. cond b row (record { done = row.done; run = run; running = None; failures = 0 })) (eq-eqb row.run run now)

-- of a row of an earlier run nothing is left but whether the rule is done
pub row-earlier : (run : ℕ) (row : Row) → (row.run == run) ≡ false → row_in run row ≡ record { done = row.done; run = run; running = None; failures = 0 }
row-earlier run row earlier = ap (λ b. cond b row (record { done = row.done; run = run; running = None; failures = 0 })) earlier

pub run-is : (run : ℕ) (row : Row) → (row_in run row).run ≡ run
run-is run row = by_test (row.run == run) refl
  where
    by_test : (b : Bool) → (row.run == run) ≡ b → (let row : Row = cond b row (record { done = row.done; run = run; running = None; failures = 0 }) in row.run) ≡ run
    by_test true now = eqb-true row.run run now
    by_test false earlier = refl

pub done-is : (run : ℕ) (row : Row) → (row_in run row).done ≡ row.done
done-is run row = by_test (row.run == run)
  where
    by_test : (b : Bool) → (let row : Row = cond b row (record { done = row.done; run = run; running = None; failures = 0 }) in row.done) ≡ row.done
    by_test true = refl
    by_test false = refl

-- the record says nothing of rule r
pub record IsSilent (r : ℕ) (x : Record) : Type 0 where
  pub outs : outs_in r x ≡ None
  pub running : running_says r x ≡ None
  pub failures : is_failure_of r x ≡ false

some_by : (said last : Option (List Content)) → (is_some said || is_some last) ≡ is_some (option_map_or Some said last)
some_by None last = refl
some_by (Some b) last = refl

place_by : (said : Option (Option Place)) (last : Option Place) → option_map_or attempt_in said (attempt_in last) ≡ attempt_in (option_map_or (λ p. p) said last)
place_by None last = refl
place_by (Some place) last = refl

since-more : (H : List Record) (x : Record) → is_cleaned x ≡ false → is_opening x ≡ false → since_opening (H ++ (x ∷ [])) ≡ since_opening H ++ (x ∷ [])
since-more H x more stays = since-push H x more ∙ ap (λ b. cond b [] (since_opening H ++ (x ∷ []))) stays

count-push : (p : Record → Bool) (xs : List Record) (x : Record) → count_by p (xs ++ (x ∷ [])) ≡ count_by p xs + cond (p x) 1 0
count-push p xs x = fold-append (λ n y. n + cond (p y) 1 0) 0 xs (x ∷ [])

-- a row behind one more record
pub row-push : (H : List Record) (x : Record) (r : ℕ) (row next : Row) → is_cleaned x ≡ false → is_opening x ≡ false → IsRow H r row
    → next.done ≡ (is_some (outs_in r x) || row.done) → next.running ≡ option_map_or attempt_in (running_says r x) row.running
    → next.failures ≡ row.failures + cond (is_failure_of r x) 1 0 → IsRow (H ++ (x ∷ [])) r next
row-push H x r row next more stays is done running failures = record {
  done = done ∙ ap (λ b. is_some (outs_in r x) || b) is.done ∙ some_by (outs_in r x) (outs_of H r) ∙ ap is_some (sym (outs-push H x r more));
  running = running ∙ ap (λ p. option_map_or attempt_in (running_says r x) p) is.running ∙ place_by (running_says r x) (running_in H r) ∙ ap attempt_in (sym (running-push H x r more stays));
  failures = failures ∙ ap (λ n. n + cond (is_failure_of r x) 1 0) is.failures
      ∙ sym (ap (λ (xs : List Record). count_by (is_failure_of r) xs) (since-more H x more stays) ∙ count-push (is_failure_of r) (since_opening H) x);
}

pub row-same : (H : List Record) (x : Record) (r : ℕ) (row : Row) → is_cleaned x ≡ false → is_opening x ≡ false → IsSilent r x → IsRow H r row → IsRow (H ++ (x ∷ [])) r row
row-same H x r row more stays silent is =
    let none : row.failures ≡ row.failures + 0 = omega arith in
    row-push H x r row row more stays is
    (ap (λ o. is_some o || row.done) (sym silent.outs))
    (ap (λ s. option_map_or attempt_in s row.running) (sym silent.running))
    (none ∙ ap (λ b. row.failures + cond b 1 0) (sym silent.failures))

pub retries-push : (H : List Record) (x : Record) → is_cleaned x ≡ false → retries_of (H ++ (x ∷ [])) ≡ option_map_or (λ n. n) (retries_in x) (retries_of H)
retries-push H x more =
    ap (λ (xs : List Record). unwrap_or (last_said retries_in xs) 0) (part-push H x more)
    ∙ ap (λ said. unwrap_or said 0) (last_said-push retries_in (part H) x)
    ∙ said_or (retries_in x) (last_said retries_in (part H)) 0

-- The tally tells what one more record says of the one rule whose row was written.
pub tells-put : (t u : Tally) (H : List Record) (x : Record) (q : ℕ) (row : Row) → Tells t H → IsPut t q row u → q < length t.rows.items → row.run ≡ t.runs
    → is_cleaned x ≡ false → is_opening x ≡ false → retries_in x ≡ None → ((r : ℕ) → (q == r) ≡ false → IsSilent r x) → IsRow (H ++ (x ∷ [])) q row → Tells u (H ++ (x ∷ []))
tells-put t u H x q row told put inside now more stays kept silent here = record {
  rows = λ r below. by_test r (q == r) refl (let as_long : length u.rows.items ≡ length t.rows.items = ap (λ (l : List Row). length l) put.rows ∙ length-set t.rows.items q row in omega (arith, below, as_long));
  retries = put.retries ∙ told.retries ∙ sym (retries-push H x more ∙ ap (λ o. option_map_or (λ n. n) o (retries_of H)) kept);
}
  where
    at : (r : ℕ) (y : Row) → slice_index_or (slice_set t.rows.items q row) r blank_row ≡ y → row_in t.runs y ≡ row_in u.runs (row_at u r)
    at r y is = ap (row_in t.runs) (sym is ∙ ap (λ (l : List Row). slice_index_or l r blank_row) (sym put.rows)) ∙ ap (λ n. row_in n (row_at u r)) (sym put.runs)

    by_test : (r : ℕ) (b : Bool) → (q == r) ≡ b → r < length t.rows.items → IsRow (H ++ (x ∷ [])) r (row_in u.runs (row_at u r))
    by_test r true same below =
        let is : q ≡ r = eqb-true q r same in
        let there : slice_index_or (slice_set t.rows.items q row) r blank_row ≡ row =
        ap (λ i. slice_index_or (slice_set t.rows.items q row) i blank_row) (sym is) ∙ get_or-set_same t.rows.items q row blank_row inside in
        subst (IsRow (H ++ (x ∷ [])) r) (sym (row-now t.runs row now) ∙ at r row there) (subst (λ i. IsRow (H ++ (x ∷ [])) i row) is here)
    by_test r false other below =
        let there : slice_index_or (slice_set t.rows.items q row) r blank_row ≡ row_at t r =
        get_or-set_other t.rows.items q r row blank_row (λ is. eqb-false q r other (sym is)) in
        subst (IsRow (H ++ (x ∷ [])) r) (at r (row_at t r) there) (row-same H x r (row_in t.runs (row_at t r)) more stays (silent r other) (told.rows r below))

-- The same of a record that is of no rule.
pub tells-kept : (t u : Tally) (H : List Record) (x : Record) → Tells t H → u.rows.items ≡ t.rows.items → u.runs ≡ t.runs → u.retries ≡ t.retries
    → is_cleaned x ≡ false → is_opening x ≡ false → retries_in x ≡ None → ((r : ℕ) → IsSilent r x) → Tells u (H ++ (x ∷ []))
tells-kept t u H x told rows runs retries more stays kept silent = record {
  rows = λ r below.
      subst (IsRow (H ++ (x ∷ [])) r) (ap (λ (l : List Row). row_in t.runs (slice_index_or l r blank_row)) (sym rows) ∙ ap (λ n. row_in n (row_at u r)) (sym runs))
      (row-same H x r (row_in t.runs (row_at t r)) more stays (silent r) (told.rows r (let as_long = ap (λ (l : List Row). length l) rows in omega (arith, below, as_long))));
  retries = retries ∙ told.retries ∙ sym (retries-push H x more ∙ ap (λ o. option_map_or (λ n. n) o (retries_of H)) kept);
}

-- The same of an opening.
pub tells-opened : (t u : Tally) (H : List Record) (x : Record) (given : ℕ) → Tells t H → IsOpened t given u → ((r : ℕ) → (row_at t r).run ≤ t.runs)
    → is_cleaned x ≡ false → is_opening x ≡ true → retries_in x ≡ Some given → ((r : ℕ) → outs_in r x ≡ None) → Tells u (H ++ (x ∷ []))
tells-opened t u H x given told opened earlier more opens states silent = record {
  rows = λ r below.
      let row : Row = row_at t r in
      let before : (row.run == (t.runs + 1)) ≡ false = later row.run (t.runs + 1) (let le = earlier r in omega (arith, le)) in
      subst (IsRow (H ++ (x ∷ [])) r)
      (sym (row-earlier (t.runs + 1) row before) ∙ ap (λ (l : List Row). row_in (t.runs + 1) (slice_index_or l r blank_row)) (sym opened.rows) ∙ ap (λ n. row_in n (row_at u r)) (sym opened.runs))
      (record {
        done = sym (done-is t.runs row) ∙ (told.rows r (let as_long = ap (λ (l : List Row). length l) opened.rows in omega (arith, below, as_long))).done
            ∙ ap is_some (sym (outs-push H x r more ∙ ap (λ o. option_map_or Some o (outs_of H r)) (silent r)));
        running = ap attempt_in (sym (running-opened H x r more opens));
        failures = ap (λ (xs : List Record). count_by (is_failure_of r) xs) (sym (since-push H x more ∙ ap (λ b. cond b [] (since_opening H ++ (x ∷ []))) opens));
      });
  retries = opened.retries ∙ sym (retries-push H x more ∙ ap (λ o. option_map_or (λ n. n) o (retries_of H)) states);
}
  where
    later : (a b : ℕ) → a < b → (a == b) ≡ false
    later a b less = by_test (a == b) refl
      where
        by_test : (c : Bool) → (a == b) ≡ c → c ≡ false
        by_test true same = let is = eqb-true a b same in absurd (let wrong : ⊥ = omega (arith, less, is) in wrong)
        by_test false other = refl
