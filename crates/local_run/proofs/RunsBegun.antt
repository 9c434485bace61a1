-- What runs goes on beside a rule that is started, and a start has a number of its own.
use Rattle.std.proofs.Common.{◌≡◌, ◌≤◌, ◌<◌, ◌∙◌, ⊎_elim, ℕ, Bool, true, false, cond, ◌&&◌, List, [], ◌∷◌, ◌++◌, length, Option, Some, None, refl, sym, ap, subst, arith, true≢false}
use Rattle.std.specs.Prelude.{◌==◌, is_none, is_some, unwrap_or}
use Rattle.std.specs.Option.{option_map_or}
use Rattle.std.proofs.lemmas.Bool.{and_parts, eqb-true, false_from_ne_true}
use Rattle.flow_types.specs.declared.plan.Plan.{Plan}
use Rattle.flow_types.specs.declared.numbers.AttemptNo.{AttemptNo}
use Rattle.flow_types.specs.declared.numbers.FileNo.{FileNo}
use Rattle.flow_types.specs.declared.numbers.LinkNo.{LinkNo}
use Rattle.flow_types.specs.declared.numbers.RuleNo.{RuleNo}
use Rattle.flow_types.specs.declared.records.Record.{Record}
use Rattle.flow_types.specs.declared.records.Record.TheVariants as records
use Rattle.run_history.specs.declared.states.RuleState.{RuleState}
use Rattle.run_history.specs.declared.states.RuleState.TheVariants as rule
use Rattle.run_history.specs.Answers.{has_ended}
use Rattle.run_history.specs.History.{after_last, is_cleaned, is_opening, is_start, last_said, next_attempt, part}
use Rattle.run_history.specs.Legal.{is_allowed, is_legal}
use Rattle.run_history.specs.States.{Place, outs_in, outs_of, rule_state, running_in, running_says}
use Rattle.run_history.specs.Storage.{is_running, is_running_state, is_waiting, is_waiting_state, running_rules}
use Rattle.run_history.proofs.Allowed.{starts}
use Rattle.run_history.proofs.Along.{kept-legal}
use Rattle.run_history.proofs.Steps.{outs-push, running-is, running-opened, running-push}
use Rattle.task_core.proofs.Pushing.{count-push}
use Rattle.desk.specs.State.{is_place, runs_with}
use Rattle.desk.proofs.Running.{dropped_runs}
use Rattle.local_run.specs.Course.{MayDrop}
use Rattle.local_run.specs.Ends.{failed_count}
use Rattle.local_run.proofs.Failures.{logs_plain}
use Rattle.local_run.proofs.Fresh.{unended_by}

-- ---- what runs on

-- a record that says nothing of a rule leaves its attempt running
runs_stay : (H : List Record) (x : Record) (r number link : ℕ) → is_cleaned x ≡ false → is_opening x ≡ false → outs_in r x ≡ None → running_says r x ≡ None
    → runs_with H r number link ≡ true → runs_with (H ++ (x ∷ [])) r number link ≡ true
runs_stay H x r number link more stays outs says runs =
    let place : running_in (H ++ (x ∷ [])) r ≡ running_in H r = running-push H x r more stays ∙ ap (λ p. option_map_or (λ running. running) p (running_in H r)) says in
    let none : outs_of (H ++ (x ∷ [])) r ≡ outs_of H r = outs-push H x r more ∙ ap (λ o. option_map_or Some o (outs_of H r)) outs in
    let running : is_running (H ++ (x ∷ [])) r ≡ is_running H r =
    running-is (H ++ (x ∷ [])) r ∙ ap (λ o. is_none o && is_some (running_in (H ++ (x ∷ [])) r)) none ∙ ap (λ p. is_none (outs_of H r) && is_some p) place ∙ sym (running-is H r) in
    ap (λ b. b && option_map_or (is_place number link) (running_in (H ++ (x ∷ [])) r) false) running
    ∙ ap (λ p. is_running H r && option_map_or (is_place number link) p false) place
    ∙ runs

waits_by : (s : RuleState) → is_waiting_state s ≡ true → is_running_state s ≡ true → ⊥
waits_by rule.Waiting waits runs = true≢false (sym runs)
waits_by (rule.Running attempt) waits runs = true≢false (sym waits)
waits_by rule.Complete waits runs = true≢false (sym waits)
waits_by rule.Failed waits runs = true≢false (sym waits)

-- a rule that waits is none that runs
other_rule : (H : List Record) (r q number link : ℕ) → is_waiting H r ≡ true → runs_with H q number link ≡ true → (r == q) ≡ false
other_rule H r q number link waits runs =
    false_from_ne_true (r == q)
    (λ same. waits_by (rule_state H q) (ap (is_waiting H) (sym (eqb-true r q same)) ∙ waits) (and_parts (is_running H q) (option_map_or (is_place number link) (running_in H q) false) runs).0)

-- the start of a rule that waits leaves what runs running
pub runs_beside : (H : List Record) (moment : ℕ) (r : RuleNo) (attempt : AttemptNo) (link : LinkNo) (q number on : ℕ) → is_waiting H r.0 ≡ true → runs_with H q number on ≡ true
    → runs_with (H ++ (records.Started moment r attempt link ∷ [])) q number on ≡ true
runs_beside H moment r attempt link q number on waits runs =
    runs_stay H (records.Started moment r attempt link) q number on refl refl refl (ap (λ b. cond b (Some (Some (attempt, link))) None) (other_rule H r.0 q number on waits runs)) runs

-- Behind these records what ran before them runs on, no more rules run, and neither a failure nor an end was added.
pub record RunOn (P : Plan) (H all : List Record) : Type 0 where
  pub runs : (r number link : ℕ) → runs_with H r number link ≡ true → runs_with all r number link ≡ true
  pub count : length (running_rules P all) ≤ length (running_rules P H)
  pub failed : failed_count all ≡ failed_count H
  pub unended : has_ended H ≡ false → has_ended all ≡ false

pub run_on_same : (P : Plan) (H all : List Record) → all ≡ H → RunOn P H all
run_on_same P H all are =
    subst (RunOn P H) (sym are) (record {
      runs = λ r number link runs. runs;
      count = omega arith;
      failed = refl;
      unended = λ unended. unended;
    })

run_on_dropped : (P : Plan) (H all : List Record) (moment : ℕ) (file : FileNo) → all ≡ H ++ (records.Dropped moment file ∷ []) → RunOn P H all
run_on_dropped P H all moment file are =
    let x : Record = records.Dropped moment file in
    record {
      runs = λ r number link runs. subst (λ (G : List Record). runs_with G r number link ≡ true) (sym are) (runs_stay H x r number link refl refl refl refl runs);
      count = let same = dropped_runs P H moment file in let now = ap (λ (G : List Record). length (running_rules P G)) are in omega (arith, same, now);
      failed = let same = logs_plain H all x 0 0 are refl refl in omega (arith, same);
      unended = unended_by H all x are refl refl refl;
    }

-- the drop of a file
pub run_on_drop : (P : Plan) (H all : List Record) → MayDrop H all → RunOn P H all
run_on_drop P H all logs = ⊎_elim (λ are. run_on_same P H all are) (λ drop. run_on_dropped P H all drop.0 drop.1.0 drop.1.1) logs

-- ---- the numbers of what runs

-- each attempt that runs has a number below the next one's
abbrev Numbered : List Record → Type 0
Numbered H = (r : ℕ) (p : Place) → running_in H r ≡ Some p → p.0.0 < next_attempt H

first_numbered : (H : List Record) → part H ≡ [] → Numbered H
first_numbered H first r p some =
    let none : running_in H r ≡ None = ap (λ (xs : List Record). unwrap_or (last_said (running_says r) (after_last is_opening xs)) None) first in
    absurd (true≢false (sym (ap is_some (sym none ∙ some))))

by_says : (says : Option (Option Place)) (old : Option Place) (p : Place) (m : ℕ) → option_map_or (λ o. o) says old ≡ Some p → ((q : Place) → says ≡ Some (Some q) → q.0.0 < m)
    → ((q : Place) → old ≡ Some q → q.0.0 < m) → p.0.0 < m
by_says None old p m is said was = was p is
by_says (Some o) old p m is said was = said p (ap (λ (place : Option Place). Some place) is)

-- it names no attempt
silent : (says : Option (Option Place)) (q : Place) → option_map_or (λ (o : Option Place). is_some o) says false ≡ false → says ≡ Some (Some q) → ⊥
silent says q none is = true≢false (sym (ap (λ (s : Option (Option Place)). option_map_or (λ (o : Option Place). is_some o) s false) is) ∙ none)

closed : (b : Bool) → let none : Option Place = None in option_map_or (λ (o : Option Place). is_some o) (cond b (Some none) None) false ≡ false
closed true = refl
closed false = refl

named : (b : Bool) (place q : Place) → cond b (Some (Some place)) None ≡ Some (Some q) → place.0.0 ≡ q.0.0
named true place q is = ap (λ (s : Option (Option Place)). option_map_or (λ (o : Option Place). option_map_or (λ (p : Place). p.0.0) o 0) s 0) is
named false place q is = absurd (true≢false (sym (ap is_some is)))

said_below : (P : Plan) (digest : List ℕ) (H : List Record) (x : Record) (r : ℕ) → is_allowed P digest H x ≡ true → (q : Place) → running_says r x ≡ Some (Some q) → q.0.0 < next_attempt (H ++ (x ∷ []))
said_below P digest H (records.Opened moment run retries limit plan sources) r allowed q says = absurd (silent _ q refl says)
said_below P digest H (records.Resumed moment run retries limit) r allowed q says = absurd (silent _ q refl says)
said_below P digest H (records.Started moment rule attempt link) r allowed q says =
    let numbered = eqb-true attempt.0 (next_attempt H) (starts P digest H moment rule attempt link allowed).numbered in
    let next = count-push is_start H (records.Started moment rule attempt link) in
    let same = named (rule.0 == r) (attempt, link) q says in
    omega (arith, numbered, next, same)
said_below P digest H (records.Done moment rule attempt outs) r allowed q says = absurd (silent _ q (closed (rule.0 == r)) says)
said_below P digest H (records.Failed moment rule attempt why) r allowed q says = absurd (silent _ q (closed (rule.0 == r)) says)
said_below P digest H (records.Lost moment rule attempt) r allowed q says = absurd (silent _ q (closed (rule.0 == r)) says)
said_below P digest H (records.Dropped moment file) r allowed q says = absurd (silent _ q refl says)
said_below P digest H (records.Ended moment kind) r allowed q says = absurd (silent _ q refl says)

still_below : (H : List Record) (x : Record) (n : ℕ) → n < next_attempt H → n < next_attempt (H ++ (x ∷ []))
still_below H x n less = let next = count-push is_start H x in omega (arith, less, next)

step_numbered : (P : Plan) (digest : List ℕ) (H : List Record) (x : Record) → is_cleaned x ≡ false → is_allowed P digest H x ≡ true → Numbered H → Numbered (H ++ (x ∷ []))
step_numbered P digest H x more allowed was r p some = by_kind (is_opening x) refl
  where
    by_kind : (b : Bool) → is_opening x ≡ b → p.0.0 < next_attempt (H ++ (x ∷ []))
    by_kind true opens = absurd (true≢false (sym (ap is_some (sym (running-opened H x r more opens) ∙ some))))
    by_kind false stays =
        by_says (running_says r x) (running_in H r) p (next_attempt (H ++ (x ∷ []))) (sym (running-push H x r more stays) ∙ some) (said_below P digest H x r allowed)
        (λ q is. still_below H x q.0.0 (was r q is))

-- in a legal history an attempt that runs has a number below the next one's
pub below_next : (P : Plan) (digest : List ℕ) (H : List Record) (r number link : ℕ) → is_legal P digest H ≡ true → runs_with H r number link ≡ true → number < next_attempt H
below_next P digest H r number link legal runs =
    by_place (running_in H r) refl (and_parts (is_running H r) (option_map_or (is_place number link) (running_in H r) false) runs).1
  where
    by_place : (o : Option Place) → running_in H r ≡ o → option_map_or (is_place number link) o false ≡ true → number < next_attempt H
    by_place None is at = absurd (true≢false (sym at))
    by_place (Some p) is at =
        let less : p.0.0 < next_attempt H = kept-legal P digest Numbered (record { start = first_numbered; step = step_numbered P digest }) H legal r p is in
        let same : p.0.0 ≡ number = eqb-true p.0.0 number (and_parts (p.0.0 == number) (p.1.0 == link) at).0 in
        omega (arith, less, same)
