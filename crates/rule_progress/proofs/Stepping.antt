-- What is kept of the rules of a plan, after a step.
use Rattle.std.proofs.Common.{◌≡◌, ℕ, zero, suc, ◌+◌, ◌<◌, ◌≤◌, ◌∙◌, Bool, true, false, cond, not, ◌||◌, Option, List, [], ◌∷◌, length, get_or, drop, drop-cons, map, refl, ap, sym, subst, arith}
use Rattle.std.specs.Prelude.{◌==◌, nat_lt}
use Rattle.std.proofs.lemmas.Bool.{eqb-true, eqb-false, true≢false}
use Rattle.std.proofs.lemmas.List.{get_or-set_other, get_or-set_same, length-set}
use Rattle.flow_types.specs.declared.plan.Plan.{Plan}
use Rattle.flow_types.specs.declared.numbers.RuleNo.{RuleNo}
use Rattle.flow_types.specs.Plans.{contains_number}
use Rattle.run_history.specs.declared.options.Options.{Options}
use Rattle.run_history.specs.declared.states.RuleState.{RuleState}
use Rattle.run_history.specs.declared.states.RuleState.TheVariants as rule
use Rattle.run_history.specs.Storage.{is_complete_state, is_failed_state, is_running_state, is_waiting_state}
use Rattle.ready_rules.specs.Lines.{Line, number, placed, without}
use Rattle.ready_rules.specs.Pendings.{Pending, waits_in, with_wait}
use Rattle.ready_rules.proofs.Filtering.{filter-few, filter-placed, filter-same, filter-without}
use Rattle.rule_progress.specs.Progress.{ChangesAt, HasOpened, HasRules, IsProgress, Progressing, closed_as, passing}

-- the rules from this one on wait
pub record AreWaiting (before : Pending) (i : ℕ) (now : Pending) : Type 0 where
  pub within : i ≤ length before.waits
  pub needs : now.needs ≡ before.needs
  pub lacks : now.lacks ≡ before.lacks
  pub bytes : now.bytes ≡ before.bytes
  pub same : length now.waits ≡ length before.waits
  pub waits : (r : ℕ) → i ≤ r → r < length before.waits → waits_in now r ≡ true

pub waiting-first : (before : Pending) (i : ℕ) → i ≡ length before.waits → AreWaiting before i before
waiting-first before i all = record {
  within = omega (arith, all);
  needs = refl;
  lacks = refl;
  bytes = refl;
  same = refl;
  waits = λ r low high. absurd (let wrong : ⊥ = omega (arith, low, high, all) in wrong);
}

pub waiting-step : (before now after : Pending) (i j : ℕ) → i ≡ j + 1 → after ≡ with_wait now j true → AreWaiting before i now → AreWaiting before j after
waiting-step before now after i j one is was = record {
  within = omega (arith, one, was.within);
  needs = ap (λ (W : Pending). W.needs) is ∙ was.needs;
  lacks = ap (λ (W : Pending). W.lacks) is ∙ was.lacks;
  bytes = ap (λ (W : Pending). W.bytes) is ∙ was.bytes;
  same = ap (λ (W : Pending). length W.waits) is ∙ length-set now.waits j true ∙ was.same;
  waits = λ r low high. ap (λ (W : Pending). waits_in W r) is ∙ by_place r low high (r == j) refl;
}
  where
    by_place : (r : ℕ) → j ≤ r → r < length before.waits → (b : Bool) → (r == j) ≡ b → waits_in (with_wait now j true) r ≡ true
    by_place r low high true same = ap (waits_in (with_wait now j true)) (eqb-true r j same) ∙ get_or-set_same now.waits j true false (omega (arith, was.same, was.within, one))
    by_place r low high false other =
        let apart : r ≡ j → ⊥ = eqb-false r j other in
        get_or-set_other now.waits j r true false apart ∙ was.waits r (omega (arith, low, apart, one)) high

-- the rules before place i were gone through
pub record IsWaitingAgain (before : Pending) (rules : List RuleNo) (i : ℕ) (now : Pending) : Type 0 where
  pub needs : now.needs ≡ before.needs
  pub lacks : now.lacks ≡ before.lacks
  pub bytes : now.bytes ≡ before.bytes
  pub same : length now.waits ≡ length before.waits
  pub waits : (r : ℕ) → (waits_in now r || contains_number r (map number (drop i rules))) ≡ (waits_in before r || contains_number r (map number rules))

pub again-first : (before : Pending) (rules : List RuleNo) → IsWaitingAgain before rules 0 before
again-first before rules = record { needs = refl; lacks = refl; bytes = refl; same = refl; waits = λ r. refl }

drop_end : (rules : List RuleNo) (i : ℕ) → length rules ≤ i → drop i rules ≡ []
drop_end [] zero past = refl
drop_end [] (suc i) past = refl
drop_end (x ∷ xs) zero past = absurd (let wrong : ⊥ = omega (arith, past) in wrong)
drop_end (x ∷ xs) (suc i) past = drop_end xs i (omega (arith, past))

or_false : (b : Bool) → b ≡ (b || false)
or_false true = refl
or_false false = refl

or_true : (b : Bool) → (b || true) ≡ true
or_true true = refl
or_true false = refl

pub again-last : (before now : Pending) (rules : List RuleNo) (i r : ℕ) → length rules ≤ i → IsWaitingAgain before rules i now → waits_in now r ≡ (waits_in before r || contains_number r (map number rules))
again-last before now rules i r past is =
    or_false (waits_in now r) ∙ sym (ap (λ (xs : List RuleNo). waits_in now r || contains_number r (map number xs)) (drop_end rules i past)) ∙ is.waits r

pub again-step : (before now after : Pending) (rules : List RuleNo) (i : ℕ) (x : RuleNo) → i < length rules → get_or rules i x ≡ x → x.0 < length now.waits → after ≡ with_wait now x.0 true
    → IsWaitingAgain before rules i now → IsWaitingAgain before rules (i + 1) after
again-step before now after rules i x inside here less is was = record {
  needs = ap (λ (W : Pending). W.needs) is ∙ was.needs;
  lacks = ap (λ (W : Pending). W.lacks) is ∙ was.lacks;
  bytes = ap (λ (W : Pending). W.bytes) is ∙ was.bytes;
  same = ap (λ (W : Pending). length W.waits) is ∙ length-set now.waits x.0 true ∙ was.same;
  waits = λ r. ap (λ (W : Pending). waits_in W r || contains_number r (map number (drop (i + 1) rules))) is ∙ by_place r (x.0 == r) refl ∙ was.waits r;
}
  where
    next : suc i ≡ i + 1
    next = omega arith

    front : (r : ℕ) → contains_number r (map number (drop i rules)) ≡ ((x.0 == r) || contains_number r (map number (drop (i + 1) rules)))
    front r = ap (λ (xs : List RuleNo). contains_number r (map number xs)) (drop-cons rules i x inside ∙ ap (λ y. y ∷ drop (suc i) rules) here ∙ ap (λ n. x ∷ drop n rules) next)

    by_place : (r : ℕ) (b : Bool) → (x.0 == r) ≡ b → (waits_in (with_wait now x.0 true) r || contains_number r (map number (drop (i + 1) rules))) ≡ (waits_in now r || contains_number r (map number (drop i rules)))
    by_place r true same =
        let waits : waits_in (with_wait now x.0 true) r ≡ true = ap (waits_in (with_wait now x.0 true)) (sym (eqb-true x.0 r same)) ∙ get_or-set_same now.waits x.0 true false less in
        let stands : contains_number r (map number (drop i rules)) ≡ true = front r ∙ ap (λ b. b || contains_number r (map number (drop (i + 1) rules))) same in
        ap (λ b. b || contains_number r (map number (drop (i + 1) rules))) waits ∙ sym (or_true (waits_in now r)) ∙ sym (ap (λ b. waits_in now r || b) stands)
    by_place r false other =
        let apart : r ≡ x.0 → ⊥ = λ bad. eqb-false x.0 r other (sym bad) in
        let stands : contains_number r (map number (drop i rules)) ≡ contains_number r (map number (drop (i + 1) rules)) = front r ∙ ap (λ b. b || contains_number r (map number (drop (i + 1) rules))) other in
        ap (λ b. b || contains_number r (map number (drop (i + 1) rules))) (get_or-set_other now.waits x.0 r true false apart) ∙ sym (ap (λ b. waits_in now r || b) stands)

or_assoc : (a b c : Bool) → ((a || b) || c) ≡ (a || (b || c))
or_assoc true b c = refl
or_assoc false b c = refl

pub opened-so : (before after : Progressing) (middle : Pending) (running failed : List ℕ) → running ≡ before.running.numbers → failed ≡ before.failed.numbers
    → middle.needs ≡ before.pending.needs → middle.lacks ≡ before.pending.lacks → middle.bytes ≡ before.pending.bytes → length middle.waits ≡ length before.pending.waits
    → ((r : ℕ) → waits_in middle r ≡ (waits_in before.pending r || contains_number r running))
    → after.pending.needs ≡ middle.needs → after.pending.lacks ≡ middle.lacks → after.pending.bytes ≡ middle.bytes → length after.pending.waits ≡ length middle.waits
    → ((r : ℕ) → waits_in after.pending r ≡ (waits_in middle r || contains_number r failed))
    → after.running ≡ record before.running { numbers = [] } → after.failed ≡ record before.failed { numbers = [] } → after.takers ≡ before.takers → after.done ≡ before.done → HasOpened before after
opened-so before after middle running failed ran lost needs lacks bytes same waits needs_then lacks_then bytes_then same_then waits_then runs_no fails_no takers done = record {
  needs = needs_then ∙ needs;
  lacks = lacks_then ∙ lacks;
  bytes = bytes_then ∙ bytes;
  same = same_then ∙ same;
  waits = λ r.
      waits_then r ∙ ap (λ b. b || contains_number r failed) (waits r) ∙ or_assoc (waits_in before.pending r) (contains_number r running) (contains_number r failed)
      ∙ ap (λ xs. waits_in before.pending r || (contains_number r xs || contains_number r failed)) ran ∙ ap (λ xs. waits_in before.pending r || (contains_number r before.running.numbers || contains_number r xs)) lost;
  running = runs_no;
  failed = fails_no;
  takers = takers;
  done = done;
}

-- a state is of one kind
pub only-waiting : (s : RuleState) → is_waiting_state s ≡ true → (is_running_state s ≡ false) × (is_failed_state s ≡ false) × (is_complete_state s ≡ false)
only-waiting rule.Waiting is = (refl, refl, refl)
only-waiting (rule.Running attempt) is = absurd (true≢false (sym is))
only-waiting rule.Complete is = absurd (true≢false (sym is))
only-waiting rule.Failed is = absurd (true≢false (sym is))

pub only-running : (s : RuleState) → is_running_state s ≡ true → (is_waiting_state s ≡ false) × (is_failed_state s ≡ false) × (is_complete_state s ≡ false)
only-running rule.Waiting is = absurd (true≢false (sym is))
only-running (rule.Running attempt) is = (refl, refl, refl)
only-running rule.Complete is = absurd (true≢false (sym is))
only-running rule.Failed is = absurd (true≢false (sym is))

pub only-failed : (s : RuleState) → is_failed_state s ≡ true → (is_waiting_state s ≡ false) × (is_running_state s ≡ false) × (is_complete_state s ≡ false)
only-failed rule.Waiting is = absurd (true≢false (sym is))
only-failed (rule.Running attempt) is = absurd (true≢false (sym is))
only-failed rule.Complete is = absurd (true≢false (sym is))
only-failed rule.Failed is = (refl, refl, refl)

pub only-complete : (s : RuleState) → is_complete_state s ≡ true → (is_waiting_state s ≡ false) × (is_running_state s ≡ false) × (is_failed_state s ≡ false)
only-complete rule.Waiting is = absurd (true≢false (sym is))
only-complete (rule.Running attempt) is = absurd (true≢false (sym is))
only-complete rule.Complete is = (refl, refl, refl)
only-complete rule.Failed is = absurd (true≢false (sym is))

-- a line of a plan's rules that pass
abbrev pub line_by : Plan → (ℕ → Bool) → Line
line_by P test = record { numbers = passing P test; places = length P.rules }

abbrev a_line : ℕ → List ℕ → Line
a_line n xs = record { numbers = xs; places = n }

same_test : (t : RuleState → Bool) (P : Plan) (states after : ℕ → RuleState) (r : ℕ) → ChangesAt states after r → t (after r) ≡ t (states r) → passing P (λ q. t (states q)) ≡ passing P (λ q. t (after q))
same_test t P states after r changes here = filter-same (λ q. t (states q)) (λ q. t (after q)) 0 (length P.rules) (λ q low high. by_place q (q == r) refl)
  where
    by_place : (q : ℕ) (b : Bool) → (q == r) ≡ b → t (states q) ≡ t (after q)
    by_place q true same = ap (λ k. t (states k)) (eqb-true q r same) ∙ sym here ∙ ap (λ k. t (after k)) (sym (eqb-true q r same))
    by_place q false other = ap t (sym (changes q (eqb-false q r other)))

more_test : (t : RuleState → Bool) (P : Plan) (states after : ℕ → RuleState) (r : ℕ) → r < length P.rules → ChangesAt states after r → t (states r) ≡ false → t (after r) ≡ true → placed r (passing P (λ q. t (states q))) ≡ passing P (λ q. t (after q))
more_test t P states after r inside changes fails passes =
    filter-placed (λ q. t (states q)) (λ q. t (after q)) r 0 (length P.rules) fails passes (λ q apart. ap t (sym (changes q apart))) (omega arith) (omega (arith, inside))

less_test : (t : RuleState → Bool) (P : Plan) (states after : ℕ → RuleState) (r : ℕ) → r < length P.rules → ChangesAt states after r → t (states r) ≡ true → t (after r) ≡ false → without r (passing P (λ q. t (states q))) ≡ passing P (λ q. t (after q))
less_test t P states after r inside changes passes fails =
    filter-without (λ q. t (states q)) (λ q. t (after q)) r 0 (length P.rules) passes fails (λ q apart. ap t (sym (changes q apart))) (omega arith) (omega (arith, inside))

length_placed : (r : ℕ) (xs : List ℕ) → length (placed r xs) ≡ length xs + 1
length_placed r [] = refl
length_placed r (x ∷ xs) = by_test (nat_lt x r) refl (length_placed r xs)
  where
    by_test : (b : Bool) → nat_lt x r ≡ b → length (placed r xs) ≡ length xs + 1 → length (placed r (x ∷ xs)) ≡ suc (length xs) + 1
    by_test true is rest = ap (λ c. length (cond c (x ∷ placed r xs) (r ∷ (x ∷ xs)))) is ∙ ap suc rest ∙ (let same : suc (length xs + 1) ≡ suc (length xs) + 1 = omega arith in same)
    by_test false is rest = ap (λ c. length (cond c (x ∷ placed r xs) (r ∷ (x ∷ xs)))) is ∙ (let same : suc (suc (length xs)) ≡ suc (length xs) + 1 = omega arith in same)

-- rules of which one waits from now on, or doesn't
rules_set : (P : Plan) (O : Options) (states after : ℕ → RuleState) (W : Pending) (r : ℕ) (b : Bool) → r < length P.rules → ChangesAt states after r → is_waiting_state (after r) ≡ b → HasRules P O states W → HasRules P O after (with_wait W r b)
rules_set P O states after W r b inside changes state are = record {
  rules = length-set W.waits r b ∙ are.rules;
  needs = are.needs;
  waits = λ q within. by_place q within (q == r) refl;
}
  where
    by_place : (q : ℕ) → q < length P.rules → (c : Bool) → (q == r) ≡ c → waits_in (with_wait W r b) q ≡ is_waiting_state (after q)
    by_place q within true same =
        let is : q ≡ r = eqb-true q r same in
        ap (waits_in (with_wait W r b)) is ∙ get_or-set_same W.waits r b false (omega (arith, inside, are.rules)) ∙ sym state ∙ ap (λ k. is_waiting_state (after k)) (sym is)
    by_place q within false other =
        let apart : q ≡ r → ⊥ = eqb-false q r other in
        get_or-set_other W.waits r q b false apart ∙ are.waits q within ∙ ap is_waiting_state (sym (changes q apart))

rules_kept : (P : Plan) (O : Options) (states after : ℕ → RuleState) (W : Pending) (r : ℕ) → ChangesAt states after r → is_waiting_state (after r) ≡ is_waiting_state (states r) → HasRules P O states W → HasRules P O after W
rules_kept P O states after W r changes same are = record {
  rules = are.rules;
  needs = are.needs;
  waits = λ q within. are.waits q within ∙ by_place q (q == r) refl;
}
  where
    by_place : (q : ℕ) (c : Bool) → (q == r) ≡ c → is_waiting_state (states q) ≡ is_waiting_state (after q)
    by_place q true is = ap (λ k. is_waiting_state (states k)) (eqb-true q r is) ∙ sym same ∙ ap (λ k. is_waiting_state (after k)) (sym (eqb-true q r is))
    by_place q false other = ap is_waiting_state (sym (changes q (eqb-false q r other)))

-- a rule that waited runs
pub started : (P : Plan) (O : Options) (states after : ℕ → RuleState) (sizes : ℕ → Option ℕ) (V : Progressing) (r : ℕ) → r < length P.rules → ChangesAt states after r → is_waiting_state (states r) ≡ true → is_running_state (after r) ≡ true
    → IsProgress P O states sizes V → IsProgress P O after sizes (record V { pending = with_wait V.pending r false; running = record V.running { numbers = placed r V.running.numbers } })
started P O states after sizes V r inside changes waited running is =
    let old = only-waiting (states r) waited in
    let new = only-running (after r) running in
    record {
      takers = is.takers;
      inputs = record { lacks = is.inputs.lacks; bytes = is.inputs.bytes };
      rules = rules_set P O states after V.pending r false inside changes new.0 is.rules;
      running = ap (λ (l : Line). record l { numbers = placed r l.numbers }) is.running ∙ ap (a_line (length P.rules)) (more_test is_running_state P states after r inside changes old.0 running);
      failed = is.failed ∙ ap (a_line (length P.rules)) (same_test is_failed_state P states after r changes (new.1 ∙ sym old.1));
      done = is.done ∙ ap length (same_test is_complete_state P states after r changes (new.2 ∙ sym old.2));
    }

-- a rule that ran waits again
pub waited-again : (P : Plan) (O : Options) (states after : ℕ → RuleState) (sizes : ℕ → Option ℕ) (V : Progressing) (r : ℕ) → r < length P.rules → ChangesAt states after r → is_running_state (states r) ≡ true → is_waiting_state (after r) ≡ true
    → IsProgress P O states sizes V → IsProgress P O after sizes (record V { pending = with_wait V.pending r true; running = record V.running { numbers = without r V.running.numbers } })
waited-again P O states after sizes V r inside changes ran waits is =
    let old = only-running (states r) ran in
    let new = only-waiting (after r) waits in
    record {
      takers = is.takers;
      inputs = record { lacks = is.inputs.lacks; bytes = is.inputs.bytes };
      rules = rules_set P O states after V.pending r true inside changes waits is.rules;
      running = ap (λ (l : Line). record l { numbers = without r l.numbers }) is.running ∙ ap (a_line (length P.rules)) (less_test is_running_state P states after r inside changes ran new.0);
      failed = is.failed ∙ ap (a_line (length P.rules)) (same_test is_failed_state P states after r changes (new.1 ∙ sym old.1));
      done = is.done ∙ ap length (same_test is_complete_state P states after r changes (new.2 ∙ sym old.2));
    }

-- a rule that ran has failed
pub failed-so : (P : Plan) (O : Options) (states after : ℕ → RuleState) (sizes : ℕ → Option ℕ) (V : Progressing) (r : ℕ) → r < length P.rules → ChangesAt states after r → is_running_state (states r) ≡ true → is_failed_state (after r) ≡ true
    → IsProgress P O states sizes V → IsProgress P O after sizes (record V { running = record V.running { numbers = without r V.running.numbers }; failed = record V.failed { numbers = placed r V.failed.numbers } })
failed-so P O states after sizes V r inside changes ran fails is =
    let old = only-running (states r) ran in
    let new = only-failed (after r) fails in
    record {
      takers = is.takers;
      inputs = is.inputs;
      rules = rules_kept P O states after V.pending r changes (new.0 ∙ sym old.0) is.rules;
      running = ap (λ (l : Line). record l { numbers = without r l.numbers }) is.running ∙ ap (a_line (length P.rules)) (less_test is_running_state P states after r inside changes ran new.1);
      failed = ap (λ (l : Line). record l { numbers = placed r l.numbers }) is.failed ∙ ap (a_line (length P.rules)) (more_test is_failed_state P states after r inside changes old.1 fails);
      done = is.done ∙ ap length (same_test is_complete_state P states after r changes (new.2 ∙ sym old.2));
    }

-- a rule that ran is complete
pub finished : (P : Plan) (O : Options) (states after : ℕ → RuleState) (sizes : ℕ → Option ℕ) (V : Progressing) (r : ℕ) → r < length P.rules → ChangesAt states after r → is_running_state (states r) ≡ true → is_complete_state (after r) ≡ true
    → IsProgress P O states sizes V → IsProgress P O after sizes (record V { running = record V.running { numbers = without r V.running.numbers }; done = V.done + 1 })
finished P O states after sizes V r inside changes ran complete is =
    let old = only-running (states r) ran in
    let new = only-complete (after r) complete in
    record {
      takers = is.takers;
      inputs = is.inputs;
      rules = rules_kept P O states after V.pending r changes (new.0 ∙ sym old.0) is.rules;
      running = ap (λ (l : Line). record l { numbers = without r l.numbers }) is.running ∙ ap (a_line (length P.rules)) (less_test is_running_state P states after r inside changes ran new.1);
      failed = is.failed ∙ ap (a_line (length P.rules)) (same_test is_failed_state P states after r changes (new.2 ∙ sym old.1));
      done = ap (λ n. n + 1) is.done ∙ sym (length_placed r (passing P (λ q. is_complete_state (states q)))) ∙ ap length (more_test is_complete_state P states after r inside changes old.2 complete);
    }

-- there is a place for one rule more that runs
pub running-room : (P : Plan) (O : Options) (states : ℕ → RuleState) (sizes : ℕ → Option ℕ) (V : Progressing) (r : ℕ) → r < length P.rules → is_running_state (states r) ≡ false → IsProgress P O states sizes V → length V.running.numbers < V.running.places
running-room P O states sizes V r inside idle is =
    let few : length (passing P (λ q. is_running_state (states q))) < length P.rules = filter-few (λ q. is_running_state (states q)) r 0 (length P.rules) idle (omega arith) (omega (arith, inside)) in
    subst (λ (l : Line). length l.numbers < l.places) (sym is.running) few

-- and for one that has failed
pub failed-room : (P : Plan) (O : Options) (states : ℕ → RuleState) (sizes : ℕ → Option ℕ) (V : Progressing) (r : ℕ) → r < length P.rules → is_failed_state (states r) ≡ false → IsProgress P O states sizes V → length V.failed.numbers < V.failed.places
failed-room P O states sizes V r inside sound is =
    let few : length (passing P (λ q. is_failed_state (states q))) < length P.rules = filter-few (λ q. is_failed_state (states q)) r 0 (length P.rules) sound (omega arith) (omega (arith, inside)) in
    subst (λ (l : Line). length l.numbers < l.places) (sym is.failed) few

-- and fewer than all are complete
pub done-few : (P : Plan) (O : Options) (states : ℕ → RuleState) (sizes : ℕ → Option ℕ) (V : Progressing) (r : ℕ) → r < length P.rules → is_complete_state (states r) ≡ false → IsProgress P O states sizes V → V.done < length P.rules
done-few P O states sizes V r inside undone is =
    let few : length (passing P (λ q. is_complete_state (states q))) < length P.rules = filter-few (λ q. is_complete_state (states q)) r 0 (length P.rules) undone (omega arith) (omega (arith, inside)) in
    omega (arith, few, is.done)

-- a rule that ran runs no more
pub closed-so : (P : Plan) (O : Options) (states after : ℕ → RuleState) (sizes : ℕ → Option ℕ) (V : Progressing) (r : ℕ) (b : Bool) → r < length P.rules → ChangesAt states after r → is_running_state (states r) ≡ true
    → is_failed_state (after r) ≡ b → is_waiting_state (after r) ≡ not b → IsProgress P O states sizes V → IsProgress P O after sizes (closed_as V r b)
closed-so P O states after sizes V r true inside changes ran fails waits is = failed-so P O states after sizes V r inside changes ran fails is
closed-so P O states after sizes V r false inside changes ran fails waits is = waited-again P O states after sizes V r inside changes ran waits is
