-- Where no attempt runs on a link.
use Rattle.std.proofs.Common.{◌≡◌, ◌≢◌, ◌≤◌, ◌<◌, ◌+◌, ◌∙◌, ℕ, zero, suc, Bool, true, false, cond, List, [], ◌∷◌, ◌++◌, length, map, Option, Some, None, refl, sym, ap, subst, arith, eqb, ne_eqb, length-append, true≢false}
use Rattle.std.specs.Prelude.{◌==◌, ◌||◌, filter}
use Rattle.std.specs.List.{AllByRecursion, IsDistinct, list_any, range_with_len}
use Rattle.std.specs.Option.{option_map_or}
use Rattle.std.proofs.lemmas.Cmp.{nat_eq_equiv}
use Rattle.std.proofs.lemmas.Bool.{and_parts, eq-eqb, eqb-true, or_left, or_right}
use Rattle.std.proofs.lemmas.Map.Made.{length-le_from_is_member}
use Rattle.flow_types.specs.declared.plan.Plan.{Plan}
use Rattle.flow_types.specs.declared.job.Start.{Start}
use Rattle.flow_types.specs.declared.numbers.AttemptNo.{AttemptNo}
use Rattle.flow_types.specs.declared.records.Record.{Record}
use Rattle.flow_types.specs.Plans.{is_empty, rule_numbers}
use Rattle.flow_types.specs.Serial.{Contents}
use Rattle.run_history.specs.declared.options.Options.{Options}
use Rattle.run_history.specs.declared.moves.Move.{Move}
use Rattle.run_history.specs.Links.{records_of, running_on, runs_on}
use Rattle.run_history.specs.States.{Place, running_in}
use Rattle.run_history.specs.Storage.{is_running, running_rules}
use Rattle.desk.specs.declared.attempt.Attempt.{Attempt}
use Rattle.desk.specs.State.{is_place, runs_with}
use Rattle.local_run.specs.Underway.{AreAway, AreHere, Matches, NoneHas, NoneOn, RunsAt}
use Rattle.local_run.proofs.RunsClosed.{number_is, same_number}

-- ---- numbers in lists

by_first : (n a q : ℕ) (b : Bool) → eqb q a ≡ b → (q ≢ a → list_any (eqb q) (range_with_len (a + 1) n) ≡ true) → (eqb q a || list_any (eqb q) (range_with_len (a + 1) n)) ≡ true
by_first n a q true same rest = or_left (eqb q a) (list_any (eqb q) (range_with_len (a + 1) n)) same
by_first n a q false other rest = or_right (eqb q a) (list_any (eqb q) (range_with_len (a + 1) n)) (rest (λ same. true≢false (sym (eq-eqb q a same) ∙ other)))

in_range : (n a q : ℕ) → a ≤ q → q < a + n → list_any (eqb q) (range_with_len a n) ≡ true
in_range zero a q from to = absurd (let none : ⊥ = omega (arith, from, to) in none)
in_range (suc n) a q from to = by_first n a q (eqb q a) refl (λ apart. in_range n (a + 1) q (omega (arith, from, apart)) (omega (arith, to)))

kept_rest : (test : ℕ → Bool) (xs : List ℕ) (x q : ℕ) (t : Bool) → list_any (eqb q) (filter test xs) ≡ true → list_any (eqb q) (cond t (x ∷ filter test xs) (filter test xs)) ≡ true
kept_rest test xs x q true rest = or_right (eqb q x) (list_any (eqb q) (filter test xs)) rest
kept_rest test xs x q false rest = rest

kept_by : (test : ℕ → Bool) (xs : List ℕ) (x q : ℕ) (b : Bool) → eqb q x ≡ b → test q ≡ true → (b || list_any (eqb q) xs) ≡ true → (list_any (eqb q) xs ≡ true → list_any (eqb q) (filter test xs) ≡ true)
    → list_any (eqb q) (cond (test x) (x ∷ filter test xs) (filter test xs)) ≡ true
kept_by test xs x q true same kept there rest =
    ap (λ (t : Bool). list_any (eqb q) (cond t (x ∷ filter test xs) (filter test xs))) (ap test (sym (eqb-true q x same)) ∙ kept)
    ∙ or_left (eqb q x) (list_any (eqb q) (filter test xs)) same
kept_by test xs x q false other kept there rest = kept_rest test xs x q (test x) (rest there)

-- a number that is kept is in what is kept
in_kept : (test : ℕ → Bool) (xs : List ℕ) (q : ℕ) → test q ≡ true → list_any (eqb q) xs ≡ true → list_any (eqb q) (filter test xs) ≡ true
in_kept test [] q kept there = absurd (true≢false (sym there))
in_kept test (x ∷ xs) q kept there = kept_by test xs x q (eqb q x) refl kept there (in_kept test xs q kept)

none_by : (test : ℕ → Bool) (xs : List ℕ) (x : ℕ) (b : Bool) → test x ≡ b → (test x ≡ true → ⊥) → is_empty (filter test xs) ≡ true → is_empty (cond b (x ∷ filter test xs) (filter test xs)) ≡ true
none_by test xs x true passes none rest = absurd (none passes)
none_by test xs x false fails none rest = rest

-- where none of them passes nothing is kept
none_kept : (test : ℕ → Bool) (xs : List ℕ) → ((x : ℕ) → list_any (eqb x) xs ≡ true → test x ≡ true → ⊥) → is_empty (filter test xs) ≡ true
none_kept test [] none = refl
none_kept test (x ∷ xs) none =
    none_by test xs x (test x) refl (none x (or_left (eqb x x) (list_any (eqb x) xs) (eq-eqb x x refl)))
    (none_kept test xs (λ y there passes. none y (or_right (eqb y x) (list_any (eqb y) xs) there) passes))

-- ---- the attempts that run

-- Each of these runs, on another link than this, and no later one has its number.
abbrev IsCrowd : Plan → Type 0 → List Record → ℕ → List Attempt → Type 0
IsCrowd P fine H k [] = Unit {0}
IsCrowd P fine H k (a ∷ attempts) = RunsAt P fine H a × (a.link.0 ≢ k) × NoneHas a.number attempts × IsCrowd P fine H k attempts

none_both : (number : AttemptNo) (xs ys : List Attempt) → NoneHas number xs → NoneHas number ys → NoneHas number (xs ++ ys)
none_both number [] ys first second = second
none_both number (x ∷ xs) ys first second = (first.0, none_both number xs ys first.1 second)

module _ (P : Plan) (fine : Type 0) (M : List Move) (k : ℕ) where
  away_crowd : (held away : List Attempt) → AreAway P fine M held None away → NoneOn k away → IsCrowd P fine (records_of M) k away
  away_crowd held [] h on = tt
  away_crowd held (b ∷ away) h on = (h.0.at, on.0, h.3, away_crowd held away h.4 on.1)

  other_away : (a : Attempt) (held away : List Attempt) → AreAway P fine M (a ∷ held) None away → NoneHas a.number away
  other_away a held [] h = tt
  other_away a held (b ∷ away) h = ((λ (is : b.number ≡ a.number). h.1.0 (sym is)), other_away a held away h.4)

  fewer_held : (a : Attempt) (held away : List Attempt) → AreAway P fine M (a ∷ held) None away → AreAway P fine M held None away
  fewer_held a held [] h = tt
  fewer_held a held (b ∷ away) h = (h.0, h.1.1, h.2, h.3, fewer_held a held away h.4)

  crowd : (Q : Plan) (O : Options) (trust : Type 0) (contents : Contents) (held : List Attempt) (waiting : List Start) (away : List Attempt) → 0 < k → Matches P fine (records_of M) trust contents held waiting → AreHere Q O held → AreAway P fine M held None away → NoneOn k away
      → IsCrowd P fine (records_of M) k (held ++ away)
  crowd Q O trust contents [] waiting away some m here h on = away_crowd [] away h on
  crowd Q O trust contents (a ∷ held) [] away some m here h on = absurd m
  crowd Q O trust contents (a ∷ held) (start ∷ starts) away some m here h on = (
    m.0,
    (λ same. let at = here.0 in let wrong : ⊥ = omega (arith, some, same, at) in wrong),
    none_both a.number held away m.1 (other_away a held away h),
    crowd Q O trust contents held starts away some m.4 here.2 (fewer_held a held away h) on,
  )

abbrev rules_at : List Attempt → List ℕ
rules_at attempts = map (λ (a : Attempt). a.rule.0) attempts

count_rules : (attempts : List Attempt) → length (rules_at attempts) ≡ length attempts
count_rules [] = refl
count_rules (a ∷ attempts) = ap suc (count_rules attempts)

module _ (P : Plan) (H : List Record) (k : ℕ) where
  abbrev Here : List Attempt → Type 0
  Here attempts = IsCrowd P (Unit {0}) H k attempts

  other_rules : (a : Attempt) (attempts : List Attempt) → runs_with H a.rule.0 a.number.0 a.link.0 ≡ true → NoneHas a.number attempts → Here attempts → AllByRecursion (λ y. eqb a.rule.0 y ≡ false) (rules_at attempts)
  other_rules a [] runs none h = tt
  other_rules a (b ∷ attempts) runs none h = (
    ne_eqb a.rule.0 b.rule.0
        (λ same. none.0 (sym (number_is a.number b.number
        (same_number H a.rule.0 a.number.0 a.link.0 b.number.0 b.link.0 runs (subst (λ (r : ℕ). runs_with H r b.number.0 b.link.0 ≡ true) (sym same) (h.0.runs tt)))))),
    other_rules a attempts runs none.1 h.3,
  )

  distinct_rules : (attempts : List Attempt) → Here attempts → IsDistinct eqb (rules_at attempts)
  unfolding IsDistinct
  distinct_rules [] h = tt
  distinct_rules (a ∷ attempts) h = (other_rules a attempts (h.0.runs tt) h.2 h.3, distinct_rules attempts h.3)

  link_by : (place : Option Place) (n l : ℕ) → option_map_or (is_place n l) place false ≡ true → option_map_or (λ (running : Place). running.1.0 == k) place false ≡ true → l ≡ k
  link_by None n l at on = absurd (true≢false (sym at))
  link_by (Some p) n l at on = sym (eqb-true p.1.0 l (and_parts (p.0.0 == n) (p.1.0 == l) at).1) ∙ eqb-true p.1.0 k on

  -- a rule that runs on the link is none of theirs
  no_rule : (r : ℕ) (attempts : List Attempt) → runs_on H k r ≡ true → Here attempts → AllByRecursion (λ y. eqb r y ≡ false) (rules_at attempts)
  no_rule r [] on h = tt
  no_rule r (a ∷ attempts) on h = (
    ne_eqb r a.rule.0
        (λ same. h.1 (link_by (running_in H r) a.number.0 a.link.0
        (and_parts (is_running H r) (option_map_or (is_place a.number.0 a.link.0) (running_in H r) false) (subst (λ (q : ℕ). runs_with H q a.number.0 a.link.0 ≡ true) (sym same) (h.0.runs tt))).1 on)),
    no_rule r attempts on h.3,
  )

  rule_runs : (a : Attempt) → RunsAt P (Unit {0}) H a → list_any (eqb a.rule.0) (running_rules P H) ≡ true
  rule_runs a at =
      in_kept (is_running H) (rule_numbers P) a.rule.0 (and_parts (is_running H a.rule.0) (option_map_or (is_place a.number.0 a.link.0) (running_in H a.rule.0) false) (at.runs tt)).0
      (in_range (length P.rules) 0 a.rule.0 (omega arith) (let inside = at.rule in omega (arith, inside)))

  run_by : (a : Attempt) (attempts : List Attempt) (q : ℕ) (b : Bool) → eqb q a.rule.0 ≡ b → RunsAt P (Unit {0}) H a → (b || list_any (eqb q) (rules_at attempts)) ≡ true
      → (list_any (eqb q) (rules_at attempts) ≡ true → list_any (eqb q) (running_rules P H) ≡ true) → list_any (eqb q) (running_rules P H) ≡ true
  run_by a attempts q true same at there rest = subst (λ (n : ℕ). list_any (eqb n) (running_rules P H) ≡ true) (sym (eqb-true q a.rule.0 same)) (rule_runs a at)
  run_by a attempts q false other at there rest = rest there

  all_run : (attempts : List Attempt) (q : ℕ) → Here attempts → list_any (eqb q) (rules_at attempts) ≡ true → list_any (eqb q) (running_rules P H) ≡ true
  all_run [] q h there = absurd (true≢false (sym there))
  all_run (a ∷ attempts) q h there = run_by a attempts q (eqb q a.rule.0) refl h.0 there (all_run attempts q h.3)

  one_more : (r : ℕ) (attempts : List Attempt) → runs_on H k r ≡ true → Here attempts → IsDistinct eqb (r ∷ rules_at attempts)
  unfolding IsDistinct
  one_more r attempts on h = (no_rule r attempts on h, distinct_rules attempts h)

  member_by : (attempts : List Attempt) (r q : ℕ) (b : Bool) → eqb q r ≡ b → Here attempts → list_any (eqb r) (running_rules P H) ≡ true → (b || list_any (eqb q) (rules_at attempts)) ≡ true → list_any (eqb q) (running_rules P H) ≡ true
  member_by attempts r q true same h there is = subst (λ (n : ℕ). list_any (eqb n) (running_rules P H) ≡ true) (sym (eqb-true q r same)) there
  member_by attempts r q false other h there is = all_run attempts q h is

  too_many : (attempts : List Attempt) (r : ℕ) → Here attempts → length (running_rules P H) ≤ length attempts → list_any (eqb r) (running_rules P H) ≡ true → runs_on H k r ≡ true → ⊥
  too_many attempts r h few there on =
      let most : length (r ∷ rules_at attempts) ≤ length (running_rules P H) =
      length-le_from_is_member nat_eq_equiv (r ∷ rules_at attempts) (running_rules P H) (one_more r attempts on h) (λ q is. member_by attempts r q (eqb q r) refl h there is) in
      let same = count_rules attempts in
      let wrong : ⊥ = omega (arith, most, same, few) in wrong

  -- where these are all that run nothing runs on the link
  idle_by : (attempts : List Attempt) → Here attempts → length (running_rules P H) ≤ length attempts → is_empty (running_on P H k) ≡ true
  idle_by attempts h few = none_kept (runs_on H k) (running_rules P H) (λ r there on. too_many attempts r h few there on)

fine_crowd : (P : Plan) (fine : Type 0) (H : List Record) (k : ℕ) (attempts : List Attempt) → fine → IsCrowd P fine H k attempts → IsCrowd P (Unit {0}) H k attempts
fine_crowd P fine H k [] works h = tt
fine_crowd P fine H k (a ∷ attempts) works h = (record { rule = h.0.rule; runs = λ any. h.0.runs works }, h.1, h.2, fine_crowd P fine H k attempts works h.3)

-- Where a run has no attempt on this link none runs there.
pub none_there : (Q : Plan) (O : Options) (P : Plan) (fine : Type 0) (M : List Move) (trust : Type 0) (contents : Contents) (held : List Attempt) (waiting : List Start) (away : List Attempt) (k : ℕ) → fine → 0 < k → Matches P fine (records_of M) trust contents held waiting
    → AreHere Q O held → AreAway P fine M held None away → NoneOn k away → length (running_rules P (records_of M)) ≤ length held + length away → is_empty (running_on P (records_of M) k) ≡ true
none_there Q O P fine M trust contents held waiting away k works some m here h on few =
    idle_by P (records_of M) k (held ++ away) (fine_crowd P fine (records_of M) k (held ++ away) works (crowd P fine M k Q O trust contents held waiting away some m here h on))
    (let long = length-append held away in omega (arith, few, long))
