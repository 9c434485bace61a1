-- Attempts at one worker, among those at all.
use Rattle.std.proofs.Common.{◌≡◌, ◌≢◌, ◌<◌, ℕ, zero, suc, true, false, List, [], ◌∷◌, ◌++◌, Option, Some, None, length, map, refl, sym, ap, ◌∙◌, subst, arith, true≢false}
use Rattle.std.specs.Prelude.{is_some, slice_get, unwrap_or}
use Rattle.std.specs.List.{AllByRecursion}
use Rattle.std.proofs.lemmas.List.{append_assoc}
use Rattle.flow_types.specs.declared.plan.Plan.{Plan}
use Rattle.flow_types.specs.declared.plan.Rule.{Rule}
use Rattle.flow_types.specs.declared.numbers.AttemptNo.{AttemptNo}
use Rattle.flow_types.specs.declared.job.Job.{Job}
use Rattle.flow_types.specs.declared.job.Outcome.{Outcome}
use Rattle.flow_types.specs.declared.job.Outcome.TheVariants as outcomes
use Rattle.flow_types.specs.declared.job.Task.{Task}
use Rattle.flow_types.specs.Plans.{IsValid}
use Rattle.run_history.specs.declared.moves.Move.{Move}
use Rattle.desk.specs.declared.attempt.Attempt.{Attempt}
use Rattle.desk.specs.Tasks.{task_with, want_at}
use Rattle.links.specs.Honesty.{task_job}
use Rattle.links.specs.Ill.{OutcomeFits}
use Rattle.link_session.specs.declared.open.Open.{Open}
use Rattle.link_session.specs.Fits.{outcome_fits}
use Rattle.link_session.specs.Sessions.{is_open}
use Rattle.peers.proofs.Fits.{fits_by}
use Rattle.peers.proofs.Opens.{IsOther, all_map, all_with, others}
use Rattle.local_run.specs.Underway.{AreAway, IsHeld, NoneHas}
use Rattle.local_run.proofs.HeldClosed.{none_at}
use Rattle.local_run.proofs.Outputs.{failure_fits, outputs_fit}
use Rattle.wq_run.specs.Seats.{AreOn, IsInside, IsOpenAt, MayEnd, MayEndAs, Suits, SuitsIts}
use Rattle.wq_run.proofs.Told.{Ends}

-- ---- lists of attempts

none_held : (number : AttemptNo) (attempts : List Attempt) → NoneHas number attempts → IsHeld number attempts → ⊥
none_held number attempts none held = none_at number held.0 held.1 held.2 (subst (NoneHas number) held.3 none) held.4

-- one of some in the midst of others
pub split_in : (front f : List Attempt) (a : Attempt) (b back : List Attempt) → front ++ ((f ++ (a ∷ b)) ++ back) ≡ (front ++ f) ++ (a ∷ (b ++ back))
split_in front f a b back = ap (λ (xs : List Attempt). front ++ xs) (append_assoc f (a ∷ b) back) ∙ sym (append_assoc front f (a ∷ (b ++ back)))

-- and the same without it
pub split_out : (front f b back : List Attempt) → front ++ ((f ++ b) ++ back) ≡ (front ++ f) ++ (b ++ back)
split_out front f b back = ap (λ (xs : List Attempt). front ++ xs) (append_assoc f b back) ∙ sym (append_assoc front f (b ++ back))

pub on_at : (k : ℕ) (f : List Attempt) (a : Attempt) (b : List Attempt) → AreOn k (f ++ (a ∷ b)) → a.link.0 ≡ k
on_at k [] a b on = on.0
on_at k (x ∷ f) a b on = on_at k f a b on.1

pub on_less : (k : ℕ) (f : List Attempt) (a : Attempt) (b : List Attempt) → AreOn k (f ++ (a ∷ b)) → AreOn k (f ++ b)
on_less k [] a b on = on.1
on_less k (x ∷ f) a b on = (on.0, on_less k f a b on.1)

pub on_more : (k : ℕ) (xs : List Attempt) (a : Attempt) → AreOn k xs → a.link.0 ≡ k → AreOn k (xs ++ (a ∷ []))
on_more k [] a on at = (at, tt)
on_more k (x ∷ xs) a on at = (on.0, on_more k xs a on.1 at)

pub none_left : (n : AttemptNo) (xs ys : List Attempt) → NoneHas n (xs ++ ys) → NoneHas n xs
none_left n [] ys none = tt
none_left n (x ∷ xs) ys none = (none.0, none_left n xs ys none.1)

pub none_right : (n : AttemptNo) (xs ys : List Attempt) → NoneHas n (xs ++ ys) → NoneHas n ys
none_right n [] ys none = none
none_right n (x ∷ xs) ys none = none_right n xs ys none.1

all_less : (Q : Attempt → Type 0) (f : List Attempt) (a : Attempt) (b : List Attempt) → AllByRecursion Q (f ++ (a ∷ b)) → AllByRecursion Q (f ++ b)
all_less Q [] a b all = all.1
all_less Q (x ∷ f) a b all = (all.0, all_less Q f a b all.1)

all_more : (Q : Attempt → Type 0) (xs : List Attempt) (a : Attempt) → AllByRecursion Q xs → Q a → AllByRecursion Q (xs ++ (a ∷ []))
all_more Q [] a all is = (is, tt)
all_more Q (x ∷ xs) a all is = (all.0, all_more Q xs a all.1 is)

pub all_at : (Q : Attempt → Type 0) (f : List Attempt) (a : Attempt) (b : List Attempt) → AllByRecursion Q (f ++ (a ∷ b)) → Q a
all_at Q [] a b all = all.0
all_at Q (x ∷ f) a b all = all_at Q f a b all.1

all_pair : (Q R S : Attempt → Type 0) → ((a : Attempt) → Q a → R a → S a) → (xs : List Attempt) → AllByRecursion Q xs → AllByRecursion R xs → AllByRecursion S xs
all_pair Q R S step [] one other = tt
all_pair Q R S step (x ∷ xs) one other = (step x one.0 other.0, all_pair Q R S step xs one.1 other.1)

none_all : (n : AttemptNo) (Q : Attempt → Type 0) → ((a : Attempt) → a.number ≢ n → Q a) → (xs : List Attempt) → NoneHas n xs → AllByRecursion Q xs
none_all n Q step [] none = tt
none_all n Q step (x ∷ xs) none = (step x none.0, none_all n Q step xs none.1)

all_both : (Q : Attempt → Type 0) (f : List Attempt) (a : Attempt) (b : List Attempt) → AllByRecursion Q f → Q a → AllByRecursion Q b → AllByRecursion Q (f ++ (a ∷ b))
all_both Q [] a b front is back = (is, back)
all_both Q (x ∷ f) a b front is back = (front.0, all_both Q f a b front.1 is back)

-- ---- attempts that run on links

module _ (P : Plan) (fine : Type 0) (M : List Move) (held : List Attempt) where
  -- no other before it has its number
  pub unique_front : (front : List Attempt) (a : Attempt) (back : List Attempt) → AreAway P fine M held None (front ++ (a ∷ back)) → NoneHas a.number front
  unique_front [] a back h = tt
  unique_front (f ∷ fs) a back h = ((λ is. none_at f.number fs a back h.3 (sym is)), unique_front fs a back h.4)

  -- and none behind it
  pub unique_back : (front : List Attempt) (a : Attempt) (back : List Attempt) → AreAway P fine M held None (front ++ (a ∷ back)) → NoneHas a.number back
  unique_back [] a back h = h.3
  unique_back (f ∷ fs) a back h = unique_back fs a back h.4

  -- each is at a rule
  inside_front : (xs back : List Attempt) → AreAway P fine M held None (xs ++ back) → AllByRecursion (IsInside P) xs
  inside_front [] back h = tt
  inside_front (x ∷ xs) back h = (h.0.at.rule, inside_front xs back h.4)

  pub inside_all : (front xs back : List Attempt) → AreAway P fine M held None (front ++ (xs ++ back)) → AllByRecursion (IsInside P) xs
  inside_all [] xs back h = inside_front xs back h
  inside_all (f ∷ fs) xs back h = inside_all fs xs back h.4

-- ---- open attempts

pub held_more : (n : AttemptNo) (xs : List Attempt) (a : Attempt) → IsHeld n xs → IsHeld n (xs ++ (a ∷ []))
held_more n xs a h =
    (h.0, h.1, h.2 ++ (a ∷ []), ap (λ (l : List Attempt). l ++ (a ∷ [])) h.3 ∙ append_assoc h.0 (h.1 ∷ h.2) (a ∷ []), h.4)

held_next : (n : AttemptNo) (x : Attempt) (xs : List Attempt) → IsHeld n xs → IsHeld n (x ∷ xs)
held_next n x xs h = (x ∷ h.0, h.1, h.2, ap (λ (l : List Attempt). x ∷ l) h.3, h.4)

held_first : (n : AttemptNo) (x : Attempt) (xs : List Attempt) → x.number ≡ n → IsHeld n (x ∷ xs)
held_first n x xs same = ([], x, xs, refl, same)

held_among : (n : AttemptNo) (f : List Attempt) (c : Attempt) (b : List Attempt) → c.number ≡ n → IsHeld n (f ++ (c ∷ b))
held_among n f c b same = (f, c, b, refl, same)

abbrev head_of : List Attempt → Attempt → Attempt
head_of [] d = d
head_of (x ∷ xs) d = x

abbrev tail_of : List Attempt → List Attempt
tail_of [] = []
tail_of (x ∷ xs) = xs

-- one that is held besides another
held_less : (n : AttemptNo) (f : List Attempt) (a : Attempt) (b g : List Attempt) (c : Attempt) (h : List Attempt) → f ++ (a ∷ b) ≡ g ++ (c ∷ h) → c.number ≡ n → (a.number ≡ n → ⊥) → IsHeld n (f ++ b)
held_less n [] a b [] c h same is other =
    let one : a ≡ c = ap (λ (l : List Attempt). head_of l a) same in
    absurd (other (ap (λ (x : Attempt). x.number) one ∙ is))
held_less n [] a b (y ∷ g) c h same is other =
    let rest : b ≡ g ++ (c ∷ h) = ap tail_of same in
    subst (IsHeld n) (sym rest) (held_among n g c h is)
held_less n (x ∷ f) a b [] c h same is other =
    let one : x ≡ c = ap (λ (l : List Attempt). head_of l x) same in
    held_first n x (f ++ b) (ap (λ (y : Attempt). y.number) one ∙ is)
held_less n (x ∷ f) a b (y ∷ g) c h same is other = held_next n x (f ++ b) (held_less n f a b g c h (ap tail_of same) is other)

pub open_less : (P : Plan) (f : List Attempt) (a : Attempt) (b : List Attempt) (o : Open) → IsOpenAt P (f ++ (a ∷ b)) o → (o.attempt ≡ a.number → ⊥) → IsOpenAt P (f ++ b) o
open_less P f a b o is other = record {
  held = held_less o.attempt f a b is.held.0 is.held.1 is.held.2 is.held.3 is.held.4 (λ same. other (sym same));
  suits = all_less (SuitsIts P o) f a b is.suits;
}

pub opens_less : (P : Plan) (f : List Attempt) (a : Attempt) (b : List Attempt) (os : List Open) → AllByRecursion (IsOpenAt P (f ++ (a ∷ b))) os → is_open a.number os ≡ false → AllByRecursion (IsOpenAt P (f ++ b)) os
opens_less P f a b os all gone = all_with (IsOpenAt P (f ++ (a ∷ b))) (IsOther a.number) (IsOpenAt P (f ++ b)) (λ o is other. open_less P f a b o is other) os all (others a.number os gone)

pub open_more : (P : Plan) (xs : List Attempt) (a : Attempt) (o : Open) → NoneHas a.number xs → IsOpenAt P xs o → IsOpenAt P (xs ++ (a ∷ [])) o
open_more P xs a o none is = record {
  held = held_more o.attempt xs a is.held;
  suits = all_more (SuitsIts P o) xs a is.suits (λ same. absurd (none_held o.attempt xs (subst (λ (n : AttemptNo). NoneHas n xs) same none) is.held));
}

pub opens_more : (P : Plan) (xs : List Attempt) (a : Attempt) (os : List Open) → NoneHas a.number xs → AllByRecursion (IsOpenAt P xs) os → AllByRecursion (IsOpenAt P (xs ++ (a ∷ []))) os
opens_more P xs a os none all = all_map (IsOpenAt P xs) (IsOpenAt P (xs ++ (a ∷ []))) (λ o is. open_more P xs a o none is) os all

-- one that no attempt has isn't open
pub not_open : (P : Plan) (xs : List Attempt) (n : AttemptNo) (os : List Open) → NoneHas n xs → AllByRecursion (IsOpenAt P xs) os → AllByRecursion (IsOther n) os
not_open P xs n os none all = all_map (IsOpenAt P xs) (IsOther n) (λ o is same. none_held o.attempt xs (subst (λ (m : AttemptNo). NoneHas m xs) (sym same) none) is.held) os all

-- ---- how an attempt may end

there_by : {A : Type 0} (xs : List A) (i : ℕ) → i < length xs → is_some (slice_get xs i) ≡ true
there_by [] i lt = absurd (omega (arith, lt))
there_by (x ∷ xs) zero lt = refl
there_by (x ∷ xs) (suc i) lt = there_by xs i (omega (arith, lt))

some_is : (x y : Rule) → Some x ≡ Some y → x ≡ y
some_is x y is = ap (λ (o : Option Rule). unwrap_or o x) is

module _ (P : Plan) (valid : IsValid P) (r : ℕ) (inside : r < length P.rules) (o : Open) (suits : Suits P r o) where
  abbrev its_task : Rule → Task
  its_task rule = task_with P rule o.attempt 0

  abbrev its_job : Rule → Job
  its_job rule = task_job (its_task rule) (λ f. None)

  wants : (rule : Rule) → slice_get P.rules r ≡ Some rule → (other : Rule) → slice_get P.rules r ≡ Some other → (its_job rule).outputs ≡ map (want_at P) other.outputs
  wants rule is other there = ap (λ (x : Rule). map (want_at P) x.outputs) (some_is rule other (sym is ∙ there))

  by_row : (outcome : Outcome) (row : Option Rule) → slice_get P.rules r ≡ row → is_some row ≡ true → outcome_fits o.bounds outcome ≡ true → MayEnd P r outcome
  by_row outcome None is there fits = absurd (true≢false (sym there))
  by_row (outcomes.Success outs) (Some rule) is there fits =
      let both : OutcomeFits (its_task rule) (outcomes.Success outs) = fits_by (its_task rule) o.bounds (outcomes.Success outs) true (suits rule is) fits in
      outputs_fit P r (its_job rule) outs valid inside (wants rule is) both.0 both.1
  by_row (outcomes.Failed why) (Some rule) is there fits =
      let named : OutcomeFits (its_task rule) (outcomes.Failed why) = fits_by (its_task rule) o.bounds (outcomes.Failed why) true (suits rule is) fits in
      failure_fits P r (its_job rule) why inside (wants rule is) named
  by_row outcomes.NotRun (Some rule) is there fits = tt

  pub may_end : (outcome : Outcome) → outcome_fits o.bounds outcome ≡ true → MayEnd P r outcome
  may_end outcome fits = by_row outcome (slice_get P.rules r) refl (there_by P.rules r inside) fits

-- What ended at its peer may end so.
pub may_end_as : (P : Plan) → IsValid P → (xs : List Attempt) (n : AttemptNo) (outcome : Outcome) → AllByRecursion (IsInside P) xs → Ends (IsOpenAt P xs) n outcome → AllByRecursion (MayEndAs P n outcome) xs
may_end_as P valid xs n outcome inside ends =
    all_pair (IsInside P) (SuitsIts P ends.it) (MayEndAs P n outcome)
    (λ a in_plan suits same. may_end P valid a.rule.0 in_plan ends.it (suits (same ∙ sym ends.of_it)) outcome ends.fits) xs inside ends.so.suits

-- and it runs there
pub ends_held : (P : Plan) (xs : List Attempt) (n : AttemptNo) (outcome : Outcome) → Ends (IsOpenAt P xs) n outcome → IsHeld n xs
ends_held P xs n outcome ends = subst (λ (m : AttemptNo). IsHeld m xs) ends.of_it ends.so.held

-- ---- an attempt that is opened

-- The attempt of this number alone suits what is kept of its task.
pub opens_alone : (P : Plan) (f : List Attempt) (a : Attempt) (b : List Attempt) (o : Open) → NoneHas a.number f → NoneHas a.number b → o.attempt ≡ a.number → Suits P a.rule.0 o → IsOpenAt P (f ++ (a ∷ b)) o
opens_alone P f a b o front back same suits = record {
  held = (f, a, b, refl, sym same);
  suits = all_both (SuitsIts P o) f a b
      (none_all a.number (SuitsIts P o) (λ x other is. absurd (other (is ∙ same))) f front) (λ is. suits)
      (none_all a.number (SuitsIts P o) (λ x other is. absurd (other (is ∙ same))) b back);
}
