-- One more record: legal where it is allowed, with the attempt's rule in its place.
use Rattle.std.proofs.Common.{◌≡◌, ◌⊎◌, ◌<◌, arith, inl, inr, ℕ, Bool, true, false, cond, suc, List, [], ◌∷◌, ◌++◌, length, Option, Some, None, refl, ap, sym, ◌∙◌, subst}
use Rattle.std.specs.Prelude.{slice_get, filter, filter_map, unwrap_or, fold, ◌==◌}
use Rattle.std.specs.List.{cons_option}
use Rattle.std.specs.Option.{option_map_or}
use Rattle.std.proofs.lemmas.Option.{slice_get_within}
use Rattle.std.proofs.lemmas.List.Sums.{length-filter}
use Rattle.std.proofs.lemmas.List.Elements.{filter_map-append}
use Rattle.flow_types.specs.declared.plan.Plan.{Plan}
use Rattle.flow_types.specs.declared.numbers.RuleNo.{RuleNo}
use Rattle.flow_types.specs.declared.numbers.AttemptNo.{AttemptNo}
use Rattle.flow_types.specs.declared.numbers.LinkNo.{LinkNo}
use Rattle.flow_types.specs.declared.records.Record.{Record}
use Rattle.flow_types.specs.declared.records.Record.TheVariants as records
use Rattle.flow_types.specs.Plans.{is_empty}
use Rattle.rule_graph.specs.Spelling.{plan_digest}
use Rattle.run_history.specs.History.{part, is_cleaned, is_opening, is_start, next_attempt, since_opening, last_said}
use Rattle.run_history.specs.States.{Place, running_in, running_says}
use Rattle.run_history.specs.Legal.{is_allowed}
use Rattle.run_history.proofs.Grows.{legal-push}
use Rattle.run_history.proofs.Steps.{part-push}
use Rattle.world_laws.specs.Members.{Stands}
use Rattle.world_laws.specs.Worlds.{rule_at, rule_started}
use Rattle.world_laws.proofs.Members.{get_last}
use Rattle.world_laws.proofs.Invariant.{IsRecorded}

not_empty : (xs : List Record) (x : Record) → is_empty (xs ++ (x ∷ [])) ≡ false
not_empty [] x = refl
not_empty (y ∷ ys) x = refl

-- one more record that is allowed
pub recorded_push : (P : Plan) (H : List Record) (x : Record) → is_cleaned x ≡ false → is_allowed P (plan_digest P) H x ≡ true → IsRecorded P H → IsRecorded P (H ++ (x ∷ []))
recorded_push P H x more allowed old = record {
  legal = legal-push P (plan_digest P) H x old.legal more allowed;
  opened = ap is_empty (part-push H x more) ∙ not_empty (part H) x;
}

starts_of : (x : Record) (xs : List Record) → length (filter_map rule_started xs) ≡ length (filter is_start xs)
    → length (cons_option (rule_started x) (filter_map rule_started xs)) ≡ length (cond (is_start x) (x ∷ filter is_start xs) (filter is_start xs))
starts_of (records.Started moment rule attempt link) xs same = ap suc same
starts_of (records.Opened moment run retries limit plan sources) xs same = same
starts_of (records.Resumed moment run retries limit) xs same = same
starts_of (records.Done moment rule attempt outs) xs same = same
starts_of (records.Failed moment rule attempt why) xs same = same
starts_of (records.Lost moment rule attempt) xs same = same
starts_of (records.Dropped moment file) xs same = same
starts_of (records.Ended moment kind) xs same = same

all_starts : (H : List Record) → length (filter_map rule_started H) ≡ length (filter is_start H)
all_starts [] = refl
all_starts (x ∷ xs) = starts_of x xs (all_starts xs)

-- the next attempt is the rule's that is started with it
pub next_at : (H : List Record) (moment : ℕ) (rule : RuleNo) (attempt : AttemptNo) (link : LinkNo) → attempt.0 ≡ next_attempt H
    → rule_at (H ++ (records.Started moment rule attempt link ∷ [])) attempt.0 ≡ Some rule.0
next_at H moment rule attempt link is =
    ap (λ xs. slice_get xs attempt.0) (filter_map-append rule_started H (records.Started moment rule attempt link ∷ []))
    ∙ get_last (filter_map rule_started H) rule.0 attempt.0 (is ∙ sym (all_starts H ∙ length-filter is_start H))

-- an attempt that was started is below the next one
pub next_below : (H : List Record) (a r : ℕ) → rule_at H a ≡ Some r → a < next_attempt H
next_below H a r at =
    let inside : a < length (filter_map rule_started H) = slice_get_within (filter_map rule_started H) a r at in
    let same : length (filter_map rule_started H) ≡ next_attempt H = all_starts H ∙ length-filter is_start H in
    omega (arith, inside, same)

-- what is said last is said by an item
said_from : {B : Type 0} (says : Record → Option B) (xs : List Record) (last : Option B) (said : B)
    → fold (λ said x. option_map_or Some (says x) said) last xs ≡ Some said → (last ≡ Some said) ⊎ ((x : Record) × Stands x xs × (says x ≡ Some said))
said_from says [] last said is = inl is
said_from {B = B} says (x ∷ xs) last said is = before x xs last said (says x) refl (said_from says xs (option_map_or Some (says x) last) said is)
  where
    before : (x : Record) (xs : List Record) (last : Option B) (said : B) (here : Option B) → says x ≡ here
        → (option_map_or Some here last ≡ Some said) ⊎ ((y : Record) × Stands y xs × (says y ≡ Some said))
        → (last ≡ Some said) ⊎ ((y : Record) × Stands y (x ∷ xs) × (says y ≡ Some said))
    before x xs last said None is (inl old) = inl old
    before x xs last said (Some b) is (inl new) = inr (x, inl refl, is ∙ new)
    before x xs last said here is (inr later) = inr (later.0, inr later.1, later.2)

-- what stands after the last item that passes stands in the list
after_in : (test : Record → Bool) (xs kept : List Record) (y : Record) → Stands y (fold (λ kept x. cond (test x) [] (kept ++ (x ∷ []))) kept xs) → Stands y kept ⊎ Stands y xs
after_in test [] kept y here = inl here
after_in test (x ∷ xs) kept y here = by (test x) (after_in test xs (cond (test x) [] (kept ++ (x ∷ []))) y here)
  where
    split : (ks : List Record) → Stands y (ks ++ (x ∷ [])) → Stands y ks ⊎ Stands y (x ∷ xs)
    split [] (inl same) = inr (inl same)
    split [] (inr none) = absurd none
    split (k ∷ ks) (inl same) = inl (inl same)
    split (k ∷ ks) (inr there) = more (split ks there)
      where
        more : Stands y ks ⊎ Stands y (x ∷ xs) → Stands y (k ∷ ks) ⊎ Stands y (x ∷ xs)
        more (inl old) = inl (inr old)
        more (inr new) = inr new

    by : (b : Bool) → Stands y (cond b [] (kept ++ (x ∷ []))) ⊎ Stands y xs → Stands y kept ⊎ Stands y (x ∷ xs)
    by true (inl none) = absurd none
    by false (inl there) = split kept there
    by b (inr later) = inr (inr later)

since_in : (H : List Record) (y : Record) → Stands y (since_opening H) → Stands y H
since_in H y here = both (after_in is_opening (part H) [] y here)
  where
    whole : Stands y [] ⊎ Stands y H → Stands y H
    whole (inl none) = absurd none
    whole (inr there) = there

    both : Stands y [] ⊎ Stands y (part H) → Stands y H
    both (inl none) = absurd none
    both (inr there) = whole (after_in is_cleaned H [] y there)

unwrapped_some : (said : Option (Option Place)) (place : Place) → unwrap_or said None ≡ Some place → said ≡ Some (Some place)
unwrapped_some None place is = absurd (let h : ⊥ = cc in h)
unwrapped_some (Some running) place is = ap Some is

place_said : (r : ℕ) (x : Record) (H : List Record) (place : Place) → Stands x H → running_says r x ≡ Some (Some place)
    → (rule : RuleNo) × (m : ℕ) × Stands (records.Started m rule place.0 place.1) H
place_said r (records.Started moment rule attempt link) H place there says = by (rule.0 == r) says
  where
    by : (b : Bool) → cond b (Some (Some (attempt, link))) None ≡ Some (Some place) → (rule : RuleNo) × (m : ℕ) × Stands (records.Started m rule place.0 place.1) H
    by true is = let one : (attempt, link) ≡ place = cc in (rule, moment, subst (λ p. Stands (records.Started moment rule p.0 p.1) H) one there)
    by false is = absurd (let h : ⊥ = cc in h)
place_said r (records.Done moment rule attempt outs) H place there says = absurd (never (rule.0 == r) place says)
  where
    never : (b : Bool) (place : Place) → let none : Option Place = None in cond b (Some none) None ≡ Some (Some place) → ⊥
    never true place is = cc
    never false place is = cc
place_said r (records.Failed moment rule attempt why) H place there says = absurd (never (rule.0 == r) place says)
  where
    never : (b : Bool) (place : Place) → let none : Option Place = None in cond b (Some none) None ≡ Some (Some place) → ⊥
    never true place is = cc
    never false place is = cc
place_said r (records.Lost moment rule attempt) H place there says = absurd (never (rule.0 == r) place says)
  where
    never : (b : Bool) (place : Place) → let none : Option Place = None in cond b (Some none) None ≡ Some (Some place) → ⊥
    never true place is = cc
    never false place is = cc
place_said r (records.Opened moment run retries limit plan sources) H place there says = absurd (let h : ⊥ = cc in h)
place_said r (records.Resumed moment run retries limit) H place there says = absurd (let h : ⊥ = cc in h)
place_said r (records.Dropped moment file) H place there says = absurd (let h : ⊥ = cc in h)
place_said r (records.Ended moment kind) H place there says = absurd (let h : ⊥ = cc in h)

-- a running attempt was started on its link
pub running_stands : (H : List Record) (r : ℕ) (place : Place) → running_in H r ≡ Some place → (rule : RuleNo) × (m : ℕ) × Stands (records.Started m rule place.0 place.1) H
running_stands H r place is = by (said_from (running_says r) (since_opening H) None (Some place) (unwrapped_some (last_said (running_says r) (since_opening H)) place is))
  where
    by : (let none : Option (Option Place) = None in none ≡ Some (Some place)) ⊎ ((x : Record) × Stands x (since_opening H) × (running_says r x ≡ Some (Some place)))
        → (rule : RuleNo) × (m : ℕ) × Stands (records.Started m rule place.0 place.1) H
    by (inl none) = absurd (let h : ⊥ = cc in h)
    by (inr found) = place_said r found.0 H place (since_in H found.0 found.1) found.2
