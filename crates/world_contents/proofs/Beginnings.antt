-- The first contents of a world, and the rows of its sources.
use Rattle.std.proofs.Common.{◌≡◌, ◌<◌, ◌≤◌, ◌+◌, ℕ, zero, suc, Bool, true, false, cond, List, [], ◌∷◌, length, Option, Some, None, map, replicate, refl, ap, sym, ◌∙◌, arith}
use Rattle.std.specs.Prelude.{All, ◌==◌, ◌||◌, filter, is_none, nat_le, slice_get, unwrap_or}
use Rattle.std.specs.Option.{option_map_or}
use Rattle.std.specs.List.{list_all, range_with_len}
use Rattle.std.proofs.lemmas.Bool.{and_parts, eq-eqb, eqb-true}
use Rattle.std.proofs.lemmas.List.Elements.{All-cons, All-nil}
use Rattle.flow_types.specs.declared.plan.FileRow.{FileRow}
use Rattle.flow_types.specs.declared.plan.Plan.{Plan}
use Rattle.flow_types.specs.declared.numbers.Content.{Content}
use Rattle.flow_types.specs.Plans.{contains_number, file_numbers, is_source, most_bytes, sources_of}
use Rattle.flow_types.specs.Serial.{content_of, of_sources, with_contents}
use Rattle.world_contents.specs.Holdings.{held_in}
use Rattle.world_laws.specs.Reach.{source_logged}
use Rattle.run_history.proofs.Inputs.{or_either}
use Rattle.world_laws.specs.Laws.{AreSources}
use Rattle.world_contents.specs.Sources.{fit_sources, sources_in}
use Rattle.world_laws.specs.Worlds.{row_for}

-- ---- the sources' rows

-- the numbers ascend, from this one on
abbrev Above : ℕ → List ℕ → Type 0
Above k [] = Unit {0}
Above k (f ∷ fs) = (k ≤ f) × Above (f + 1) fs

above_less : (j k : ℕ) (fs : List ℕ) → j ≤ k → Above k fs → Above j fs
above_less j k [] less above = tt
above_less j k (f ∷ fs) less above = (omega (arith, less, above.0), above.1)

above_filter : (test : ℕ → Bool) (k n : ℕ) → Above k (filter test (range_with_len k n))
above_filter test k zero = tt
above_filter test k (suc n) = by (test k) (above_filter test (k + 1) n)
  where
    by : (b : Bool) → Above (k + 1) (filter test (range_with_len (k + 1) n)) → Above k (cond b (k ∷ filter test (range_with_len (k + 1) n)) (filter test (range_with_len (k + 1) n)))
    by true rest = (omega arith, rest)
    by false rest = above_less k (k + 1) (filter test (range_with_len (k + 1) n)) (omega arith) rest

other : (g f : ℕ) → g + 1 ≤ f → (g == f) ≡ false
other g f above = by (g == f) refl
  where
    by : (b : Bool) → (g == f) ≡ b → b ≡ false
    by true same = absurd (let here : g ≡ f = eqb-true g f same in omega (arith, here, above))
    by false unlike = refl

skipped : (g : ℕ) (out : List ℕ) (gs : List ℕ) (outs : List (List ℕ)) (fs : List ℕ) → Above (g + 1) fs
    → map (source_logged (λ f. content_of f (g ∷ gs) (out ∷ outs))) fs ≡ map (source_logged (λ f. content_of f gs outs)) fs
skipped g out gs outs [] above = refl
skipped g out gs outs (f ∷ fs) above =
    ap (λ b. row_for (unwrap_or (cond b (Some out) (content_of f gs outs)) []) ∷ map (source_logged (λ f. content_of f (g ∷ gs) (out ∷ outs))) fs) (other g f above.0)
    ∙ ap (λ (rows : List Content). source_logged (λ f. content_of f gs outs) f ∷ rows) (skipped g out gs outs fs (above_less (g + 1) (f + 1) fs (omega (arith, above.0)) above.1))

rows_same : (k : ℕ) (fs : List ℕ) (outs : List (List ℕ)) → Above k fs → length outs ≡ length fs → map row_for outs ≡ map (source_logged (λ f. content_of f fs outs)) fs
rows_same k [] [] above long = refl
rows_same k [] (out ∷ outs) above long = absurd (omega (arith, long))
rows_same k (f ∷ fs) [] above long = absurd (omega (arith, long))
rows_same k (f ∷ fs) (out ∷ outs) above long =
    ap (λ (rows : List Content). row_for out ∷ rows) (rows_same (f + 1) fs outs above.1 (omega (arith, long)) ∙ sym (skipped f out fs outs fs above.1))
    ∙ ap (λ b. row_for (unwrap_or (cond b (Some out) (content_of f fs outs)) []) ∷ map (source_logged (λ g. content_of g (f ∷ fs) (out ∷ outs))) fs) (sym (eq-eqb f f refl))

-- the sources' rows are those of their contents
pub sources_rows : (P : Plan) (sources : List (List ℕ)) → length sources ≡ length (sources_of P) → map row_for sources ≡ map (source_logged (sources_in P sources)) (sources_of P)
sources_rows P sources long = rows_same 0 (sources_of P) sources (above_filter (is_source P) 0 (length P.files)) long

-- ---- the sources' contents

inside_filter : (test : ℕ → Bool) (k n m : ℕ) → k + n ≤ m → All (λ f. f < m) (filter test (range_with_len k n))
inside_filter test k zero m few = All-nil (λ f. f < m)
inside_filter test k (suc n) m few = by (test k) (inside_filter test (k + 1) n m (omega (arith, few)))
  where
    by : (b : Bool) → All (λ f. f < m) (filter test (range_with_len (k + 1) n)) → All (λ f. f < m) (cond b (k ∷ filter test (range_with_len (k + 1) n)) (filter test (range_with_len (k + 1) n)))
    by true rest = All-cons (λ f. f < m) k (filter test (range_with_len (k + 1) n)) (omega (arith, few)) rest
    by false rest = rest

-- the sources are files of the plan
pub sources_inside : (P : Plan) → All (λ f. f < length P.files) (sources_of P)
sources_inside P = inside_filter (is_source P) 0 (length P.files) (length P.files) (omega arith)

none_at : (n f : ℕ) → held_in (replicate n None) f ≡ None
none_at zero f = refl
none_at (suc n) zero = refl
none_at (suc n) (suc f) = none_at n f

false_ne_true : false ≡ true → ⊥
false_ne_true h = cc

passes : (test : ℕ → Bool) (f : ℕ) (xs : List ℕ) → contains_number f (filter test xs) ≡ true → test f ≡ true
passes test f [] there = absurd (false_ne_true there)
passes test f (x ∷ xs) there = by (test x) refl there (passes test f xs)
  where
    here : (same : Bool) → (x == f) ≡ same → test x ≡ true → (same || contains_number f (filter test xs)) ≡ true → (contains_number f (filter test xs) ≡ true → test f ≡ true) → test f ≡ true
    here true same is there rest = ap test (sym (eqb-true x f same)) ∙ is
    here false unlike is there rest = rest there

    by : (b : Bool) → test x ≡ b → contains_number f (cond b (x ∷ filter test xs) (filter test xs)) ≡ true → (contains_number f (filter test xs) ≡ true → test f ≡ true) → test f ≡ true
    by true is there rest = here (x == f) refl is there rest
    by false is there rest = rest there

no_content : (f : ℕ) (fs : List ℕ) (outs : List (List ℕ)) → contains_number f fs ≡ false → content_of f fs outs ≡ None
no_content f [] outs none = refl
no_content f (g ∷ fs) [] none = refl
no_content f (g ∷ fs) (out ∷ outs) none = by (g == f) none (no_content f fs outs)
  where
    by : (b : Bool) → (b || contains_number f fs) ≡ false → (contains_number f fs ≡ false → content_of f fs outs ≡ None) → cond b (Some out) (content_of f fs outs) ≡ None
    by true none rest = absurd (false_ne_true (sym none))
    by false none rest = rest none

both_none : (b : Bool) (found : Option (List ℕ)) → found ≡ None → None ≡ cond b found None
both_none true found none = sym none
both_none false found none = refl

-- what is put into empty places is what there is of the sources
pub first_held : (P : Plan) (sources : List (List ℕ)) (n f : ℕ) → with_contents (held_in (replicate n None)) (sources_of P) sources f ≡ of_sources P (sources_in P sources) f
first_held P sources n f = by (contains_number f (sources_of P)) refl
  where
    by : (b : Bool) → contains_number f (sources_of P) ≡ b → cond b (content_of f (sources_of P) sources) (held_in (replicate n None) f) ≡ of_sources P (sources_in P sources) f
    by true there = ap (λ b. cond b (content_of f (sources_of P) sources) None) (sym (passes (is_source P) f (file_numbers P) there))
    by false none = none_at n f ∙ both_none (is_source P f) (content_of f (sources_of P) sources) (no_content f (sources_of P) sources none)

-- ---- the sources are there

source_inside : (P : Plan) (f : ℕ) → is_source P f ≡ true → f < length P.files
source_inside P f source = within P.files f source
  where
    within : (files : List FileRow) (f : ℕ) → option_map_or (λ row. is_none row.maker) (slice_get files f) false ≡ true → f < length files
    within [] f source = absurd (false_ne_true source)
    within (row ∷ rows) zero source = omega arith
    within (row ∷ rows) (suc f) source = omega (arith, within rows f source)

contained : (test : ℕ → Bool) (k n f : ℕ) → test f ≡ true → k ≤ f → f < k + n → contains_number f (filter test (range_with_len k n)) ≡ true
contained test k zero f passes above below = absurd (let none : ⊥ = omega (arith, above, below) in none)
contained test k (suc n) f passes above below = by (k == f) refl (λ later. contained test (k + 1) n f passes later (omega (arith, below)))
  where
    rest : (b : Bool) → contains_number f (filter test (range_with_len (k + 1) n)) ≡ true → contains_number f (cond b (k ∷ filter test (range_with_len (k + 1) n)) (filter test (range_with_len (k + 1) n))) ≡ true
    rest true there = or_either (k == f) (contains_number f (filter test (range_with_len (k + 1) n))) there
    rest false there = there

    here : k ≡ f → contains_number f (cond (test k) (k ∷ filter test (range_with_len (k + 1) n)) (filter test (range_with_len (k + 1) n))) ≡ true
    here same =
        ap (λ b. contains_number f (cond b (k ∷ filter test (range_with_len (k + 1) n)) (filter test (range_with_len (k + 1) n)))) (ap test same ∙ passes)
        ∙ ap (λ b. b || contains_number f (filter test (range_with_len (k + 1) n))) (eq-eqb k f same)

    by : (b : Bool) → (k == f) ≡ b → (k + 1 ≤ f → contains_number f (filter test (range_with_len (k + 1) n)) ≡ true)
        → contains_number f (cond (test k) (k ∷ filter test (range_with_len (k + 1) n)) (filter test (range_with_len (k + 1) n))) ≡ true
    by true same later = here (eqb-true k f same)
    by false unlike later = rest (test k) (later (omega (arith, above, λ (same : k ≡ f). false_ne_true (sym unlike ∙ eq-eqb k f same))))

small_content : (m f : ℕ) (fs : List ℕ) (outs : List (List ℕ)) → length outs ≡ length fs → contains_number f fs ≡ true → list_all (λ c. nat_le (length c) m) outs ≡ true
    → (content : List ℕ) × (content_of f fs outs ≡ Some content) × (nat_le (length content) m ≡ true)
small_content m f [] outs long there small = absurd (false_ne_true there)
small_content m f (g ∷ fs) [] long there small = absurd (let none : ⊥ = omega (arith, long) in none)
small_content m f (g ∷ fs) (out ∷ outs) long there small =
    by (g == f) there (λ later. small_content m f fs outs (omega (arith, long)) later (and_parts _ _ small).1)
  where
    by : (b : Bool) → (b || contains_number f fs) ≡ true → (contains_number f fs ≡ true → (content : List ℕ) × (content_of f fs outs ≡ Some content) × (nat_le (length content) m ≡ true))
        → (content : List ℕ) × (cond b (Some out) (content_of f fs outs) ≡ Some content) × (nat_le (length content) m ≡ true)
    by true there rest = (out, refl, (and_parts _ _ small).0)
    by false there rest = rest there

-- so many contents as sources
pub sources_long : (P : Plan) (sources : List (List ℕ)) → fit_sources P sources ≡ true → length sources ≡ length (sources_of P)
sources_long P sources fit = eqb-true (length sources) (length (sources_of P)) (and_parts _ _ fit).0

-- each source has a content within its limit
pub are_sources : (P : Plan) (sources : List (List ℕ)) → fit_sources P sources ≡ true → AreSources P (sources_in P sources)
are_sources P sources fit f source =
    small_content most_bytes f (sources_of P) sources (sources_long P sources fit)
    (contained (is_source P) 0 (length P.files) f source (omega arith) (omega (arith, source_inside P f source))) (and_parts _ _ fit).1
