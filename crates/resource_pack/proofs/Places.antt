-- What is changed at the first place that passes.
use Rattle.std.proofs.Common.{◌≡◌, ◌≤◌, ◌<◌, ℕ, zero, suc, Bool, true, false, cond, ◌&&◌, List, [], ◌∷◌, length, get_or, refl, ap, sym, subst, ◌∙◌, true≢false, arith, Option, Some, None}
use Rattle.std.specs.Prelude.{find, is_some, nat_lt}
use Rattle.std.specs.List.{position_or_len, remove}
use Rattle.std.proofs.Math.ListN.{set}
use Rattle.std.proofs.lemmas.List.Folds.{find_at}
use Rattle.std.proofs.lemmas.List.Sums.{fails_before_first, passes_at_first, position_or_len_is}
use Rattle.std.proofs.lemmas.Option.{slice_get_past, slice_get-get_or}
use Rattle.std.proofs.lemmas.Bool.{ltb-true, ltb-false, eqb-true}
use Rattle.std.specs.Option.{option_map_or}
use Rattle.run_history.specs.Links.{Load}
use Rattle.resource_pack.specs.Packing.{PackedLink, is_link, is_load, link_in, with_link, without_link, without_load}

-- where one is found, its place is inside
pub first-inside : {A : Type 0} (p : A → Bool) (xs : List A) → is_some (find p xs) ≡ true → position_or_len p xs < length xs
first-inside p xs some = by_place (nat_lt (position_or_len p xs) (length xs)) refl
  where
    by_place : (b : Bool) → nat_lt (position_or_len p xs) (length xs) ≡ b → position_or_len p xs < length xs
    by_place true less = ltb-true (position_or_len p xs) (length xs) less
    by_place false less =
        absurd (true≢false (sym some ∙ ap is_some (find_at p xs ∙ slice_get_past xs (position_or_len p xs) (ltb-false (position_or_len p xs) (length xs) less))))

-- what is found is the item at the place
pub first-found : {A : Type 0} (p : A → Bool) (xs : List A) (d : A) → position_or_len p xs < length xs → find p xs ≡ Some (get_or xs (position_or_len p xs) d)
first-found p xs d inside = find_at p xs ∙ slice_get-get_or xs (position_or_len p xs) d inside

link-set : (k : ℕ) (change : PackedLink → PackedLink) (links : List PackedLink) (i : ℕ) (d : PackedLink) → i < length links
    → ((j : ℕ) → j < i → is_link k (get_or links j d) ≡ false) → is_link k (get_or links i d) ≡ true → with_link k change links ≡ set links i (change (get_or links i d))
link-set k change [] i d inside others here = absurd (omega (arith, inside))
link-set k change (x ∷ xs) zero d inside others here = ap (λ b. cond b (change x ∷ xs) (x ∷ with_link k change xs)) here
link-set k change (x ∷ xs) (suc i) d inside others here =
    ap (λ b. cond b (change x ∷ xs) (x ∷ with_link k change xs)) (others 0 (omega arith))
    ∙ ap (λ (ls : List PackedLink). x ∷ ls) (link-set k change xs i d (omega (arith, inside)) (λ j less. others (suc j) (omega (arith, less))) here)

-- the change of link k is a write at its place
pub with-link-set : (k : ℕ) (change : PackedLink → PackedLink) (links : List PackedLink) (d : PackedLink) → position_or_len (is_link k) links < length links
    → with_link k change links ≡ set links (position_or_len (is_link k) links) (change (get_or links (position_or_len (is_link k) links) d))
with-link-set k change links d inside =
    link-set k change links (position_or_len (is_link k) links) d inside (λ j less. fails_before_first (is_link k) links j d less) (passes_at_first (is_link k) links d inside)

link-remove : (k : ℕ) (links : List PackedLink) (i : ℕ) (d : PackedLink) → i < length links → ((j : ℕ) → j < i → is_link k (get_or links j d) ≡ false) → is_link k (get_or links i d) ≡ true
    → without_link k links ≡ remove links i
link-remove k [] i d inside others here = absurd (omega (arith, inside))
link-remove k (x ∷ xs) zero d inside others here = ap (λ b. cond b xs (x ∷ without_link k xs)) here
link-remove k (x ∷ xs) (suc i) d inside others here =
    ap (λ b. cond b xs (x ∷ without_link k xs)) (others 0 (omega arith))
    ∙ ap (λ (ls : List PackedLink). x ∷ ls) (link-remove k xs i d (omega (arith, inside)) (λ j less. others (suc j) (omega (arith, less))) here)

-- link k leaves from its place
pub without-link-remove : (k : ℕ) (links : List PackedLink) (d : PackedLink) → position_or_len (is_link k) links < length links
    → without_link k links ≡ remove links (position_or_len (is_link k) links)
without-link-remove k links d inside =
    link-remove k links (position_or_len (is_link k) links) d inside (λ j less. fails_before_first (is_link k) links j d less) (passes_at_first (is_link k) links d inside)

load-remove : (load : Load) (loads : List Load) (i : ℕ) (d : Load) → i < length loads → ((j : ℕ) → j < i → is_load load (get_or loads j d) ≡ false) → is_load load (get_or loads i d) ≡ true
    → without_load load loads ≡ remove loads i
load-remove load [] i d inside others here = absurd (omega (arith, inside))
load-remove load (x ∷ xs) zero d inside others here = ap (λ b. cond b xs (x ∷ without_load load xs)) here
load-remove load (x ∷ xs) (suc i) d inside others here =
    ap (λ b. cond b xs (x ∷ without_load load xs)) (others 0 (omega arith))
    ∙ ap (λ (ls : List Load). x ∷ ls) (load-remove load xs i d (omega (arith, inside)) (λ j less. others (suc j) (omega (arith, less))) here)

-- the load leaves from its place
pub without-load-remove : (load : Load) (loads : List Load) (d : Load) → position_or_len (is_load load) loads < length loads
    → without_load load loads ≡ remove loads (position_or_len (is_load load) loads)
without-load-remove load loads d inside =
    load-remove load loads (position_or_len (is_load load) loads) d inside (λ j less. fails_before_first (is_load load) loads j d less) (passes_at_first (is_load load) loads d inside)

load-none : (load : Load) (loads : List Load) → ((j : ℕ) (d : Load) → j < length loads → is_load load (get_or loads j d) ≡ false) → without_load load loads ≡ loads
load-none load [] others = refl
load-none load (x ∷ xs) others =
    ap (λ b. cond b xs (x ∷ without_load load xs)) (others 0 x (omega arith))
    ∙ ap (λ (ls : List Load). x ∷ ls) (load-none load xs (λ j d less. others (suc j) d (omega (arith, less))))

-- where no load is this one, all stay
pub without-load-none : (load : Load) (loads : List Load) → length loads ≤ position_or_len (is_load load) loads → without_load load loads ≡ loads
without-load-none load loads past = load-none load loads (λ j d less. fails_before_first (is_load load) loads j d (omega (arith, past, less)))

-- the first place that passes
pub place-found : {A : Type 0} (p : A → Bool) (xs : List A) (i : ℕ) (x : A) → i < length xs → x ≡ get_or xs i x → ((k : ℕ) (d : A) → k < i → p (get_or xs k d) ≡ false) → p x ≡ true
    → i ≡ position_or_len p xs
place-found p xs i x inside here others passes = sym (position_or_len_is p xs i x (omega (arith, inside)) (λ k less. others k x less) (λ _. ap p (sym here) ∙ passes))

-- no place passes
pub none-passes : {A : Type 0} (p : A → Bool) (xs : List A) (i : ℕ) → length xs ≤ i → ((k : ℕ) (d : A) → k < i → p (get_or xs k d) ≡ false) → length xs ≡ position_or_len p xs
none-passes p [] i past others = refl
none-passes p (x ∷ xs) i past others =
    sym (position_or_len_is p (x ∷ xs) (length (x ∷ xs)) x (omega arith) (λ k less. others k x (omega (arith, past, less))) (λ less. absurd (omega (arith, less))))

-- a found link is inside, and has the number
pub link-inside : (k : ℕ) (now items : List PackedLink) (at : ℕ) → items ≡ now → at ≡ position_or_len (is_link k) items → is_some (link_in k now) ≡ true → at < length items
link-inside k now items at same is some =
    subst (λ i. i < length items) (sym is) (first-inside (is_link k) items (ap (λ (ls : List PackedLink). is_some (find (is_link k) ls)) same ∙ some))

pub link-numbered : (k : ℕ) (items : List PackedLink) (at : ℕ) (held : PackedLink) → at ≡ position_or_len (is_link k) items → at < length items → held ≡ get_or items at held → held.link ≡ k
link-numbered k items at held is inside here =
    eqb-true held.link k
    (ap (is_link k) (here ∙ ap (λ i. get_or items i held) is) ∙ passes_at_first (is_link k) items held (subst (λ i. i < length items) is inside))

-- a write at the place of link k
pub link-written : (k : ℕ) (change : PackedLink → PackedLink) (now items : List PackedLink) (at : ℕ) (held new : PackedLink) → items ≡ now → at ≡ position_or_len (is_link k) items
    → at < length items → held ≡ get_or items at held → new ≡ change held → set items at new ≡ with_link k change now
link-written k change now items at held new same is inside here changed =
    ap (set items at) (changed ∙ ap change here) ∙ ap (λ i. set items i (change (get_or items i held))) is
    ∙ sym (with-link-set k change items held (subst (λ i. i < length items) is inside)) ∙ ap (with_link k change) same

-- link k is taken from its place
pub link-taken : (k : ℕ) (now items : List PackedLink) (at : ℕ) (held : PackedLink) → items ≡ now → at ≡ position_or_len (is_link k) items → at < length items
    → remove items at ≡ without_link k now
link-taken k now items at held same is inside =
    ap (remove items) is ∙ sym (without-link-remove k items held (subst (λ i. i < length items) is inside)) ∙ ap (without_link k) same

-- what link k is
pub link-read : (k : ℕ) (now items : List PackedLink) (at : ℕ) (held : PackedLink) → items ≡ now → at ≡ position_or_len (is_link k) items → at < length items → held ≡ get_or items at held
    → link_in k now ≡ Some held
link-read k now items at held same is inside here =
    ap (link_in k) (sym same) ∙ first-found (is_link k) items held (subst (λ i. i < length items) is inside) ∙ ap (λ (x : PackedLink). Some x) (sym (here ∙ ap (λ i. get_or items i held) is))

-- where a load fits or runs on link k, the link is there
pub fits-some : {A : Type 0} (test : A → Bool) (o : Option A) → option_map_or test o false ≡ true → is_some o ≡ true
fits-some test None h = h
fits-some test (Some x) h = refl
