-- Loops of a step: what was sent, and the first that passes.
use Rattle.std.proofs.Common.{◌≡◌, ◌≢◌, ℕ, ◌+◌, ◌<◌, ◌≤◌, Bool, true, false, cond, ltb, List, [], ◌∷◌, ◌++◌, length, take, get_or, Option, Some, None, refl, sym, ap, ◌∙◌, append_assoc, arith}
use Rattle.std.specs.Prelude.{◌==◌, filter_map, position}
use Rattle.std.specs.List.{cons_option, position_or_len}
use Rattle.std.proofs.lemmas.Bool.{lt-ltb, le-ltb, eqb-true, eqb-false}
use Rattle.std.proofs.lemmas.List.{take_more, map-append, get_or_default}
use Rattle.std.proofs.lemmas.List.Sums.{position_or_len_is}
use Rattle.flow_types.specs.declared.numbers.FileNo.{FileNo}
use Rattle.flow_types.specs.declared.numbers.LinkNo.{LinkNo}
use Rattle.flow_types.specs.declared.messages.Message.{Message}
use Rattle.worker_cache.specs.Caches.{Rows}
use Rattle.foreman_core.specs.declared.acts.Down.{Down}
use Rattle.foreman_core.specs.Steps.{down_to, put_list, put_of}

one_more : (found : Option Message) (made : List Message) (last : Option Message) → cons_option found (made ++ put_list last) ≡ cons_option found made ++ put_list last
one_more None made last = refl
one_more (Some m) made last = refl

last_only : (last : Option Message) → cons_option last [] ≡ put_list last
last_only None = refl
last_only (Some m) = refl

more_made : (f : FileNo → Option Message) (files : List FileNo) (file : FileNo) → filter_map f (files ++ file ∷ []) ≡ filter_map f files ++ put_list (f file)
more_made f [] file = last_only (f file)
more_made f (x ∷ files) file = ap (cons_option (f x)) (more_made f files file) ∙ one_more (f x) (filter_map f files) (f file)

pub put_step : (d : FileNo) (rows : Rows) (run : ℕ) (k : LinkNo) (files : List FileNo) (i : ℕ) (first down new : List Down) → i < length files → new ≡ down ++ down_to k (put_list (put_of rows run (get_or files i d)))
    → down ≡ first ++ down_to k (filter_map (put_of rows run) (take i files)) → new ≡ first ++ down_to k (filter_map (put_of rows run) (take (i + 1) files))
put_step d rows run k files i first down new lt is h =
    let f : FileNo → Option Message = put_of rows run in
    let g : Message → Down = λ message. let down : Down = record { link = k; message = message } in down in
    let file : FileNo = get_or files i d in
    let made : filter_map f (take (i + 1) files) ≡ filter_map f (take i files) ++ put_list (f file) = ap (filter_map f) (take_more files i d lt) ∙ more_made f (take i files) file in
    is ∙ ap (λ all. all ++ down_to k (put_list (f file))) h ∙ append_assoc first (down_to k (filter_map f (take i files))) (down_to k (put_list (f file)))
    ∙ ap (λ all. first ++ all) (sym (map-append g (filter_map f (take i files)) (put_list (f file)))) ∙ ap (λ all. first ++ down_to k all) (sym made)

pub first_at : {A : Type 0} (p : A → Bool) (xs : List A) (i : ℕ) (d : A) → i < length xs → ((k : ℕ) (e : A) → k < i → p (get_or xs k e) ≡ false) → p (get_or xs i d) ≡ true → Some i ≡ position p xs
first_at p xs i d lt before here =
    let is : position_or_len p xs ≡ i = position_or_len_is p xs i d (omega (arith, lt)) (λ k less. before k d less) (λ inside. here) in
    sym (ap (λ n. cond (ltb n (length xs)) (Some n) None) is ∙ ap (λ b. cond b (Some i) None) (lt-ltb i (length xs) lt))

none_by : {A : Type 0} (p : A → Bool) (xs : List A) (i : ℕ) (d : A) → length xs ≤ i → ((k : ℕ) (e : A) → k < i → p (get_or xs k e) ≡ false) → (let none : Option ℕ = None in none ≡ position p xs)
none_by p xs i d end before =
    let is : position_or_len p xs ≡ length xs = position_or_len_is p xs (length xs) d (omega arith) (λ k less. before k d (omega (arith, less, end))) (λ inside. absurd (let h : ⊥ = omega (arith, inside) in h)) in
    sym (ap (λ n. cond (ltb n (length xs)) (Some n) None) is ∙ ap (λ b. cond b (Some (length xs)) None) (le-ltb (length xs) (length xs) (omega arith)))

pub none_at : {A : Type 0} (p : A → Bool) (xs : List A) (i : ℕ) → length xs ≤ i → ((k : ℕ) (e : A) → k < i → p (get_or xs k e) ≡ false) → (let none : Option ℕ = None in none ≡ position p xs)
none_at p [] i end before = refl
none_at p (x ∷ xs) i end before = none_by p (x ∷ xs) i x end before

pub none_more : {A : Type 0} (p : A → Bool) (xs : List A) (i : ℕ) (x : A) → i < length xs → x ≡ get_or xs i x → p x ≡ false → ((k : ℕ) (e : A) → k < i → p (get_or xs k e) ≡ false)
    → (k : ℕ) (e : A) → k < i + 1 → p (get_or xs k e) ≡ false
none_more p xs i x lt is fails before k e less = by (k == i) refl
  where
    by : (b : Bool) → (k == i) ≡ b → p (get_or xs k e) ≡ false
    by true same = let at : k ≡ i = eqb-true k i same in ap (λ n. p (get_or xs n e)) at ∙ ap p (get_or_default xs i e x lt ∙ sym is) ∙ fails
    by false other = before k e (let differ : k ≢ i = eqb-false k i other in omega (arith, less, differ))
