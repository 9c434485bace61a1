-- Readers and spellings that belong together.
use Rattle.std.proofs.Common.{◌≡◌, ℕ, zero, suc, ◌+◌, ◌-◌, ◌^◌, ◌%◌, ◌<◌, ◌≤◌, Bool, true, false, cond, ltb, leb, eqb, List, [], ◌∷◌, ◌++◌, length, take, drop, Result, Ok, Err, refl, sym, ap, subst, ◌∙◌, append_assoc, arith, inl, inr}
use Rattle.std.specs.List.{flat_map, AllByRecursion}
use Rattle.std.proofs.lemmas.Bool.{cases_lt, ltb-false, le-ltb, eqb-true}
use Rattle.std.proofs.lemmas.List.{append-nil, nil_from_length, take_at, drop_at, take-append-drop, length-append, length-take, get_or-drop, get_or-take, get_or_past}
use Rattle.std.proofs.lemmas.List.Concat.{flat_map-cons}
use Rattle.std.proofs.lemmas.Nat.{be_bytes_2, be_bytes_4, be_bytes_8}
use Rattle.byteorder.specs.Endian.{big_bytes, big_number}
use Rattle.byteorder.specs.Numbers.{big_from-take, big_number-reads_back, big_from-lt, length-bytes_high_first}
use Rattle.byte_fields.specs.declared.fault.FieldFault.{FieldFault}
use Rattle.byte_fields.specs.declared.fault.FieldFault.TheVariants.{Short, Kind, BadText, Long}
use Rattle.byte_fields.specs.Reading.{◌>>=◌, Reader, number_at, fixed_at, bytes_at, both, seen_as, rows_at, rows_behind, nothing_at, count_at, counted_rows_at, checked, worded_at, behind_tag, tagged, whole}
use Rattle.byte_fields.specs.Spelling.{counted, rows}
use Rattle.byte_fields.specs.Laws.{IsBytes, Takes, IsField}

pub IsBytes-drop : (n : ℕ) (bytes : List ℕ) → IsBytes bytes → IsBytes (drop n bytes)
IsBytes-drop n bytes h i = rw get_or-drop (h (n + i))

pub IsBytes-take : (n : ℕ) (bytes : List ℕ) → IsBytes bytes → IsBytes (take n bytes)
IsBytes-take n bytes h i =
    elim (cases_lt i n) [
      | inl lt ↦ rw (get_or-take n bytes i 0 lt) (h i)
      | inr le ↦ rw (get_or_past (take n bytes) i 0 (omega (arith, length-take n bytes))) (omega arith)
    ]

pub IsBytes-rest : (b : ℕ) (bytes : List ℕ) → IsBytes (b ∷ bytes) → IsBytes bytes
IsBytes-rest b bytes h i = h (suc i)

-- the value of a step that did not fail
pub bind_ok : {A B : Type 0} (r : Result A FieldFault) (f : A → Result B FieldFault) (y : B) → (r >>= f) ≡ Ok y → (x : A) × (r ≡ Ok x) × (f x ≡ Ok y)
bind_ok (Ok x) f y e = (x, refl, e)
bind_ok (Err d) f y e = absurd cc

-- a test that did not fail
pub guard_ok : {A : Type 0} (b : Bool) (d : FieldFault) (x y : A) → cond b (Err d) (Ok x) ≡ Ok y → (b ≡ false) × (x ≡ y)
guard_ok true d x y e = absurd cc
guard_ok false d x y e = (refl, cc)

-- a test that held
pub guard_held : {A : Type 0} (b : Bool) (d : FieldFault) (x y : A) → cond b (Ok x) (Err d) ≡ Ok y → (b ≡ true) × (x ≡ y)
guard_held true d x y e = (refl, cc)
guard_held false d x y e = absurd cc

-- a test that let the reading go on
pub chosen_last : {A : Type 0} (b : Bool) (d : FieldFault) (r : Result A FieldFault) (y : A) → cond b (Err d) r ≡ Ok y → (b ≡ false) × (r ≡ Ok y)
chosen_last true d r y e = absurd cc
chosen_last false d r y e = (refl, e)

abbrev done : {A : Type 0} → A → Result A FieldFault
done x = Ok x

pub ok_is : {A : Type 0} (x y : A) → done x ≡ done y → x ≡ y
ok_is x y e = cc

pub Takes-then : (a x b y c : List ℕ) → Takes a x b → Takes b y c → Takes a (x ++ y) c
Takes-then a x b y c p q = record { parts = p.parts ∙ ap (λ (t : List ℕ). x ++ t) q.parts ∙ sym (append_assoc x y c); rest_fits = q.rest_fits }

-- ---- numbers

abbrev pub HasWidth : ℕ → Type 0
HasWidth n = (bytes : List ℕ) → length bytes ≡ n → IsBytes bytes → big_bytes n (big_number n bytes) ≡ bytes

one : HasWidth 1
one [] len fits = absurd (omega arith)
one (a ∷ []) len fits =
    let small = fits 0 in
    let same : big_number 1 (a ∷ []) % 256 ≡ a = omega arith in
    ap (λ (x : ℕ). x ∷ []) same
one (a ∷ b ∷ more) len fits = absurd (omega arith)

two : HasWidth 2
two bytes len fits = be_bytes_2 bytes _ len fits (omega arith)

four : HasWidth 4
four bytes len fits = be_bytes_4 bytes _ len fits (omega arith)

eight : HasWidth 8
eight bytes len fits = be_bytes_8 bytes _ len fits (omega arith)

number_takes : (n : ℕ) → HasWidth n → (bytes : List ℕ) (x : ℕ) (rest : List ℕ) → IsBytes bytes → number_at n bytes ≡ Ok (x, rest) → Takes bytes (big_bytes n x) rest × (x < 256 ^ n)
number_takes n wide bytes x rest fits e =
    let g = guard_ok (ltb (length bytes) n) Short (big_number n bytes, drop n bytes) (x, rest) e in
    let long : n ≤ length bytes = ltb-false _ _ g.0 in
    let x-is : big_number n bytes ≡ x = ap (λ (p : ℕ × List ℕ). p.0) g.1 in
    let rest-is : drop n bytes ≡ rest = ap (λ (p : ℕ × List ℕ). p.1) g.1 in
    let front : big_bytes n x ≡ take n bytes =
    ap (big_bytes n) (sym x-is ∙ sym (big_from-take 0 n n bytes (omega arith))) ∙ wide (take n bytes) (omega (arith, length-take n bytes)) (IsBytes-take n bytes fits) in
    (record { parts = rw (front, ← rest-is) (sym (take-append-drop n bytes)); rest_fits = rw (← rest-is) (IsBytes-drop n bytes fits) }, rw (← x-is) (big_from-lt 0 n bytes fits))

number_again : (n x : ℕ) (rest : List ℕ) → x < 256 ^ n → number_at n (big_bytes n x ++ rest) ≡ Ok (x, rest)
number_again n x rest lt =
    let len = length-bytes_high_first n x in
    let long : ltb (length (big_bytes n x ++ rest)) n ≡ false = le-ltb _ _ (omega (arith, len, length-append (big_bytes n x) rest)) in
    rw (long, drop_at (big_bytes n x) rest n len, big_number-reads_back n x rest lt) refl

number_field : (n : ℕ) → HasWidth n → IsField (big_bytes n) (λ x. x < 256 ^ n) (number_at n)
number_field n wide = record { takes = number_takes n wide; again = number_again n }

pub u8_is_field : IsField (big_bytes 1) (λ x. x < 2 ^ 8) (number_at 1)
u8_is_field = number_field 1 one

pub u16_is_field : IsField (big_bytes 2) (λ x. x < 2 ^ 16) (number_at 2)
u16_is_field = number_field 2 two

pub u32_is_field : IsField (big_bytes 4) (λ x. x < 2 ^ 32) (number_at 4)
u32_is_field = number_field 4 four

pub u64_is_field : IsField (big_bytes 8) (λ x. x < 2 ^ 64) (number_at 8)
u64_is_field = number_field 8 eight

-- ---- so many bytes, and nothing

pub fixed_is_field : (n : ℕ) → IsField (λ (x : List ℕ). x) (λ x. (length x ≡ n) × IsBytes x) (fixed_at n)
fixed_is_field n = record {
  takes = λ bytes x rest small e.
      let g = guard_ok (ltb (length bytes) n) Short (take n bytes, drop n bytes) (x, rest) e in
      let long : n ≤ length bytes = ltb-false _ _ g.0 in
      let taken : Takes bytes (take n bytes) (drop n bytes) = record { parts = sym (take-append-drop n bytes); rest_fits = IsBytes-drop n bytes small } in
      subst (λ (p : List ℕ × List ℕ). Takes bytes p.0 p.1 × ((length p.0 ≡ n) × IsBytes p.0)) g.1 (taken, (omega (arith, length-take n bytes), IsBytes-take n bytes small));
  again = λ x rest h.
      let long : ltb (length (x ++ rest)) n ≡ false = le-ltb _ _ (omega (arith, h.0, length-append x rest)) in
      rw (long, take_at x rest n h.0, drop_at x rest n h.0) refl;
}

pub nothing_is_field : IsField (λ (_ : Unit {0}). let empty : List ℕ = [] in empty) (λ _. Unit {0}) nothing_at
nothing_is_field = record {
  takes = λ bytes x rest small e. subst (λ (p : Unit {0} × List ℕ). Takes bytes [] p.1 × Unit {0}) (ok_is (tt, bytes) (x, rest) e) (record { parts = refl; rest_fits = small }, tt);
  again = λ x rest h. refl;
}

-- ---- bytes behind their length

counted_takes : (bytes text rest : List ℕ) → IsBytes bytes → bytes_at bytes ≡ Ok (text, rest) → Takes bytes (counted text) rest × (length text < 2 ^ 32)
unfolding bytes_at
counted_takes bytes text rest fits e =
    let b = bind_ok (number_at 4 bytes) (λ n. cond (ltb (length n.1) n.0) (Err Short) (Ok (take n.0 n.1, drop n.0 n.1))) (text, rest) e in
    let n = b.0 in
    let t = u32_is_field.takes bytes n.0 n.1 fits b.1 in
    let g = guard_ok (ltb (length n.1) n.0) Short (take n.0 n.1, drop n.0 n.1) (text, rest) b.2 in
    let long : n.0 ≤ length n.1 = ltb-false _ _ g.0 in
    let len : length (take n.0 n.1) ≡ n.0 = omega (arith, length-take n.0 n.1) in
    let second : Takes n.1 (take n.0 n.1) (drop n.0 n.1) = record { parts = sym (take-append-drop n.0 n.1); rest_fits = IsBytes-drop n.0 n.1 t.0.rest_fits } in
    let pair = Takes-then bytes (big_bytes 4 n.0) n.1 (take n.0 n.1) (drop n.0 n.1) t.0 second in
    let whole : Takes bytes (counted (take n.0 n.1)) (drop n.0 n.1) = subst (λ (k : ℕ). Takes bytes (big_bytes 4 k ++ take n.0 n.1) (drop n.0 n.1)) (sym len) pair in
    subst (λ (p : List ℕ × List ℕ). Takes bytes (counted p.0) p.1 × (length p.0 < 2 ^ 32)) g.1 (whole, omega (arith, t.1))

counted_again : (text rest : List ℕ) → length text < 2 ^ 32 → bytes_at (counted text ++ rest) ≡ Ok (text, rest)
unfolding bytes_at
counted_again text rest lt =
    let long : ltb (length (text ++ rest)) (length text) ≡ false = le-ltb _ _ (omega (arith, length-append text rest)) in
    ap bytes_at (append_assoc (big_bytes 4 (length text)) text rest)
    ∙ rw (u32_is_field.again (length text) (text ++ rest) lt, long, take_at text rest (length text) refl, drop_at text rest (length text) refl) refl

pub counted_is_field : IsField counted (λ text. length text < 2 ^ 32) bytes_at
counted_is_field = record { takes = counted_takes; again = counted_again }

-- ---- one after the other

pub both_is_field : {A B : Type 0} (sa : A → List ℕ) (fa : A → Type 0) (ra : Reader A) (sb : B → List ℕ) (fb : B → Type 0) (rb : Reader B)
    → IsField sa fa ra → IsField sb fb rb → IsField (λ p. sa p.0 ++ sb p.1) (λ (p : A × B). fa p.0 × fb p.1) (both ra rb)
both_is_field {A} {B} sa fa ra sb fb rb first second = record {
  takes = λ bytes p rest fits e.
      let a = bind_ok (ra bytes) (λ x. rb x.1 >>= λ y. Ok ((x.0, y.0), y.1)) (p, rest) e in
      let b = bind_ok (rb a.0.1) (λ y. Ok ((a.0.0, y.0), y.1)) (p, rest) a.2 in
      let t = first.takes bytes a.0.0 a.0.1 fits a.1 in
      let u = second.takes a.0.1 b.0.0 b.0.1 t.0.rest_fits b.1 in
      let made : (A × B) × List ℕ = ((a.0.0, b.0.0), b.0.1) in
      subst (λ (q : (A × B) × List ℕ). Takes bytes (sa q.0.0 ++ sb q.0.1) q.1 × (fa q.0.0 × fb q.0.1)) (ok_is made (p, rest) b.2)
      (Takes-then bytes (sa a.0.0) a.0.1 (sb b.0.0) b.0.1 t.0 u.0, (t.1, u.1));
  again = λ p rest fits.
      ap (both ra rb) (append_assoc (sa p.0) (sb p.1) rest)
      ∙ rw (first.again p.0 (sb p.1 ++ rest) fits.0, second.again p.1 rest fits.1) refl;
}

-- a field seen as another value, there and back
pub seen_is_field : {A B : Type 0} (f : A → B) (g : B → A) (s : A → List ℕ) (fits : A → Type 0) (r : Reader A)
    → ((x : A) → g (f x) ≡ x) → ((y : B) → f (g y) ≡ y) → IsField s fits r → IsField (λ y. s (g y)) (λ y. fits (g y)) (seen_as f r)
seen_is_field {A} {B} f g s fits r there back field = record {
  takes = λ bytes y rest small e.
      let a = bind_ok (r bytes) (λ x. Ok (f x.0, x.1)) (y, rest) e in
      let t = field.takes bytes a.0.0 a.0.1 small a.1 in
      let made : B × List ℕ = (f a.0.0, a.0.1) in
      subst (λ (q : B × List ℕ). Takes bytes (s (g q.0)) q.1 × fits (g q.0)) (ok_is made (y, rest) a.2)
      (subst (λ (x : A). Takes bytes (s x) a.0.1 × fits x) (sym (there a.0.0)) t);
  again = λ y rest h. rw (field.again (g y) rest h, back y) refl;
}

-- ---- rows

rows_take : {A : Type 0} (s : A → List ℕ) (fits : A → Type 0) (r : Reader A) → IsField s fits r
    → (n : ℕ) (bytes : List ℕ) (x : List A) (rest : List ℕ) → IsBytes bytes → rows_at r n bytes ≡ Ok (x, rest)
    → Takes bytes (flat_map s x) rest × ((length x ≡ n) × AllByRecursion fits x)
unfolding rows_at
rows_take {A} s fits r field zero bytes x rest small e =
    let made : List A × List ℕ = ([], bytes) in
    subst (λ (y : List A × List ℕ). Takes bytes (flat_map s y.0) y.1 × ((length y.0 ≡ 0) × AllByRecursion fits y.0)) (ok_is made (x, rest) e) (record { parts = refl; rest_fits = small }, (refl, tt))
rows_take {A} s fits r field (suc n) bytes x rest small e =
    let a = bind_ok (r bytes) (λ first. rows_at r n first.1 >>= λ others. Ok (first.0 ∷ others.0, others.1)) (x, rest) e in
    let b = bind_ok (rows_at r n a.0.1) (λ others. Ok (a.0.0 ∷ others.0, others.1)) (x, rest) a.2 in
    let first = field.takes bytes a.0.0 a.0.1 small a.1 in
    let second = rows_take s fits r field n a.0.1 b.0.0 b.0.1 first.0.rest_fits b.1 in
    let pair = Takes-then bytes (s a.0.0) a.0.1 (flat_map s b.0.0) b.0.1 first.0 second.0 in
    let made : List A × List ℕ = (a.0.0 ∷ b.0.0, b.0.1) in
    subst (λ (y : List A × List ℕ). Takes bytes (flat_map s y.0) y.1 × ((length y.0 ≡ suc n) × AllByRecursion fits y.0)) (ok_is made (x, rest) b.2) (rw flat_map-cons pair, (ap suc second.1.0, (first.1, second.1.1)))

pub rows_again : {A : Type 0} (s : A → List ℕ) (fits : A → Type 0) (r : Reader A) → IsField s fits r
    → (xs : List A) (rest : List ℕ) → AllByRecursion fits xs → rows_at r (length xs) (flat_map s xs ++ rest) ≡ Ok (xs, rest)
unfolding rows_at
rows_again s fits r field [] rest h = refl
rows_again s fits r field (x ∷ xs) rest h =
    let regrouped : flat_map s (x ∷ xs) ++ rest ≡ s x ++ (flat_map s xs ++ rest) = ap (λ (w : List ℕ). w ++ rest) (flat_map-cons s x xs) ∙ append_assoc (s x) (flat_map s xs) rest in
    ap (rows_at r (suc (length xs))) regrouped ∙ rw (field.again x (flat_map s xs ++ rest) h.0, rows_again s fits r field xs rest h.1) refl

-- ---- tests

pub checked_is_field : {A : Type 0} (test : A → Bool) (s : A → List ℕ) (fits : A → Type 0) (r : Reader A) → IsField s fits r
    → IsField s (λ x. fits x × (test x ≡ true)) (checked test r)
checked_is_field {A} test s fits r field = record {
  takes = λ bytes x rest small e.
      let a = bind_ok (r bytes) (λ y. cond (test y.0) (Ok y) (Err (Kind (length bytes)))) (x, rest) e in
      let g = guard_held (test a.0.0) (Kind (length bytes)) a.0 (x, rest) a.2 in
      let t = field.takes bytes a.0.0 a.0.1 small a.1 in
      subst (λ (y : A × List ℕ). Takes bytes (s y.0) y.1 × (fits y.0 × (test y.0 ≡ true))) g.1 (t.0, (t.1, g.0));
  again = λ x rest h. rw (field.again x rest h.0, h.1) refl;
}

pub worded_is_field : (test : List ℕ → Bool) → IsField counted (λ x. (length x < 2 ^ 32) × (test x ≡ true)) (worded_at test)
unfolding worded_at
worded_is_field test = record {
  takes = λ bytes x rest small e.
      let a = bind_ok (bytes_at bytes) (λ y. cond (test y.0) (Ok y) (Err (BadText (length bytes - 4)))) (x, rest) e in
      let g = guard_held (test a.0.0) (BadText (length bytes - 4)) a.0 (x, rest) a.2 in
      let t = counted_is_field.takes bytes a.0.0 a.0.1 small a.1 in
      subst (λ (y : List ℕ × List ℕ). Takes bytes (counted y.0) y.1 × ((length y.0 < 2 ^ 32) × (test y.0 ≡ true))) g.1 (t.0, (t.1, g.0));
  again = λ x rest h. rw (counted_is_field.again x rest h.0, h.1) refl;
}

-- ---- rows behind their count

behind_take : {A : Type 0} (few : ℕ → Type 0) (count : Reader ℕ) (s : A → List ℕ) (fits : A → Type 0) (r : Reader A) → IsField (big_bytes 4) few count → IsField s fits r
    → (bytes : List ℕ) (x : List A) (rest : List ℕ) → IsBytes bytes → rows_behind count r bytes ≡ Ok (x, rest)
    → Takes bytes (rows s x) rest × (few (length x) × AllByRecursion fits x)
behind_take {A} few count s fits r number field bytes x rest small e =
    let a = bind_ok (count bytes) (λ n. rows_at r n.0 n.1) (x, rest) e in
    let t = number.takes bytes a.0.0 a.0.1 small a.1 in
    let u = rows_take s fits r field a.0.0 a.0.1 x rest t.0.rest_fits a.2 in
    let pair = Takes-then bytes (big_bytes 4 a.0.0) a.0.1 (flat_map s x) rest t.0 u.0 in
    (subst (λ (k : ℕ). Takes bytes (big_bytes 4 k ++ flat_map s x) rest) (sym u.1.0) pair, (subst few (sym u.1.0) t.1, u.1.1))

behind_again : {A : Type 0} (few : ℕ → Type 0) (count : Reader ℕ) (s : A → List ℕ) (fits : A → Type 0) (r : Reader A) → IsField (big_bytes 4) few count → IsField s fits r
    → (xs : List A) (rest : List ℕ) → few (length xs) × AllByRecursion fits xs → rows_behind count r (rows s xs ++ rest) ≡ Ok (xs, rest)
behind_again few count s fits r number field xs rest h =
    ap (rows_behind count r) (append_assoc (big_bytes 4 (length xs)) (flat_map s xs) rest)
    ∙ rw (number.again (length xs) (flat_map s xs ++ rest) h.0) (rows_again s fits r field xs rest h.1)

pub rows_behind_is_field : {A : Type 0} (few : ℕ → Type 0) (count : Reader ℕ) (s : A → List ℕ) (fits : A → Type 0) (r : Reader A) → IsField (big_bytes 4) few count → IsField s fits r
    → IsField (rows s) (λ xs. few (length xs) × AllByRecursion fits xs) (rows_behind count r)
rows_behind_is_field few count s fits r number field = record { takes = behind_take few count s fits r number field; again = behind_again few count s fits r number field }

pub count_is_field : (most : ℕ) → IsField (big_bytes 4) (λ n. (n < 2 ^ 32) × (leb n most ≡ true)) (count_at most)
count_is_field most = checked_is_field (λ n. leb n most) _ _ _ u32_is_field

pub counted_rows_is_field : {A : Type 0} (most : ℕ) (s : A → List ℕ) (fits : A → Type 0) (r : Reader A) → IsField s fits r
    → IsField (rows s) (λ xs. ((length xs < 2 ^ 32) × (leb (length xs) most ≡ true)) × AllByRecursion fits xs) (counted_rows_at most r)
unfolding counted_rows_at
counted_rows_is_field most s fits r field = rows_behind_is_field _ _ s fits r (count_is_field most) field

-- ---- tags

-- what stands behind a tag, as it is spelled with the tag
pub record IsTag {A : Type 0} (spell : A → List ℕ) (fits : A → Type 0) (row : ℕ × Reader A) : Type 0 where
  pub takes : (bytes : List ℕ) (x : A) (rest : List ℕ) → IsBytes bytes → row.1 bytes ≡ Ok (x, rest) → (text : List ℕ) × (spell x ≡ big_bytes 1 row.0 ++ text) × Takes bytes text rest × fits x

-- a field seen as a value of this tag
pub seen_is_tag : {A B : Type 0} (tag : ℕ) (f : A → B) (spell : B → List ℕ) (fits : B → Type 0) (s : A → List ℕ) (fa : A → Type 0) (r : Reader A)
    → IsField s fa r → ((x : A) → fa x → spell (f x) ≡ big_bytes 1 tag ++ s x) → ((x : A) → fa x → fits (f x)) → IsTag spell fits (tag, seen_as f r)
seen_is_tag {A} {B} tag f spell fits s fa r field same is = record {
  takes = λ bytes y rest small e.
      let a = bind_ok (r bytes) (λ x. Ok (f x.0, x.1)) (y, rest) e in
      let t = field.takes bytes a.0.0 a.0.1 small a.1 in
      let made : B × List ℕ = (f a.0.0, a.0.1) in
      subst (λ (q : B × List ℕ). (text : List ℕ) × (spell q.0 ≡ big_bytes 1 tag ++ text) × Takes bytes text q.1 × fits q.0) (ok_is made (y, rest) a.2)
      (s a.0.0, same a.0.0 t.1, t.0, is a.0.0 t.1);
}

by_tag : {A : Type 0} (spell : A → List ℕ) (fits : A → Type 0) (rows : List (ℕ × Reader A)) (tag left : ℕ) (bytes : List ℕ) (x : A) (rest : List ℕ)
    → AllByRecursion (IsTag spell fits) rows → IsBytes bytes → behind_tag rows tag left bytes ≡ Ok (x, rest)
    → (text : List ℕ) × (spell x ≡ big_bytes 1 tag ++ text) × Takes bytes text rest × fits x
by_tag spell fits [] tag left bytes x rest are small e = absurd cc
by_tag {A} spell fits (row ∷ rows) tag left bytes x rest are small e =
    let go : (b : Bool) → eqb tag row.0 ≡ b → cond b (row.1 bytes) (behind_tag rows tag left bytes) ≡ Ok (x, rest) → (text : List ℕ) × (spell x ≡ big_bytes 1 tag ++ text) × Takes bytes text rest × fits x
    = λ b. elim b as (λ v. eqb tag row.0 ≡ v → cond v (row.1 bytes) (behind_tag rows tag left bytes) ≡ Ok (x, rest) → (text : List ℕ) × (spell x ≡ big_bytes 1 tag ++ text) × Takes bytes text rest × fits x) [
      | true ↦ λ same h. subst (λ (k : ℕ). (text : List ℕ) × (spell x ≡ big_bytes 1 k ++ text) × Takes bytes text rest × fits x) (sym (eqb-true tag row.0 same)) (are.0.takes bytes x rest small h)
      | false ↦ λ _ h. by_tag spell fits rows tag left bytes x rest are.1 small h
    ] in
    go (eqb tag row.0) refl e

pub tagged_takes : {A : Type 0} (spell : A → List ℕ) (fits : A → Type 0) (rows : List (ℕ × Reader A)) → AllByRecursion (IsTag spell fits) rows
    → (bytes : List ℕ) (x : A) (rest : List ℕ) → IsBytes bytes → tagged rows bytes ≡ Ok (x, rest) → Takes bytes (spell x) rest × fits x
tagged_takes spell fits rows are bytes x rest small e =
    let a = bind_ok (number_at 1 bytes) (λ tag. behind_tag rows tag.0 (length bytes) tag.1) (x, rest) e in
    let t = u8_is_field.takes bytes a.0.0 a.0.1 small a.1 in
    let u = by_tag spell fits rows a.0.0 (length bytes) a.0.1 x rest are t.0.rest_fits a.2 in
    (subst (λ (text : List ℕ). Takes bytes text rest) (sym u.1) (Takes-then bytes (big_bytes 1 a.0.0) a.0.1 u.0 rest t.0 u.2), u.3)

pub tagged_again : {A : Type 0} (rows : List (ℕ × Reader A)) (tag : ℕ) (text rest : List ℕ) (x : A) → tag < 2 ^ 8
    → ((left : ℕ) → behind_tag rows tag left (text ++ rest) ≡ Ok (x, rest)) → tagged rows ((big_bytes 1 tag ++ text) ++ rest) ≡ Ok (x, rest)
tagged_again rows tag text rest x small behind =
    ap (tagged rows) (append_assoc (big_bytes 1 tag) text rest)
    ∙ rw (u8_is_field.again tag (text ++ rest) small) (behind (length (big_bytes 1 tag ++ (text ++ rest))))

-- ---- all of the bytes

pub whole_takes : {A : Type 0} (s : A → List ℕ) (fits : A → Type 0) (r : Reader A) → IsField s fits r
    → (bytes : List ℕ) (x : A) → IsBytes bytes → whole r bytes ≡ Ok x → (bytes ≡ s x) × fits x
whole_takes {A} s fits r field bytes x small e =
    let a = bind_ok (r bytes) (λ y. cond (eqb (length y.1) 0) (Ok y.0) (Err (Long (length y.1)))) x e in
    let g = guard_held (eqb (length a.0.1) 0) (Long (length a.0.1)) a.0.0 x a.2 in
    let t = field.takes bytes a.0.0 a.0.1 small a.1 in
    let end : a.0.1 ≡ [] = nil_from_length a.0.1 (eqb-true _ _ g.0) in
    subst (λ (y : A). (bytes ≡ s y) × fits y) g.1 (t.0.parts ∙ ap (λ (w : List ℕ). s a.0.0 ++ w) end ∙ append-nil (s a.0.0), t.1)

pub whole_again : {A : Type 0} (s : A → List ℕ) (fits : A → Type 0) (r : Reader A) → IsField s fits r
    → (x : A) → fits x → whole r (s x) ≡ Ok x
whole_again s fits r field x h =
    ap (whole r) (sym (append-nil (s x))) ∙ rw (field.again x [] h) refl
