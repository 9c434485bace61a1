-- Readers that stop at the least place.
use Rattle.std.proofs.Common.{◌≡◌, ℕ, zero, suc, ◌+◌, ◌-◌, ◌^◌, ◌<◌, ◌≤◌, ◌⊎◌, inl, inr, Bool, true, false, cond, ltb, eqb, List, [], ◌∷◌, ◌++◌, length, get_or, take, drop, replicate, Result, Ok, Err, refl, sym, ap, subst, ◌∙◌, append_assoc, add-one, arith}
use Rattle.std.specs.List.{AllByRecursion}
use Rattle.std.proofs.lemmas.Bool.{cases_lt, ltb-false, ltb-true, le-ltb, eq-eqb}
use Rattle.std.proofs.lemmas.List.{append-nil, nil_from_length, take-append-drop, take-append-le, take-take, take_at, drop_at, drop_all, length-append, length-take, length-replicate, get_or-replicate, get_or_append_left, get_or-append_right, get_or_past}
use Rattle.byteorder.specs.Endian.{big_bytes, big_number}
use Rattle.byteorder.specs.Numbers.{big_from-append}
use Rattle.byte_fields.specs.declared.fault.FieldFault.{FieldFault}
use Rattle.byte_fields.specs.declared.fault.FieldFault.TheVariants.{Short, Kind, Long}
use Rattle.byte_fields.specs.Faults.{left_of}
use Rattle.byte_fields.specs.Reading.{◌>>=◌, Reader, number_at, fixed_at, nothing_at, both, seen_as, rows_at, rows_behind, behind_tag, tagged, whole}
use Rattle.byte_fields.specs.Laws.{IsBytes, IsField, Consumes, Halts, HasField, IsPrompt, Begins, LeavesAt}
use Rattle.byte_fields.proofs.Fields.{bind_ok, guard_ok, ok_is, u8_is_field, IsBytes-take}

-- where a step or the one after it failed
pub bind_err : {A B : Type 0} (r : Result A FieldFault) (f : A → Result B FieldFault) (e : FieldFault) → (r >>= f) ≡ Err e → (r ≡ Err e) ⊎ ((x : A) × (r ≡ Ok x) × (f x ≡ Err e))
bind_err (Ok x) f e h = inr (x, refl, h)
bind_err (Err d) f e h = inl (cc)

-- a test that failed
pub guard_err : {A : Type 0} (b : Bool) (d e : FieldFault) (x : A) → cond b (Err d) (Ok x) ≡ Err e → (b ≡ true) × (d ≡ e)
guard_err true d e x h = (refl, cc)
guard_err false d e x h = absurd cc

pub IsBytes-append : (xs ys : List ℕ) → IsBytes xs → IsBytes ys → IsBytes (xs ++ ys)
IsBytes-append xs ys hx hy i =
    elim (cases_lt i (length xs)) [
      | inl lt ↦ rw (get_or_append_left xs ys 0 i lt) (hx i)
      | inr le ↦ rw (get_or-append_right xs ys (length xs) i 0 refl le) (hy (i - length xs))
    ]

-- so many zeros
abbrev pub zeros : ℕ → List ℕ
zeros n = replicate n 0

pub length-zeros : (n : ℕ) → length (zeros n) ≡ n
length-zeros n = length-replicate {A = ℕ} n 0

pub zeros-get : (n i : ℕ) → get_or (zeros n) i 0 ≡ 0
zeros-get n i =
    elim (cases_lt i n) [
      | inl lt ↦ get_or-replicate n i 0 0 lt
      | inr le ↦ get_or_past (zeros n) i 0 (omega (arith, length-zeros n))
    ]

pub IsBytes-zeros : (n : ℕ) → IsBytes (zeros n)
IsBytes-zeros n i = rw (zeros-get n i) (omega arith)

no_bytes : IsBytes []
no_bytes i = omega arith

pub nil_from_take : (other : List ℕ) → take 1 other ≡ [] → other ≡ []
nil_from_take [] e = refl
nil_from_take (b ∷ bs) e = absurd cc

-- ---- one after the other

abbrev pub then_at : {A B : Type 0} → Reader A → (A → Reader B) → Reader B
then_at ra rb bytes = ra bytes >>= λ x. rb x.0 x.1

-- what read all of some bytes reads them before others too
pub before_others : {A : Type 0} (r : Reader A) → IsPrompt r → (bytes : List ℕ) (x : A) → r bytes ≡ Ok (x, []) → (other : List ℕ) → r (bytes ++ other) ≡ Ok (x, other)
before_others r p bytes x e other =
    let c = p.consumes bytes x [] e in
    ap (λ (w : List ℕ). r (w ++ other)) (c.parts ∙ append-nil c.front) ∙ c.same other

next : {A B : Type 0} (ra : Reader A) (rb : A → Reader B) (bytes : List ℕ) (x : A) (rest : List ℕ) → ra bytes ≡ Ok (x, rest) → then_at ra rb bytes ≡ rb x rest
next ra rb bytes x rest e = rw e refl

then_consumes : {A B : Type 0} (ra : Reader A) (rb : A → Reader B) → IsPrompt ra → ((x : A) → IsPrompt (rb x)) → (bytes : List ℕ) (y : B) (rest : List ℕ) → then_at ra rb bytes ≡ Ok (y, rest) → Consumes (then_at ra rb) bytes y rest
then_consumes ra rb p q bytes y rest e =
    let a = bind_ok (ra bytes) (λ x. rb x.0 x.1) (y, rest) e in
    let first = p.consumes bytes a.0.0 a.0.1 a.1 in
    let second = (q a.0.0).consumes a.0.1 y rest a.2 in
    record {
      front = first.front ++ second.front;
      parts = first.parts ∙ ap (λ (w : List ℕ). first.front ++ w) second.parts ∙ sym (append_assoc first.front second.front rest);
      same = λ other. ap (then_at ra rb) (append_assoc first.front second.front other)
          ∙ next ra rb (first.front ++ (second.front ++ other)) a.0.0 (second.front ++ other) (first.same (second.front ++ other)) ∙ second.same other;
    }

then_halts : {A B : Type 0} (ra : Reader A) (rb : A → Reader B) → IsPrompt ra → ((x : A) → IsPrompt (rb x)) → (bytes : List ℕ) (e : FieldFault) → then_at ra rb bytes ≡ Err e → Halts (then_at ra rb) bytes (left_of e)
then_halts {A} {B} ra rb p q bytes e h =
    elim (bind_err (ra bytes) (λ x. rb x.0 x.1) e h) [
      | inl f ↦ first_halts f
      | inr (y, f, k) ↦ second_halts y f k
    ]
  where
    first_halts : ra bytes ≡ Err e → Halts (then_at ra rb) bytes (left_of e)
    first_halts f =
        let first = p.halts bytes e f in
        let second = (q first.made).field in
        record {
          front = first.front;
          behind = first.behind;
          parts = first.parts;
          there = first.there;
          more = first.more ++ second.bytes;
          small = IsBytes-append first.more second.bytes first.small second.small;
          made = second.value;
          begun = ap (then_at ra rb) (sym (append_assoc first.front first.more second.bytes))
              ∙ next ra rb ((first.front ++ first.more) ++ second.bytes) first.made second.bytes (before_others ra p (first.front ++ first.more) first.made first.begun second.bytes)
              ∙ second.read_so;
          never = λ other same. let n = first.never other same in (n.0, rw n.1 refl);
        }

    second_halts : (y : A × List ℕ) → ra bytes ≡ Ok y → rb y.0 y.1 ≡ Err e → Halts (then_at ra rb) bytes (left_of e)
    second_halts y f k =
        let first = p.consumes bytes y.0 y.1 f in
        let second = (q y.0).halts y.1 e k in
        let goes_on : (other : List ℕ) → then_at ra rb ((first.front ++ second.front) ++ other) ≡ rb y.0 (second.front ++ other)
        = λ other. ap (then_at ra rb) (append_assoc first.front second.front other)
        ∙ next ra rb (first.front ++ (second.front ++ other)) y.0 (second.front ++ other) (first.same (second.front ++ other)) in
        record {
          front = first.front ++ second.front;
          behind = second.behind;
          parts = first.parts ∙ ap (λ (w : List ℕ). first.front ++ w) second.parts ∙ sym (append_assoc first.front second.front second.behind);
          there = second.there;
          more = second.more;
          small = second.small;
          made = second.made;
          begun = goes_on second.more ∙ second.begun;
          never = λ other same. let n = second.never other same in (n.0, goes_on other ∙ n.1);
        }

pub then_is_prompt : {A B : Type 0} (ra : Reader A) (rb : A → Reader B) → IsPrompt ra → ((x : A) → IsPrompt (rb x)) → IsPrompt (then_at ra rb)
then_is_prompt ra rb p q = record {
  consumes = then_consumes ra rb p q;
  halts = then_halts ra rb p q;
  field =
      let a = p.field in
      let b = (q a.value).field in
      record {
        bytes = a.bytes ++ b.bytes;
        value = b.value;
        small = IsBytes-append a.bytes b.bytes a.small b.small;
        read_so = next ra rb (a.bytes ++ b.bytes) a.value b.bytes (before_others ra p a.bytes a.value a.read_so b.bytes) ∙ b.read_so;
      };
}

abbrev pub done : {A : Type 0} → A → Result A FieldFault
done x = Ok x

abbrev pub given_at : {A : Type 0} → A → Reader A
given_at x bytes = Ok (x, bytes)

left_is : {A : Type 0} (p q : A × List ℕ) → done p ≡ done q → (p.0 ≡ q.0) × (p.1 ≡ q.1)
left_is p q e = let same = ok_is p q e in (ap (λ r. r.0) same, ap (λ r. r.1) same)

pub given_is_prompt : {A : Type 0} (x : A) → IsPrompt (given_at x)
given_is_prompt x = record {
  consumes = λ bytes y rest e. let s = left_is (x, bytes) (y, rest) e in record { front = []; parts = s.1; same = λ other. rw s.0 refl };
  halts = λ bytes e h. absurd cc;
  field = record { bytes = []; value = x; small = no_bytes; read_so = refl };
}

pub nothing_is_prompt : IsPrompt nothing_at
nothing_is_prompt = given_is_prompt tt

pub seen_is_prompt : {A B : Type 0} (f : A → B) (r : Reader A) → IsPrompt r → IsPrompt (seen_as f r)
seen_is_prompt f r p = then_is_prompt r (λ x. given_at (f x)) p (λ x. given_is_prompt (f x))

pub both_is_prompt : {A B : Type 0} (ra : Reader A) (rb : Reader B) → IsPrompt ra → IsPrompt rb → IsPrompt (both ra rb)
both_is_prompt ra rb p q = then_is_prompt ra (λ x. seen_as (λ y. (x, y)) rb) p (λ x. seen_is_prompt (λ y. (x, y)) rb q)

pub rows_are_prompt : {A : Type 0} (r : Reader A) → IsPrompt r → (n : ℕ) → IsPrompt (rows_at r n)
unfolding rows_at
rows_are_prompt r p zero = given_is_prompt []
rows_are_prompt r p (suc n) = then_is_prompt r (λ x. seen_as (λ xs. x ∷ xs) (rows_at r n)) p (λ x. seen_is_prompt (λ xs. x ∷ xs) (rows_at r n) (rows_are_prompt r p n))

pub rows_behind_are_prompt : {A : Type 0} (count : Reader ℕ) (r : Reader A) → IsPrompt count → IsPrompt r → IsPrompt (rows_behind count r)
rows_behind_are_prompt count r p q = then_is_prompt count (λ n. rows_at r n) p (λ n. rows_are_prompt r q n)

-- ---- so many bytes

-- a value of the first n bytes
abbrev front_at : {A : Type 0} → (List ℕ → A) → ℕ → Reader A
front_at value n bytes = cond (ltb (length bytes) n) (Err Short) (Ok (value bytes, drop n bytes))

front_long : {A : Type 0} (value : List ℕ → A) (n : ℕ) (bytes : List ℕ) → n ≤ length bytes → front_at value n bytes ≡ Ok (value bytes, drop n bytes)
front_long value n bytes h = let long : ltb (length bytes) n ≡ false = le-ltb _ _ h in rw long refl

front_is_prompt : {A : Type 0} (value : List ℕ → A) (n : ℕ) → ((xs ys : List ℕ) → n ≤ length xs → value (xs ++ ys) ≡ value xs) → IsPrompt (front_at value n)
front_is_prompt {A} value n alone = record {
  consumes = λ bytes x rest e.
      let g = guard_ok (ltb (length bytes) n) Short (value bytes, drop n bytes) (x, rest) e in
      let long : n ≤ length bytes = ltb-false _ _ g.0 in
      let len : length (take n bytes) ≡ n = omega (arith, length-take n bytes) in
      let s = left_is (value bytes, drop n bytes) (x, rest) (ap done g.1) in
      let same_value : (other : List ℕ) → value (take n bytes ++ other) ≡ x
      = λ other. alone (take n bytes) other (omega arith) ∙ sym (alone (take n bytes) (drop n bytes) (omega arith)) ∙ ap value (take-append-drop n bytes) ∙ s.0 in
      record {
        front = take n bytes;
        parts = sym (take-append-drop n bytes) ∙ ap (λ (w : List ℕ). take n bytes ++ w) s.1;
        same = λ other.
            front_long value n (take n bytes ++ other) (omega (arith, length-append (take n bytes) other))
            ∙ rw (same_value other, drop_at (take n bytes) other n len) refl;
      };
  halts = λ bytes e h.
      let g = guard_err (ltb (length bytes) n) Short e (value bytes, drop n bytes) h in
      let short : length bytes < n = ltb-true _ _ g.0 in
      let filled : List ℕ = bytes ++ zeros (n - length bytes) in
      let len : length filled ≡ n = omega (arith, length-append bytes (zeros (n - length bytes)), length-zeros (n - length bytes)) in
      record {
        front = bytes;
        behind = [];
        parts = sym (append-nil bytes);
        there = ap left_of g.1;
        more = zeros (n - length bytes);
        small = IsBytes-zeros (n - length bytes);
        made = value filled;
        begun = front_long value n filled (omega arith) ∙ rw (drop_all n filled (omega arith)) refl;
        never = λ other same. (e, ap (λ (w : List ℕ). front_at value n (bytes ++ w)) (nil_from_take other same) ∙ ap (front_at value n) (append-nil bytes) ∙ h);
      };
  field = record {
    bytes = zeros n;
    value = value (zeros n);
    small = IsBytes-zeros n;
    read_so = front_long value n (zeros n) (omega (arith, length-zeros n)) ∙ rw (drop_all n (zeros n) (omega (arith, length-zeros n))) refl;
  };
}

pub number_is_prompt : (n : ℕ) → IsPrompt (number_at n)
number_is_prompt n = front_is_prompt (big_number n) n (λ xs ys h. big_from-append n xs ys h)

pub number_long : (n : ℕ) (bytes : List ℕ) → n ≤ length bytes → number_at n bytes ≡ Ok (big_number n bytes, drop n bytes)
number_long n bytes h = front_long (big_number n) n bytes h

pub fixed_is_prompt : (n : ℕ) → IsPrompt (fixed_at n)
fixed_is_prompt n = front_is_prompt (take n) n (λ xs ys h. take-append-le n xs ys h)

-- ---- tags

-- what stands behind a tag: nothing that can be read, or what the tag's row reads
abbrev Behind : {A : Type 0} → List (ℕ × Reader A) → ℕ → Type 0
Behind {A = A} rows tag =
    ((left : ℕ) (bytes : List ℕ) → behind_tag rows tag left bytes ≡ Err (Kind left))
    ⊎ ((read : Reader A) × (IsPrompt read) × ((left : ℕ) (bytes : List ℕ) → behind_tag rows tag left bytes ≡ read bytes))

behind_is : {A : Type 0} (rows : List (ℕ × Reader A)) → AllByRecursion (λ (row : ℕ × Reader A). IsPrompt row.1) rows → (tag : ℕ) → Behind rows tag
behind_is [] are tag = inl (λ left bytes. refl)
behind_is {A} (row ∷ rows) are tag =
    let go : (b : Bool) → eqb tag row.0 ≡ b → Behind (row ∷ rows) tag
    = λ b. elim b as (λ v. eqb tag row.0 ≡ v → Behind (row ∷ rows) tag) [
      | true ↦ λ same. inr (row.1, are.0, λ left bytes. rw same refl)
      | false ↦ λ differs. elim (behind_is rows are.1 tag) [
        | inl none ↦ inl (λ left bytes. rw differs (none left bytes))
        | inr (read, p, same) ↦ inr (read, p, λ left bytes. rw differs (same left bytes))
      ]
    ] in
    go (eqb tag row.0) refl

first_byte : (bytes other : List ℕ) (tag : ℕ) (rest : List ℕ) → number_at 1 bytes ≡ Ok (tag, rest) → take 1 other ≡ take 1 bytes → number_at 1 other ≡ Ok (tag, drop 1 other)
first_byte [] other tag rest e same = absurd cc
first_byte (b ∷ bs) [] tag rest e same = absurd cc
first_byte (b ∷ bs) (c ∷ cs) tag rest e same =
    let there = left_is (big_number 1 (b ∷ bs), drop 1 (b ∷ bs)) (tag, rest) (sym (front_long (big_number 1) 1 (b ∷ bs) (omega arith)) ∙ e) in
    let equal : c ≡ b = cc in
    let number : big_number 1 (c ∷ cs) ≡ tag = ap (λ (x : ℕ). big_number 1 (x ∷ cs)) equal ∙ there.0 in
    front_long (big_number 1) 1 (c ∷ cs) (omega arith) ∙ rw number refl

at_tag : {A : Type 0} (rows : List (ℕ × Reader A)) (bytes : List ℕ) (tag : ℕ) (rest : List ℕ) → number_at 1 bytes ≡ Ok (tag, rest) → tagged rows bytes ≡ behind_tag rows tag (length bytes) rest
at_tag {A} rows bytes tag rest e = ap (λ (read : Result (ℕ × List ℕ) FieldFault). read >>= λ t. behind_tag rows t.0 (length bytes) t.1) e

tagged_consumes : {A : Type 0} (rows : List (ℕ × Reader A)) → AllByRecursion (λ (row : ℕ × Reader A). IsPrompt row.1) rows
    → (bytes : List ℕ) (x : A) (rest : List ℕ) → tagged rows bytes ≡ Ok (x, rest) → Consumes (tagged rows) bytes x rest
tagged_consumes {A} rows are bytes x rest e =
    let a = bind_ok (number_at 1 bytes) (λ t. behind_tag rows t.0 (length bytes) t.1) (x, rest) e in
    let first = (number_is_prompt 1).consumes bytes a.0.0 a.0.1 a.1 in
    elim (behind_is rows are a.0.0) [
      | inl none ↦ absurd (cc (none (length bytes) a.0.1, a.2))
      | inr (read, p, same) ↦
          let second = p.consumes a.0.1 x rest (sym (same (length bytes) a.0.1) ∙ a.2) in
          record {
            front = first.front ++ second.front;
            parts = first.parts ∙ ap (λ (w : List ℕ). first.front ++ w) second.parts ∙ sym (append_assoc first.front second.front rest);
            same = λ other. ap (tagged rows) (append_assoc first.front second.front other)
                ∙ at_tag rows (first.front ++ (second.front ++ other)) a.0.0 (second.front ++ other) (first.same (second.front ++ other))
                ∙ same (length (first.front ++ (second.front ++ other))) (second.front ++ other) ∙ second.same other;
          }
    ]

tagged_halts : {A : Type 0} (rows : List (ℕ × Reader A)) → AllByRecursion (λ (row : ℕ × Reader A). IsPrompt row.1) rows → HasField (tagged rows)
    → (bytes : List ℕ) (e : FieldFault) → tagged rows bytes ≡ Err e → Halts (tagged rows) bytes (left_of e)
tagged_halts {A} rows are field bytes e h =
    elim (bind_err (number_at 1 bytes) (λ t. behind_tag rows t.0 (length bytes) t.1) e h) [
      | inl f ↦ no_tag f
      | inr (y, f, k) ↦ elim (behind_is rows are y.0) [
        | inl none ↦ other_tag y f none k
        | inr (read, p, same) ↦ behind_a_tag y f read p same k
      ]
    ]
  where
    no_tag : number_at 1 bytes ≡ Err e → Halts (tagged rows) bytes (left_of e)
    no_tag f =
        let g = guard_err (ltb (length bytes) 1) Short e (big_number 1 bytes, drop 1 bytes) f in
        let short : length bytes < 1 = ltb-true _ _ g.0 in
        record {
          front = [];
          behind = [];
          parts = nil_from_length bytes (omega arith);
          there = ap left_of g.1;
          more = field.bytes;
          small = field.small;
          made = field.value;
          begun = field.read_so;
          never = λ other same. (Short, ap (tagged rows) (nil_from_take other same));
        }

    other_tag : (y : ℕ × List ℕ) → number_at 1 bytes ≡ Ok y → ((left : ℕ) (bytes : List ℕ) → behind_tag rows y.0 left bytes ≡ Err (Kind left)) → behind_tag rows y.0 (length bytes) y.1 ≡ Err e → Halts (tagged rows) bytes (left_of e)
    other_tag y f none k =
        let is : Kind (length bytes) ≡ e = cc (none (length bytes) y.1) in
        record {
          front = [];
          behind = bytes;
          parts = refl;
          there = ap left_of is;
          more = field.bytes;
          small = field.small;
          made = field.value;
          begun = field.read_so;
          never = λ other same. (Kind (length other), at_tag rows other y.0 (drop 1 other) (first_byte bytes other y.0 y.1 f same) ∙ none (length other) (drop 1 other));
        }

    behind_a_tag : (y : ℕ × List ℕ) → number_at 1 bytes ≡ Ok y → (read : Reader A) → IsPrompt read → ((left : ℕ) (bytes : List ℕ) → behind_tag rows y.0 left bytes ≡ read bytes)
        → behind_tag rows y.0 (length bytes) y.1 ≡ Err e → Halts (tagged rows) bytes (left_of e)
    behind_a_tag y f read p same k =
        let first = (number_is_prompt 1).consumes bytes y.0 y.1 f in
        let second = p.halts y.1 e (sym (same (length bytes) y.1) ∙ k) in
        let goes_on : (other : List ℕ) → tagged rows ((first.front ++ second.front) ++ other) ≡ read (second.front ++ other)
        = λ other. ap (tagged rows) (append_assoc first.front second.front other)
        ∙ at_tag rows (first.front ++ (second.front ++ other)) y.0 (second.front ++ other) (first.same (second.front ++ other))
        ∙ same (length (first.front ++ (second.front ++ other))) (second.front ++ other) in
        record {
          front = first.front ++ second.front;
          behind = second.behind;
          parts = first.parts ∙ ap (λ (w : List ℕ). first.front ++ w) second.parts ∙ sym (append_assoc first.front second.front second.behind);
          there = second.there;
          more = second.more;
          small = second.small;
          made = second.made;
          begun = goes_on second.more ∙ second.begun;
          never = λ other n. let stopped = second.never other n in (stopped.0, goes_on other ∙ stopped.1);
        }

-- a table of tags is prompt where each row is, and its first tag is a byte
pub tagged_is_prompt : {A : Type 0} (row : ℕ × Reader A) (rows : List (ℕ × Reader A)) → row.0 < 2 ^ 8 → AllByRecursion (λ (row : ℕ × Reader A). IsPrompt row.1) (row ∷ rows) → IsPrompt (tagged (row ∷ rows))
tagged_is_prompt {A} row rows byte are =
    let first = are.0.field in
    let tag : List ℕ = big_bytes 1 row.0 ++ first.bytes in
    let chosen : eqb row.0 row.0 ≡ true = eq-eqb row.0 row.0 refl in
    let field : HasField (tagged (row ∷ rows)) = record {
      bytes = tag;
      value = first.value;
      small = IsBytes-append (big_bytes 1 row.0) first.bytes (one_byte row.0) first.small;
      read_so = at_tag (row ∷ rows) tag row.0 first.bytes (u8_is_field.again row.0 first.bytes byte) ∙ rw chosen first.read_so;
    } in
    record { consumes = tagged_consumes (row ∷ rows) are; halts = tagged_halts (row ∷ rows) are field; field = field }
  where
    one_byte : (n : ℕ) → IsBytes (big_bytes 1 n)
    one_byte n zero = omega arith
    one_byte n (suc i) = omega arith

-- ---- all of the bytes

-- a test that failed, where it had to hold
guard_not : {A : Type 0} (b : Bool) (d e : FieldFault) (x : A) → cond b (Ok x) (Err d) ≡ Err e → (b ≡ false) × (d ≡ e)
guard_not true d e x h = absurd cc
guard_not false d e x h = (refl, cc)

-- what agrees with a front and one byte more, or the end, begins with that front
shared : (front behind w : List ℕ) → take (suc (length front)) (front ++ behind) ≡ take (suc (length front)) w → (other : List ℕ) × (w ≡ front ++ other) × (take 1 other ≡ take 1 behind)
shared [] behind w e = (w, refl, sym e)
shared (f ∷ front) behind [] e = absurd cc
shared (f ∷ front) behind (b ∷ w) e =
    let tails : take (suc (length front)) (front ++ behind) ≡ take (suc (length front)) w = cc in
    let s = shared front behind w tails in
    let heads : b ≡ f = cc in
    (s.0, ap (λ (x : ℕ). x ∷ w) heads ∙ ap (λ (v : List ℕ). f ∷ v) s.1, s.2)

-- a spelling that agrees so is read from that front on
read_of : {A : Type 0} (s : A → List ℕ) (fits : A → Type 0) (r : Reader A) → IsField s fits r → (front behind : List ℕ) → Begins s fits (length front + 1) (front ++ behind)
    → (other : List ℕ) × (value : A) × (take 1 other ≡ take 1 behind) × (r (front ++ other) ≡ Ok (value, []))
read_of s fits r field front behind b =
    let t = shared front behind (s b.value) (rw (← add-one (length front)) b.same) in
    (t.0, b.value, t.2, ap r (sym t.1 ∙ sym (append-nil (s b.value))) ∙ field.again b.value [] b.value_fits)

whole_halts : {A : Type 0} (s : A → List ℕ) (fits : A → Type 0) (r : Reader A) → IsField s fits r → (bytes : List ℕ) (left : ℕ) → IsBytes bytes → Halts r bytes left → LeavesAt s fits bytes (length bytes - left)
whole_halts {A} s fits r field bytes left small h =
    let len : length h.front + length h.behind ≡ length bytes = sym (ap length h.parts ∙ length-append h.front h.behind) in
    let place : length h.front ≡ length bytes - left = omega (arith, h.there, len) in
    let front_is : take (length h.front) bytes ≡ h.front = ap (take (length h.front)) h.parts ∙ take_at h.front h.behind (length h.front) refl in
    let front_small : IsBytes h.front = subst IsBytes front_is (IsBytes-take (length h.front) bytes small) in
    let t = field.takes (h.front ++ h.more) h.made [] (IsBytes-append h.front h.more front_small h.small) h.begun in
    let spelled : h.front ++ h.more ≡ s h.made = t.0.parts ∙ append-nil (s h.made) in
    subst (λ (at : ℕ). LeavesAt s fits bytes at) place (record {
      before = record { value = h.made; value_fits = t.1; same = front_is ∙ sym (take_at h.front h.more (length h.front) refl) ∙ ap (take (length h.front)) spelled };
      with_it = λ b.
          let q = read_of s fits r field h.front h.behind (subst (λ (w : List ℕ). Begins s fits (length h.front + 1) w) h.parts b) in
          let n = h.never q.0 q.2 in
          absurd (cc (n.1, q.3));
    })

whole_over : {A : Type 0} (s : A → List ℕ) (fits : A → Type 0) (r : Reader A) → IsField s fits r → (bytes : List ℕ) (x : A) (rest : List ℕ) → IsBytes bytes → Consumes r bytes x rest → eqb (length rest) 0 ≡ false
    → LeavesAt s fits bytes (length bytes - length rest)
whole_over {A} s fits r field bytes x rest small c over =
    let len : length c.front + length rest ≡ length bytes = sym (ap length c.parts ∙ length-append c.front rest) in
    let place : length c.front ≡ length bytes - length rest = omega (arith, len) in
    let front_is : take (length c.front) bytes ≡ c.front = ap (take (length c.front)) c.parts ∙ take_at c.front rest (length c.front) refl in
    let front_small : IsBytes c.front = subst IsBytes front_is (IsBytes-take (length c.front) bytes small) in
    let t = field.takes (c.front ++ []) x [] (IsBytes-append c.front [] front_small no_bytes) (c.same []) in
    let spelled : c.front ++ [] ≡ s x = t.0.parts ∙ append-nil (s x) in
    subst (λ (at : ℕ). LeavesAt s fits bytes at) place (record {
      before = record { value = x; value_fits = t.1; same = front_is ∙ sym (take_at c.front [] (length c.front) refl) ∙ ap (take (length c.front)) spelled };
      with_it = λ b.
          let q = read_of s fits r field c.front rest (subst (λ (w : List ℕ). Begins s fits (length c.front + 1) w) c.parts b) in
          let none : q.0 ≡ [] = (left_is (x, q.0) (q.1, []) (sym (c.same q.0) ∙ q.3)).1 in
          let end : rest ≡ [] = nil_from_take rest (sym q.2 ∙ ap (take 1) none) in
          let held : eqb (length rest) 0 ≡ true = ap (λ (w : List ℕ). eqb (length w) 0) end in
          absurd (cc (held, over));
    })

-- where reading all of the bytes fails, they leave the grammar, at that place
pub whole_leaves : {A : Type 0} (s : A → List ℕ) (fits : A → Type 0) (r : Reader A) → IsField s fits r → IsPrompt r → (bytes : List ℕ) (e : FieldFault) → IsBytes bytes → whole r bytes ≡ Err e
    → LeavesAt s fits bytes (length bytes - left_of e)
whole_leaves {A} s fits r field prompt bytes e small h =
    elim (bind_err (r bytes) (λ y. cond (eqb (length y.1) 0) (Ok y.0) (Err (Long (length y.1)))) e h) [
      | inl f ↦ whole_halts s fits r field bytes (left_of e) small (prompt.halts bytes e f)
      | inr (y, f, k) ↦
          let g = guard_not (eqb (length y.1) 0) (Long (length y.1)) e y.0 k in
          subst (λ (d : FieldFault). LeavesAt s fits bytes (length bytes - left_of d)) g.1 (whole_over s fits r field bytes y.0 y.1 small (prompt.consumes bytes y.0 y.1 f) g.0)
    ]

-- what leaves the grammar somewhere is no spelling of a value that fits
pub leaves_none : {A : Type 0} (s : A → List ℕ) (fits : A → Type 0) (bytes : List ℕ) (at : ℕ) (x : A) → LeavesAt s fits bytes at → fits x → bytes ≡ s x → ⊥
leaves_none s fits bytes at x leaves h e = leaves.with_it (record { value = x; value_fits = h; same = ap (take (at + 1)) e })

Begins-le : {A : Type 0} (s : A → List ℕ) (fits : A → Type 0) (m n : ℕ) (bytes : List ℕ) → m ≤ n → Begins s fits n bytes → Begins s fits m bytes
Begins-le s fits m n bytes le b = record {
  value = b.value;
  value_fits = b.value_fits;
  same = sym (take-take m n bytes le) ∙ ap (take m) b.same ∙ take-take m n (s b.value) le;
}

-- there is one least place
pub leaves_once : {A : Type 0} (s : A → List ℕ) (fits : A → Type 0) (bytes : List ℕ) (a b : ℕ) → LeavesAt s fits bytes a → LeavesAt s fits bytes b → a ≡ b
leaves_once s fits bytes a b first second =
    elim (cases_lt a b) [
      | inl lt ↦ absurd (first.with_it (Begins-le s fits (a + 1) b bytes (omega arith) second.before))
      | inr le ↦ elim (cases_lt b a) [
        | inl lt ↦ absurd (second.with_it (Begins-le s fits (b + 1) a bytes (omega arith) first.before))
        | inr ge ↦ omega arith
      ]
    ]
