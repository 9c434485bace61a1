-- What calls make of the hall and of the links that the run has, one behind another.
use Rattle.std.proofs.Common.{◌≡◌, ◌≢◌, ◌≤◌, ◌<◌, ◌+◌, inl, inr, ⊎_elim, ℕ, Bool, true, false, List, [], ◌∷◌, ◌++◌, Option, Some, refl, sym, ap, ◌∙◌, arith, length-append}
use Rattle.std.specs.Prelude.{◌==◌, cond, nat_le}
use Rattle.std.proofs.lemmas.Bool.{eqb-true, leb-true, leb-false}
use Rattle.std.proofs.lemmas.List.{append-nil, append_assoc}
use Rattle.std.proofs.lemmas.List.Sums.{sum_by-append, sum_by-cons}
use Rattle.flow_types.specs.declared.numbers.LinkNo.{LinkNo}
use Rattle.wq_run.specs.Seats.{Inside, KeepsCount, KeepsNumbers, Meets, SeatState, back_under, one_under, seats_under, there, with_hand}

module _ {X : Type 0} where
  pub count_none : (got : List X) (given inside : ℕ) → KeepsCount got got given given inside inside
  count_none got given inside = record { more = []; are = sym (append-nil got); many = omega arith }

  pub count_then : (got got_mid got_now : List X) (given given_mid given_now inside inside_mid inside_now : ℕ) → KeepsCount got got_mid given given_mid inside inside_mid → KeepsCount got_mid got_now given_mid given_now inside_mid inside_now
      → KeepsCount got got_now given given_now inside inside_now
  count_then got got_mid got_now given given_mid given_now inside inside_mid inside_now one two = record {
    more = one.more ++ two.more;
    are = two.are ∙ ap (λ (l : List X). l ++ two.more) one.are ∙ append_assoc got one.more two.more;
    many = (let a = one.many in let b = two.many in let both = length-append one.more two.more in omega (arith, a, b, both));
  }

-- ---- numbers

-- There are as many links, no more under any number, and the highest is the same.
pub record IsLike (i j : Inside) : Type 0 where
  pub links : j.links ≡ i.links
  pub fewer : (k : ℕ) → j.numbered k ≤ i.numbered k
  pub newest : j.newest ≡ i.newest

module _ {L : Type 0} where
  pub numbers_none : (got : List (Option LinkNo × L)) (i : Inside) → KeepsNumbers got got i i
  numbers_none got i = record {
    newest = omega arith;
    old = λ k less. omega arith;
    once = λ k. omega arith;
    beyond = λ k more. omega arith;
  }

  -- no more under any number
  pub numbers_as : (got : List (Option LinkNo × L)) (i j : Inside) → j.newest ≡ i.newest → ((k : ℕ) → j.numbered k ≤ i.numbered k) → KeepsNumbers got got i j
  numbers_as got i j same fewer = record {
    newest = omega (arith, same);
    old = λ k less. let a = fewer k in omega (arith, a);
    once = λ k. let a = fewer k in omega (arith, a);
    beyond = λ k more. let a = fewer k in omega (arith, a);
  }

  pub numbers_like : (got : List (Option LinkNo × L)) (i j : Inside) → IsLike i j → KeepsNumbers got got i j
  numbers_like got i j like = numbers_as got i j like.newest like.fewer

  once_then : (k : ℕ) (got got_mid got_now : List (Option LinkNo × L)) (i mid j : Inside) → KeepsNumbers got got_mid i mid → KeepsNumbers got_mid got_now mid j → (b : Bool) → nat_le k mid.newest ≡ b → there k got_now j ≤ there k got i + 1
  once_then k got got_mid got_now i mid j one two true is = let a = one.once k in let b = two.old k (leb-true k mid.newest is) in omega (arith, a, b)
  once_then k got got_mid got_now i mid j one two false is =
      let more = leb-false k mid.newest is in
      let a = one.beyond k (omega (arith, more)) in let b = two.once k in omega (arith, a, b)

  pub numbers_then : (got got_mid got_now : List (Option LinkNo × L)) (i mid j : Inside) → KeepsNumbers got got_mid i mid → KeepsNumbers got_mid got_now mid j → KeepsNumbers got got_now i j
  numbers_then got got_mid got_now i mid j one two = record {
    newest = (let a = one.newest in let b = two.newest in omega (arith, a, b));
    old = λ k less. let up = one.newest in let a = one.old k less in let b = two.old k (omega (arith, less, up)) in omega (arith, a, b);
    once = λ k. once_then k got got_mid got_now i mid j one two (nat_le k mid.newest) refl;
    beyond = λ k more. let up = two.newest in let a = one.beyond k (omega (arith, more, up)) in let b = two.beyond k more in omega (arith, a, b);
  }

  -- the link in hand was handed back
  pub numbers_back : (got got_now : List (Option LinkNo × L)) (i : Inside) (x : Option LinkNo × L) → got_now ≡ got ++ (x ∷ []) → KeepsNumbers got got_now (with_hand x.0 i) i
  numbers_back got got_now i x are =
      let now : (k : ℕ) → back_under k got_now ≡ back_under k got + one_under k x.0 =
      λ k.
      let sums : back_under k got_now ≡ back_under k got + back_under k (x ∷ []) = ap (back_under k) are ∙ sum_by-append (λ (y : Option LinkNo × L). one_under k y.0) got (x ∷ []) in
      let one : back_under k (x ∷ []) ≡ 0 + one_under k x.0 = refl in
      omega (arith, sums, one) in
      record {
        newest = omega arith;
        old = λ k less. let n = now k in omega (arith, n);
        once = λ k. let n = now k in omega (arith, n);
        beyond = λ k more. let n = now k in omega (arith, n);
      }

  -- it was lost
  pub numbers_lost : (got got_now : List (Option LinkNo × L)) (i j : Inside) (link : Option LinkNo) → got_now ≡ got → j.newest ≡ i.newest → ((k : ℕ) → j.numbered k ≤ i.numbered k) → KeepsNumbers got got_now (with_hand link i) j
  numbers_lost got got_now i j link are same fewer = record {
    newest = omega (arith, same);
    old = λ k less. let n = ap (back_under k) are in let a = fewer k in omega (arith, n, a);
    once = λ k. let n = ap (back_under k) are in let a = fewer k in omega (arith, n, a);
    beyond = λ k more. let n = ap (back_under k) are in let a = fewer k in omega (arith, n, a);
  }

at_most : (k n : ℕ) (b : Bool) → (n == k) ≡ b → n ≢ k → ◌≡◌ {A = ℕ} (cond b 1 0) 0
at_most k n true is apart = absurd (apart (eqb-true n k is))
at_most k n false is apart = refl

one_by : (b : Bool) → cond b 1 0 ≤ 1
one_by true = omega arith
one_by false = omega arith

-- a link under another number counts nothing
pub none_under : (k : ℕ) (link : LinkNo) → link.0 ≢ k → one_under k (Some link) ≡ 0
none_under k link apart = at_most k link.0 (link.0 == k) refl apart

-- A link in hand under no number got one that is beyond all so far.
pub numbers_more : {L : Type 0} (got : List (Option LinkNo × L)) (i j : Inside) (link : LinkNo) → i.newest < link.0 → j.newest ≡ link.0 → ((k : ℕ) → j.numbered k ≤ i.numbered k + one_under k (Some link)) → KeepsNumbers got got i j
numbers_more got i j link above same more = record {
  newest = omega (arith, above, same);
  old = λ k less. let a = more k in let none = none_under k link (λ is. let wrong : ⊥ = omega (arith, is, less, above) in wrong) in omega (arith, a, none);
  once = λ k. let a = more k in let one = one_by (link.0 == k) in omega (arith, a, one);
  beyond = λ k past. let a = more k in let none = none_under k link (λ is. let wrong : ⊥ = omega (arith, is, past, same) in wrong) in omega (arith, a, none);
}

-- ---- seats

-- the seats of a number, with one between the others
pub seated_split : {L : Type 0} (k : ℕ) (before behind : List (SeatState L)) (s : SeatState L) → seats_under k (before ++ (s ∷ behind)) ≡ seats_under k (before ++ behind) + one_under k (Some s.link)
seated_split {L} k before behind s =
    let with : seats_under k (before ++ (s ∷ behind)) ≡ seats_under k before + seats_under k (s ∷ behind) = sum_by-append (λ (x : SeatState L). one_under k (Some x.link)) before (s ∷ behind) in
    let without : seats_under k (before ++ behind) ≡ seats_under k before + seats_under k behind = sum_by-append (λ (x : SeatState L). one_under k (Some x.link)) before behind in
    let first : seats_under k (s ∷ behind) ≡ one_under k (Some s.link) + seats_under k behind = sum_by-cons (λ (x : SeatState L). one_under k (Some x.link)) s behind in
    omega (arith, with, without, first)

-- another seat with the same number
pub seated_as : {L : Type 0} (k : ℕ) (before behind : List (SeatState L)) (s s_now : SeatState L) → s_now.link ≡ s.link → seats_under k (before ++ (s_now ∷ behind)) ≡ seats_under k (before ++ (s ∷ behind))
seated_as k before behind s s_now same =
    let one = seated_split k before behind s in
    let other = seated_split k before behind s_now in
    let link = ap (λ (l : LinkNo). one_under k (Some l)) same in
    omega (arith, one, other, link)

module _ {L : Type 0} where
  -- nothing happens
  pub meets_none : (count : ℕ) (got : List (Option LinkNo × L)) (given idles : ℕ) (inside : Inside) (failed lost : Bool) → Meets count count got got given given idles idles inside inside failed failed lost lost
  meets_none count got given idles inside failed lost = record {
    later = omega arith;
    idles_later = omega arith;
    fails = λ is. inl is;
    stays = λ is. is;
    counted = λ is. (is, count_none got given inside.links);
    numbers = numbers_none got inside;
  }

  -- one call behind another
  pub meets_then : (count count_mid count_now : ℕ) (got got_mid got_now : List (Option LinkNo × L)) (given given_mid given_now idles idles_mid idles_now : ℕ) (inside inside_mid inside_now : Inside) (failed failed_mid failed_now lost lost_mid lost_now : Bool)
      → Meets count count_mid got got_mid given given_mid idles idles_mid inside inside_mid failed failed_mid lost lost_mid
      → Meets count_mid count_now got_mid got_now given_mid given_now idles_mid idles_now inside_mid inside_now failed_mid failed_now lost_mid lost_now
      → Meets count count_now got got_now given given_now idles idles_now inside inside_now failed failed_now lost lost_now
  meets_then count count_mid count_now got got_mid got_now given given_mid given_now idles idles_mid idles_now inside inside_mid inside_now failed failed_mid failed_now lost lost_mid lost_now one two = record {
    later = (let a = one.later in let b = two.later in omega (arith, a, b));
    idles_later = (let a = one.idles_later in let b = two.idles_later in omega (arith, a, b));
    fails = λ is. ⊎_elim (λ was. ⊎_elim (λ first. inl first) (λ rose. inr (let b = two.later in omega (arith, rose, b))) (one.fails was)) (λ rose. inr (let a = one.later in omega (arith, rose, a))) (two.fails is);
    stays = λ is. two.stays (one.stays is);
    counted = λ is.
        let b = two.counted is in
        let a = one.counted b.0 in
        (a.0, count_then got got_mid got_now given given_mid given_now inside.links inside_mid.links inside_now.links a.1 b.1);
    numbers = numbers_then got got_mid got_now inside inside_mid inside_now one.numbers two.numbers;
  }
