-- Each move of a token keeps the balance of what was put and taken.
use Rattle.std.proofs.Common.{◌≡◌, ◌≢◌, ◌⊎◌, inl, inr, ⊎_elim, ℕ, zero, suc, ◌+◌, ◌-◌, ◌/◌, ◌^◌, ◌<◌, ◌≤◌, List, [], ◌∷◌, ◌++◌, length, set, sym, refl, ap, ◌∙◌, subst, arith}
use mathlib.Core.Option.{some, some-injective, some-ne-none}
use lib.ListN.{get_elem?}
use Rattle.crossbeam_queue.specs.Fifo.{Pushes, Pops, Forks, Merges, Learns}
use Rattle.crossbeam_queue.proofs.Lists.{at_set, at_snoc}
use Rattle.worker_pool.specs.declared.hand.Hand.{Hand}
use Rattle.worker_pool.specs.declared.hand.Tally.{Tally}
use Rattle.worker_pool.specs.Hands.{hand, weigh, IdleIsEmpty, IsEven, AllHave, Balanced}
use Rattle.worker_pool.specs.Tallies.{none, plus, IsWithin}

weigh_append : {A : Type 0} (h : A → ℕ) (xs ys : List A) → weigh h (xs ++ ys) ≡ weigh h xs + weigh h ys
weigh_append h [] ys = omega arith
weigh_append h (x ∷ xs) ys = let i = weigh_append h xs ys in omega arith

-- the total after a change of one pass
total_set : (f : Hand → ℕ) (views : List Hand) (port : ℕ) (v w : Hand) → get_elem? views port ≡ some v → weigh f (set views port w) + f v ≡ weigh f views + f w
total_set f [] port v w e = absurd (some-ne-none v (sym e))
total_set f (x ∷ xs) zero v w e = let q : f x ≡ f v = ap f (some-injective x v e) in omega arith
total_set f (x ∷ xs) (suc j) v w e = let i = total_set f xs j v w e in omega arith

idle_set : (views : List Hand) (port : ℕ) (w : Hand) → (w.parts ≡ 0 → (w.put ≡ none) × (w.taken ≡ none)) → IdleIsEmpty views → IdleIsEmpty (set views port w)
idle_set views port w mine idle j u e = ⊎_elim (λ (x : (j ≡ port) × (w ≡ u)). subst (λ (y : Hand). y.parts ≡ 0 → (y.put ≡ none) × (y.taken ≡ none)) x.1 mine)
    (λ (x : (j ≢ port) × (get_elem? views j ≡ some u)). idle j u x.1) (at_set views port j w u e)

at_least : (views : List Hand) (port : ℕ) (v : Hand) → get_elem? views port ≡ some v → v.parts ≤ weigh (λ u. u.parts) views
at_least [] port v e = absurd (some-ne-none v (sym e))
at_least (x ∷ xs) zero v e = let q : x.parts ≡ v.parts = ap (λ (u : Hand). u.parts) (some-injective x v e) in omega arith
at_least (x ∷ xs) (suc j) v e = let i = at_least xs j v e in omega arith

empty : (f : Hand → ℕ) (views : List Hand) → weigh (λ u. u.parts) views ≡ 0 → ((port : ℕ) (u : Hand) → get_elem? views port ≡ some u → u.parts ≡ 0 → f u ≡ 0) → weigh f views ≡ 0
empty f [] gone idle = refl
empty f (x ∷ xs) gone idle =
    let p : f x ≡ 0 = idle 0 x refl (omega arith) in
    let q : weigh f xs ≡ 0 = empty f xs (omega arith) (λ j u e. idle (suc j) u e) in
    omega arith

alone : (f : Hand → ℕ) (views : List Hand) (port : ℕ) (v : Hand) → get_elem? views port ≡ some v → weigh (λ u. u.parts) views ≡ v.parts → ((j : ℕ) (u : Hand) → get_elem? views j ≡ some u → u.parts ≡ 0 → f u ≡ 0) → weigh f views ≡ f v
alone f [] port v e all idle = absurd (some-ne-none v (sym e))
alone f (x ∷ xs) zero v e all idle =
    let same : x ≡ v = some-injective x v e in
    let p : x.parts ≡ v.parts = ap (λ (u : Hand). u.parts) same in
    let q : f x ≡ f v = ap f same in
    let r : weigh f xs ≡ 0 = empty f xs (omega arith) (λ j u i. idle (suc j) u i) in
    omega arith
alone f (x ∷ xs) (suc j) v e all idle =
    let least = at_least xs j v e in
    let p : f x ≡ 0 = idle 0 x refl (omega arith) in
    let q : weigh f xs ≡ f v = alone f xs j v e (omega arith) (λ k u i. idle (suc k) u i) in
    omega arith

have_append : {A : Type 0} (fact : A → Type 0) (xs : List A) (x : A) → AllHave fact xs → fact x → AllHave fact (xs ++ x ∷ [])
have_append fact [] x h f = (f, tt)
have_append fact (y ∷ ys) x h f = (h.0, have_append fact ys x h.1 f)

-- what each move does to the balance of what f counts
module _ {A : Type 0} (weight : A → Tally) (f : Tally → ℕ) (adds : (a b : Tally) → f (plus a b) ≡ f a + f b) (nil : f none ≡ 0) where
  even_put : (views : List Hand) (port : ℕ) (v : Hand) (x : A) (items : List A) → get_elem? views port ≡ some v → IsEven f weight items views
      → IsEven f weight (items ++ x ∷ []) (set views port (hand v.parts (plus v.put (weight x)) v.taken))
  even_put views port v x items at even =
      let w = hand v.parts (plus v.put (weight x)) v.taken in
      let s = total_set (λ u. f u.put) views port v w at in
      let t = total_set (λ u. f u.taken) views port v w at in
      omega (arith, s, t, even, adds v.put (weight x), weigh_append (λ y. f (weight y)) items (x ∷ []))

  even_take : (views : List Hand) (port : ℕ) (v : Hand) (x : A) (items : List A) → get_elem? views port ≡ some v → IsEven f weight (x ∷ items) views
      → IsEven f weight items (set views port (hand v.parts v.put (plus v.taken (weight x))))
  even_take views port v x items at even =
      let w = hand v.parts v.put (plus v.taken (weight x)) in
      let s = total_set (λ u. f u.put) views port v w at in
      let t = total_set (λ u. f u.taken) views port v w at in
      omega (arith, s, t, even, adds v.taken (weight x))

  even_fork : (views : List Hand) (port : ℕ) (v : Hand) (left right : ℕ) (items : List A) → get_elem? views port ≡ some v → IsEven f weight items views
      → IsEven f weight items (set views port (hand left v.put v.taken) ++ hand right none none ∷ [])
  even_fork views port v left right items at even =
      let l = hand left v.put v.taken in
      let r = hand right none none in
      let vs : List Hand = set views port l in
      let s = total_set (λ u. f u.put) views port v l at in
      let t = total_set (λ u. f u.taken) views port v l at in
      omega (arith, s, t, even, nil, weigh_append (λ (u : Hand). f u.put) vs (r ∷ []), weigh_append (λ (u : Hand). f u.taken) vs (r ∷ []))

  even_merge : (views : List Hand) (port : ℕ) (v : Hand) (other : ℕ) (u : Hand) (parts : ℕ) (items : List A) → get_elem? views port ≡ some v
      → get_elem? (set views port (hand parts (plus v.put u.put) (plus v.taken u.taken))) other ≡ some u → IsEven f weight items views
      → IsEven f weight items (set (set views port (hand parts (plus v.put u.put) (plus v.taken u.taken))) other (hand 0 none none))
  even_merge views port v other u parts items at at' even =
      let both = hand parts (plus v.put u.put) (plus v.taken u.taken) in
      let spent = hand 0 none none in
      let vs : List Hand = set views port both in
      let s = total_set (λ x. f x.put) views port v both at in
      let t = total_set (λ x. f x.put) vs other u spent at' in
      let s' = total_set (λ x. f x.taken) views port v both at in
      let t' = total_set (λ x. f x.taken) vs other u spent at' in
      omega (arith, s, t, s', t', even, nil, adds v.put u.put, adds v.taken u.taken)

  even_alone : (views : List Hand) (port : ℕ) (v : Hand) (items : List A) → get_elem? views port ≡ some v → weigh (λ u. u.parts) views ≡ v.parts → IdleIsEmpty views
      → IsEven f weight items views → f v.taken ≤ f v.put
  even_alone views port v items at all idle even =
      let p = alone (λ u. f u.put) views port v at all (λ j u e gone. ap f (idle j u e gone).0 ∙ nil) in
      let q = alone (λ u. f u.taken) views port v at all (λ j u e gone. ap f (idle j u e gone).1 ∙ nil) in
      omega (arith, p, q, even)

  even_empty : (views : List Hand) (port : ℕ) (v : Hand) → get_elem? views port ≡ some v → weigh (λ u. u.parts) views ≡ v.parts → IdleIsEmpty views
      → IsEven f weight [] views → f v.taken ≡ f v.put
  even_empty views port v at all idle even =
      let p = alone (λ u. f u.put) views port v at all (λ j u e gone. ap f (idle j u e gone).0 ∙ nil) in
      let q = alone (λ u. f u.taken) views port v at all (λ j u e gone. ap f (idle j u e gone).1 ∙ nil) in
      omega (arith, p, q, even)

module _ {A : Type 0} (weight : A → Tally) (fact : A → Type 0) where
  abbrev unruns : Tally → ℕ
  unruns t = t.unrun

  abbrev fails : Tally → ℕ
  fails t = t.failed

  pub puts : (n port : ℕ) (v : Hand) (x : A) → 0 < v.parts → fact x → Pushes (Balanced weight fact) n port v x (λ w. w ≡ hand v.parts (plus v.put (weight x)) v.taken)
  puts n port v x part has items views room b at =
      let w = hand v.parts (plus v.put (weight x)) v.taken in (
        w,
        (
          (let s = total_set (λ u. u.parts) views port v w at in let p = b.0 in omega arith),
          even_put weight unruns (λ a c. refl) refl views port v x items at b.1,
          even_put weight fails (λ a c. refl) refl views port v x items at b.2,
          idle_set views port w (λ gone. absurd (omega arith)) b.3,
          have_append fact items x b.4 has,
        ),
        refl,
      )

  pub takes : (port : ℕ) (v : Hand) → 0 < v.parts → Pops (Balanced weight fact) port v (λ x w. (w ≡ hand v.parts v.put (plus v.taken (weight x))) × fact x)
  takes port v part x items views b at =
      let w = hand v.parts v.put (plus v.taken (weight x)) in (
        w,
        (
          (let s = total_set (λ u. u.parts) views port v w at in let p = b.0 in omega arith),
          even_take weight unruns (λ a c. refl) refl views port v x items at b.1,
          even_take weight fails (λ a c. refl) refl views port v x items at b.2,
          idle_set views port w (λ gone. absurd (omega arith)) b.3,
          b.4.1,
        ),
        (refl, b.4.0),
      )

  pub forks : (port : ℕ) (v : Hand) → 1 < v.parts → Forks (Balanced weight fact) port v (hand (v.parts - v.parts / 2) v.put v.taken) (hand (v.parts / 2) none none)
  forks port v part items views b at =
      let l = hand (v.parts - v.parts / 2) v.put v.taken in
      let r = hand (v.parts / 2) none none in
      let vs : List Hand = set views port l in (
        (let s = total_set (λ u. u.parts) views port v l at in let p = b.0 in omega (arith, weigh_append (λ (u : Hand). u.parts) vs (r ∷ []))),
        even_fork weight unruns (λ a c. refl) refl views port v (v.parts - v.parts / 2) (v.parts / 2) items at b.1,
        even_fork weight fails (λ a c. refl) refl views port v (v.parts - v.parts / 2) (v.parts / 2) items at b.2,
        (λ j u e. ⊎_elim (λ x. idle_set views port l (λ gone. absurd (omega arith)) b.3 j u x)
            (λ (is : r ≡ u). subst (λ (y : Hand). y.parts ≡ 0 → (y.put ≡ none) × (y.taken ≡ none)) is (λ gone. (refl, refl))) (at_snoc vs r u j e)),
        b.4,
      )

  pub merges : (port : ℕ) (v : Hand) (other : ℕ) (u : Hand) → 0 < v.parts → Merges (Balanced weight fact) port v other u (hand (v.parts + u.parts) (plus v.put u.put) (plus v.taken u.taken)) (hand 0 none none)
  merges port v other u part items views b at two at' =
      let both = hand (v.parts + u.parts) (plus v.put u.put) (plus v.taken u.taken) in
      let spent = hand 0 none none in
      let vs : List Hand = set views port both in (
        (let s = total_set (λ x. x.parts) views port v both at in let t = total_set (λ x. x.parts) vs other u spent at' in let p = b.0 in omega arith),
        even_merge weight unruns (λ a c. refl) refl views port v other u (v.parts + u.parts) items at at' b.1,
        even_merge weight fails (λ a c. refl) refl views port v other u (v.parts + u.parts) items at at' b.2,
        idle_set vs other spent (λ gone. (refl, refl)) (idle_set views port both (λ gone. absurd (omega arith)) b.3),
        b.4,
      )

  pub audits : (port : ℕ) (v : Hand) → v.parts ≡ 2 ^ 65 → Learns (Balanced weight fact) port v (λ items. IsWithin v.taken v.put)
  audits port v whole items views b at = (
    even_alone weight unruns (λ a c. refl) refl views port v items at (b.0 ∙ sym whole) b.3 b.1,
    even_alone weight fails (λ a c. refl) refl views port v items at (b.0 ∙ sym whole) b.3 b.2,
  )

  pub settles : (port : ℕ) (v : Hand) → v.parts ≡ 2 ^ 65 → Learns (Balanced weight fact) port v (λ items. length items ≡ 0 → v.taken ≡ v.put)
  settles port v whole [] views b at long =
      let p = even_empty weight unruns (λ a c. refl) refl views port v at (b.0 ∙ sym whole) b.3 b.1 in
      let q = even_empty weight fails (λ a c. refl) refl views port v at (b.0 ∙ sym whole) b.3 b.2 in
      λ i. record { unrun = p i; failed = q i }
  settles port v whole (x ∷ items) views b at long = absurd (omega arith)

  pub takes_last : (port : ℕ) (v : Hand) → 0 < v.parts → Pops (Balanced weight fact) port v (λ x w. fact x)
  takes_last port v part x items views b at = let t = takes port v part x items views b at in (t.0, t.1, t.2.1)

  pub starts_balanced : Balanced weight fact [] (hand (2 ^ 65) none none ∷ [])
  starts_balanced = (
    omega arith,
    omega arith,
    omega arith,
    (λ j u e. ⊎_elim (λ x. absurd (some-ne-none u (sym x))) (λ (is : hand (2 ^ 65) none none ≡ u). subst (λ (y : Hand). y.parts ≡ 0 → (y.put ≡ none) × (y.taken ≡ none)) is (λ gone. (refl, refl))) (at_snoc [] (hand (2 ^ 65) none none) u j e)),
    tt,
  )
