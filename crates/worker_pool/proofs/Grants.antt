-- Giving a ticket out and taking it back keeps the rule.
use Rattle.std.proofs.Common.{◌≡◌, ◌≢◌, ◌⊎◌, inl, inr, ⊎_elim, ℕ, zero, suc, ◌+◌, ◌<◌, Bool, true, false, true≢false, cond, eqb, eq-eqb, ne_eqb, List, [], ◌∷◌, ◌++◌, length, set, Option, Some, None, sym, refl, ap, ◌∙◌, subst, arith}
use Rattle.std.proofs.lemmas.Bool.Decides.{nat_tests}
use mathlib.Core.Option.{some, some-injective, some-ne-none}
use mathlib.Core.Logic.{dite}
use native.Mathlib.Decide.{ℕ_discrete}
use lib.ListN.{get_elem?}
use Rattle.crossbeam_queue.specs.Fifo.{Forks, Merges, Learns}
use Rattle.crossbeam_queue.proofs.Lists.{at_set}
use Rattle.flow_types.specs.declared.job.Start.{Start}
use Rattle.worker_pool.specs.declared.entry.Entry.{Entry}
use Rattle.worker_pool.specs.declared.entry.Hold.{Hold}
use Rattle.worker_pool.specs.declared.entry.View.{View}
use Rattle.worker_pool.specs.Courses.{TakesOut}
use Rattle.worker_pool.specs.Tickets.{entry_of, head_of, fresh, ticket_view, spent, granting, ticket_of, without, taking, redeeming, In, Numbered, TookOut, FitsView, Kept}

nothing_there : {X A : Type 0} (x : X) → ◌≡◌ {A = Option X} None (Some x) → A
nothing_there x e = absurd (cc)

same_there : {X : Type 0} (x y : X) → ◌≡◌ {A = Option X} (Some x) (Some y) → x ≡ y
same_there x y e = cc

at_last : (l : List View) (a b : View) (j : ℕ) → get_elem? (l ++ a ∷ []) j ≡ some b → (get_elem? l j ≡ some b) ⊎ ((j ≡ length l) × (a ≡ b))
at_last [] a b zero e = inr (refl, some-injective a b e)
at_last [] a b (suc j) e = absurd (some-ne-none b (sym e))
at_last (x ∷ xs) a b zero e = inl e
at_last (x ∷ xs) a b (suc j) e = ⊎_elim inl (λ p. inr (ap suc p.0, p.1)) (at_last xs a b j e)

abbrev Each : (ℕ → View → Type 0) → List View → Type 0
Each F views = (seat : ℕ) (v : View) → get_elem? views seat ≡ some v → F seat v

each_set : (F : ℕ → View → Type 0) (views : List View) (port : ℕ) (w : View) → F port w → ((j : ℕ) (u : View) → j ≢ port → get_elem? views j ≡ some u → F j u) → Each F (set views port w)
each_set F views port w mine others j u e = ⊎_elim (λ (x : (j ≡ port) × (w ≡ u)). subst (λ (y : ℕ × View). F y.0 y.1) (λ i. (sym x.0 i, x.1 i)) mine)
    (λ (x : (j ≢ port) × (get_elem? views j ≡ some u)). others j u x.0 x.1) (at_set views port j w u e)

in_left : (e : Entry) (xs ys : List Entry) → In e xs → In e (xs ++ ys)
in_left e [] ys h = absurd h
in_left e (x ∷ xs) ys h = ⊎_elim (λ p. inl p) (λ r. inr (in_left e xs ys r)) h

in_last : (e : Entry) (xs : List Entry) → In e (xs ++ e ∷ [])
in_last e [] = inl refl
in_last e (x ∷ xs) = inr (in_last e xs)

in_snoc : (e f : Entry) (xs : List Entry) → In e (xs ++ f ∷ []) → In e xs ⊎ (e ≡ f)
in_snoc e f [] h = ⊎_elim (λ p. inr p) (λ n. absurd n) h
in_snoc e f (x ∷ xs) h = ⊎_elim (λ p. inl (inl p)) (λ r. ⊎_elim (λ a. inl (inr a)) (λ b. inr b) (in_snoc e f xs r)) h

in_number : (n : ℕ) (e : Entry) (xs : List Entry) → Numbered n xs → In e xs → e.key < n
in_number n e [] k h = absurd h
in_number n e (x ∷ xs) k h = ⊎_elim (λ p. subst (λ (y : Entry). y.key < n) (sym p) k.0) (λ r. in_number n e xs k.2 r) h

numbered_snoc : (n : ℕ) (s : Start) (xs : List Entry) → Numbered n xs → Numbered (n + 1) (xs ++ entry_of n s ∷ [])
numbered_snoc n s [] k = (omega arith, (λ o h. absurd h), tt)
numbered_snoc n s (x ∷ xs) k =
    let low : x.key < n = k.0 in (
      omega arith,
      (λ o h. ⊎_elim (λ a. k.1 o a) (λ (b : o ≡ entry_of n s). let same : o.key ≡ n = ap (λ (y : Entry). y.key) b in omega arith) (in_snoc o (entry_of n s) xs h)),
      numbered_snoc n s xs k.2,
    )

in_without : (key : ℕ) (e : Entry) (xs : List Entry) → In e (without key xs) → In e xs
in_without key e [] h = absurd h
in_without key e (x ∷ xs) h = dite (ℕ_discrete x.key key)
    (λ (p : x.key ≡ key). inr (subst (λ b. In e (cond b xs (x ∷ without key xs))) (eq-eqb x.key key p) h))
    (λ np. ⊎_elim (λ a. inl a) (λ b. inr (in_without key e xs b)) (subst (λ b. In e (cond b xs (x ∷ without key xs))) (ne_eqb x.key key np) h))

numbered_without : (n key : ℕ) (xs : List Entry) → Numbered n xs → Numbered n (without key xs)
numbered_without n key [] k = tt
numbered_without n key (x ∷ xs) k = dite (ℕ_discrete x.key key)
    (λ (p : x.key ≡ key). subst (λ b. Numbered n (cond b xs (x ∷ without key xs))) (sym (eq-eqb x.key key p)) k.2)
    (λ np. subst (λ b. Numbered n (cond b xs (x ∷ without key xs))) (sym (ne_eqb x.key key np)) (k.0, (λ o h. k.1 o (in_without key o xs h)), numbered_without n key xs k.2))

stays_in : (key : ℕ) (e : Entry) (xs : List Entry) → In e xs → e.key ≢ key → In e (without key xs)
stays_in key e [] h apart = absurd h
stays_in key e (x ∷ xs) h apart = dite (ℕ_discrete x.key key)
    (λ (p : x.key ≡ key). subst (λ b. In e (cond b xs (x ∷ without key xs))) (sym (eq-eqb x.key key p))
    (⊎_elim (λ (q : e ≡ x). absurd (apart (ap (λ (y : Entry). y.key) q ∙ p))) (λ r. r) h))
    (λ np. subst (λ b. In e (cond b xs (x ∷ without key xs))) (sym (ne_eqb x.key key np)) (⊎_elim (λ q. inl q) (λ r. inr (stays_in key e xs r apart)) h))

takes_out : (n : ℕ) (e : Entry) (xs : List Entry) → Numbered n xs → In e xs → TakesOut e xs (without e.key xs)
takes_out n e [] k h = absurd h
takes_out n e (x ∷ xs) k h = dite (ℕ_discrete x.key e.key)
    (λ (p : x.key ≡ e.key). let same : e ≡ x = ⊎_elim (λ q. q) (λ r. absurd (k.1 e r (sym p))) h in
    ([], xs, ap (λ y. y ∷ xs) (sym same), ap (λ b. cond b xs (x ∷ without e.key xs)) (eq-eqb x.key e.key p)))
    (λ np. let t : TakesOut e xs (without e.key xs) = takes_out n e xs k.2 (⊎_elim (λ (q : e ≡ x). absurd (np (ap (λ (y : Entry). y.key) (sym q)))) (λ r. r) h) in
    (x ∷ t.0, t.1, ap (λ y. x ∷ y) t.2, ap (λ b. cond b xs (x ∷ without e.key xs)) (ne_eqb x.key e.key np) ∙ ap (λ y. x ∷ y) t.3))

pub begins : Kept (fresh ∷ [])
begins = (
  0,
  [],
  0,
  (λ k. 0),
  tt,
  λ seat v e. ⊎_elim
      (λ x. absurd (some-ne-none v (sym x)))
      (λ (x : (seat ≡ 0) × (fresh ≡ v)). subst (λ (y : ℕ × View). FitsView 0 [] 0 (λ k. 0) y.0 y.1) (λ i. (sym x.0 i, x.1 i)) ((λ _. (refl, refl, refl, (λ hold is. nothing_there hold is))), λ entry is. nothing_there entry is))
      (at_last [] fresh v seat e),
)

owned : ℕ → ℕ → (ℕ → ℕ) → ℕ → ℕ
owned n seat owner k = cond (eqb k n) seat (owner k)

owned_new : (n seat : ℕ) (owner : ℕ → ℕ) → owned n seat owner n ≡ seat
unfolding owned
owned_new n seat owner = grind (arith, nat_tests)

owned_old : (n seat : ℕ) (owner : ℕ → ℕ) (k : ℕ) → k < n → owned n seat owner k ≡ owner k
unfolding owned
owned_old n seat owner k h = grind (arith, nat_tests)

pub grants : (pass : ℕ) (v : View) (start : Start) → v.chief ≡ true → Forks (λ (items : List ℕ) views. Kept views) pass v (granting start v) (ticket_of start v)
grants pass v start boss items views h at =
    let mine = (h.5 pass v at).0 boss in
    let left : View = granting start v in
    let right : View = ticket_of start v in
    let vs : List View = set views pass left in
    let e : Entry = entry_of v.next start in
    let waiting : List Entry = v.waiting ++ e ∷ [] in
    let owner : ℕ → ℕ = owned v.next (length vs) h.3 in
    let numbered : Numbered v.next v.waiting = subst (λ (y : ℕ × List Entry). Numbered y.0 y.1) (λ i. (sym mine.2 i, sym mine.1 i)) h.4 in
    let old : Each (FitsView h.0 waiting (v.next + 1) owner) vs = each_set (FitsView h.0 waiting (v.next + 1) owner) views pass left
    ((λ _. (mine.0, refl, refl, (λ hold is. nothing_there hold is))), λ entry is. nothing_there entry is)
    (λ j u other x.
    let was = h.5 j u x in (
      (λ p. absurd (other ((was.0 p).0 ∙ sym mine.0))),
      (λ entry is. let r = was.1 entry is in
          let out : In entry v.waiting = subst (λ l. In entry l) (sym mine.1) r.0 in
          (in_left entry v.waiting (e ∷ []) out, owned_old v.next (length vs) h.3 entry.key (in_number v.next entry v.waiting numbered out) ∙ r.1)),
    )) in (
      h.0,
      waiting,
      v.next + 1,
      owner,
      numbered_snoc v.next start v.waiting numbered,
      λ j u x. ⊎_elim (λ y. old j u y)
          (λ (y : (j ≡ length vs) × (right ≡ u)). subst (λ (z : ℕ × View). FitsView h.0 waiting (v.next + 1) owner z.0 z.1) (λ i. (sym y.0 i, y.1 i)) (
            (λ p. absurd (true≢false (sym p))),
            λ entry is. let same : e ≡ entry = same_there e entry is in
                subst (λ (z : Entry). In z waiting × (owner z.key ≡ length vs)) same (in_last e v.waiting, owned_new v.next (length vs) h.3),
          ))
          (at_last vs right u j x),
    )

redeems_as : (pass : ℕ) (v : View) (other : ℕ) (w : View) (entry : Entry) → v.chief ≡ true → w.ticket ≡ Some entry → Merges (λ (items : List ℕ) views. Kept views) pass v other w (taking v (Some entry)) spent
redeems_as pass v other w entry boss ticket items views h at two at' =
    let mine = (h.5 pass v at).0 boss in
    let both : View = taking v (Some entry) in
    let vs : List View = set views pass both in
    let was : get_elem? views other ≡ some w = ⊎_elim (λ (x : (other ≡ pass) × (both ≡ w)). absurd (two x.0)) (λ (x : (other ≢ pass) × (get_elem? views other ≡ some w)). x.1) (at_set views pass other both w at') in
    let theirs = (h.5 other w was).1 entry ticket in
    let numbered : Numbered v.next v.waiting = subst (λ (y : ℕ × List Entry). Numbered y.0 y.1) (λ i. (sym mine.2 i, sym mine.1 i)) h.4 in
    let waiting : List Entry = without entry.key v.waiting in
    let out : In entry v.waiting = subst (λ l. In entry l) (sym mine.1) theirs.0 in
    let Now : ℕ → View → Type 0 = λ j u. j ≢ other → FitsView h.0 waiting v.next h.3 j u in
    let now : Each Now vs = each_set Now views pass both
    (λ _. ((λ _. (mine.0, refl, refl, (λ hold is. subst (λ (y : Hold). TakesOut y.entry y.before waiting) (same_there (record { entry = entry; before = v.waiting }) hold is) (takes_out v.next entry v.waiting numbered out)))), λ e is. nothing_there e is))
    (λ j u apart x not_other. let had = h.5 j u x in (
      (λ p. absurd (apart ((had.0 p).0 ∙ sym mine.0))),
      (λ e is. let r = had.1 e is in
          (stays_in entry.key e v.waiting (subst (λ l. In e l) (sym mine.1) r.0) (λ same. not_other (sym r.1 ∙ (ap h.3 same ∙ theirs.1))), r.1)),
    )) in (
      h.0,
      waiting,
      v.next,
      h.3,
      numbered_without v.next entry.key v.waiting numbered,
      each_set (FitsView h.0 waiting v.next h.3) vs other spent ((λ p. absurd (true≢false (sym p))), λ e is. nothing_there e is) (λ j u apart x. now j u x apart),
    )

pub redeems : (pass : ℕ) (v : View) (other : ℕ) (w : View) (entry : Entry) → v.chief ≡ true → w.ticket ≡ Some entry → Merges (λ (items : List ℕ) views. Kept views) pass v other w (redeeming v w) spent
redeems pass v other w entry boss ticket = subst (λ (s : Option Entry). Merges (λ (items : List ℕ) views. Kept views) pass v other w (taking v s) spent) (sym ticket) (redeems_as pass v other w entry boss ticket)

pub learns : (pass : ℕ) (v : View) → v.chief ≡ true → Learns (λ (items : List ℕ) views. Kept views) pass v (λ items. TookOut v)
learns pass v boss items views h at = ((h.5 pass v at).0 boss).3
