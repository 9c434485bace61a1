-- How often ids stand in the lists of a book.
use Rattle.std.proofs.Common.{◌≡◌, ◌≤◌, ◌<◌, ◌⊎◌, inl, inr, ℕ, zero, suc, ◌+◌, Bool, true, false, cond, List, [], ◌∷◌, ◌++◌, length, Option, Some, None, refl, sym, ap, subst, ◌∙◌, arith}
use Rattle.std.specs.Prelude.{◌==◌, slice_get, slice_set, remove}
use Rattle.std.specs.List.{AllByRecursion}
use Rattle.std.proofs.lemmas.Bool.{eqb-true}
use Rattle.std.proofs.lemmas.List.{length-append}
use Rattle.std.proofs.lemmas.List.Sums.{sum_by-cons}
use Rattle.task_book.specs.declared.task.Given.{Given}
use Rattle.task_book.specs.declared.task.Held.{Held}
use Rattle.task_book.specs.declared.task.Stage.{Stage}
use Rattle.task_book.specs.declared.task.Submission.{Submission}
use Rattle.task_book.specs.declared.task.TaskId.{TaskId}
use Rattle.task_book.specs.Books.{IsBook}
use Rattle.task_book.specs.Kept.{Kept, ids_given, ids_held, next_id, staged, staged_by, submitted_to, times, waiting_as}
use Rattle.task_book.specs.Submissions.{IsShort}
use Rattle.task_book.proofs.Positions.{all_left, all_more, all_set, all_at, as_long, less_long}

-- 1 where it is the id of this number
abbrev one_if : ℕ → TaskId → ℕ
one_if n id = cond (id.0 == n) 1 0

times_cons : (n : ℕ) (id : TaskId) (ids : List TaskId) → times n (id ∷ ids) ≡ one_if n id + times n ids
times_cons n id ids = sum_by-cons (λ (x : TaskId). one_if n x) id ids

times_more : (n : ℕ) (ids : List TaskId) (id : TaskId) → times n (ids ++ id ∷ []) ≡ times n ids + one_if n id
times_more n [] id = let one = times_cons n id [] in omega (arith, one)
times_more n (x ∷ ids) id =
    let whole = times_cons n x (ids ++ id ∷ []) in
    let rest = times_more n ids id in
    let part = times_cons n x ids in
    omega (arith, whole, rest, part)

held_more : (n : ℕ) (held : List Held) (h : Held) → times n (ids_held (held ++ h ∷ [])) ≡ times n (ids_held held) + one_if n h.id
held_more n [] h = let one = times_cons n h.id [] in omega (arith, one)
held_more n (x ∷ held) h =
    let whole = times_cons n x.id (ids_held (held ++ h ∷ [])) in
    let rest = held_more n held h in
    let part = times_cons n x.id (ids_held held) in
    omega (arith, whole, rest, part)

given_more : (n : ℕ) (given : List Given) (g : Given) → times n (ids_given (given ++ g ∷ [])) ≡ times n (ids_given given) + one_if n g.id
given_more n [] g = let one = times_cons n g.id [] in omega (arith, one)
given_more n (x ∷ given) g =
    let whole = times_cons n x.id (ids_given (given ++ g ∷ [])) in
    let rest = given_more n given g in
    let part = times_cons n x.id (ids_given given) in
    omega (arith, whole, rest, part)

held_less : (n : ℕ) (held : List Held) (at : ℕ) (h : Held) → slice_get held at ≡ Some h → times n (ids_held held) ≡ times n (ids_held (remove held at)) + one_if n h.id
held_less n [] at h is = absurd cc
held_less n (x ∷ held) zero h is =
    let same : x ≡ h = cc in
    let whole = times_cons n x.id (ids_held held) in
    let one : one_if n x.id ≡ one_if n h.id = ap (λ (y : Held). one_if n y.id) same in
    omega (arith, whole, one)
held_less n (x ∷ held) (suc at) h is =
    let whole = times_cons n x.id (ids_held held) in
    let part = times_cons n x.id (ids_held (remove held at)) in
    let rest = held_less n held at h is in
    omega (arith, whole, part, rest)

held_same : (held : List Held) (at : ℕ) (h : Held) (stage : Stage) → slice_get held at ≡ Some h → ids_held (slice_set held at (staged stage h)) ≡ ids_held held
held_same [] at h stage is = absurd cc
held_same (x ∷ held) zero h stage is =
    let same : x ≡ h = cc in
    ap (λ (y : Held). y.id ∷ ids_held held) (sym same)
held_same (x ∷ held) (suc at) h stage is = ap (λ (ids : List TaskId). x.id ∷ ids) (held_same held at h stage is)

-- ---- nothing was submitted

pub first_book : (a b : ℕ) → IsBook (record { submitted = []; given = []; cancelled = []; held = [] }) a b
first_book a b = record {
  kept = record { together = λ n. refl; once = λ n. omega arith };
  below = λ n past. refl;
  short = tt;
  may_give = omega arith;
  may_cancel = omega arith;
}

-- ---- a task comes

once_more : (len n t : ℕ) (b : Bool) → (len == n) ≡ b → (len ≤ n → t ≡ 0) → t ≤ 1 → t + cond b 1 0 ≤ 1
once_more len n t true e none once = let same = eqb-true len n e in let zero_is = none (omega (arith, same)) in omega (arith, zero_is)
once_more len n t false e none once = omega (arith, once)

never : (len n : ℕ) (b : Bool) → (len == n) ≡ b → 1 + len ≤ n → (let k : ℕ = cond b 1 0 in k) ≡ 0
never len n true e past = let same = eqb-true len n e in absurd (omega (arith, same, past))
never len n false e past = refl

pub book_submitted : (k : Kept) (task : Submission) (a b a' b' : ℕ) → IsBook k a b → IsShort task → length k.given + (length k.held + 1) ≤ a' → length k.cancelled + (length k.held + 1) ≤ b'
    → IsBook (submitted_to k task) a' b'
book_submitted k task a b a' b' is short room_a room_b =
    let id = next_id k in
    let long = length-append k.held (waiting_as id task ∷ []) in
    let longer = length-append k.submitted (id ∷ []) in
    record {
      kept = record {
        together = λ n.
            let was = is.kept.together n in
            let more = held_more n k.held (waiting_as id task) in
            let all = times_more n k.submitted id in
            omega (arith, was, more, all);
        once = λ n.
            let all = times_more n k.submitted id in
            let fine = once_more (length k.submitted) n (times n k.submitted) (length k.submitted == n) refl (is.below n) (is.kept.once n) in
            omega (arith, all, fine);
      };
      below = λ n past.
          let all = times_more n k.submitted id in
          let none = is.below n (omega (arith, past, longer)) in
          let other = never (length k.submitted) n (length k.submitted == n) refl (omega (arith, past, longer)) in
          omega (arith, all, none, other);
      short = all_more (λ (h : Held). IsShort h.task) k.held (waiting_as id task) short is.short;
      may_give = omega (arith, long, room_a);
      may_cancel = omega (arith, long, room_b);
    }

-- ---- a task leaves

same_one : (n : ℕ) (x y : TaskId) → x.0 ≡ y.0 → one_if n x ≡ one_if n y
same_one n x y same = ap (λ (m : ℕ). cond (m == n) 1 0) same

pub book_cancelled : (k : Kept) (id : TaskId) (at : ℕ) (h : Held) (a b : ℕ) → IsBook k a b → slice_get k.held at ≡ Some h → h.id.0 ≡ id.0
    → IsBook (record { submitted = k.submitted; given = k.given; cancelled = k.cancelled ++ id ∷ []; held = remove k.held at }) a b
book_cancelled k id at h a b is there same =
    let less = less_long k.held at h there in
    let long = length-append k.cancelled (id ∷ []) in
    record {
      kept = record {
        together = λ n.
            let was = is.kept.together n in
            let gone = held_less n k.held at h there in
            let more = times_more n k.cancelled id in
            let one = same_one n h.id id same in
            omega (arith, was, gone, more, one);
        once = is.kept.once;
      };
      below = is.below;
      short = all_left (λ (x : Held). IsShort x.task) k.held at is.short;
      may_give = let room = is.may_give in omega (arith, less, room);
      may_cancel = let room = is.may_cancel in omega (arith, less, long, room);
    }

pub book_given : (k : Kept) (g : Given) (at : ℕ) (h : Held) (a b : ℕ) → IsBook k a b → slice_get k.held at ≡ Some h → h.id.0 ≡ g.id.0
    → IsBook (record { submitted = k.submitted; given = k.given ++ g ∷ []; cancelled = k.cancelled; held = remove k.held at }) a b
book_given k g at h a b is there same =
    let less = less_long k.held at h there in
    let long = length-append k.given (g ∷ []) in
    record {
      kept = record {
        together = λ n.
            let was = is.kept.together n in
            let gone = held_less n k.held at h there in
            let more = given_more n k.given g in
            let one = same_one n h.id g.id same in
            omega (arith, was, gone, more, one);
        once = is.kept.once;
      };
      below = is.below;
      short = all_left (λ (x : Held). IsShort x.task) k.held at is.short;
      may_give = let room = is.may_give in omega (arith, less, long, room);
      may_cancel = let room = is.may_cancel in omega (arith, less, room);
    }

-- ---- a task is in another stage

pub book_staged : (k : Kept) (at : ℕ) (h : Held) (stage : Stage) (a b : ℕ) → IsBook k a b → slice_get k.held at ≡ Some h
    → IsBook (record { submitted = k.submitted; given = k.given; cancelled = k.cancelled; held = slice_set k.held at (staged stage h) }) a b
book_staged k at h stage a b is there =
    let same = held_same k.held at h stage there in
    let long = as_long k.held at (staged stage h) in
    record {
      kept = record {
        together = λ n.
            let was = is.kept.together n in
            let ids : times n (ids_held (slice_set k.held at (staged stage h))) ≡ times n (ids_held k.held) = ap (λ (ids : List TaskId). times n ids) same in
            omega (arith, was, ids);
        once = is.kept.once;
      };
      below = is.below;
      short = all_set (λ (x : Held). IsShort x.task) k.held at (staged stage h) (all_at (λ (x : Held). IsShort x.task) k.held at h there is.short) is.short;
      may_give = let room = is.may_give in omega (arith, long, room);
      may_cancel = let room = is.may_cancel in omega (arith, long, room);
    }

pub book_staged_by : (k : Kept) (at : ℕ) (p : Option Held) (stage : Stage) (a b : ℕ) → IsBook k a b → slice_get k.held at ≡ p
    → IsBook (record { submitted = k.submitted; given = k.given; cancelled = k.cancelled; held = staged_by k.held at stage p }) a b
book_staged_by k at None stage a b is there = is
book_staged_by k at (Some h) stage a b is there = book_staged k at h stage a b is there

-- ---- with the lists as they came to be

pub book_is : (s s' c c' : List TaskId) (g g' : List Given) (h h' : List Held) (a b : ℕ) → s' ≡ s → g' ≡ g → c' ≡ c → h' ≡ h
    → IsBook (record { submitted = s; given = g; cancelled = c; held = h }) a b → IsBook (record { submitted = s'; given = g'; cancelled = c'; held = h' }) a b
book_is s s' c c' g g' h h' a b es eg ec eh is =
    subst (λ (x : List TaskId). IsBook (record { submitted = x; given = g'; cancelled = c'; held = h' }) a b) (sym es)
    (subst (λ (x : List Given). IsBook (record { submitted = s; given = x; cancelled = c'; held = h' }) a b) (sym eg)
    (subst (λ (x : List TaskId). IsBook (record { submitted = s; given = g; cancelled = x; held = h' }) a b) (sym ec)
    (subst (λ (x : List Held). IsBook (record { submitted = s; given = g; cancelled = c; held = x }) a b) (sym eh) is)))

-- with more room
pub book_roomier : (k : Kept) (a b a' b' : ℕ) → a ≤ a' → b ≤ b' → IsBook k a b → IsBook k a' b'
book_roomier k a b a' b' more others is = record {
  kept = is.kept;
  below = is.below;
  short = is.short;
  may_give = let room = is.may_give in omega (arith, room, more);
  may_cancel = let room = is.may_cancel in omega (arith, room, others);
}

-- ---- ids are below the number of tasks

at_itself : (id : TaskId) → one_if id.0 id ≡ 1
at_itself id = search arith

below_or : (k at : ℕ) → (k < at) ⊎ (at ≤ k)
below_or k at = grind arith

id_below : (len : ℕ) (h : Held) (rest : ℕ) → (len ≤ h.id.0 → one_if h.id.0 h.id + rest ≡ 0) → (h.id.0 < len) ⊎ (len ≤ h.id.0) → h.id.0 < len
id_below len h rest none (inl less) = less
id_below len h rest none (inr le) = let zero_is = none le in let one = at_itself h.id in absurd (omega (arith, zero_is, one))

below_each : (len : ℕ) (held : List Held) → ((n : ℕ) → len ≤ n → times n (ids_held held) ≡ 0) → AllByRecursion (λ (h : Held). h.id.0 < len) held
below_each len [] none = tt
below_each len (h ∷ held) none = (
  id_below len h (times h.id.0 (ids_held held)) (λ le. sym (times_cons h.id.0 h.id (ids_held held)) ∙ none h.id.0 le) (below_or h.id.0 len),
  below_each len held (λ n le. let whole = times_cons n h.id (ids_held held) in let zero_is = none n le in omega (arith, whole, zero_is)),
)

pub ids_below : (k : Kept) (a b : ℕ) → IsBook k a b → AllByRecursion (λ (h : Held). h.id.0 < length k.submitted) k.held
ids_below k a b is = below_each (length k.submitted) k.held (λ n le. let all = is.kept.together n in let none = is.below n le in omega (arith, all, none))

pub below_is : (len n : ℕ) (held : List Held) → len ≡ n → AllByRecursion (λ (h : Held). h.id.0 < len) held → AllByRecursion (λ (h : Held). h.id.0 < n) held
below_is len n held same all = subst (λ (m : ℕ). AllByRecursion (λ (h : Held). h.id.0 < m) held) same all
