-- Placements that are taken back, and items that are put back.
use Rattle.std.proofs.Common.{◌≡◌, ◌≤◌, ◌<◌, ◌⊎◌, inl, inr, ℕ, zero, suc, ◌+◌, Bool, true, false, cond, ltb, not, List, [], ◌∷◌, ◌++◌, length, get_or, take, filter, Option, Some, None, refl, sym, ap, ◌∙◌, subst, arith}
use Rattle.std.specs.Prelude.{IfSome, insert, is_some, position, remove, slice_get, slice_set}
use Rattle.std.specs.List.{position_or_len, prefix_len}
use Rattle.std.proofs.lemmas.Bool.{ltb-false}
use Rattle.std.proofs.lemmas.List.Quantifiers.{position-Some}
use Rattle.std.proofs.lemmas.Option.{get_or_from_slice_get, slice_get-get_or, slice_get_cases, slice_get_past}
use Rattle.flow_types.specs.declared.numbers.Amounts.{Amounts}
use Rattle.flow_types.specs.declared.numbers.AttemptNo.{AttemptNo}
use Rattle.flow_types.specs.declared.numbers.LinkNo.{LinkNo}
use Rattle.worker_cache.specs.Caches.{Cached}
use Rattle.link_session.specs.Sessions.{State}
use Rattle.foreman_core.specs.declared.links.Spot.{Spot}
use Rattle.foreman_core.specs.declared.links.Upstream.{Upstream}
use Rattle.foreman_core.specs.declared.links.Below.{Below}
use Rattle.foreman_core.specs.declared.placed.Placed.{Placed}
use Rattle.foreman_core.specs.Drafts.{Drafted, Places, before, led_of, resumed, taken_back, unspotted}
use Rattle.foreman_core.specs.Foremen.{Foreman, fits_among, is_link, kept, others, place_of_link}
use Rattle.foreman_core.specs.Steps.{Led, closed_by, closing, in_session, placed_by, placed_where, settled_at, stated_at}

-- ---- items

-- what was set is set back
pub set_back : {A : Type 0} (xs : List A) (i : ℕ) (x y : A) → slice_get xs i ≡ Some x → slice_set (slice_set xs i y) i x ≡ xs
set_back [] i x y got = absurd (let h : ⊥ = cc in h)
set_back (z ∷ xs) zero x y got = let same : z ≡ x = cc in ap (λ w. w ∷ xs) (sym same)
set_back (z ∷ xs) (suc i) x y got = ap (λ ws. z ∷ ws) (set_back xs i x y got)

pub set_twice : {A : Type 0} (xs : List A) (i : ℕ) (x y : A) → slice_set (slice_set xs i y) i x ≡ slice_set xs i x
set_twice [] i x y = refl
set_twice (z ∷ xs) zero x y = refl
set_twice (z ∷ xs) (suc i) x y = ap (λ ws. z ∷ ws) (set_twice xs i x y)

-- what was set stands there
pub get_set : {A : Type 0} (xs : List A) (i : ℕ) (x y : A) → slice_get xs i ≡ Some x → slice_get (slice_set xs i y) i ≡ Some y
get_set [] i x y got = absurd (let h : ⊥ = cc in h)
get_set (z ∷ xs) zero x y got = refl
get_set (z ∷ xs) (suc i) x y got = get_set xs i x y got

-- what was removed is inserted again
pub insert_removed : {A : Type 0} (xs : List A) (i : ℕ) (x : A) → slice_get xs i ≡ Some x → insert (remove xs i) i x ≡ xs
insert_removed [] i x got = absurd (let h : ⊥ = cc in h)
insert_removed (z ∷ xs) zero x got = let same : z ≡ x = cc in ap (λ w. w ∷ xs) (sym same)
insert_removed (z ∷ xs) (suc i) x got = ap (λ ws. z ∷ ws) (insert_removed xs i x got)

-- what was inserted is removed
pub remove_inserted : {A : Type 0} (xs : List A) (i : ℕ) (x : A) → i ≤ length xs → remove (insert xs i x) i ≡ xs
remove_inserted xs zero x le = refl
remove_inserted [] (suc i) x le = absurd (let h : ⊥ = omega (arith, le) in h)
remove_inserted (z ∷ xs) (suc i) x le = ap (λ ws. z ∷ ws) (remove_inserted xs i x (omega (arith, le)))

-- what is inserted at the end stands behind
pub insert_end : {A : Type 0} (xs : List A) (x : A) → insert xs (length xs) x ≡ xs ++ x ∷ []
insert_end [] x = refl
insert_end (z ∷ xs) x = ap (λ ws. z ∷ ws) (insert_end xs x)

pub take_front : {A : Type 0} (xs ys : List A) → take (length xs) (xs ++ ys) ≡ xs
take_front [] ys = refl
take_front (x ∷ xs) ys = ap (λ ws. x ∷ ws) (take_front xs ys)

-- what was read at a place stands there
pub read_at : {A : Type 0} (xs ys : List A) (i : ℕ) (x y : A) → xs ≡ ys → y ≡ get_or xs i y → slice_get ys i ≡ Some x → y ≡ x
read_at xs ys i x y same is got = is ∙ ap (λ zs. get_or zs i y) same ∙ get_or_from_slice_get ys i x y got

-- what holds of what stands at a place
pub at_place : {A : Type 0} (xs : List A) (i : ℕ) (P : Option A → Type 0) → i < length xs → ((x : A) → slice_get xs i ≡ Some x → P (Some x)) → P (slice_get xs i)
at_place {A = A} xs i P lt each = by (slice_get xs i) refl (slice_get_cases xs i).1
  where
    by : (found : Option A) → slice_get xs i ≡ found → ((x : A) × (i < length xs) × (slice_get xs i ≡ Some x) × (get_or xs i x ≡ x)) ⊎ ((length xs ≤ i) × (slice_get xs i ≡ None)) → P found
    by (Some x) got cases = each x got
    by None got (inl is) = absurd (let h : ⊥ = cc in h)
    by None got (inr past) = absurd (let h : ⊥ = omega (arith, lt, past.0) in h)

-- one that fails is taken out
pub removed_same : {A : Type 0} (test : A → Bool) (xs : List A) (i : ℕ) (x : A) → slice_get xs i ≡ Some x → test x ≡ false → filter test (remove xs i) ≡ filter test xs
removed_same test [] i x got fails = absurd (let h : ⊥ = cc in h)
removed_same test (z ∷ xs) zero x got fails =
    let same : z ≡ x = cc in
    sym (ap (λ b. cond b (z ∷ filter test xs) (filter test xs)) (ap test same ∙ fails))
removed_same test (z ∷ xs) (suc i) x got fails = ap (λ ws. cond (test z) (z ∷ ws) ws) (removed_same test xs i x got fails)

all_pass : {A : Type 0} (test : A → Bool) (xs : List A) → length xs ≤ prefix_len test xs → filter test xs ≡ xs
all_pass test [] le = refl
all_pass test (x ∷ xs) le = by (test x) le (λ enough. all_pass test xs enough)
  where
    by : (b : Bool) → length (x ∷ xs) ≤ cond b (1 + prefix_len test xs) 0 → (length xs ≤ prefix_len test xs → filter test xs ≡ xs) → cond b (x ∷ filter test xs) (filter test xs) ≡ x ∷ xs
    by true enough more = ap (λ ws. x ∷ ws) (more (omega (arith, enough)))
    by false none more = absurd (let h : ⊥ = omega (arith, none) in h)

-- where none passes all others are left
pub none_passes : {A : Type 0} (p : A → Bool) (xs : List A) → position p xs ≡ None → filter (λ x. not (p x)) xs ≡ xs
none_passes p xs none = by (ltb (position_or_len p xs) (length xs)) refl none
  where
    by : (b : Bool) → ltb (position_or_len p xs) (length xs) ≡ b → cond b (Some (position_or_len p xs)) None ≡ None → filter (λ x. not (p x)) xs ≡ xs
    by true is wrong = absurd (let h : ⊥ = cc in h)
    by false is wrong = all_pass (λ x. not (p x)) xs (ltb-false (position_or_len p xs) (length xs) is)

-- ---- workers

-- where no worker is at the link the others are all
pub others_all : (k : LinkNo) (links : List Below) → place_of_link k links ≡ None → others k links ≡ links
others_all k links none = none_passes (is_link k) links none

-- without one that is at the link the others are the same
pub others_less : (k : LinkNo) (links : List Below) (on : ℕ) → Some on ≡ place_of_link k links → others k (remove links on) ≡ others k links
others_less k [] on here = absurd (let h : ⊥ = cc in h)
others_less k (x ∷ xs) on here =
    let found = position-Some (is_link k) (x ∷ xs) on x (sym here) in
    removed_same (λ b. not (is_link k b)) (x ∷ xs) on (get_or (x ∷ xs) on x) (slice_get-get_or (x ∷ xs) on x found.0) (ap (λ t. not t) found.1)

-- ---- sessions

-- the worker has its own session again
pub resumed_twice : (links : List Below) (on : ℕ) (b : Below) (session : State) → slice_get links on ≡ Some b → resumed (resumed links on session (Some b)) on b.session (slice_get (resumed links on session (Some b)) on) ≡ links
resumed_twice links on b session got =
    ap (resumed (slice_set links on (in_session b session)) on b.session) (get_set links on b (in_session b session) got) ∙ set_back links on b (in_session b session) got

-- What was exchanged is exchanged again.
pub exchanged_back : (links new : List Below) (on : ℕ) (session own : State) → on < length links → new ≡ resumed links on session (slice_get links on) → ((b : Below) → slice_get links on ≡ Some b → own ≡ b.session)
    → resumed new on own (slice_get new on) ≡ links
exchanged_back links new on session own lt is owns = by (slice_get links on) refl (slice_get_cases links on).1
  where
    by : (found : Option Below) → slice_get links on ≡ found → ((b : Below) × (on < length links) × (slice_get links on ≡ Some b) × (get_or links on b ≡ b)) ⊎ ((length links ≤ on) × (slice_get links on ≡ None)) → resumed new on own (slice_get new on) ≡ links
    by (Some b) got cases =
        let now : List Below = resumed links on session (Some b) in
        ap (λ ls. resumed ls on own (slice_get ls on)) (is ∙ ap (resumed links on session) got) ∙ ap (λ s. resumed now on s (slice_get now on)) (owns b got) ∙ resumed_twice links on b session got
    by None got (inl there) = absurd (let h : ⊥ = cc in h)
    by None got (inr past) = absurd (let h : ⊥ = omega (arith, lt, past.0) in h)

-- ---- placements

pub before_one : (placed : List Placed) (p : Placed) (s : Places) → before (placed ++ p ∷ []) s ≡ before placed (taken_back p s)
before_one [] p s = refl
before_one (q ∷ placed) p s = ap (taken_back q) (before_one placed p s)

-- where nothing stands nothing is taken back
pub unspotted_past : (attempts : List Upstream) (at : ℕ) → length attempts ≤ at → attempts ≡ unspotted attempts at (slice_get attempts at)
unspotted_past attempts at past = sym (ap (unspotted attempts at) (slice_get_past attempts at past))

pub resumed_past : (links : List Below) (on : ℕ) (session : State) → length links ≤ on → links ≡ resumed links on session (slice_get links on)
resumed_past links on session past = sym (ap (resumed links on session) (slice_get_past links on past))

pub respotted_past : (attempts : List Upstream) (at : ℕ) (u : Upstream) (spot : Option Spot) → length attempts ≤ at → slice_get attempts at ≡ Some u
    → (let placed : Upstream = record { task = u.task; spot = spot } in attempts ≡ slice_set attempts at placed)
respotted_past attempts at u spot past got = let none = slice_get_past attempts at past in absurd (let h : ⊥ = cc in h)

-- an attempt that wasn't placed is as before
pub unspotted_back : (attempts : List Upstream) (at : ℕ) (u placed : Upstream) → slice_get attempts at ≡ Some u → u.spot ≡ None → placed.task ≡ u.task
    → unspotted (slice_set attempts at placed) at (slice_get (slice_set attempts at placed) at) ≡ attempts
unspotted_back attempts at u placed got free same =
    let is : kept placed.task ≡ u = ap (λ t. kept t) same ∙ ap (λ s. let all : Upstream = record { task = u.task; spot = s } in all) (sym free) in
    ap (unspotted (slice_set attempts at placed) at) (get_set attempts at u placed got) ∙ ap (λ w. slice_set (slice_set attempts at placed) at w) is ∙ set_back attempts at u placed got

-- What was placed is taken back.
pub placed_back : (attempts : List Upstream) (links new : List Below) (at on : ℕ) (u placed : Upstream) (session own : State) → slice_get attempts at ≡ Some u → u.spot ≡ None → placed.task ≡ u.task
    → on < length links → new ≡ resumed links on session (slice_get links on) → ((b : Below) → slice_get links on ≡ Some b → own ≡ b.session)
    → (let p : Placed = record { at = at; on = on; session = own } in
    let now : Places = record { attempts = slice_set attempts at placed; links = new } in
    let old : Places = record { attempts = attempts; links = links } in
    taken_back p now ≡ old)
placed_back attempts links new at on u placed session own got free same lt is owns =
    ap (λ (us : List Upstream). let s : Places = record { attempts = us; links = resumed new on own (slice_get new on) } in s) (unspotted_back attempts at u placed got free same)
    ∙ ap (λ (ls : List Below). let s : Places = record { attempts = attempts; links = ls } in s) (exchanged_back links new on session own lt is owns)

-- One placement more is taken back first.
pub more_back : (attempts : List Upstream) (at : ℕ) (placed more : List Placed) (one : Placed) (old now : Places) → at < length attempts → IfSome (slice_get attempts at) (λ u. u.spot ≡ None)
    → ((u : Upstream) → slice_get attempts at ≡ Some u → u.spot ≡ None → taken_back one now ≡ old) → more ≡ placed ++ one ∷ [] → before more now ≡ before placed old
more_back attempts at placed more one old now lt free back is =
    let taken : taken_back one now ≡ old = at_place attempts at (λ found. IfSome found (λ u. u.spot ≡ None) → taken_back one now ≡ old) lt (λ u got none. back u got none) free in
    ap (λ all. before all now) is ∙ before_one placed one now ∙ ap (before placed) taken

-- ---- an attempt that is to go somewhere

-- where the attempt is to go
abbrev pub Aims : Cached → List Upstream → List Below → ℕ → Option ℕ → Type 0
Aims cache attempts links at aimed =
    (u : Upstream) → slice_get attempts at ≡ Some u → aimed ≡ cond (is_some u.spot) None (position (fits_among cache.rows attempts u.task) links)

module _ (cache : Cached) (attempts : List Upstream) (links : List Below) (d : Drafted) (at : ℕ) where
  abbrev led : Led
  led = led_of cache attempts links d

  abbrev place_of : Upstream → Option ℕ
  place_of u = position (fits_among cache.rows attempts u.task) links

  goes : (on : ℕ) (new : Led) (u : Upstream) (b : Bool) → (let there : Option ℕ = Some on in there ≡ cond b None (place_of u)) → new ≡ placed_by led at u on (slice_get links on)
      → new ≡ cond b led (placed_where led at u (place_of u))
  goes on new u true aim placed = absurd (let h : ⊥ = cc in h)
  goes on new u false aim placed = subst (λ o. new ≡ placed_where led at u o) aim placed

  -- It goes there.
  pub settled_there : (on : ℕ) (new : Led) → at < length attempts → Aims cache attempts links at (Some on) → ((u : Upstream) → slice_get attempts at ≡ Some u → new ≡ placed_by led at u on (slice_get links on))
      → new ≡ settled_at led at (slice_get attempts at)
  settled_there on new lt aims placed = at_place attempts at (λ found. new ≡ settled_at led at found) lt (λ u got. goes on new u (is_some u.spot) (aims u got) (placed u got))

  stays : (u : Upstream) (b : Bool) → (let none : Option ℕ = None in none ≡ cond b None (place_of u)) → led ≡ cond b led (placed_where led at u (place_of u))
  stays u true aim = refl
  stays u false aim = subst (λ o. led ≡ placed_where led at u o) aim refl

  -- It stays where it is.
  pub settled_nowhere : at < length attempts → Aims cache attempts links at None → led ≡ settled_at led at (slice_get attempts at)
  settled_nowhere lt aims = at_place attempts at (λ found. led ≡ settled_at led at found) lt (λ u got. stays u (is_some u.spot) (aims u got))

-- ---- foremen

abbrev pub with_links : Foreman → List Below → Foreman
with_links f links = record f { links = links }

abbrev pub with_attempts : Foreman → List Upstream → Foreman
with_attempts f attempts = record f { attempts = attempts }

-- What a step changed of the workers stands as before.
pub links_back : (f inside after : Foreman) (changed back : List Below) → inside ≡ f → after ≡ with_links inside changed → back ≡ inside.links → with_links after back ≡ f
links_back f inside after changed back view is same = ap (λ a. with_links a back) is ∙ ap (λ ls. with_links inside ls) same ∙ view

-- The same of the attempts.
pub attempts_back : (f inside after : Foreman) (changed back : List Upstream) → inside ≡ f → after ≡ with_attempts inside changed → back ≡ inside.attempts → with_attempts after back ≡ f
attempts_back f inside after changed back view is same = ap (λ a. with_attempts a back) is ∙ ap (λ us. with_attempts inside us) same ∙ view

-- A worker has its own session again.
pub turned_back : (f inside after : Foreman) (changed back : List Below) (on : ℕ) (session own : State) → inside ≡ f → on < length inside.links → changed ≡ resumed inside.links on session (slice_get inside.links on)
    → ((b : Below) → slice_get inside.links on ≡ Some b → own ≡ b.session) → after ≡ with_links inside changed → back ≡ resumed after.links on own (slice_get after.links on) → with_links after back ≡ f
turned_back f inside after changed back on session own view lt turns owns is resumes =
    links_back f inside after changed back view is (resumes ∙ ap (λ (a : Foreman). resumed a.links on own (slice_get a.links on)) is ∙ exchanged_back inside.links changed on session own lt turns owns)

-- What was closed is open again.
pub closed_back : (links changed : List Below) (on : ℕ) (number : AttemptNo) (own : State) → on < length links → changed ≡ closed_by links number on (slice_get links on) → ((b : Below) → slice_get links on ≡ Some b → own ≡ b.session)
    → resumed changed on own (slice_get changed on) ≡ links
closed_back links changed on number own lt closes owns = at_place links on (λ found. changed ≡ closed_by links number on found → resumed changed on own (slice_get changed on) ≡ links) lt
    (λ b got is. exchanged_back links changed on (closing number b).session own lt (is ∙ sym (ap (resumed links on (closing number b).session) got)) owns) closes

pub reopened : (f inside after : Foreman) (changed back : List Below) (on : ℕ) (number : AttemptNo) (own : State) → inside ≡ f → on < length inside.links → changed ≡ closed_by inside.links number on (slice_get inside.links on)
    → ((b : Below) → slice_get inside.links on ≡ Some b → own ≡ b.session) → after ≡ with_links inside changed → back ≡ resumed after.links on own (slice_get after.links on) → with_links after back ≡ f
reopened f inside after changed back on number own view lt closes owns is resumes =
    links_back f inside after changed back view is (resumes ∙ ap (λ (a : Foreman). resumed a.links on own (slice_get a.links on)) is ∙ closed_back inside.links changed on number own lt closes owns)

-- A worker states what it stated before.
pub stated_back : (links changed : List Below) (on : ℕ) (total largest before_total before_largest : Amounts) (cache before_cache : ℕ) → on < length links → changed ≡ stated_at links on (slice_get links on) total largest cache
    → ((b : Below) → slice_get links on ≡ Some b → (before_total ≡ b.total) × (before_largest ≡ b.largest) × (before_cache ≡ b.cache)) → stated_at changed on (slice_get changed on) before_total before_largest before_cache ≡ links
stated_back links changed on total largest before_total before_largest cache before_cache lt states were = by (slice_get links on) refl (slice_get_cases links on).1
  where
    by : (found : Option Below) → slice_get links on ≡ found → ((b : Below) × (on < length links) × (slice_get links on ≡ Some b) × (get_or links on b ≡ b)) ⊎ ((length links ≤ on) × (slice_get links on ≡ None))
        → stated_at changed on (slice_get changed on) before_total before_largest before_cache ≡ links
    by None got (inl there) = absurd (let h : ⊥ = cc in h)
    by None got (inr past) = absurd (let h : ⊥ = omega (arith, lt, past.0) in h)
    by (Some b) got cases =
        let stands : Below = record { link = b.link; total = total; largest = largest; cache = cache; session = b.session } in
        let now : List Below = slice_set links on stands in
        let is : changed ≡ now = states ∙ ap (λ found. stated_at links on found total largest cache) got in
        let was = were b got in
        ap (λ ls. stated_at ls on (slice_get ls on) before_total before_largest before_cache) is
        ∙ ap (λ found. stated_at now on found before_total before_largest before_cache) (get_set links on b stands got)
        ∙ ap (λ t. stated_at now on (Some stands) t before_largest before_cache) was.0 ∙ ap (λ l. stated_at now on (Some stands) b.total l before_cache) was.1
        ∙ ap (λ c. stated_at now on (Some stands) b.total b.largest c) was.2 ∙ set_back links on b stands got

pub stated_anew_back : (f inside after : Foreman) (changed back : List Below) (on : ℕ) (total largest before_total before_largest : Amounts) (cache before_cache : ℕ) → inside ≡ f → on < length inside.links
    → changed ≡ stated_at inside.links on (slice_get inside.links on) total largest cache
    → ((b : Below) → slice_get inside.links on ≡ Some b → (before_total ≡ b.total) × (before_largest ≡ b.largest) × (before_cache ≡ b.cache)) → after ≡ with_links inside changed
    → back ≡ stated_at after.links on (slice_get after.links on) before_total before_largest before_cache → with_links after back ≡ f
stated_anew_back f inside after changed back on total largest before_total before_largest cache before_cache view lt states were is restates =
    links_back f inside after changed back view is
    (restates ∙ ap (λ (a : Foreman). stated_at a.links on (slice_get a.links on) before_total before_largest before_cache) is ∙ stated_back inside.links changed on total largest before_total before_largest cache before_cache lt states were)

-- An attempt is placed where it was.
pub respotted_back : (f inside after : Foreman) (changed back : List Upstream) (at : ℕ) (spot : Option Spot) → inside ≡ f → at < length inside.attempts
    → ((u : Upstream) → slice_get inside.attempts at ≡ Some u → changed ≡ slice_set inside.attempts at (kept u.task)) → ((u : Upstream) → slice_get inside.attempts at ≡ Some u → spot ≡ u.spot)
    → after ≡ with_attempts inside changed → ((u : Upstream) → slice_get after.attempts at ≡ Some u → (let placed : Upstream = record { task = u.task; spot = spot } in back ≡ slice_set after.attempts at placed))
    → with_attempts after back ≡ f
respotted_back f inside after changed back at spot view lt clears was is again = attempts_back f inside after changed back view is
    (at_place inside.attempts at (λ found. slice_get inside.attempts at ≡ found → back ≡ inside.attempts) lt (λ u got same. by u got) refl)
  where
    by : (u : Upstream) → slice_get inside.attempts at ≡ Some u → back ≡ inside.attempts
    by u got =
        let now : after.attempts ≡ slice_set inside.attempts at (kept u.task) = ap (λ a. a.attempts) is ∙ clears u got in
        let there : slice_get after.attempts at ≡ Some (kept u.task) = ap (λ us. slice_get us at) now ∙ get_set inside.attempts at u (kept u.task) got in
        again (kept u.task) there ∙ ap (λ us. slice_set us at (let placed : Upstream = record { task = u.task; spot = spot } in placed)) now
        ∙ ap (λ s. slice_set (slice_set inside.attempts at (kept u.task)) at (let placed : Upstream = record { task = u.task; spot = s } in placed)) (was u got) ∙ set_back inside.attempts at u (kept u.task) got
