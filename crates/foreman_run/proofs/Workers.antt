-- What a foreman's steps make of its workers, and for what a step leaves a link.
use Rattle.std.proofs.Common.{◌≡◌, ◌≤◌, ℕ, zero, suc, ◌+◌, Bool, true, false, cond, List, [], ◌∷◌, ◌++◌, length, Option, Some, None, Result, Ok, Err, inl, inr, refl, sym, ap, ◌∙◌, subst, append_assoc, arith}
use Rattle.std.specs.Prelude.{◌==◌, ◌⊎◌, not, nat_lt, map, filter, filter_map, take, drop, position, slice_get, slice_set, remove, is_some}
use Rattle.std.specs.List.{position_or_len}
use Rattle.std.specs.Option.{option_map_or}
use Rattle.std.proofs.lemmas.Bool.{eqb-true, le-ltb, ltb-false}
use Rattle.std.proofs.lemmas.Option.{get_or_from_slice_get, slice_get-get_or}
use Rattle.std.proofs.lemmas.List.Quantifiers.{position-Some}
use Rattle.flow_types.specs.declared.job.Outcome.{Outcome}
use Rattle.flow_types.specs.declared.job.Outcome.TheVariants as outcomes
use Rattle.flow_types.specs.declared.job.Task.{Task}
use Rattle.flow_types.specs.declared.messages.Key.{Key}
use Rattle.flow_types.specs.declared.messages.Message.{Message}
use Rattle.flow_types.specs.declared.messages.Message.TheVariants as messages
use Rattle.flow_types.specs.declared.numbers.Amounts.{Amounts}
use Rattle.flow_types.specs.declared.numbers.AttemptNo.{AttemptNo}
use Rattle.flow_types.specs.declared.numbers.FileNo.{FileNo}
use Rattle.flow_types.specs.declared.numbers.LinkNo.{LinkNo}
use Rattle.links.specs.Ill.{GoesDown, IsHello}
use Rattle.link_session.specs.declared.open.Open.{Open}
use Rattle.link_session.specs.declared.session.Stage.{Stage}
use Rattle.link_session.specs.declared.session.Stage.TheVariants as stages
use Rattle.link_session.specs.declared.word.Word.{Word}
use Rattle.link_session.specs.declared.word.Word.TheVariants as words
use Rattle.link_session.specs.declared.word.SessionFault.{SessionFault}
use Rattle.link_session.specs.Fits.{has_all, outcome_fits}
use Rattle.link_session.specs.Keys.{lacking}
use Rattle.link_session.specs.Sessions.{State, closed_where, ended_at, ended_by, hears, lacked_at, lacked_by, missed, most_misses, opened, place, started, told as means, told_by}
use Rattle.message_forms.specs.Streams.{BeginsWith}
use Rattle.worker_cache.specs.Caches.{Rows, is_full, put_in}
use Rattle.worker_core.specs.Workers.{holds_all}
use Rattle.foreman_core.specs.declared.acts.Down.{Down}
use Rattle.foreman_core.specs.declared.links.Below.{Below}
use Rattle.foreman_core.specs.declared.links.Spot.{Spot}
use Rattle.foreman_core.specs.declared.links.Upstream.{Upstream}
use Rattle.foreman_core.specs.Foremen.{Foreman, is_link, kept, with_rows, place_of, is_at, is_forsaken, joined, joined_at, most_links, off_link, others, place_for, place_of_link, totals}
use Rattle.foreman_core.specs.Members.{Every, Stands}
use Rattle.foreman_core.specs.Steps.{Led, sending, quiet, holding, renumbered, put_of, puts_and_task, down_to, in_session, placed_on, placed_by, placed_where, settled_at, settled_from, settled, takes, misses, closing, closed_by, closed_on, cancel_at, not_run, cancels_at, hears_up, lost, loses, drops, restated, new_session, greeted, outcome_in, ends_at, kept_at, puts_again, with_attempt, stated_at, on_word, on_told, heard_at, heard_where, hears_down}
use Rattle.foreman_core.proofs.Members.{every_append, every_cons, every_filter, every_nil, every_one, every_remove, every_set, get_stands, stands_left, stands_right}
use Rattle.peers.proofs.Fits.{fits_by, takes_by}
use Rattle.peers.proofs.Opens.{placed}
use Rattle.foreman_run.specs.Lost.{IsHelloFirst, IsMisspoken}
use Rattle.foreman_run.specs.Lost as loss
use Rattle.foreman_run.specs.Lowers.{from_link, over}
use Rattle.foreman_run.specs.Met.{one_if, there_under}
use Rattle.foreman_run.specs.Workers.{IsGiven, IsJoined}
use Rattle.foreman_run.proofs.Tying.{from_next, from_same, one_is, one_other, same_or}

-- ---- how many have a number

pub there_set : (k : ℕ) (bs : List Below) (at : ℕ) (old new : Below) → slice_get bs at ≡ Some old → new.link ≡ old.link → there_under k (slice_set bs at new) ≡ there_under k bs
there_set k [] at old new got link = refl
there_set k (b ∷ bs) zero old new got link =
    let same : b ≡ old = cc in
    ap (λ (n : LinkNo). one_if n.0 k + there_under k bs) (link ∙ ap (λ (x : Below). x.link) (sym same))
there_set k (b ∷ bs) (suc at) old new got link = ap (λ n. one_if b.link.0 k + n) (there_set k bs at old new got link)

there_append : (k : ℕ) (xs ys : List Below) → there_under k (xs ++ ys) ≡ there_under k xs + there_under k ys
there_append k [] ys = omega arith
there_append k (x ∷ xs) ys = let rest = there_append k xs ys in omega (arith, rest)

there_split : (k at : ℕ) (xs : List Below) → there_under k xs ≡ there_under k (take at xs) + there_under k (drop at xs)
there_split k zero xs = omega arith
there_split k (suc at) [] = omega arith
there_split k (suc at) (x ∷ xs) = let rest = there_split k at xs in omega (arith, rest)

there_joined_at : (k : ℕ) (b : Below) (links : List Below) (at : Option ℕ) → there_under k (joined_at b links at) ≡ one_if b.link.0 k + there_under k links
there_joined_at k b links None = let a = there_append k links (b ∷ []) in omega (arith, a)
there_joined_at k b links (Some at) =
    let a = there_append k (take at links) (b ∷ drop at links) in
    let c = there_split k at links in
    omega (arith, a, c)

there_joined : (k : ℕ) (b : Below) (links : List Below) → there_under k (joined b links) ≡ one_if b.link.0 k + there_under k links
there_joined k b links = there_joined_at k b links (position (λ other. nat_lt b.link.0 other.link.0) links)

every_take : (P : Below → Type 0) (n : ℕ) (xs : List Below) → Every P xs → Every P (take n xs)
every_take P zero xs all = every_nil P
every_take P (suc n) [] all = all
every_take P (suc n) (y ∷ ys) all = every_cons P y (take n ys) (all y (inl refl)) (every_take P n ys (λ z there. all z (inr there)))

every_drop : (P : Below → Type 0) (n : ℕ) (xs : List Below) → Every P xs → Every P (drop n xs)
every_drop P zero xs all = all
every_drop P (suc n) [] all = all
every_drop P (suc n) (y ∷ ys) all = every_drop P n ys (λ z there. all z (inr there))

every_joined_at : (P : Below → Type 0) (b : Below) (links : List Below) (at : Option ℕ) → P b → Every P links → Every P (joined_at b links at)
every_joined_at P b links None is all = every_append P links (b ∷ []) all (every_one P b is)
every_joined_at P b links (Some at) is all = every_append P (take at links) (b ∷ drop at links) (every_take P at links all) (every_cons P b (drop at links) is (every_drop P at links all))

every_joined : (P : Below → Type 0) (b : Below) (links : List Below) → P b → Every P links → Every P (joined b links)
every_joined P b links is all = every_joined_at P b links (position (λ other. nat_lt b.link.0 other.link.0) links) is all

there_kept : (j : ℕ) (k : LinkNo) (b : Below) (rest kept : List Below) (t : Bool) → (b.link.0 == k.0) ≡ t → (k.0 ≡ j → ⊥) → there_under j kept ≡ there_under j rest
    → there_under j (cond (not t) (b ∷ kept) kept) ≡ one_if b.link.0 j + there_under j rest
there_kept j k b rest kept true is other same =
    let none : one_if b.link.0 j ≡ 0 = by (same_or b.link.0 j) in omega (arith, same, none)
  where
    by : (b.link.0 ≡ j) ⊎ ((b.link.0 == j) ≡ false) → one_if b.link.0 j ≡ 0
    by (inl here) = absurd (other (sym (eqb-true b.link.0 k.0 is) ∙ here))
    by (inr there) = one_other b.link.0 j there
there_kept j k b rest kept false is other same = omega (arith, same)

-- Another link's worker stays.
pub there_others : (j : ℕ) (k : LinkNo) (links : List Below) → (k.0 ≡ j → ⊥) → there_under j (others k links) ≡ there_under j links
there_others j k [] other = refl
there_others j k (b ∷ links) other = there_kept j k b links (others k links) (b.link.0 == k.0) refl other (there_others j k links other)

none_by : (k : LinkNo) (b : Below) (bs : List Below) (t : Bool) → is_link k b ≡ t → nat_lt (position_or_len (is_link k) (b ∷ bs)) (length (b ∷ bs)) ≡ false
    → (nat_lt (position_or_len (is_link k) bs) (length bs) ≡ false → there_under k.0 bs ≡ 0) → there_under k.0 (b ∷ bs) ≡ 0
none_by k b bs true is e rest =
    let first : position_or_len (is_link k) (b ∷ bs) ≡ 0 = ap (λ (x : Bool). cond (not x) (1 + position_or_len (is_link k) bs) 0) is in
    let long : length (b ∷ bs) ≤ position_or_len (is_link k) (b ∷ bs) = ltb-false _ _ e in
    absurd (let wrong : ⊥ = omega (arith, first, long) in wrong)
none_by k b bs false is e rest =
    let next : position_or_len (is_link k) (b ∷ bs) ≡ 1 + position_or_len (is_link k) bs = ap (λ (x : Bool). cond (not x) (1 + position_or_len (is_link k) bs) 0) is in
    let long : length (b ∷ bs) ≤ position_or_len (is_link k) (b ∷ bs) = ltb-false _ _ e in
    let none = rest (le-ltb _ _ (omega (arith, next, long))) in
    let here = one_other b.link.0 k.0 is in
    omega (arith, none, here)

none_there : (k : LinkNo) (bs : List Below) → nat_lt (position_or_len (is_link k) bs) (length bs) ≡ false → there_under k.0 bs ≡ 0
none_there k [] e = refl
none_there k (b ∷ bs) e = none_by k b bs (is_link k b) refl e (λ rest. none_there k bs rest)

not_found : (t : Bool) (n : ℕ) → (let found : Option ℕ = cond t (Some n) None in found ≡ None) → t ≡ false
not_found true n e = absurd (let wrong : ⊥ = cc e in wrong)
not_found false n e = refl

-- No worker has a number that isn't found.
pub nowhere : (k : LinkNo) (links : List Below) → place_of_link k links ≡ None → there_under k.0 links ≡ 0
nowhere k links e = none_there k links (not_found (nat_lt (position_or_len (is_link k) links) (length links)) (position_or_len (is_link k) links) e)

there_got : (links : List Below) (on : ℕ) (b : Below) → slice_get links on ≡ Some b → 1 ≤ there_under b.link.0 links
there_got [] on b got = absurd (let wrong : ⊥ = cc got in wrong)
there_got (x ∷ links) zero b got =
    let same : x ≡ b = cc in
    let one = one_is x.link.0 b.link.0 (ap (λ (y : Below). y.link.0) same) in
    omega (arith, one)
there_got (x ∷ links) (suc on) b got = let rest = there_got links on b got in omega (arith, rest)

-- The worker at the place of a number has that number.
pub found_is : (k : LinkNo) (links : List Below) (on : ℕ) (b : Below) → place_of_link k links ≡ Some on → slice_get links on ≡ Some b → b.link ≡ k
found_is k links on b found got =
    let is : is_link k b ≡ true = sym (ap (is_link k) (get_or_from_slice_get links on b b got)) ∙ (position-Some (is_link k) links on b found).1 in
    ap (λ n. let number : LinkNo = record { 0 = n } in number) (eqb-true b.link.0 k.0 is)

-- ---- workers, as more goes down and more comes

given_more : (down more : List Down) (k : LinkNo) (o : Open) → IsGiven down k o → IsGiven (down ++ more) k o
given_more down more k o is = record {
  task = is.task;
  asked = stands_left (over k (messages.Task is.task)) down more is.asked;
  attempt = is.attempt;
  files = is.files;
  bounds = is.bounds;
}

all_given_more : (down more : List Down) (k : LinkNo) (os : List Open) → Every (IsGiven down k) os → Every (IsGiven (down ++ more) k) os
all_given_more down more k os all o there = given_more down more k o (all o there)

joined_more : (down more told : List Down) (b : Below) → IsJoined down told b → IsJoined (down ++ more) told b
joined_more down more told b is = record { stage = is.stage; begun = is.begun; given = all_given_more down more b.link b.session.attempts is.given }

pub all_joined_more : (down more told : List Down) (bs : List Below) → Every (IsJoined down told) bs → Every (IsJoined (down ++ more) told) bs
all_joined_more down more told bs all b there = joined_more down more told b (all b there)

first_more : (ms : List Message) (m : Message) → IsHelloFirst ms → IsHelloFirst (ms ++ m ∷ [])
first_more [] m is = absurd is
first_more (x ∷ ms) m is = is

begun_more : (j : ℕ) (told : List Down) (k : LinkNo) (m : Message) → IsHelloFirst (from_link j told) → IsHelloFirst (from_link j (told ++ over k m ∷ []))
begun_more j told k m is = by (same_or k.0 j)
  where
    by : (k.0 ≡ j) ⊎ ((k.0 == j) ≡ false) → IsHelloFirst (from_link j (told ++ over k m ∷ []))
    by (inl same) = subst IsHelloFirst (sym (from_next j told k m same)) (first_more (from_link j told) m is)
    by (inr other) = subst IsHelloFirst (sym (from_same j told k m (λ same. let wrong : ⊥ = omega (arith, one_is k.0 j same, one_other k.0 j other) in wrong))) is

joined_told : (down told : List Down) (k : LinkNo) (m : Message) (b : Below) → IsJoined down told b → IsJoined down (told ++ over k m ∷ []) b
joined_told down told k m b is = record { stage = is.stage; begun = begun_more b.link.0 told k m is.begun; given = is.given }

hello_by : (down told : List Down) (k : ℕ) (b : Below) (bs : List Below) → (b.link.0 ≡ k) ⊎ ((b.link.0 == k) ≡ false) → 1 ≤ there_under k (b ∷ bs) → IsJoined down told b → (1 ≤ there_under k bs → IsHelloFirst (from_link k told))
    → IsHelloFirst (from_link k told)
hello_by down told k b bs (inl same) le is later = subst (λ n. IsHelloFirst (from_link n told)) same is.begun
hello_by down told k b bs (inr other) le is later = later (omega (arith, le, one_other b.link.0 k other))

-- Where a worker is there its hello came first.
pub hello_there : (down told : List Down) (k : ℕ) (bs : List Below) → 1 ≤ there_under k bs → Every (IsJoined down told) bs → IsHelloFirst (from_link k told)
hello_there down told k [] le all = absurd (let wrong : ⊥ = omega (arith, le) in wrong)
hello_there down told k (b ∷ bs) le all = hello_by down told k b bs (same_or b.link.0 k) le (all b (inl refl)) (λ rest. hello_there down told k bs rest (λ x there. all x (inr there)))

-- ---- a step

-- What a step leaves of the workers, which have these numbers, where these messages went down before it
-- and these came: each is joined, and none is left.
pub record IsSound (base told : List Down) (count : ℕ → ℕ) (led : Led) : Type 0 where
  pub workers : Every (IsJoined (base ++ led.acts.down) told) led.foreman.links
  pub under : (k : ℕ) → there_under k led.foreman.links ≡ count k
  pub stays : led.acts.leave ≡ None

module _ (base told : List Down) where
  -- what is sent where nothing goes down
  still : (bs : List Below) → Every (IsJoined base told) bs → Every (IsJoined (base ++ []) told) bs
  still bs all = all_joined_more base [] told bs all

  quiet_sound : (f : Foreman) → Every (IsJoined base told) f.links → IsSound base told (λ k. there_under k f.links) (quiet f)
  quiet_sound f all = record { workers = still f.links all; under = λ k. refl; stays = refl }

  told_sound : (f : Foreman) (up : List Message) (count : ℕ → ℕ) → Every (IsJoined base told) f.links → ((k : ℕ) → there_under k f.links ≡ count k) → IsSound base told count (record { foreman = f; acts = sending up [] })
  told_sound f up count all same = record { workers = still f.links all; under = same; stays = refl }

  sent_sound : (f : Foreman) (up : List Message) (down : List Down) (count : ℕ → ℕ) → Every (IsJoined base told) f.links → ((k : ℕ) → there_under k f.links ≡ count k) → IsSound base told count (record { foreman = f; acts = sending up down })
  sent_sound f up down count all same = record { workers = all_joined_more base down told f.links all; under = same; stays = refl }

  holding_sound : (count : ℕ → ℕ) (led : Led) (rows : Rows) → IsSound base told count led → IsSound base told count (holding led rows)
  holding_sound count led rows s = record { workers = s.workers; under = s.under; stays = s.stays }

  -- ---- placing

  stands_down : (k : LinkNo) (m : Message) (ms : List Message) → Stands m ms → Stands (over k m) (down_to k ms)
  stands_down k m [] there = absurd there
  stands_down k m (x ∷ ms) (inl same) = inl (ap (over k) same)
  stands_down k m (x ∷ ms) (inr there) = inr (stands_down k m ms there)

  placed_sound : (count : ℕ → ℕ) (led : Led) (at : ℕ) (u : Upstream) (on : ℕ) (b : Below) → slice_get led.foreman.links on ≡ Some b → IsSound base told count led → IsSound base told count (placed_on led at u on b)
  placed_sound count led at u on b got s = record {
    workers = subst (λ (down : List Down). Every (IsJoined down told) (slice_set led.foreman.links on now)) (append_assoc base led.acts.down more)
        (every_set (IsJoined (all ++ more) told) led.foreman.links on now joined_now (all_joined_more all more told led.foreman.links s.workers));
    under = λ k. there_set k led.foreman.links on b now got refl ∙ s.under k;
    stays = s.stays;
  }
    where
      task : Task
      task = renumbered u.task (record { 0 = led.foreman.next })

      files : List FileNo
      files = lacking b.session.known task.run task.inputs

      sent : List Message
      sent = puts_and_task led.foreman.cache.rows files task

      more : List Down
      more = down_to b.link sent

      all : List Down
      all = base ++ led.acts.down

      now : Below
      now = in_session b (started b.session task)

      was : IsJoined all told b
      was = s.workers b (get_stands led.foreman.links on b got)

      goes : Stands (over b.link (messages.Task task)) more
      goes = stands_down b.link (messages.Task task) sent
          (stands_right (messages.Task task) (filter_map (put_of led.foreman.cache.rows task.run) files) (messages.Task task ∷ []) (inl refl))

      joined_now : IsJoined (all ++ more) told now
      joined_now = record {
        stage = was.stage;
        begun = was.begun;
        given = every_append (IsGiven (all ++ more) b.link) b.session.attempts (opened task ∷ []) (all_given_more all more b.link b.session.attempts was.given)
            (every_one (IsGiven (all ++ more) b.link) (opened task) (record {
              task = task;
              asked = stands_right (over b.link (messages.Task task)) all more goes;
              attempt = refl;
              files = refl;
              bounds = refl;
            }));
      }

  placed_by_sound : (count : ℕ → ℕ) (led : Led) (at : ℕ) (u : Upstream) (on : ℕ) (b : Option Below) → slice_get led.foreman.links on ≡ b → IsSound base told count led → IsSound base told count (placed_by led at u on b)
  placed_by_sound count led at u on None got s = s
  placed_by_sound count led at u on (Some b) got s = placed_sound count led at u on b got s

  placed_where_sound : (count : ℕ → ℕ) (led : Led) (at : ℕ) (u : Upstream) (on : Option ℕ) → IsSound base told count led → IsSound base told count (placed_where led at u on)
  placed_where_sound count led at u None s = s
  placed_where_sound count led at u (Some on) s = placed_by_sound count led at u on (slice_get led.foreman.links on) refl s

  settled_at_sound : (count : ℕ → ℕ) (led : Led) (at : ℕ) (u : Option Upstream) → IsSound base told count led → IsSound base told count (settled_at led at u)
  settled_at_sound count led at None s = s
  settled_at_sound count led at (Some u) s = by (is_some u.spot)
    where
      by : (b : Bool) → IsSound base told count (cond b led (placed_where led at u (place_for led.foreman u.task)))
      by true = s
      by false = placed_where_sound count led at u (place_for led.foreman u.task) s

  settled_from_sound : (count : ℕ → ℕ) (left at : ℕ) (led : Led) → IsSound base told count led → IsSound base told count (settled_from left at led)
  settled_from_sound count zero at led s = s
  settled_from_sound count (suc left) at led s =
      settled_from_sound count left (at + 1) (settled_at led at (slice_get led.foreman.attempts at)) (settled_at_sound count led at (slice_get led.foreman.attempts at) s)

  settled_sound : (count : ℕ → ℕ) (led : Led) → IsSound base told count led → IsSound base told count (settled led)
  settled_sound count led s = settled_from_sound count (length led.foreman.attempts) 0 led s

  -- ---- from above

  put_sound : (f : Foreman) (key : Key) (content : List ℕ) (full : Bool) → Every (IsJoined base told) f.links
      → IsSound base told (λ k. there_under k f.links) (cond full (quiet f) (quiet (with_rows f (put_in f.cache.cap key content f.cache.rows))))
  put_sound f key content true all = quiet_sound f all
  put_sound f key content false all = quiet_sound (with_rows f (put_in f.cache.cap key content f.cache.rows)) all

  task_sound : (f : Foreman) (task : Task) (has holds : Bool) → Every (IsJoined base told) f.links
      → IsSound base told (λ k. there_under k f.links) (cond has (quiet f) (cond holds (takes f task) (misses f task)))
  task_sound f task true holds all = quiet_sound f all
  task_sound f task false true all =
      let next : Foreman = record { cache = f.cache; attempts = f.attempts ++ kept task ∷ []; links = f.links; next = f.next } in
      holding_sound (λ k. there_under k f.links) _ _ (settled_sound (λ k. there_under k f.links) (quiet next) (quiet_sound next all))
  task_sound f task false false all = record { workers = still f.links all; under = λ k. refl; stays = refl }

  closed_joined : (b : Below) (at : Option ℕ) → IsJoined base told b → IsJoined base told (in_session b (closed_where b.session at))
  closed_joined b None is = is
  closed_joined b (Some at) is = record { stage = is.stage; begun = is.begun; given = every_remove (IsGiven base b.link) b.session.attempts at is.given }

  closed_by_sound : (links : List Below) (number : AttemptNo) (on : ℕ) (b : Option Below) → slice_get links on ≡ b → Every (IsJoined base told) links
      → Every (IsJoined base told) (closed_by links number on b) × ((k : ℕ) → there_under k (closed_by links number on b) ≡ there_under k links)
  closed_by_sound links number on None got all = (all, λ k. refl)
  closed_by_sound links number on (Some b) got all = (
    every_set (IsJoined base told) links on (closing number b) (closed_joined b (place number b.session.attempts) (all b (get_stands links on b got))) all,
    λ k. there_set k links on b (closing number b) got refl,
  )

  closed_at_sound : (links : List Below) (number : AttemptNo) (on : Option ℕ) → Every (IsJoined base told) links
      → (let now = option_map_or (λ on. closed_by links number on (slice_get links on)) on links in Every (IsJoined base told) now × ((k : ℕ) → there_under k now ≡ there_under k links))
  closed_at_sound links number None all = (all, λ k. refl)
  closed_at_sound links number (Some on) all = closed_by_sound links number on (slice_get links on) refl all

  closed_on_sound : (links : List Below) (spot : Option Spot) → Every (IsJoined base told) links
      → Every (IsJoined base told) (closed_on links spot) × ((k : ℕ) → there_under k (closed_on links spot) ≡ there_under k links)
  closed_on_sound links None all = (all, λ k. refl)
  closed_on_sound links (Some spot) all = closed_at_sound links spot.number (place_of_link spot.link links) all

  cancels_at_sound : (f : Foreman) (at : ℕ) (found : Option Upstream) → Every (IsJoined base told) f.links → IsSound base told (λ k. there_under k f.links) (cancels_at f at found)
  cancels_at_sound f at None all = quiet_sound f all
  cancels_at_sound f at (Some u) all =
      let closed = closed_on_sound f.links u.spot all in
      let next : Foreman = record { cache = f.cache; attempts = remove f.attempts at; links = closed_on f.links u.spot; next = f.next } in
      holding_sound (λ k. there_under k f.links) _ _ (settled_sound (λ k. there_under k f.links) _ (sent_sound next (not_run u ∷ []) (cancel_at u.spot) (λ k. there_under k f.links) closed.0 closed.1))

  cancels_sound : (f : Foreman) (found : Option ℕ) → Every (IsJoined base told) f.links
      → IsSound base told (λ k. there_under k f.links) (option_map_or (λ at. cancels_at f at (slice_get f.attempts at)) found (quiet f))
  cancels_sound f None all = quiet_sound f all
  cancels_sound f (Some at) all = cancels_at_sound f at (slice_get f.attempts at) all

  -- What a message from above leaves of the workers.
  pub up_workers : (f : Foreman) (m : Message) → Every (IsJoined base told) f.links
      → Every (IsJoined (base ++ (hears_up f m).acts.down) told) (hears_up f m).foreman.links × ((k : ℕ) → there_under k (hears_up f m).foreman.links ≡ there_under k f.links)
  up_workers f (messages.Put key content) all = let s = put_sound f key content (is_full key (length content) f.cache.cap f.cache.rows) all in (s.workers, s.under)
  up_workers f (messages.Task task) all = let s = task_sound f task (is_some (place_of task.attempt f.attempts)) (holds_all f.cache.rows task.run task.inputs) all in (s.workers, s.under)
  up_workers f (messages.Cancel attempt) all = let s = cancels_sound f (place_of attempt f.attempts) all in (s.workers, s.under)
  up_workers f (messages.Unlink key) all = (still f.links all, λ k. refl)
  up_workers f (messages.Hello total largest cache) all = (still f.links all, λ k. refl)
  up_workers f (messages.Done attempt outcome) all = (still f.links all, λ k. refl)
  up_workers f (messages.Missing attempt files) all = (still f.links all, λ k. refl)
  up_workers f (messages.Totals total largest cache) all = (still f.links all, λ k. refl)
  up_workers f messages.Bye all = (still f.links all, λ k. refl)

  -- ---- lost links

  lost_sound : (f : Foreman) (k : LinkNo) → Every (IsJoined base told) f.links → IsSound base told (λ j. there_under j (others k f.links)) (lost f k)
  lost_sound f k all =
      let gone : List Upstream = filter (is_forsaken f k) f.attempts in
      let after : Foreman = record { cache = f.cache; attempts = map (off_link k) (filter (λ u. not (is_forsaken f k u)) f.attempts); links = others k f.links; next = f.next } in
      holding_sound (λ j. there_under j (others k f.links)) _ _
      (settled_sound (λ j. there_under j (others k f.links)) _
      (told_sound after (totals after ∷ map not_run gone) (λ j. there_under j (others k f.links)) (every_filter (IsJoined base told) (λ b. not (is_link k b)) f.links all) (λ j. refl)))

  -- What a lost link leaves of the workers: those at other links stay.
  pub lost_workers : (f : Foreman) (k : LinkNo) → Every (IsJoined base told) f.links
      → Every (IsJoined (base ++ (loses f k).acts.down) told) (loses f k).foreman.links × ((j : ℕ) → (k.0 ≡ j → ⊥) → there_under j (loses f k).foreman.links ≡ there_under j f.links)
  lost_workers f k all = by (is_some (place_of_link k f.links))
    where
      by : (b : Bool) → (let led = cond b (lost f k) (quiet f) in Every (IsJoined (base ++ led.acts.down) told) led.foreman.links × ((j : ℕ) → (k.0 ≡ j → ⊥) → there_under j led.foreman.links ≡ there_under j f.links))
      by true = let s = lost_sound f k all in (s.workers, λ j other. s.under j ∙ there_others j k f.links other)
      by false = (still f.links all, λ j other. refl)

  -- ---- words of a session

  restated_sound : (f : Foreman) (count : ℕ → ℕ) → Every (IsJoined base told) f.links → ((k : ℕ) → there_under k f.links ≡ count k) → IsSound base told count (restated f)
  restated_sound f count all same = settled_sound count _ (told_sound f (totals f ∷ []) count all same)

  ends_at_sound : (f : Foreman) (outcome : Outcome) (at : ℕ) (u : Option Upstream) → Every (IsJoined base told) f.links → IsSound base told (λ k. there_under k f.links) (ends_at f outcome at u)
  ends_at_sound f outcome at None all = quiet_sound f all
  ends_at_sound f outcome at (Some u) all =
      let next : Foreman = record { cache = f.cache; attempts = remove f.attempts at; links = f.links; next = f.next } in
      holding_sound (λ k. there_under k f.links) _ _ (settled_sound (λ k. there_under k f.links) _ (told_sound next (messages.Done u.task.attempt outcome ∷ []) (λ k. there_under k f.links) all (λ k. refl)))

  kept_at_sound : (f : Foreman) (at : ℕ) (u : Option Upstream) → Every (IsJoined base told) f.links → IsSound base told (λ k. there_under k f.links) (kept_at f at u)
  kept_at_sound f at None all = quiet_sound f all
  kept_at_sound f at (Some u) all =
      let next : Foreman = record { cache = f.cache; attempts = slice_set f.attempts at (kept u.task); links = f.links; next = f.next } in
      settled_sound (λ k. there_under k f.links) (quiet next) (quiet_sound next all)

  again_sound : (f : Foreman) (k : LinkNo) (number : AttemptNo) (files : List FileNo) (u : Option Upstream) → Every (IsJoined base told) f.links → IsSound base told (λ j. there_under j f.links) (puts_again f k number files u)
  again_sound f k number files None all = quiet_sound f all
  again_sound f k number files (Some u) all = record {
    workers = all_joined_more base (down_to k (puts_and_task f.cache.rows files (renumbered u.task number))) told f.links all;
    under = λ j. refl;
    stays = refl;
  }

  attempt_sound : (f : Foreman) (k : LinkNo) (number : AttemptNo) (does : ℕ → Option Upstream → Led) → Every (IsJoined base told) f.links → ((at : ℕ) (u : Option Upstream) → IsSound base told (λ j. there_under j f.links) (does at u))
      → IsSound base told (λ j. there_under j f.links) (with_attempt f k number does)
  attempt_sound f k number does all each = by (position (is_at k number) f.attempts)
    where
      by : (place : Option ℕ) → IsSound base told (λ j. there_under j f.links) (option_map_or (λ at. does at (slice_get f.attempts at)) place (quiet f))
      by None = quiet_sound f all
      by (Some at) = each at (slice_get f.attempts at)

  stated_sound : (links : List Below) (on : ℕ) (b : Option Below) (total largest : Amounts) (cache : ℕ) → slice_get links on ≡ b → Every (IsJoined base told) links
      → Every (IsJoined base told) (stated_at links on b total largest cache) × ((k : ℕ) → there_under k (stated_at links on b total largest cache) ≡ there_under k links)
  stated_sound links on None total largest cache got all = (all, λ k. refl)
  stated_sound links on (Some b) total largest cache got all =
      let now : Below = record { link = b.link; total = total; largest = largest; cache = cache; session = b.session } in
      let was = all b (get_stands links on b got) in (
        every_set (IsJoined base told) links on now (record { stage = was.stage; begun = was.begun; given = was.given }) all,
        λ k. there_set k links on b now got refl,
      )

  word_sound : (f : Foreman) (k : LinkNo) (on : ℕ) (m : Message) (word : Word) → Every (IsJoined base told) f.links → IsSound base told (λ j. there_under j f.links) (on_word f k on m word)
  word_sound f k on m (words.Joined total largest cache) all = quiet_sound f all
  word_sound f k on m (words.Changed total largest cache) all =
      let stated = stated_sound f.links on (slice_get f.links on) total largest cache refl all in
      restated_sound (record { cache = f.cache; attempts = f.attempts; links = stated_at f.links on (slice_get f.links on) total largest cache; next = f.next }) (λ j. there_under j f.links) stated.0 stated.1
  word_sound f k on m (words.Finish number) all = attempt_sound f k number (ends_at f (outcome_in m)) all (λ at u. ends_at_sound f (outcome_in m) at u all)
  word_sound f k on m (words.Fail number why) all = attempt_sound f k number (ends_at f (outcomes.Failed why)) all (λ at u. ends_at_sound f (outcomes.Failed why) at u all)
  word_sound f k on m (words.Lose number) all = attempt_sound f k number (kept_at f) all (λ at u. kept_at_sound f at u all)
  word_sound f k on m (words.PutAgain number files) all = attempt_sound f k number (λ at u. puts_again f k number files u) all (λ at u. again_sound f k number files u all)
  word_sound f k on m (words.Stale number) all = quiet_sound f all

-- ---- from below

-- What came over a link of this number misspeaks, once this message came behind those.
abbrev pub Misspeaks : List Down → LinkNo → List Message → Message → Type 0
Misspeaks base k heard m = (up : List ℕ) → BeginsWith up (heard ++ m ∷ []) → IsMisspoken (λ t. Stands (over k (messages.Task t)) base) up

-- Why a step leaves the link that a message came over: what came misspeaks, or it is a first hello and
-- as many workers live as may. Or it leaves none, and a worker is there.
abbrev pub Decides : List Down → Foreman → LinkNo → List Message → Message → List Below → Option LinkNo → Type 0
Decides base f k heard m now None = 1 ≤ there_under k.0 now
Decides base f k heard m now (Some j) = Misspeaks base k heard m ⊎ (IsHello m × (nat_lt (length f.links) most_links ≡ false))

-- ---- a session

again : (base : List Down) (k : LinkNo) (heard : List Message) (hello : Message) → IsHelloFirst heard → IsHello hello → Misspeaks base k heard hello
again base k [] hello first is up begins = absurd first
again base k (m ∷ between) hello first is up begins = loss.hello_again m hello between is begins

module _ (base : List Down) (k : LinkNo) (heard : List Message) (begun : IsHelloFirst heard) (s : State) (stage : s.stage ≡ stages.Greeted) (given : Every (IsGiven base k) s.attempts) where
  -- What a message comes to: the session's attempts are given as before, or what came misspeaks.
  abbrev pub Comes : Message → Result Word SessionFault → State → Type 0
  Comes m (Ok word) now = (now.stage ≡ stages.Greeted) × Every (IsGiven base k) now.attempts
  Comes m (Err why) now = Misspeaks base k heard m

  ended_fits : (attempt : AttemptNo) (outcome : Outcome) (at : ℕ) (o : Open) (t : Bool) → outcome_fits o.bounds outcome ≡ t → IsGiven base k o → o.attempt ≡ attempt
      → (let now = ended_by s attempt outcome at (Some o) in Comes (messages.Done attempt outcome) now.answer now.state)
  ended_fits attempt outcome at o true e is same = rw e (stage, every_remove (IsGiven base k) s.attempts at given)
  ended_fits attempt outcome at o false e is same =
      rw e (λ up begins. loss.unfit is.task (messages.Done attempt outcome) is.asked (heard, begins) (λ suits. fits_by is.task o.bounds outcome false is.bounds e (suits (sym same ∙ is.attempt))))

  ended_of : (attempt : AttemptNo) (outcome : Outcome) (at : ℕ) (p : Option Open) → slice_get s.attempts at ≡ p → place attempt s.attempts ≡ Some at
      → (let now = ended_by s attempt outcome at p in Comes (messages.Done attempt outcome) now.answer now.state)
  ended_of attempt outcome at None is here = (stage, given)
  ended_of attempt outcome at (Some o) is here =
      let there = placed attempt s.attempts at here in
      let same : there.it ≡ o = cc (sym there.there_it_is ∙ is) in
      ended_fits attempt outcome at o (outcome_fits o.bounds outcome) refl (given o (get_stands s.attempts at o is)) (sym (ap (λ (x : Open). x.attempt) same) ∙ there.of_it)

  ended : (attempt : AttemptNo) (outcome : Outcome) (p : Option ℕ) → place attempt s.attempts ≡ p → (let now = ended_at s attempt outcome p in Comes (messages.Done attempt outcome) now.answer now.state)
  ended attempt outcome None is = (stage, given)
  ended attempt outcome (Some at) is = ended_of attempt outcome at (slice_get s.attempts at) refl is

  missed_given : (o : Open) → IsGiven base k o → IsGiven base k (missed o)
  missed_given o is = record { task = is.task; asked = is.asked; attempt = is.attempt; files = is.files; bounds = is.bounds }

  lacked_few : (attempt : AttemptNo) (files : List FileNo) (at : ℕ) (o : Open) (t few : Bool) → has_all o.files files ≡ t → nat_lt o.misses most_misses ≡ few → IsGiven base k o → o.attempt ≡ attempt
      → (let now = lacked_by s attempt files at (Some o) in Comes (messages.Missing attempt files) now.answer now.state)
  lacked_few attempt files at o true true e f is same = rw (e, f) (stage, every_set (IsGiven base k) s.attempts at (missed o) (missed_given o is) given)
  lacked_few attempt files at o true false e f is same = rw (e, f) (stage, every_remove (IsGiven base k) s.attempts at given)
  lacked_few attempt files at o false few e f is same =
      rw e (λ up begins. loss.unfit is.task (messages.Missing attempt files) is.asked (heard, begins) (λ suits. takes_by is.task o.files files false is.files e (suits (sym same ∙ is.attempt))))

  lacked_of : (attempt : AttemptNo) (files : List FileNo) (at : ℕ) (p : Option Open) → slice_get s.attempts at ≡ p → place attempt s.attempts ≡ Some at
      → (let now = lacked_by s attempt files at p in Comes (messages.Missing attempt files) now.answer now.state)
  lacked_of attempt files at None is here = (stage, given)
  lacked_of attempt files at (Some o) is here =
      let there = placed attempt s.attempts at here in
      let same : there.it ≡ o = cc (sym there.there_it_is ∙ is) in
      lacked_few attempt files at o (has_all o.files files) (nat_lt o.misses most_misses) refl refl (given o (get_stands s.attempts at o is)) (sym (ap (λ (x : Open). x.attempt) same) ∙ there.of_it)

  lacked : (attempt : AttemptNo) (files : List FileNo) (p : Option ℕ) → place attempt s.attempts ≡ p → (let now = lacked_at s attempt files p in Comes (messages.Missing attempt files) now.answer now.state)
  lacked attempt files None is = (stage, given)
  lacked attempt files (Some at) is = lacked_of attempt files at (slice_get s.attempts at) refl is

  goes_wrong : (m : Message) → GoesDown m → Misspeaks base k heard m
  goes_wrong m down up begins = loss.goes_down m (heard, begins) down

  heard_so : (m : Message) → Comes m (hears s m).answer (hears s m).state
  heard_so (messages.Done attempt outcome) = ended attempt outcome (place attempt s.attempts) refl
  heard_so (messages.Missing attempt files) = lacked attempt files (place attempt s.attempts) refl
  heard_so (messages.Totals total largest cache) = (stage, given)
  heard_so (messages.Hello total largest cache) = again base k heard (messages.Hello total largest cache) begun tt
  heard_so (messages.Put key content) = goes_wrong (messages.Put key content) tt
  heard_so (messages.Task task) = goes_wrong (messages.Task task) tt
  heard_so (messages.Cancel attempt) = goes_wrong (messages.Cancel attempt) tt
  heard_so (messages.Unlink key) = goes_wrong (messages.Unlink key) tt
  heard_so messages.Bye = goes_wrong messages.Bye tt

  -- What any message comes to.
  pub means_so : (m : Message) → Comes m (means s m).answer (means s m).state
  means_so m = subst (λ (x : Stage). let now = told_by s m x in Comes m now.answer now.state) (sym stage) (heard_so m)

-- What a message from below leaves of the workers, and of its link.
pub record IsLedDown (base told : List Down) (f : Foreman) (k : LinkNo) (m : Message) (led : Led) : Type 0 where
  pub workers : Every (IsJoined (base ++ led.acts.down) (told ++ over k m ∷ [])) led.foreman.links
  pub rest : (j : ℕ) → (k.0 ≡ j → ⊥) → there_under j led.foreman.links ≡ there_under j f.links
  pub decides : Decides base f k (from_link k.0 told) m led.foreman.links led.acts.leave

module _ (base told : List Down) (f : Foreman) (k : LinkNo) (all : Every (IsJoined base told) f.links) where
  -- those messages that came by now
  now_told : Message → List Down
  now_told m = told ++ over k m ∷ []

  all_now : (m : Message) → Every (IsJoined base (told ++ over k m ∷ [])) f.links
  all_now m b there = joined_told base told k m b (all b there)

  dropped : (m : Message) → Misspeaks base k (from_link k.0 told) m ⊎ (IsHello m × (nat_lt (length f.links) most_links ≡ false)) → IsLedDown base told f k m (drops f k)
  dropped m why = let l = lost_workers base (told ++ over k m ∷ []) f k (all_now m) in record { workers = l.0; rest = l.1; decides = why }

  -- ---- a first message

  no_hello_first : (m : Message) → from_link k.0 told ≡ [] → (IsHello m → ⊥) → IsLedDown base told f k m (drops f k)
  no_hello_first m none other = dropped m (inl (λ up begins. loss.no_hello m (subst (λ (ms : List Message). BeginsWith up (ms ++ m ∷ [])) none begins) other))

  greets : (total largest : Amounts) (cache : ℕ) (t : Bool) → from_link k.0 told ≡ [] → nat_lt (length f.links) most_links ≡ t
      → (let session : State = record { run = 0; stage = stages.Greeted; known = []; attempts = [] } in
      let b : Below = record { link = k; total = total; largest = largest; cache = cache; session = session } in
      IsLedDown base told f k (messages.Hello total largest cache) (cond t (restated (record { cache = f.cache; attempts = f.attempts; links = joined b f.links; next = f.next })) (drops f k)))
  greets total largest cache false none is = dropped (messages.Hello total largest cache) (inr (tt, is))
  greets total largest cache true none is =
      let m : Message = messages.Hello total largest cache in
      let session : State = record { run = 0; stage = stages.Greeted; known = []; attempts = [] } in
      let b : Below = record { link = k; total = total; largest = largest; cache = cache; session = session } in
      let next : Foreman = record { cache = f.cache; attempts = f.attempts; links = joined b f.links; next = f.next } in
      let count : ℕ → ℕ = λ j. one_if k.0 j + there_under j f.links in
      let begun : IsHelloFirst (from_link k.0 (told ++ over k m ∷ [])) = subst IsHelloFirst (sym (from_next k.0 told k m refl)) (subst (λ (ms : List Message). IsHelloFirst (ms ++ m ∷ [])) (sym none) tt) in
      let s = restated_sound base (told ++ over k m ∷ []) next count
      (every_joined (IsJoined base (told ++ over k m ∷ [])) b f.links (record { stage = refl; begun = begun; given = every_nil (IsGiven base k) }) (all_now m)) (λ j. there_joined j b f.links) in
      record {
        workers = s.workers;
        rest = λ j other. s.under j ∙ (let n : one_if k.0 j + there_under j f.links ≡ there_under j f.links = omega (arith, apart j other) in n);
        decides = subst (λ (o : Option LinkNo). Decides base f k (from_link k.0 told) m (restated next).foreman.links o) (sym s.stays) (omega (arith, s.under k.0, one_is k.0 k.0 refl));
      }
    where
      apart : (j : ℕ) → (k.0 ≡ j → ⊥) → one_if k.0 j ≡ 0
      apart j other = by (same_or k.0 j)
        where
          by : (k.0 ≡ j) ⊎ ((k.0 == j) ≡ false) → one_if k.0 j ≡ 0
          by (inl same) = absurd (other same)
          by (inr no_one) = one_other k.0 j no_one

  first : (m : Message) → from_link k.0 told ≡ [] → IsLedDown base told f k m (greeted f k (means new_session m).state (means new_session m).answer)
  first (messages.Hello total largest cache) none = greets total largest cache (nat_lt (length f.links) most_links) none refl
  first (messages.Put key content) none = no_hello_first (messages.Put key content) none (λ is. is)
  first (messages.Task task) none = no_hello_first (messages.Task task) none (λ is. is)
  first (messages.Done attempt outcome) none = no_hello_first (messages.Done attempt outcome) none (λ is. is)
  first (messages.Missing attempt files) none = no_hello_first (messages.Missing attempt files) none (λ is. is)
  first (messages.Cancel attempt) none = no_hello_first (messages.Cancel attempt) none (λ is. is)
  first (messages.Unlink key) none = no_hello_first (messages.Unlink key) none (λ is. is)
  first (messages.Totals total largest cache) none = no_hello_first (messages.Totals total largest cache) none (λ is. is)
  first messages.Bye none = no_hello_first messages.Bye none (λ is. is)

  -- ---- a further message

  module _ (on : ℕ) (b : Below) (got : slice_get f.links on ≡ Some b) (is : b.link ≡ k) where
    was : IsJoined base told b
    was = all b (get_stands f.links on b got)

    begun : IsHelloFirst (from_link k.0 told)
    begun = subst (λ (n : LinkNo). IsHelloFirst (from_link n.0 told)) is was.begun

    given : Every (IsGiven base k) b.session.attempts
    given = subst (λ (n : LinkNo). Every (IsGiven base n) b.session.attempts) is was.given

    further : (m : Message) (answer : Result Word SessionFault) (now : State) → Comes base k (from_link k.0 told) begun b.session was.stage given m answer now
        → IsLedDown base told f k m (on_told f k on m (slice_set f.links on (in_session b now)) answer)
    further m (Err why) now wrong = dropped m (inl wrong)
    further m (Ok word) now comes =
        let then : Below = in_session b now in
        let links : List Below = slice_set f.links on then in
        let next : Foreman = record { cache = f.cache; attempts = f.attempts; links = links; next = f.next } in
        let joined_then : IsJoined base (told ++ over k m ∷ []) then =
        record { stage = comes.0; begun = begun_more b.link.0 told k m was.begun; given = subst (λ (n : LinkNo). Every (IsGiven base n) now.attempts) (sym is) comes.1 } in
        let s = word_sound base (told ++ over k m ∷ []) next k on m word (every_set (IsJoined base (told ++ over k m ∷ [])) f.links on then joined_then (all_now m)) in
        let same : (j : ℕ) → there_under j links ≡ there_under j f.links = λ j. there_set j f.links on b then got refl in
        let there : 1 ≤ there_under k.0 f.links = subst (λ (n : LinkNo). 1 ≤ there_under n.0 f.links) is (there_got f.links on b got) in
        record {
          workers = s.workers;
          rest = λ j other. s.under j ∙ same j;
          decides = subst (λ (o : Option LinkNo). Decides base f k (from_link k.0 told) m (on_word next k on m word).foreman.links o) (sym s.stays) (omega (arith, s.under k.0, same k.0, there));
        }

    behind : (m : Message) → IsLedDown base told f k m (heard_at f k on m (Some b))
    behind m = further m (means b.session m).answer (means b.session m).state (means_so base k (from_link k.0 told) begun b.session was.stage given m)

  -- any worker
  any_one : Below
  any_one = record { link = k; total = record { cores = 0; memory = 0; disk = 0 }; largest = record { cores = 0; memory = 0; disk = 0 }; cache = 0; session = new_session }

  at_place : (m : Message) (on : ℕ) (b : Option Below) → place_of_link k f.links ≡ Some on → slice_get f.links on ≡ b → IsLedDown base told f k m (heard_at f k on m b)
  at_place m on (Some b) found got = behind on b got (found_is k f.links on b found got) m
  at_place m on None found got =
      let lt = (position-Some (is_link k) f.links on any_one found).0 in
      absurd (let wrong : ⊥ = cc (sym got ∙ slice_get-get_or f.links on any_one lt) in wrong)

  by_place : (m : Message) (found : Option ℕ) → place_of_link k f.links ≡ found → (there_under k.0 f.links ≡ 0 → from_link k.0 told ≡ []) → IsLedDown base told f k m (heard_where f k m found)
  by_place m None is fresh = first m (fresh (nowhere k f.links is))
  by_place m (Some on) is fresh = at_place m on (slice_get f.links on) is refl

  -- What a message from below leaves of the workers, and of its link, where nothing came there while no
  -- worker is there.
  pub down_workers : (m : Message) → (there_under k.0 f.links ≡ 0 → from_link k.0 told ≡ []) → IsLedDown base told f k m (hears_down f k m)
  down_workers m fresh = by_place m (place_of_link k f.links) refl fresh
