-- The links of a master as links join, leave and state anew.
use Rattle.std.proofs.Common.{◌≡◌, inl, inr, ◌<◌, ◌≤◌, ◌+◌, ℕ, zero, suc, Bool, true, false, cond, not, List, [], ◌∷◌, ◌++◌, refl, ap, sym, ◌∙◌, subst, arith, map}
use Rattle.std.specs.Prelude.{filter, is_some, ◌==◌}
use Rattle.std.specs.List.{range_with_len}
use Rattle.std.proofs.lemmas.List.{map-append}
use Rattle.flow_types.specs.declared.plan.Plan.{Plan}
use Rattle.flow_types.specs.declared.numbers.Amounts.{Amounts}
use Rattle.flow_types.specs.declared.numbers.LinkNo.{LinkNo}
use Rattle.flow_types.specs.declared.records.Record.{Record}
use Rattle.flow_types.specs.Plans.{numbers}
use Rattle.run_history.specs.declared.options.Options.{Options}
use Rattle.run_history.specs.declared.moves.Move.{Move}
use Rattle.run_history.specs.declared.moves.Move.TheVariants as moves
use Rattle.run_history.specs.Links.{is_live, records_of}
use Rattle.run_history.specs.Moves.{live_links, next_link}
use Rattle.run_history.proofs.Grows.{records-push, records-same}
use Rattle.link_session.specs.declared.open.Open.{Open}
use Rattle.task_core.specs.declared.rows.LinkEntry.{LinkEntry}
use Rattle.task_core.specs.Links.{restated}
use Rattle.task_core.specs.Stands.{Stands, logged as moves_with}
use Rattle.task_core.specs.States.{TableState, is_entry, link_at}
use Rattle.task_core.proofs.Linking.{changed-stands, joined-stands, left-stands}
use Rattle.task_core.proofs.Standing.{live-same}
use Rattle.world_laws.specs.Members.{Every}
use Rattle.world_laws.specs.Worlds.{Connection, at_link}
use Rattle.net_world.specs.Plays.{AreOurs, IsOurs}
use Rattle.world_laws.proofs.Grows.{Keeps, keeps_more}

-- the number of an entry's link
abbrev number : LinkEntry → ℕ
number entry = entry.link.0

-- the numbers of these links
abbrev pub numbers_of : List Connection → List ℕ
numbers_of connections = map (λ c. c.link) connections

-- the moves of a world go on: the same links live, and attempts keep their rules
pub record GoesOn (O : Options) (M N : List Move) : Type 0 where
  pub live : live_links O N ≡ live_links O M
  pub keeps : Keeps (records_of M) (records_of N)

pub goes_nowhere : (O : Options) (M : List Move) → GoesOn O M M
goes_nowhere O M = record { live = refl; keeps = λ a r at. at }

pub goes_logged : (O : Options) (M : List Move) (x : Record) → GoesOn O M (moves_with M x)
goes_logged O M x = record {
  live = live-same O M x;
  keeps = subst (Keeps (records_of M)) (sym (records-push M x)) (keeps_more (records_of M) (x ∷ []));
}

-- a move that logs nothing keeps the rules of attempts
pub keeps_silent : (M : List Move) (m : Move) → records_of (m ∷ []) ≡ [] → Keeps (records_of M) (records_of (M ++ (m ∷ [])))
keeps_silent M m silent = subst (Keeps (records_of M)) (sym (records-same M m silent)) (λ a r at. at)

-- ---- links that live

pub joined_links : (O : Options) (t : TableState) (M : List Move) (link : LinkNo) (total largest : Amounts) (cache : ℕ) → link.0 ≡ next_link M → t.options ≡ O → Stands t M
    → live_links O (M ++ (moves.Joined link total largest cache ∷ [])) ≡ live_links O M ++ (link.0 ∷ [])
joined_links O t M link total largest cache next same stands =
    let e : LinkEntry = record { link = link; total = total; largest = largest; cache = cache } in
    let after = joined-stands t M link total largest cache next stands in
    subst (λ O. live_links O (M ++ (moves.Joined link total largest cache ∷ [])) ≡ live_links O M ++ (link.0 ∷ [])) same
    (sym after.live ∙ ap (λ (xs : List ℕ). 0 ∷ xs) (map-append number t.links (e ∷ [])) ∙ ap (λ (xs : List ℕ). xs ++ (link.0 ∷ [])) stands.live)

filtered_by : {A : Type 0} (f : A → ℕ) (l : ℕ) (x : A) (xs : List A) (b : Bool) → map f (filter (λ y. not (f y == l)) xs) ≡ filter (λ k. not (k == l)) (map f xs)
    → map f (cond b (x ∷ filter (λ y. not (f y == l)) xs) (filter (λ y. not (f y == l)) xs)) ≡ cond b (f x ∷ filter (λ k. not (k == l)) (map f xs)) (filter (λ k. not (k == l)) (map f xs))
filtered_by f l x xs true rest = ap (λ (ks : List ℕ). f x ∷ ks) rest
filtered_by f l x xs false rest = rest

-- the numbers of those that aren't l are the numbers that aren't
filtered_numbers : {A : Type 0} (f : A → ℕ) (l : ℕ) (xs : List A) → map f (filter (λ x. not (f x == l)) xs) ≡ filter (λ k. not (k == l)) (map f xs)
filtered_numbers f l [] = refl
filtered_numbers f l (x ∷ xs) = filtered_by f l x xs (not (f x == l)) (filtered_numbers f l xs)

-- the links without one are those that live once it has left
pub left_links : (O : Options) (t : TableState) (M : List Move) (link : LinkNo) (cs : List Connection) → 0 < link.0 → t.options ≡ O → Stands t M → 0 ∷ numbers_of cs ≡ live_links O M
    → 0 ∷ numbers_of (filter (λ c. not (at_link link.0 c)) cs) ≡ live_links O (M ++ (moves.Left link ∷ []))
left_links O t M link cs other same stands live =
    let after = left-stands t M link other stands in
    let was : 0 ∷ numbers_of cs ≡ 0 ∷ map number t.links = live ∙ ap (λ O. live_links O M) (sym same) ∙ sym stands.live in
    let entries : numbers_of cs ≡ map number t.links = cc in
    ap (λ (ks : List ℕ). 0 ∷ ks)
    (filtered_numbers (λ c. c.link) link.0 cs ∙ ap (filter (λ k. not (k == link.0))) entries ∙ sym (filtered_numbers number link.0 t.links))
    ∙ after.live ∙ ap (λ O. live_links O (M ++ (moves.Left link ∷ []))) same

restated_by : (l : ℕ) (total largest : Amounts) (cache : ℕ) (e : LinkEntry) (b : Bool)
    → number (cond b (let entry : LinkEntry = record { link = e.link; total = total; largest = largest; cache = cache } in entry) e) ≡ number e
restated_by l total largest cache e true = refl
restated_by l total largest cache e false = refl

restated_all : (l : ℕ) (total largest : Amounts) (cache : ℕ) (es : List LinkEntry) → map number (map (restated l total largest cache) es) ≡ map number es
restated_all l total largest cache [] = refl
restated_all l total largest cache (e ∷ es) =
    ap (λ n. n ∷ map number (map (restated l total largest cache) es)) (restated_by l total largest cache e (is_entry l e))
    ∙ ap (λ (ns : List ℕ). number e ∷ ns) (restated_all l total largest cache es)

-- the same links live once one stated anew
pub changed_links : (O : Options) (t : TableState) (M : List Move) (link : LinkNo) (total largest : Amounts) (cache : ℕ) → is_some (link_at t link.0) ≡ true → t.options ≡ O → Stands t M
    → live_links O (M ++ (moves.Changed link total largest cache ∷ [])) ≡ live_links O M
changed_links O t M link total largest cache lives same stands =
    let after = changed-stands t M link total largest cache lives stands in
    subst (λ O. live_links O (M ++ (moves.Changed link total largest cache ∷ [])) ≡ live_links O M) same
    (sym after.live ∙ ap (λ (ns : List ℕ). 0 ∷ ns) (restated_all link.0 total largest cache t.links) ∙ stands.live)

-- ---- their numbers

-- the numbers ascend, above this one
abbrev pub Ascends : ℕ → List ℕ → Type 0
Ascends a [] = Unit {0}
Ascends a (x ∷ xs) = (a < x) × Ascends x xs

ascends_from : (a b : ℕ) (xs : List ℕ) → a ≤ b → Ascends b xs → Ascends a xs
ascends_from a b [] less all = tt
ascends_from a b (x ∷ xs) less all = (omega (arith, less, all.0), all.1)

kept_ascends : (p : ℕ → Bool) (x : ℕ) (xs : List ℕ) (b : Bool) → Ascends x (filter p xs) → (a : ℕ) → a < x → Ascends a (cond b (x ∷ filter p xs) (filter p xs))
kept_ascends p x xs true rest a less = (less, rest)
kept_ascends p x xs false rest a less = ascends_from a x (filter p xs) (omega (arith, less)) rest

range_ascends : (p : ℕ → Bool) (a s n : ℕ) → a < s → Ascends a (filter p (range_with_len s n))
range_ascends p a s zero less = tt
range_ascends p a s (suc n) less = kept_ascends p s (range_with_len (s + 1) n) (p s) (range_ascends p s (s + 1) n (omega arith)) a less

first_kept : (p : ℕ → Bool) (n : ℕ) (b : Bool) (ks : List ℕ) → 0 ∷ ks ≡ cond b (0 ∷ filter p (range_with_len 1 n)) (filter p (range_with_len 1 n)) → Ascends 0 ks
first_kept p n true ks is = let same : ks ≡ filter p (range_with_len 1 n) = cc in subst (Ascends 0) (sym same) (range_ascends p 0 1 n (omega arith))
first_kept p n false ks is = later (filter p (range_with_len 1 n)) (range_ascends p 0 1 n (omega arith)) is
  where
    later : (xs : List ℕ) → Ascends 0 xs → 0 ∷ ks ≡ xs → Ascends 0 ks
    later [] all is = absurd (let h : ⊥ = cc in h)
    later (x ∷ xs) all is = let same : 0 ≡ x = cc in absurd (omega (arith, all.0, same))

-- the links of a master are numbered upward
pub links_ascend : (O : Options) (M : List Move) (cs : List Connection) → 0 ∷ numbers_of cs ≡ live_links O M → Ascends 0 (numbers_of cs)
links_ascend O M cs live = by (next_link M) refl
  where
    by : (n : ℕ) → next_link M ≡ n → Ascends 0 (numbers_of cs)
    by zero is = absurd (omega (arith, is))
    by (suc n) is = first_kept (is_live O M) n (is_live O M 0) (numbers_of cs) (live ∙ ap (λ n. filter (is_live O M) (numbers n)) is)

-- none of them is the local place
pub above : (a : ℕ) (cs : List Connection) → Ascends a (numbers_of cs) → Every (λ c. a < c.link) cs
above a [] all c there = absurd there
above a (d ∷ ds) all c (inl same) = subst (λ c. a < c.link) (sym same) all.0
above a (d ∷ ds) all c (inr there) = let more : d.link < c.link = above d.link ds all.1 c there in omega (arith, more, all.0)

pub none_local : (O : Options) (M : List Move) (cs : List Connection) → 0 ∷ numbers_of cs ≡ live_links O M → Every (λ c. 0 < c.link) cs
none_local O M cs live = above 0 cs (links_ascend O M cs live)

-- ---- what is open there

our_keeps : (P : Plan) (H H' : List Record) (o : Open) → Keeps H H' → IsOurs P H o → IsOurs P H' o
our_keeps P H H' o keeps is = record { number = is.number; rule = is.rule; started = keeps o.attempt.0 is.number is.started; in_plan = is.in_plan; bounds = is.bounds }

-- what was started stays so
pub ours_keep : (P : Plan) (H H' : List Record) (cs : List Connection) → Keeps H H' → Every (AreOurs P H) cs → Every (AreOurs P H') cs
ours_keep P H H' cs keeps all c there o here = our_keeps P H H' o keeps (all c there o here)
