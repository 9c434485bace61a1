-- Links that are named by moves, and attempts that were started there.
use Rattle.std.proofs.Common.{◌≡◌, ◌≢◌, ◌∙◌, ⊎_elim, ℕ, Bool, true, false, cond, ◌&&◌, List, [], ◌∷◌, ◌++◌, Option, Some, None, refl, sym, ap, subst, true≢false}
use Rattle.std.specs.Prelude.{◌==◌, ◌||◌, filter, is_some, not, unwrap_or}
use Rattle.std.specs.List.{last_or, list_any}
use Rattle.std.specs.Option.{option_and_then, option_map_or}
use Rattle.std.proofs.lemmas.Bool.{and_parts, eqb-false, eqb-true, false_from_ne_true, or_cases, or_left, or_parts, or_right}
use Rattle.std.proofs.lemmas.List.Folds.{list_any-append}
use Rattle.flow_types.specs.declared.plan.Plan.{Plan}
use Rattle.flow_types.specs.declared.records.Record.{Record}
use Rattle.flow_types.specs.declared.records.Record.TheVariants as records
use Rattle.run_history.specs.declared.moves.Move.{Move}
use Rattle.run_history.specs.declared.moves.Move.TheVariants as moves
use Rattle.run_history.specs.declared.options.Options.{Options}
use Rattle.run_history.specs.History.{after_last, is_cleaned, is_opening, last_said, part}
use Rattle.run_history.specs.Legal.{is_allowed, is_legal}
use Rattle.run_history.specs.Links.{is_live, local_row, names_link, row_in}
use Rattle.run_history.specs.States.{Place, running_in, running_says}
use Rattle.run_history.specs.Storage.{is_running}
use Rattle.run_history.proofs.Along.{kept-legal}
use Rattle.run_history.proofs.Steps.{running-opened, running-push}
use Rattle.desk.specs.State.{is_place, runs_with}
use Rattle.local_run.specs.Links.{link_moves}
use Rattle.local_run.specs.Losses.{starts_away, starts_on}

itself : (n : ℕ) → (n == n) ≡ true
itself n = by_itself (n == n) refl
  where
    by_itself : (b : Bool) → (n == n) ≡ b → b ≡ true
    by_itself true is = refl
    by_itself false is = absurd (eqb-false n n is refl)

-- ---- named links

abbrev is_nothing : List Move → Bool
is_nothing [] = true
is_nothing (m ∷ ms) = false

-- where no move is of a link none names one
unnamed : (k : ℕ) (M : List Move) → link_moves M ≡ [] → list_any (names_link k) M ≡ false
unnamed k [] none = refl
unnamed k (moves.Logged x ∷ rest) none = unnamed k rest none
unnamed k (moves.Joined link total largest cache ∷ rest) none = absurd (true≢false (sym (ap is_nothing none)))
unnamed k (moves.Changed link total largest cache ∷ rest) none = absurd (true≢false (sym (ap is_nothing none)))
unnamed k (moves.Left link ∷ rest) none = absurd (true≢false (sym (ap is_nothing none)))

pub named_unlinked : (k : ℕ) (M : List Move) → list_any (names_link k) M ≡ true → link_moves M ≡ [] → ⊥
named_unlinked k M named none = true≢false (sym named ∙ unnamed k M none)

none_of : {A : Type 0} (test : A → Bool) (xs : List A) → list_any test xs ≡ false → filter test xs ≡ []
none_of test [] none = refl
none_of {A} test (x ∷ xs) none =
    let parts = or_parts (test x) (list_any test xs) none in
    ap (λ (b : Bool). cond b (x ∷ filter test xs) (filter test xs)) parts.0 ∙ none_of test xs parts.1

-- a link other than the local place that lives is named by a move
pub live_named : (O : Options) (M : List Move) (k : ℕ) → k ≢ 0 → is_live O M k ≡ true → list_any (names_link k) M ≡ true
live_named O M k beyond lives = by_test (list_any (names_link k) M) refl
  where
    other : (k == 0) ≡ false
    other = false_from_ne_true (k == 0) (λ is. beyond (eqb-true k 0 is))

    row : (named : List Move) → cond (k == 0) (Some (local_row O)) (option_and_then row_in (last_or None named)) ≡ option_and_then row_in (last_or None named)
    row named = ap (λ (b : Bool). cond b (Some (local_row O)) (option_and_then row_in (last_or None named))) other

    by_test : (b : Bool) → list_any (names_link k) M ≡ b → b ≡ true
    by_test true is = refl
    by_test false is =
        let empty : filter (names_link k) M ≡ [] = none_of (names_link k) M is in
        let dead : is_live O M k ≡ false = ap is_some (row (filter (names_link k) M) ∙ ap (λ (l : List Move). option_and_then row_in (last_or None l)) empty) in
        absurd (true≢false (sym lives ∙ dead))

named_links : (k : ℕ) (M : List Move) → filter (names_link k) M ≡ filter (names_link k) (link_moves M)
named_links k [] = refl
named_links k (moves.Logged x ∷ rest) = named_links k rest
named_links k (moves.Joined link total largest cache ∷ rest) = ap (λ (l : List Move). cond (link.0 == k) (moves.Joined link total largest cache ∷ l) l) (named_links k rest)
named_links k (moves.Changed link total largest cache ∷ rest) = ap (λ (l : List Move). cond (link.0 == k) (moves.Changed link total largest cache ∷ l) l) (named_links k rest)
named_links k (moves.Left link ∷ rest) = ap (λ (l : List Move). cond (link.0 == k) (moves.Left link ∷ l) l) (named_links k rest)

-- which links live is told by the moves of links
pub live_links : (O : Options) (M : List Move) (k : ℕ) → is_live O M k ≡ is_live O (link_moves M) k
live_links O M k = ap (λ (l : List Move). is_some (cond (k == 0) (Some (local_row O)) (option_and_then row_in (last_or None l)))) (named_links k M)

-- ---- attempts that were started

-- each attempt that runs was started on its link
abbrev StartedThere : List Record → Type 0
StartedThere H = (r : ℕ) (p : Place) → running_in H r ≡ Some p → list_any (starts_on p.1.0 r p.0.0) H ≡ true

first_started : (H : List Record) → part H ≡ [] → StartedThere H
first_started H first r p some =
    let none : running_in H r ≡ None = ap (λ (xs : List Record). unwrap_or (last_said (running_says r) (after_last is_opening xs)) None) first in
    absurd (true≢false (sym (ap is_some (sym none ∙ some))))

-- it names no attempt
silent : (says : Option (Option Place)) (q : Place) → option_map_or (λ (o : Option Place). is_some o) says false ≡ false → says ≡ Some (Some q) → ⊥
silent says q none is = true≢false (sym (ap (λ (s : Option (Option Place)). option_map_or (λ (o : Option Place). is_some o) s false) is) ∙ none)

closed : (b : Bool) → let none : Option Place = None in option_map_or (λ (o : Option Place). is_some o) (cond b (Some none) None) false ≡ false
closed true = refl
closed false = refl

named_place : (b : Bool) (place q : Place) → cond b (Some (Some place)) None ≡ Some (Some q) → (b ≡ true) × (place.0.0 ≡ q.0.0) × (place.1.0 ≡ q.1.0)
named_place true place q is = (
  refl,
  ap (λ (s : Option (Option Place)). option_map_or (λ (o : Option Place). option_map_or (λ (p : Place). p.0.0) o 0) s 0) is,
  ap (λ (s : Option (Option Place)). option_map_or (λ (o : Option Place). option_map_or (λ (p : Place). p.1.0) o 0) s 0) is,
)
named_place false place q is = absurd (true≢false (sym (ap is_some is)))

all_so : (a b c : Bool) → a ≡ true → b ≡ true → c ≡ true → (a && b && c) ≡ true
all_so true true true one two three = refl
all_so false b c one two three = absurd (true≢false (sym one))
all_so true false c one two three = absurd (true≢false (sym two))
all_so true true false one two three = absurd (true≢false (sym three))

-- a record that has an attempt run on a link starts it there
said_start : (x : Record) (r : ℕ) (q : Place) → running_says r x ≡ Some (Some q) → starts_on q.1.0 r q.0.0 x ≡ true
said_start (records.Opened moment run retries limit plan sources) r q says = absurd (silent _ q refl says)
said_start (records.Resumed moment run retries limit) r q says = absurd (silent _ q refl says)
said_start (records.Started moment rule attempt link) r q says =
    let is = named_place (rule.0 == r) (attempt, link) q says in
    all_so (rule.0 == r) (attempt.0 == q.0.0) (link.0 == q.1.0) is.0 (ap (λ (n : ℕ). n == q.0.0) is.1 ∙ itself q.0.0) (ap (λ (n : ℕ). n == q.1.0) is.2 ∙ itself q.1.0)
said_start (records.Done moment rule attempt outs) r q says = absurd (silent _ q (closed (rule.0 == r)) says)
said_start (records.Failed moment rule attempt why) r q says = absurd (silent _ q (closed (rule.0 == r)) says)
said_start (records.Lost moment rule attempt) r q says = absurd (silent _ q (closed (rule.0 == r)) says)
said_start (records.Dropped moment file) r q says = absurd (silent _ q refl says)
said_start (records.Ended moment kind) r q says = absurd (silent _ q refl says)

by_says : (says : Option (Option Place)) (old : Option Place) (p : Place) (Q : Type 0) → option_map_or (λ o. o) says old ≡ Some p → (says ≡ Some (Some p) → Q) → (old ≡ Some p → Q) → Q
by_says None old p Q is said was = was is
by_says (Some o) old p Q is said was = said (ap (λ (place : Option Place). Some place) is)

step_started : (P : Plan) (digest : List ℕ) (H : List Record) (x : Record) → is_cleaned x ≡ false → is_allowed P digest H x ≡ true → StartedThere H → StartedThere (H ++ (x ∷ []))
step_started P digest H x more allowed was r p some = by_kind (is_opening x) refl
  where
    whole : list_any (starts_on p.1.0 r p.0.0) (H ++ (x ∷ [])) ≡ (list_any (starts_on p.1.0 r p.0.0) H || (starts_on p.1.0 r p.0.0 x || false))
    whole = list_any-append (starts_on p.1.0 r p.0.0) H (x ∷ [])

    by_kind : (b : Bool) → is_opening x ≡ b → list_any (starts_on p.1.0 r p.0.0) (H ++ (x ∷ [])) ≡ true
    by_kind true opens = absurd (true≢false (sym (ap is_some (sym (running-opened H x r more opens) ∙ some))))
    by_kind false stays =
        by_says (running_says r x) (running_in H r) p (list_any (starts_on p.1.0 r p.0.0) (H ++ (x ∷ [])) ≡ true) (sym (running-push H x r more stays) ∙ some)
        (λ says. whole ∙ or_right (list_any (starts_on p.1.0 r p.0.0) H) (starts_on p.1.0 r p.0.0 x || false) (or_left (starts_on p.1.0 r p.0.0 x) false (said_start x r p says)))
        (λ old. whole ∙ or_left (list_any (starts_on p.1.0 r p.0.0) H) (starts_on p.1.0 r p.0.0 x || false) (was r p old))

-- in a legal history an attempt that runs was started on its link
pub runs_started_on : (P : Plan) (digest : List ℕ) (H : List Record) (r number link : ℕ) → is_legal P digest H ≡ true → runs_with H r number link ≡ true → list_any (starts_on link r number) H ≡ true
runs_started_on P digest H r number link legal runs =
    by_place (running_in H r) refl (and_parts (is_running H r) (option_map_or (is_place number link) (running_in H r) false) runs).1
  where
    by_place : (o : Option Place) → running_in H r ≡ o → option_map_or (is_place number link) o false ≡ true → list_any (starts_on link r number) H ≡ true
    by_place None is at = absurd (true≢false (sym at))
    by_place (Some p) is at =
        let parts = and_parts (p.0.0 == number) (p.1.0 == link) at in
        subst (λ (k : ℕ). list_any (starts_on k r number) H ≡ true) (eqb-true p.1.0 link parts.1)
        (subst (λ (n : ℕ). list_any (starts_on p.1.0 r n) H ≡ true) (eqb-true p.0.0 number parts.0)
        (kept-legal P digest StartedThere (record { start = first_started; step = step_started P digest }) H legal r p is))

any_weaker : {A : Type 0} (p q : A → Bool) → ((x : A) → p x ≡ true → q x ≡ true) → (xs : List A) → list_any p xs ≡ true → list_any q xs ≡ true
any_weaker p q weaker [] any = any
any_weaker p q weaker (x ∷ xs) any =
    ⊎_elim (λ here. or_left (q x) (list_any q xs) (weaker x here)) (λ rest. or_right (q x) (list_any q xs) (any_weaker p q weaker xs rest)) (or_cases (p x) (list_any p xs) any)

away_so : (a b c d : Bool) → (a && b && c) ≡ true → (c ≡ true → d ≡ false) → (a && b && not d) ≡ true
away_so false b c d all away = all
away_so true false c d all away = all
away_so true true true true all away = absurd (true≢false (away refl))
away_so true true true false all away = refl
away_so true true false d all away = absurd (true≢false (sym all))

on_away : (link r number : ℕ) → link ≢ 0 → (x : Record) → starts_on link r number x ≡ true → starts_away r number x ≡ true
on_away link r number beyond (records.Opened moment run retries limit plan sources) is = is
on_away link r number beyond (records.Resumed moment run retries limit) is = is
on_away link r number beyond (records.Started moment rule attempt at) is =
    away_so (rule.0 == r) (attempt.0 == number) (at.0 == link) (at.0 == 0) is
    (λ there. false_from_ne_true (at.0 == 0) (λ zero. beyond (sym (eqb-true at.0 link there) ∙ eqb-true at.0 0 zero)))
on_away link r number beyond (records.Done moment rule attempt outs) is = is
on_away link r number beyond (records.Failed moment rule attempt why) is = is
on_away link r number beyond (records.Lost moment rule attempt) is = is
on_away link r number beyond (records.Dropped moment file) is = is
on_away link r number beyond (records.Ended moment kind) is = is

-- the same of one that runs on a link other than the local place
pub runs_started_away : (P : Plan) (digest : List ℕ) (H : List Record) (r number link : ℕ) → is_legal P digest H ≡ true → link ≢ 0 → runs_with H r number link ≡ true → list_any (starts_away r number) H ≡ true
runs_started_away P digest H r number link legal beyond runs =
    any_weaker (starts_on link r number) (starts_away r number) (on_away link r number beyond) H (runs_started_on P digest H r number link legal runs)
