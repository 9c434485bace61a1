-- Files that are collected, those that may still be dropped, and names that a run doesn't touch.
use Rattle.std.proofs.Common.{◌≡◌, ◌≢◌, ◌≤◌, ◌<◌, ◌+◌, ◌∙◌, ℕ, Bool, true, false, cond, not, ◌&&◌, ◌||◌, List, [], ◌∷◌, ◌++◌, length, Option, Some, None, refl, sym, ap, subst, arith, append_assoc, true≢false}
use Rattle.std.specs.Prelude.{◌==◌, is_some}
use Rattle.std.specs.List.{list_any}
use Rattle.std.specs.Option.{option_map_or}
use Rattle.std.proofs.lemmas.Bool.{and_parts, eqb-true, or_parts}
use Rattle.std.proofs.lemmas.List.{append-nil}
use Rattle.std.proofs.lemmas.List.Sums.{count_by-le-length}
use Rattle.flow_types.specs.declared.plan.Plan.{Plan}
use Rattle.flow_types.specs.declared.numbers.Content.{Content}
use Rattle.flow_types.specs.declared.numbers.FileNo.{FileNo}
use Rattle.flow_types.specs.declared.records.Record.{Record}
use Rattle.flow_types.specs.declared.records.Record.TheVariants as records
use Rattle.flow_types.specs.Plans.{file_numbers, made_files, maker_of, makes, sources_of}
use Rattle.flow_types.proofs.Totals.{at_place, here, place-inside, total, total-filter, total-is, total-le, total-take}
use Rattle.run_history.specs.declared.states.FileState.{FileState}
use Rattle.run_history.specs.declared.states.FileState.TheVariants as file
use Rattle.run_history.specs.Answers.{is_collected_state}
use Rattle.run_history.specs.History.{is_cleaned, is_opening, part}
use Rattle.run_history.specs.States.{drops, file_state, made_state, opened_sources, outs_in, outs_of, present_with, row_of}
use Rattle.run_history.specs.Storage.{is_free, is_present, size_in}
use Rattle.run_history.proofs.Steps.{outs-push}
use Rattle.run_history.proofs.Stores.{drops-push}
use Rattle.task_core.proofs.Ending.{made-inside}
use Rattle.file_store.specs.Outputs.{file_name}
use Rattle.desk.specs.State.{AreNamed}
use Rattle.desk.proofs.Collected.{Freed, dropped-collected, freed}
use Rattle.local_run.specs.Collecting.{IsUntouched, drops_due, is_collected}
use Rattle.local_run.specs.Course.{IsUnmade, begins_anew}

unlogged : (row : Option Content) → is_collected_state (present_with row) ≡ false
unlogged None = refl
unlogged (Some row) = refl

by_outs : (outs : Option (List Content)) (dropped : Bool) (row : List Content → Option Content) → is_collected_state (option_map_or (λ o. cond dropped file.Collected (present_with (row o))) outs file.Absent) ≡ (is_some outs && dropped)
by_outs None dropped row = refl
by_outs (Some o) true row = refl
by_outs (Some o) false row = unlogged (row o)

abbrev state_by : Plan → List Record → ℕ → Option ℕ → FileState
state_by P H f maker = option_map_or (made_state P H f) maker (present_with (row_of f (sources_of P) (opened_sources H)))

-- a made file is collected where its rule is done and it was dropped
pub collected_made : (P : Plan) (H : List Record) (f r : ℕ) → maker_of P f ≡ Some r → is_collected P H f ≡ (is_some (outs_of H r) && list_any (drops f) (part H))
collected_made P H f r is = ap (λ (m : Option ℕ). is_collected_state (state_by P H f m)) is ∙ by_outs (outs_of H r) (list_any (drops f) (part H)) (row_of f (makes P r))

collected_source : (P : Plan) (H : List Record) (f : ℕ) → maker_of P f ≡ None → is_collected P H f ≡ false
collected_source P H f is = ap (λ (m : Option ℕ). is_collected_state (state_by P H f m)) is ∙ unlogged (row_of f (sources_of P) (opened_sources H))

both_true : (a b : Bool) → a ≡ true → b ≡ true → (a && b) ≡ true
both_true a b one two = ap (λ (t : Bool). t && b) one ∙ two

or_true : (a b : Bool) → a ≡ true → (a || b) ≡ true
or_true a b is = ap (λ (t : Bool). t || b) is

some_still : (said old : Option (List Content)) → is_some old ≡ true → is_some (option_map_or Some said old) ≡ true
some_still None old some = some
some_still (Some x) old some = refl

by_maker : (P : Plan) (H : List Record) (x : Record) (f : ℕ) (maker : Option ℕ) → maker_of P f ≡ maker → is_cleaned x ≡ false → is_collected P H f ≡ true → is_collected P (H ++ (x ∷ [])) f ≡ true
by_maker P H x f None is more collected = absurd (true≢false (sym collected ∙ collected_source P H f is))
by_maker P H x f (Some r) is more collected =
    let parts = and_parts (is_some (outs_of H r)) (list_any (drops f) (part H)) (sym (collected_made P H f r is) ∙ collected) in
    collected_made P (H ++ (x ∷ [])) f r is
    ∙ both_true (is_some (outs_of (H ++ (x ∷ [])) r)) (list_any (drops f) (part (H ++ (x ∷ []))))
    (ap is_some (outs-push H x r more) ∙ some_still (outs_in r x) (outs_of H r) parts.0)
    (drops-push f H x more ∙ or_true (list_any (drops f) (part H)) (drops f x || false) parts.1)

-- a collected file stays so behind a record more
pub collected_push : (P : Plan) (H : List Record) (x : Record) (f : ℕ) → is_cleaned x ≡ false → is_collected P H f ≡ true → is_collected P (H ++ (x ∷ [])) f ≡ true
collected_push P H x f more collected = by_maker P H x f (maker_of P f) refl more collected

-- and behind more of the part
pub collected_on : (P : Plan) (H more : List Record) (f : ℕ) → list_any begins_anew more ≡ false → is_collected P H f ≡ true → is_collected P (H ++ more) f ≡ true
collected_on P H [] f none collected = ap (λ (G : List Record). is_collected P G f) (append-nil H) ∙ collected
collected_on P H (x ∷ xs) f none collected =
    let parts = or_parts (begins_anew x) (list_any begins_anew xs) none in
    let both = or_parts (is_opening x) (is_cleaned x) parts.0 in
    ap (λ (G : List Record). is_collected P G f) (sym (append_assoc H (x ∷ []) xs)) ∙ collected_on P (H ++ (x ∷ [])) xs f parts.1 (collected_push P H x f both.1 collected)

not_yet : (a b : Bool) → (a ≡ true → b ≡ true) → b ≡ false → a ≡ false
not_yet true b implies none = absurd (true≢false (sym (implies refl) ∙ none))
not_yet false b implies none = refl

-- so one that isn't wasn't before
pub uncollected_before : (P : Plan) (H more : List Record) (f : ℕ) → list_any begins_anew more ≡ false → is_collected P (H ++ more) f ≡ false → is_collected P H f ≡ false
uncollected_before P H more f none later = not_yet (is_collected P H f) (is_collected P (H ++ more) f) (collected_on P H more f none) later

by_state : (state : FileState) → is_some (size_in state) ≡ true → is_collected_state state ≡ false
by_state file.Absent is = absurd (true≢false (sym is))
by_state (file.Present c) is = refl
by_state file.Collected is = absurd (true≢false (sym is))

-- nor is one that is present
pub present_uncollected : (P : Plan) (H : List Record) (f : ℕ) → is_present P H f ≡ true → is_collected P H f ≡ false
present_uncollected P H f is = by_state (file_state P H f) is

-- nor one whose rule isn't done
pub undone_uncollected : (P : Plan) (H : List Record) (f r : ℕ) → maker_of P f ≡ Some r → is_some (outs_of H r) ≡ false → is_collected P H f ≡ false
undone_uncollected P H f r is none = collected_made P H f r is ∙ ap (λ (t : Bool). t && list_any (drops f) (part H)) none

-- ---- what may still be dropped

abbrev one : Bool → ℕ
one b = cond b 1 0

abbrev due_at : Plan → List Record → ℕ → ℕ
due_at P H f = one (not (is_collected P H f))

abbrev is_made : Plan → ℕ → Bool
is_made P f = is_some (maker_of P f)

drops_are : (P : Plan) (H : List Record) → total (due_at P H) (made_files P) ≡ drops_due P H
drops_are P H = total-is (due_at P H) (made_files P)

less_by : (a b : Bool) → (a ≡ true → b ≡ true) → one (not b) ≤ one (not a)
less_by true b implies = let none : one (not b) ≡ 0 = ap (λ (t : Bool). one (not t)) (implies refl) in omega (arith, none)
less_by false true implies = omega arith
less_by false false implies = omega arith

-- no more behind a record more
pub drops_less : (P : Plan) (H : List Record) (x : Record) → is_cleaned x ≡ false → drops_due P (H ++ (x ∷ [])) ≤ drops_due P H
drops_less P H x more =
    let le : total (due_at P (H ++ (x ∷ []))) (made_files P) ≤ total (due_at P H) (made_files P) =
    total-le (due_at P (H ++ (x ∷ []))) (due_at P H) (made_files P) (λ f. less_by (is_collected P H f) (is_collected P (H ++ (x ∷ [])) f) (collected_push P H x f more)) in
    let now = drops_are P (H ++ (x ∷ [])) in
    let was = drops_are P H in
    omega (arith, le, now, was)

-- at most the made files
pub drops_few : (P : Plan) (H : List Record) → drops_due P H ≤ length (made_files P)
drops_few P H = count_by-le-length (λ f. not (is_collected P H f)) (made_files P)

cond_le : (b : Bool) (m n : ℕ) → m ≤ n → cond b m 0 ≤ cond b n 0
cond_le true m n le = le
cond_le false m n le = omega arith

drop_at : (P : Plan) (H : List Record) (x : Record) (f g : ℕ) (b : Bool) → (f == g) ≡ b → is_made P f ≡ true → is_cleaned x ≡ false → is_collected P H f ≡ false → is_collected P (H ++ (x ∷ [])) f ≡ true
    → cond (is_made P g) (due_at P (H ++ (x ∷ [])) g) 0 + at_place 1 f g ≤ cond (is_made P g) (due_at P H g) 0
drop_at P H x f g true same made more before after =
    subst (λ (n : ℕ). cond (is_made P n) (due_at P (H ++ (x ∷ [])) n) 0 + at_place 1 f n ≤ cond (is_made P n) (due_at P H n) 0) (eqb-true f g same)
    (let now : cond (is_made P f) (due_at P (H ++ (x ∷ [])) f) 0 ≡ 0 = ap (λ (t : Bool). cond t (due_at P (H ++ (x ∷ [])) f) 0) made ∙ ap (λ (t : Bool). one (not t)) after in
    let was : cond (is_made P f) (due_at P H f) 0 ≡ 1 = ap (λ (t : Bool). cond t (due_at P H f) 0) made ∙ ap (λ (t : Bool). one (not t)) before in
    let at : at_place 1 f f ≡ 1 = here 1 f in
    omega (arith, now, was, at))
drop_at P H x f g false other made more before after =
    let at : at_place 1 f g ≡ 0 = ap (λ (t : Bool). cond t 1 0) other in
    let le = cond_le (is_made P g) (due_at P (H ++ (x ∷ [])) g) (due_at P H g) (less_by (is_collected P H g) (is_collected P (H ++ (x ∷ [])) g) (collected_push P H x g more)) in
    omega (arith, at, le)

-- one fewer behind the drop of a free file
pub drops_drop : (P : Plan) (H : List Record) (moment : ℕ) (f : FileNo) → is_free P H f.0 ≡ true → drops_due P (H ++ (records.Dropped moment f ∷ [])) + 1 ≤ drops_due P H
drops_drop P H moment f free =
    let x : Record = records.Dropped moment f in
    let is : Freed P H f.0 = freed P H f.0 free in
    let le = total-take (λ g. cond (is_made P g) (due_at P (H ++ (x ∷ [])) g) 0) (λ g. cond (is_made P g) (due_at P H g) 0) (at_place 1 f.0) (file_numbers P)
    (λ g. drop_at P H x f.0 g (f.0 == g) refl is.made refl (present_uncollected P H f.0 is.present) (dropped-collected P H moment f free)) in
    let now : total (due_at P (H ++ (x ∷ []))) (made_files P) ≡ total (λ g. cond (is_made P g) (due_at P (H ++ (x ∷ [])) g) 0) (file_numbers P) = total-filter (due_at P (H ++ (x ∷ []))) (is_made P) (file_numbers P) in
    let was : total (due_at P H) (made_files P) ≡ total (λ g. cond (is_made P g) (due_at P H g) 0) (file_numbers P) = total-filter (due_at P H) (is_made P) (file_numbers P) in
    let inside : f.0 < length P.files = made-inside P f.0 is.made in
    let place = place-inside 1 f.0 0 (length P.files) (omega arith) (omega (arith, inside)) in
    let due_now = drops_are P (H ++ (x ∷ [])) in
    let due_was = drops_are P H in
    omega (arith, le, now, was, place, due_now, due_was)

-- ---- names

-- a name of no made file is that of none that isn't collected
pub unmade_untouched : (P : Plan) (log : List ℕ) (H : List Record) (m : List ℕ) → IsUnmade P log m → IsUntouched P log H m
unmade_untouched P log H m unmade = (unmade.0, λ f made kept. unmade.1 f made)

-- what isn't touched isn't later in the part
pub untouched_later : (P Q : Plan) (log other : List ℕ) (H more all : List Record) (m : List ℕ) → Q ≡ P → other ≡ log → all ≡ H ++ more → list_any begins_anew more ≡ false → IsUntouched P log H m → IsUntouched Q other all m
untouched_later P Q log other H more all m same named are none untouched =
    subst (λ (R : Plan). IsUntouched R other all m) (sym same)
    (subst (λ (n : List ℕ). IsUntouched P n all m) (sym named)
    (subst (λ (G : List Record). IsUntouched P log G m) (sym are) (untouched.0, λ f made kept. untouched.1 f made (uncollected_before P H more f none kept))))

-- the name of a collected file isn't touched
pub collected_untouched : (P : Plan) (log : List ℕ) (H : List Record) (f : ℕ) → AreNamed P → file_name P f ≢ log → is_collected P H f ≡ true → IsUntouched P log H (file_name P f)
collected_untouched P log H f named apart collected =
    (apart, λ g made kept same. let one : f ≡ g = named g f (made-inside P g made) same in true≢false (sym collected ∙ ap (is_collected P H) one ∙ kept))
