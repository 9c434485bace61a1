-- What the machines of a world show after a collection.
use Rattle.std.proofs.Common.{◌≡◌, ◌<◌, ◌+◌, ℕ, zero, suc, true, cond, List, [], ◌∷◌, ◌++◌, length, Option, Some, None, map, take, drop, refl, ap, sym, ◌∙◌, subst, append_assoc, arith}
use Rattle.std.specs.Prelude.{Result, Ok, Err, OnOk, ◌==◌, filter, get_or, slice_index_or, slice_set}
use Rattle.std.proofs.lemmas.List.{map-append}
use Rattle.std.proofs.lemmas.List.Elements.{filter-append}
use Rattle.flow_types.specs.declared.plan.Plan.{Plan}
use Rattle.flow_types.specs.declared.numbers.FileNo.{FileNo}
use Rattle.flow_types.specs.declared.records.Record.TheVariants as records
use Rattle.run_history.specs.declared.answers.Nothing.{Nothing}
use Rattle.run_history.specs.declared.options.Options.{Options}
use Rattle.run_history.specs.Legal.{has_places}
use Rattle.run_history.specs.Links.{records_of}
use Rattle.run_history.specs.Storage.{wanted}
use Rattle.task_core.specs.Collections.{Collects}
use Rattle.world_peers.specs.declared.sent.Sent.{Sent}
use Rattle.net_world.specs.declared.play.Play.{Play}
use Rattle.net_world.specs.Drops.{IsCollected, dropped_or}
use Rattle.world_contents.specs.Holdings.{held_in}
use Rattle.net_world.specs.Plays.{AreOurs, IsShown, IsTable}
use Rattle.world_laws.specs.Worlds.{Connection, World, collects, drop_logged, dropped, forgets, knows, records_in, unlink_on, unlinks, without}
use Rattle.net_world.proofs.CloseShows.{IsBesideFiles, filed_shown}
use Rattle.net_world.proofs.Lines.{numbers_of}
use Rattle.world_laws.proofs.Members.{every_map}

-- ---- the drop

wanted_now : (P : Plan) (O : Options) (w : World) (play : Play) → IsShown P O w play
    → wanted play.table.plan play.table.options.mode (records_of w.moves) ≡ wanted P O.mode (records_in w)
wanted_now P O w play shown =
    ap (λ P. wanted P play.table.options.mode (records_of w.moves)) shown.table.plan ∙ ap (λ O. wanted P O.mode (records_of w.moves)) shown.table.options

-- a file is dropped
pub dropped_shown : (P : Plan) (O : Options) (w : World) (old new : Play) (file : FileNo) (answer : Result (Option FileNo) Nothing) → answer ≡ Ok (Some file) → IsShown P O w old
    → Collects old.table w.moves answer new.table → new.records.items ≡ old.records.items ++ (records.Dropped 0 file ∷ [])
    → ((f : ℕ) → held_in new.contents.items f ≡ without (held_in old.contents.items) file.0 f) → length new.contents.items ≡ length old.contents.items → IsBesideFiles old new
    → IsCollected P O w (Some file) × IsShown P O (dropped_or w (Some file)) new
dropped_shown P O w old new file answer is shown did pushed held places same =
    let drops = subst (λ answer. Collects old.table w.moves answer new.table) is did in
    let wants : wanted P O.mode (records_in w) ≡ Some file.0 = sym (wanted_now P O w old shown) ∙ drops.0 in
    let room : has_places P (records_in w) 1 ≡ true = subst (λ P. has_places P (records_in w) 1 ≡ true) shown.table.plan drops.1 in (
      (
        ap (collects P w) wants ∙ ap (λ b. cond b (unlinks (dropped w file.0) file) w) room,
        ap (drop_logged P w) wants ∙ ap (λ b. cond b (dropped w file.0) w) room,
      ),
      filed_shown P O w old new (records.Dropped 0 file) (without w.contents file.0) refl shown (drops.2 0) drops.3 pushed
          (λ f. ap (λ found. cond (f == file.0) None found) (shown.contents f) ∙ sym (held f)) places same,
    )

-- a collection that dropped this file, if there is one, and went on
pub collected_by : (P : Plan) (O : Options) (w : World) (new : Play) (file : Option FileNo) → IsCollected P O w file → IsShown P O (dropped_or w file) new
    → IsShown P O (drop_logged P w (wanted P O.mode (records_in w))) new
collected_by P O w new None is shown = subst (λ v. IsShown P O v new) (sym is.1) shown
collected_by P O w new (Some file) is shown = subst (λ v. IsShown P O v new) (sym is.1) shown

-- ---- the Unlinks

-- the first i lines without the file
abbrev pub forgotten_below : FileNo → ℕ → List Connection → List Connection
forgotten_below file i lines = map (forgets file) (take i lines) ++ drop i lines

forgotten_suc : (file : FileNo) (i : ℕ) (lines : List Connection) (d : Connection) → i < length lines
    → slice_set (forgotten_below file i lines) i (forgets file (slice_index_or (forgotten_below file i lines) i d)) ≡ forgotten_below file (suc i) lines
forgotten_suc file i [] d inside = absurd (omega (arith, inside))
forgotten_suc file zero (c ∷ cs) d inside = refl
forgotten_suc file (suc i) (c ∷ cs) d inside = ap (λ (xs : List Connection). forgets file c ∷ xs) (forgotten_suc file i cs d (omega (arith, inside)))

same_item : (file : FileNo) (i : ℕ) (lines : List Connection) (d : Connection) → i < length lines → slice_index_or (forgotten_below file i lines) i d ≡ get_or lines i d
same_item file i [] d inside = absurd (omega (arith, inside))
same_item file zero (c ∷ cs) d inside = refl
same_item file (suc i) (c ∷ cs) d inside = same_item file i cs d (omega (arith, inside))

-- one line more
pub forgotten_step : (file : FileNo) (i : ℕ) (lines now : List Connection) (d : Connection) → i < length lines → now ≡ forgotten_below file i lines
    → slice_set now i (forgets file (slice_index_or now i d)) ≡ forgotten_below file (i + 1) lines
forgotten_step file i lines now d inside is =
    let next : suc i ≡ i + 1 = omega arith in
    ap (λ (xs : List Connection). slice_set xs i (forgets file (slice_index_or xs i d))) is ∙ forgotten_suc file i lines d inside ∙ ap (λ n. forgotten_below file n lines) next

pub forgotten_all : (file : FileNo) (lines : List Connection) → forgotten_below file (length lines) lines ≡ map (forgets file) lines
forgotten_all file [] = refl
forgotten_all file (c ∷ cs) = ap (λ (xs : List Connection). forgets file c ∷ xs) (forgotten_all file cs)

-- the Unlinks of these lines
abbrev pub unlinks_of : FileNo → List Connection → List Sent
unlinks_of file lines = map (unlink_on file) (filter (knows file) lines)

unlinks_append : (file : FileNo) (xs ys : List Connection) → unlinks_of file (xs ++ ys) ≡ unlinks_of file xs ++ unlinks_of file ys
unlinks_append file xs ys = ap (map (unlink_on file)) (filter-append (knows file) xs ys) ∙ map-append (unlink_on file) (filter (knows file) xs) (filter (knows file) ys)

take_next : (i : ℕ) (lines : List Connection) (d : Connection) → i < length lines → take (suc i) lines ≡ take i lines ++ (get_or lines i d ∷ [])
take_next i [] d inside = absurd (omega (arith, inside))
take_next zero (c ∷ cs) d inside = refl
take_next (suc i) (c ∷ cs) d inside = ap (λ xs. c ∷ xs) (take_next i cs d (omega (arith, inside)))

-- the Unlinks of one line more
pub unlinks_step : (file : FileNo) (i : ℕ) (lines now : List Connection) (d : Connection) (bag before after : List Sent) → i < length lines → now ≡ forgotten_below file i lines
    → before ≡ bag ++ unlinks_of file (take i lines) → after ≡ before ++ unlinks_of file (slice_index_or now i d ∷ []) → after ≡ bag ++ unlinks_of file (take (i + 1) lines)
unlinks_step file i lines now d bag before after inside is was then =
    let next : suc i ≡ i + 1 = omega arith in
    let item : slice_index_or now i d ≡ get_or lines i d = ap (λ (xs : List Connection). slice_index_or xs i d) is ∙ same_item file i lines d inside in
    then ∙ ap (λ (xs : List Sent). xs ++ unlinks_of file (slice_index_or now i d ∷ [])) was ∙ append_assoc bag (unlinks_of file (take i lines)) (unlinks_of file (slice_index_or now i d ∷ []))
    ∙ ap (λ (c : Connection). bag ++ (unlinks_of file (take i lines) ++ unlinks_of file (c ∷ []))) item
    ∙ ap (λ (xs : List Sent). bag ++ xs) (sym (unlinks_append file (take i lines) (get_or lines i d ∷ [])))
    ∙ ap (λ (xs : List Connection). bag ++ unlinks_of file xs) (sym (take_next i lines d inside)) ∙ ap (λ n. bag ++ unlinks_of file (take n lines)) next

same_numbers : (file : FileNo) (lines : List Connection) → numbers_of (map (forgets file) lines) ≡ numbers_of lines
same_numbers file [] = refl
same_numbers file (c ∷ cs) = ap (λ xs. c.link ∷ xs) (same_numbers file cs)

-- both facts of an answer
pub both_on_ok : {T E : Type 0} (A B : Type 0) (r : Result T E) → OnOk r A → OnOk r B → OnOk r (A × B)
both_on_ok A B (Ok x) a b = (a, b)
both_on_ok A B (Err e) a b = tt

-- an Unlink went over each link on which the file was sent
pub unlinked_shown : (P : Plan) (O : Options) (w : World) (old new : Play) (file : FileNo) → IsShown P O w old → new.lines.items ≡ map (forgets file) old.lines.items
    → new.bag.items ≡ old.bag.items ++ map (unlink_on file) (filter (knows file) old.lines.items) → new.table ≡ old.table → new.records.items ≡ old.records.items
    → new.contents.items ≡ old.contents.items → new.peers.items ≡ old.peers.items → new.up ≡ old.up → IsShown P O (unlinks w file) new
unlinked_shown P O w old new file shown lines bag table entries contents peers up = record {
  table = subst (IsTable P O w.moves new.table) (sym entries) (subst (λ t. IsTable P O w.moves t old.records.items) (sym table) shown.table);
  contents = λ f. shown.contents f ∙ ap (λ kept. held_in kept f) (sym contents);
  places = ap length contents ∙ shown.places;
  lines = lines ∙ ap (map (forgets file)) shown.lines;
  live = ap (λ xs. 0 ∷ xs) (same_numbers file w.connections) ∙ shown.live;
  ours = every_map (AreOurs P (records_of w.moves)) (forgets file) w.connections shown.ours;
  peers = peers ∙ shown.peers;
  bag = bag ∙ ap (λ bag. bag ++ map (unlink_on file) (filter (knows file) old.lines.items)) shown.bag
      ∙ ap (λ cs. w.bag ++ map (unlink_on file) (filter (knows file) cs)) shown.lines;
  up = up ∙ shown.up;
}
