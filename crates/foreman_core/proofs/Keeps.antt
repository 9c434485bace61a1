-- Each step keeps a foreman right.
use Rattle.std.proofs.Common.{◌≡◌, inl, inr, ℕ, Bool, true, false, cond, not, List, [], ◌∷◌, ◌++◌, length, Option, Some, None, Result, Ok, Err, refl, ap, sym, ◌∙◌, subst, append-nil}
use Rattle.std.specs.Prelude.{◌==◌, ◌&&◌, nat_lt, map, filter, position, slice_get, slice_set, remove, is_some}
use Rattle.std.specs.Option.{option_map_or}
use Rattle.std.proofs.lemmas.Bool.{and_parts, eqb-true}
use Rattle.std.proofs.lemmas.Option.{get_or_from_slice_get}
use Rattle.std.proofs.lemmas.List.Quantifiers.{position-Some}
use Rattle.flow_types.specs.declared.numbers.AttemptNo.{AttemptNo}
use Rattle.flow_types.specs.declared.numbers.FileNo.{FileNo}
use Rattle.flow_types.specs.declared.numbers.LinkNo.{LinkNo}
use Rattle.flow_types.specs.declared.numbers.Needs.TheVariants as needs
use Rattle.flow_types.specs.declared.job.Outcome.{Outcome}
use Rattle.flow_types.specs.declared.job.Outcome.TheVariants as outcomes
use Rattle.flow_types.specs.declared.job.Task.{Task}
use Rattle.flow_types.specs.declared.messages.Key.{Key}
use Rattle.flow_types.specs.declared.messages.Message.{Message}
use Rattle.flow_types.specs.declared.messages.Message.TheVariants as messages
use Rattle.worker_cache.specs.Caches.{Rows, is_full, put_in}
use Rattle.worker_core.specs.Workers.{holds_all, files_of}
use Rattle.link_session.specs.declared.word.Word.{Word}
use Rattle.link_session.specs.declared.word.Word.TheVariants as words
use Rattle.link_session.specs.declared.word.SessionFault.{SessionFault}
use Rattle.link_session.specs.Sessions.{State, told}
use Rattle.foreman_core.specs.declared.acts.Down.{Down}
use Rattle.foreman_core.specs.declared.links.Spot.{Spot}
use Rattle.foreman_core.specs.declared.links.Upstream.{Upstream}
use Rattle.foreman_core.specs.declared.links.Below.{Below}
use Rattle.foreman_core.specs.Foremen.{Foreman, with_rows, place_of, is_on, is_at, kept, off_link, place_of_link, others, joined, most_links, is_forsaken, totals}
use Rattle.foreman_core.specs.Laws.{FirstIsRight, UpKeepsRight, DownKeepsRight, LostKeepsRight}
use Rattle.foreman_core.specs.Members.{Stands, Every}
use Rattle.foreman_core.specs.Right.{IsAsked, IsPut, task_at, IsOwned, IsSpotted, IsRight, IsRightUp, IsRightDown, IsRightAfter}
use Rattle.foreman_core.specs.Steps.{Led, sending, quiet, holding, renumbered, puts_and_task, down_to, in_session, takes, missing_message, misses, closed_on, cancel_at, not_run, cancels_at, hears_up, lost, loses, leaving, drops, restated, new_session, greeted, outcome_in, ends_at, kept_at, puts_again, with_attempt, stated_at, on_word, on_told, heard_at, heard_where}
use Rattle.foreman_core.proofs.Contents.{OfRow, pinned_all_kept, unpinned_all_kept, all_released_kept, touched_all_kept, unlinked_kept, put_kept}
use Rattle.foreman_core.proofs.Members.{stands_left, stands_right, every_append, every_nil, every_one, every_cons, every_map, every_filter, every_set, every_remove, get_stands}
use Rattle.foreman_core.proofs.Placing.{IsOnly, downs_only, settled_right}
use Rattle.foreman_core.proofs.Words.{IsFrom, IsAnswerFrom, told_from}

-- ---- more was heard or sent

above_grows : (above more : List Message) (sent : List Down) (f : Foreman) → IsRight above sent f → IsRight (above ++ more) sent f
above_grows above more sent f right = record {
  held = λ row there. stands_left (messages.Put row.0 row.1.content) above more (right.held row there);
  asked = λ u there. stands_left (messages.Task u.task) above more (right.asked u there);
  owner = right.owner;
  owned = λ s there task is. let old = right.owned s there task is in (old.0, old.1, stands_left (messages.Task (right.owner task.attempt.0)) above more old.2);
  spots = right.spots;
}

-- messages that are no tasks
plain_right : (above : List Message) (sent more : List Down) (f : Foreman) → Every (λ s. (task : Task) → s.message ≡ messages.Task task → ⊥) more → IsRight above sent f → IsRight above (sent ++ more) f
plain_right above sent more f plain right = record {
  held = right.held;
  asked = right.asked;
  owner = right.owner;
  owned = every_append (IsOwned above right.owner f.next) sent more right.owned (λ s there task is. absurd (plain s there task is));
  spots = λ u there spot is. let had = right.spots u there spot is in (stands_left (task_at u.task spot) sent more had.0, had.1);
}

-- ---- steps that send nothing down

silent_right : (above : List Message) (below sent : List Down) (f : Foreman) (up : List Message) (leave : Option LinkNo) (bye : Bool) → IsRight above sent f → Every (IsRightUp above below sent) up
    → IsRightAfter above below sent (record { foreman = f; acts = record { up = up; down = []; leave = leave; bye = bye } })
silent_right above below sent f up leave bye right ups = record {
  foreman = subst (λ all. IsRight above all f) (sym (append-nil sent)) right;
  down = every_nil (λ s. IsRightDown above s.message);
  up = subst (λ all. Every (IsRightUp above below all) up) (sym (append-nil sent)) ups;
}

quiet_right : (above : List Message) (below sent : List Down) (f : Foreman) → IsRight above sent f → IsRightAfter above below sent (quiet f)
quiet_right above below sent f right = silent_right above below sent f [] None false right (every_nil (IsRightUp above below sent))

holding_right : (above : List Message) (below sent : List Down) (led : Led) (rows : Rows) → Every (OfRow (IsPut above)) rows → IsRightAfter above below sent led → IsRightAfter above below sent (holding led rows)
holding_right above below sent led rows all right = record {
  foreman = record {
    held = all;
    asked = right.foreman.asked;
    owner = right.foreman.owner;
    owned = right.foreman.owned;
    spots = right.foreman.spots;
  };
  down = right.down;
  up = right.up;
}

rows_right : (above : List Message) (sent : List Down) (f : Foreman) (rows : Rows) → Every (OfRow (IsPut above)) rows → IsRight above sent f → IsRight above sent (with_rows f rows)
rows_right above sent f rows all right = record { held = all; asked = right.asked; owner = right.owner; owned = right.owned; spots = right.spots }

changed_right : (above : List Message) (sent : List Down) (f : Foreman) (attempts : List Upstream) (links : List Below) (right : IsRight above sent f) → Every (λ u. IsAsked above u.task) attempts → Every (IsSpotted sent f.next) attempts
    → IsRight above sent (record { cache = f.cache; attempts = attempts; links = links; next = f.next })
changed_right above sent f attempts links right asked spots = record { held = right.held; asked = asked; owner = right.owner; owned = right.owned; spots = spots }

links_right : (above : List Message) (sent : List Down) (f : Foreman) (links : List Below) → IsRight above sent f → IsRight above sent (record { cache = f.cache; attempts = f.attempts; links = links; next = f.next })
links_right above sent f links right = changed_right above sent f f.attempts links right right.asked right.spots

kept_spotted : (sent : List Down) (next : ℕ) (task : Task) → IsSpotted sent next (kept task)
kept_spotted sent next task spot is = absurd (let h : ⊥ = cc in h)

given_back : (above : List Message) (below sent : List Down) (u : Upstream) → IsAsked above u.task → IsRightUp above below sent (not_run u)
given_back above below sent u asked = (u.task, refl, asked, inl refl)

-- ---- from above

put_right : (above : List Message) (below sent : List Down) (f : Foreman) (key : Key) (content : List ℕ) (full : Bool) → IsPut above key content → IsRight above sent f
    → IsRightAfter above below sent (cond full (quiet f) (quiet (with_rows f (put_in f.cache.cap key content f.cache.rows))))
put_right above below sent f key content true is right = quiet_right above below sent f right
put_right above below sent f key content false is right =
    quiet_right above below sent _ (rows_right above sent f _ (put_kept (IsPut above) f.cache.cap key content f.cache.rows is right.held) right)

task_right : (above : List Message) (below sent : List Down) (f : Foreman) (task : Task) (has holds : Bool) → IsAsked above task → IsRight above sent f
    → IsRightAfter above below sent (cond has (quiet f) (cond holds (takes f task) (misses f task)))
task_right above below sent f task true holds is right = quiet_right above below sent f right
task_right above below sent f task false true is right =
    let more : List Upstream = f.attempts ++ kept task ∷ [] in
    holding_right above below sent _ _ (pinned_all_kept (IsPut above) task.run task.inputs f.cache.rows right.held)
    (settled_right above below sent _ (quiet_right above below sent _ (changed_right above sent f more f.links right
    (every_append (λ u. IsAsked above u.task) f.attempts (kept task ∷ []) right.asked (every_one (λ u. IsAsked above u.task) (kept task) is))
    (every_append (IsSpotted sent f.next) f.attempts (kept task ∷ []) right.spots (every_one (IsSpotted sent f.next) (kept task) (kept_spotted sent f.next task))))))
task_right above below sent f task false false is right =
    silent_right above below sent _ _ None false
    (rows_right above sent f _ (touched_all_kept (IsPut above) task.run (files_of task.inputs) f.cache.rows right.held) right)
    (every_one (IsRightUp above below sent) (missing_message f.cache.rows task) tt)

cancelled_right : (above : List Message) (below sent : List Down) (f : Foreman) (u : Upstream) (spot : Option Spot) → IsAsked above u.task → IsRight above sent f
    → IsRightAfter above below sent (record { foreman = f; acts = sending (not_run u ∷ []) (cancel_at spot) })
cancelled_right above below sent f u None asked right = silent_right above below sent f _ None false right (every_one (IsRightUp above below sent) (not_run u) (given_back above below sent u asked))
cancelled_right above below sent f u (Some spot) asked right =
    let down : Down = record { link = spot.link; message = messages.Cancel spot.number } in
    let more : List Down = down ∷ [] in
    record {
      foreman = plain_right above sent more f (every_one (λ s. (task : Task) → s.message ≡ messages.Task task → ⊥) down (λ task is. let h : ⊥ = cc in h)) right;
      down = every_one (λ s. IsRightDown above s.message) down tt;
      up = every_one (IsRightUp above below (sent ++ more)) (not_run u) (given_back above below (sent ++ more) u asked);
    }

cancels_at_right : (above : List Message) (below sent : List Down) (f : Foreman) (at : ℕ) (found : Option Upstream) → slice_get f.attempts at ≡ found → IsRight above sent f → IsRightAfter above below sent (cancels_at f at found)
cancels_at_right above below sent f at None got right = quiet_right above below sent f right
cancels_at_right above below sent f at (Some u) got right =
    holding_right above below sent _ _ (unpinned_all_kept (IsPut above) u.task.run u.task.inputs f.cache.rows right.held)
    (settled_right above below sent _ (cancelled_right above below sent _ u u.spot (right.asked u (get_stands f.attempts at u got))
    (changed_right above sent f (remove f.attempts at) (closed_on f.links u.spot) right (every_remove (λ x. IsAsked above x.task) f.attempts at right.asked) (every_remove (IsSpotted sent f.next) f.attempts at right.spots))))

cancels_right : (above : List Message) (below sent : List Down) (f : Foreman) (found : Option ℕ) → IsRight above sent f → IsRightAfter above below sent (option_map_or (λ at. cancels_at f at (slice_get f.attempts at)) found (quiet f))
cancels_right above below sent f None right = quiet_right above below sent f right
cancels_right above below sent f (Some at) right = cancels_at_right above below sent f at (slice_get f.attempts at) refl right

heard_up : (above : List Message) (below sent : List Down) (f : Foreman) (m : Message) → Stands m above → IsRight above sent f → IsRightAfter above below sent (hears_up f m)
heard_up above below sent f (messages.Put key content) is right = put_right above below sent f key content (is_full key (length content) f.cache.cap f.cache.rows) is right
heard_up above below sent f (messages.Task task) is right =
    task_right above below sent f task (is_some (place_of task.attempt f.attempts)) (holds_all f.cache.rows task.run task.inputs) is right
heard_up above below sent f (messages.Cancel attempt) is right = cancels_right above below sent f (place_of attempt f.attempts) right
heard_up above below sent f (messages.Unlink key) is right =
    quiet_right above below sent _ (rows_right above sent f _ (unlinked_kept (IsPut above) key f.cache.rows right.held) right)
heard_up above below sent f (messages.Done attempt outcome) is right = quiet_right above below sent f right
heard_up above below sent f (messages.Hello total largest cache) is right = quiet_right above below sent f right
heard_up above below sent f (messages.Missing attempt files) is right = quiet_right above below sent f right
heard_up above below sent f (messages.Totals total largest cache) is right = quiet_right above below sent f right
heard_up above below sent f messages.Bye is right = silent_right above below sent f [] None true right (every_nil (IsRightUp above below sent))

-- ---- lost links

off_asked : (above : List Message) (k : LinkNo) (u : Upstream) (b : Bool) → IsAsked above u.task → IsAsked above (cond b (kept u.task) u).task
off_asked above k u true asked = asked
off_asked above k u false asked = asked

off_spotted : (sent : List Down) (next : ℕ) (u : Upstream) (b : Bool) → IsSpotted sent next u → IsSpotted sent next (cond b (kept u.task) u)
off_spotted sent next u true old = kept_spotted sent next u.task
off_spotted sent next u false old = old

lost_right : (above : List Message) (below sent : List Down) (f : Foreman) (k : LinkNo) → IsRight above sent f → IsRightAfter above below sent (lost f k)
lost_right above below sent f k right =
    let gone : List Upstream = filter (is_forsaken f k) f.attempts in
    let stay : List Upstream = filter (λ u. not (is_forsaken f k u)) f.attempts in
    let rest : List Upstream = map (off_link k) stay in
    let after : Foreman = record { cache = f.cache; attempts = rest; links = others k f.links; next = f.next } in
    holding_right above below sent _ _ (all_released_kept (IsPut above) gone f.cache.rows right.held)
    (settled_right above below sent _ (silent_right above below sent after (totals after ∷ map not_run gone) None false
    (changed_right above sent f rest (others k f.links) right
    (every_map (λ u. IsAsked above u.task) (off_link k) stay
    (λ u there. off_asked above k u (is_on k u) (every_filter (λ u. IsAsked above u.task) (λ u. not (is_forsaken f k u)) f.attempts right.asked u there)))
    (every_map (IsSpotted sent f.next) (off_link k) stay
    (λ u there. off_spotted sent f.next u (is_on k u) (every_filter (IsSpotted sent f.next) (λ u. not (is_forsaken f k u)) f.attempts right.spots u there))))
    (every_cons (IsRightUp above below sent) (totals after) (map not_run gone) tt
    (every_map (IsRightUp above below sent) not_run gone
    (λ u there. given_back above below sent u (every_filter (λ u. IsAsked above u.task) (is_forsaken f k) f.attempts right.asked u there))))))

loses_right : (above : List Message) (below sent : List Down) (f : Foreman) (k : LinkNo) → IsRight above sent f → IsRightAfter above below sent (loses f k)
loses_right above below sent f k right = by (is_some (place_of_link k f.links))
  where
    by : (b : Bool) → IsRightAfter above below sent (cond b (lost f k) (quiet f))
    by true = lost_right above below sent f k right
    by false = quiet_right above below sent f right

leaving_right : (above : List Message) (below sent : List Down) (k : LinkNo) (led : Led) → IsRightAfter above below sent led → IsRightAfter above below sent (leaving k led)
leaving_right above below sent k led right = record { foreman = right.foreman; down = right.down; up = right.up }

drops_right : (above : List Message) (below sent : List Down) (f : Foreman) (k : LinkNo) → IsRight above sent f → IsRightAfter above below sent (drops f k)
drops_right above below sent f k right = leaving_right above below sent k (loses f k) (loses_right above below sent f k right)

-- ---- from below

restated_right : (above : List Message) (below sent : List Down) (f : Foreman) → IsRight above sent f → IsRightAfter above below sent (restated f)
restated_right above below sent f right =
    settled_right above below sent _ (silent_right above below sent f (totals f ∷ []) None false right (every_one (IsRightUp above below sent) (totals f) tt))

greeted_right : (above : List Message) (below sent : List Down) (f : Foreman) (k : LinkNo) (session : State) (answer : Result Word SessionFault) → IsRight above sent f → IsRightAfter above below sent (greeted f k session answer)
greeted_right above below sent f k session (Ok (words.Joined total largest cache)) right = by (nat_lt (length f.links) most_links)
  where
    b : Below
    b = record { link = k; total = total; largest = largest; cache = cache; session = session }

    by : (t : Bool) → IsRightAfter above below sent (cond t (restated (record { cache = f.cache; attempts = f.attempts; links = joined b f.links; next = f.next })) (drops f k))
    by true = restated_right above below sent _ (links_right above sent f (joined b f.links) right)
    by false = drops_right above below sent f k right
greeted_right above below sent f k session (Ok (words.Changed total largest cache)) right = drops_right above below sent f k right
greeted_right above below sent f k session (Ok (words.Finish attempt)) right = drops_right above below sent f k right
greeted_right above below sent f k session (Ok (words.Fail attempt why)) right = drops_right above below sent f k right
greeted_right above below sent f k session (Ok (words.Lose attempt)) right = drops_right above below sent f k right
greeted_right above below sent f k session (Ok (words.PutAgain attempt files)) right = drops_right above below sent f k right
greeted_right above below sent f k session (Ok (words.Stale attempt)) right = drops_right above below sent f k right
greeted_right above below sent f k session (Err why) right = drops_right above below sent f k right

-- the spot of an attempt that is at a link under a number
spot_at : (k : LinkNo) (number : AttemptNo) (spot : Option Spot) → option_map_or (λ spot. (spot.link.0 == k.0) && (spot.number.0 == number.0)) spot false ≡ true → (s : Spot) × (spot ≡ Some s) × (s.link ≡ k) × (s.number ≡ number)
spot_at k number None is = absurd (let h : ⊥ = cc in h)
spot_at k number (Some s) is =
    let parts = and_parts _ _ is in
    let link : s.link ≡ k = ap (λ n. let l : LinkNo = record { 0 = n } in l) (eqb-true s.link.0 k.0 parts.0) in
    let same : s.number ≡ number = ap (λ n. let a : AttemptNo = record { 0 = n } in a) (eqb-true s.number.0 number.0 parts.1) in
    (s, refl, link, same)

passes_at : (attempts : List Upstream) (test : Upstream → Bool) (at : ℕ) (u : Upstream) → position test attempts ≡ Some at → slice_get attempts at ≡ Some u → test u ≡ true
passes_at attempts test at u found got =
    sym (ap test (get_or_from_slice_get attempts at u u got)) ∙ (position-Some test attempts at u found).1

-- what is done with an attempt that is found, or not
attempt_right : (above : List Message) (below sent : List Down) (f : Foreman) (k : LinkNo) (number : AttemptNo) (does : ℕ → Option Upstream → Led) → ((at : ℕ) → IsRightAfter above below sent (does at None))
    → ((at : ℕ) (u : Upstream) → slice_get f.attempts at ≡ Some u → is_at k number u ≡ true → IsRightAfter above below sent (does at (Some u))) → IsRight above sent f → IsRightAfter above below sent (with_attempt f k number does)
attempt_right above below sent f k number does none some right = by (position (is_at k number) f.attempts) refl
  where
    found : (at : ℕ) (u : Option Upstream) → position (is_at k number) f.attempts ≡ Some at → slice_get f.attempts at ≡ u → IsRightAfter above below sent (does at u)
    found at None is got = none at
    found at (Some u) is got = some at u got (passes_at f.attempts (is_at k number) at u is got)

    by : (place : Option ℕ) → position (is_at k number) f.attempts ≡ place → IsRightAfter above below sent (option_map_or (λ at. does at (slice_get f.attempts at)) place (quiet f))
    by None is = quiet_right above below sent f right
    by (Some at) is = found at (slice_get f.attempts at) is refl

ended_right : (above : List Message) (below sent : List Down) (f : Foreman) (k : LinkNo) (number : AttemptNo) (outcome : Outcome) (at : ℕ) (u : Upstream) → Stands (let down : Down = record { link = k; message = messages.Done number outcome } in down) below
    → slice_get f.attempts at ≡ Some u → is_at k number u ≡ true → IsRight above sent f → IsRightAfter above below sent (ends_at f outcome at (Some u))
ended_right above below sent f k number outcome at u heard got is right =
    let there : Stands u f.attempts = get_stands f.attempts at u got in
    let spot = spot_at k number u.spot is in
    let sent_there = right.spots u there spot.0 spot.1 in
    let told : Stands (let down : Down = record { link = spot.0.link; message = messages.Done spot.0.number outcome } in down) below =
    subst (λ l. Stands (let down : Down = record { link = l; message = messages.Done spot.0.number outcome } in down) below) (sym spot.2)
    (subst (λ n. Stands (let down : Down = record { link = k; message = messages.Done n outcome } in down) below) (sym spot.3) heard) in
    holding_right above below sent _ _ (unpinned_all_kept (IsPut above) u.task.run u.task.inputs f.cache.rows right.held)
    (settled_right above below sent _ (silent_right above below sent _ (messages.Done u.task.attempt outcome ∷ []) None false
    (changed_right above sent f (remove f.attempts at) f.links right (every_remove (λ x. IsAsked above x.task) f.attempts at right.asked) (every_remove (IsSpotted sent f.next) f.attempts at right.spots))
    (every_one (IsRightUp above below sent) (messages.Done u.task.attempt outcome) (u.task, refl, right.asked u there, inr (spot.0, sent_there.0, told)))))

kept_right : (above : List Message) (below sent : List Down) (f : Foreman) (at : ℕ) (u : Upstream) → slice_get f.attempts at ≡ Some u → IsRight above sent f → IsRightAfter above below sent (kept_at f at (Some u))
kept_right above below sent f at u got right =
    settled_right above below sent _ (quiet_right above below sent _ (changed_right above sent f (slice_set f.attempts at (kept u.task)) f.links right
    (every_set (λ x. IsAsked above x.task) f.attempts at (kept u.task) (right.asked u (get_stands f.attempts at u got)) right.asked)
    (every_set (IsSpotted sent f.next) f.attempts at (kept u.task) (kept_spotted sent f.next u.task) right.spots)))

again_right : (above : List Message) (below sent : List Down) (f : Foreman) (k : LinkNo) (number : AttemptNo) (files : List FileNo) (at : ℕ) (u : Upstream) → slice_get f.attempts at ≡ Some u → is_at k number u ≡ true → IsRight above sent f
    → IsRightAfter above below sent (puts_again f k number files (Some u))
again_right above below sent f k number files at u got is right =
    let there : Stands u f.attempts = get_stands f.attempts at u got in
    let spot = spot_at k number u.spot is in
    let sent_there = right.spots u there spot.0 spot.1 in
    let task : Task = renumbered u.task number in
    let more : List Down = down_to k (puts_and_task f.cache.rows files task) in
    let only : Every (λ s. IsOnly above task s.message) more = downs_only above f.cache.rows k files task right.held in
    let same : messages.Task (renumbered u.task spot.0.number) ≡ messages.Task task = ap (λ n. messages.Task (renumbered u.task n)) spot.3 in
    record {
      foreman = record {
        held = right.held;
        asked = right.asked;
        owner = right.owner;
        owned = every_append (IsOwned above right.owner f.next) sent more right.owned
            (λ s in_more other is. right.owned (task_at u.task spot.0) sent_there.0 other (same ∙ ap (λ t. messages.Task t) (sym ((only s in_more).1 other is))));
        spots = λ x in_attempts at_spot is. let had = right.spots x in_attempts at_spot is in (stands_left (task_at x.task at_spot) sent more had.0, had.1);
      };
      down = λ s in_more. (only s in_more).0;
      up = every_nil (IsRightUp above below (sent ++ more));
    }

-- the message of a word stands under its link
word_right : (above : List Message) (below sent : List Down) (f : Foreman) (k : LinkNo) (on : ℕ) (m : Message) (word : Word) → IsFrom m word → Stands (let down : Down = record { link = k; message = m } in down) below → IsRight above sent f
    → IsRightAfter above below sent (on_word f k on m word)
word_right above below sent f k on m (words.Joined total largest cache) from heard right = quiet_right above below sent f right
word_right above below sent f k on m (words.Changed total largest cache) from heard right =
    restated_right above below sent _ (links_right above sent f (stated_at f.links on (slice_get f.links on) total largest cache) right)
word_right above below sent f k on m (words.Finish number) from heard right =
    attempt_right above below sent f k number (ends_at f (outcome_in m)) (λ at. quiet_right above below sent f right)
    (λ at u got is. ended_right above below sent f k number (outcome_in m) at u (subst (λ x. Stands (let down : Down = record { link = k; message = x } in down) below) from heard) got is right) right
word_right above below sent f k on m (words.Fail number why) from heard right =
    attempt_right above below sent f k number (ends_at f (outcomes.Failed why)) (λ at. quiet_right above below sent f right)
    (λ at u got is. ended_right above below sent f k number (outcomes.Failed why) at u (subst (λ x. Stands (let down : Down = record { link = k; message = x } in down) below) from heard) got is right) right
word_right above below sent f k on m (words.Lose number) from heard right =
    attempt_right above below sent f k number (kept_at f) (λ at. quiet_right above below sent f right) (λ at u got is. kept_right above below sent f at u got right) right
word_right above below sent f k on m (words.PutAgain number files) from heard right =
    attempt_right above below sent f k number (λ at u. puts_again f k number files u) (λ at. quiet_right above below sent f right) (λ at u got is. again_right above below sent f k number files at u got is right) right
word_right above below sent f k on m (words.Stale number) from heard right = quiet_right above below sent f right

answer_right : (above : List Message) (below sent : List Down) (f : Foreman) (k : LinkNo) (on : ℕ) (m : Message) (links : List Below) (answer : Result Word SessionFault) → IsAnswerFrom m answer
    → Stands (let down : Down = record { link = k; message = m } in down) below → IsRight above sent f → IsRightAfter above below sent (on_told f k on m links answer)
answer_right above below sent f k on m links (Ok word) from heard right = word_right above below sent _ k on m word from heard (links_right above sent f links right)
answer_right above below sent f k on m links (Err why) from heard right = drops_right above below sent f k right

heard_at_right : (above : List Message) (below sent : List Down) (f : Foreman) (k : LinkNo) (on : ℕ) (m : Message) (b : Option Below) → Stands (let down : Down = record { link = k; message = m } in down) below → IsRight above sent f
    → IsRightAfter above below sent (heard_at f k on m b)
heard_at_right above below sent f k on m None heard right = quiet_right above below sent f right
heard_at_right above below sent f k on m (Some b) heard right =
    answer_right above below sent f k on m (slice_set f.links on (in_session b (told b.session m).state)) (told b.session m).answer (told_from b.session m) heard right

heard_down : (above : List Message) (below sent : List Down) (f : Foreman) (k : LinkNo) (m : Message) (found : Option ℕ) → Stands (let down : Down = record { link = k; message = m } in down) below → IsRight above sent f
    → IsRightAfter above below sent (heard_where f k m found)
heard_down above below sent f k m None heard right = greeted_right above below sent f k (told new_session m).state (told new_session m).answer right
heard_down above below sent f k m (Some on) heard right = heard_at_right above below sent f k on m (slice_get f.links on) heard right

-- ---- the laws

-- some task
abbrev no_task : Task
no_task = record {
  attempt = record { 0 = 0 };
  run = 0;
  command = [];
  needs = needs.Whole;
  env = [];
  inputs = [];
  outputs = [];
}

pub first_is_right : FirstIsRight
first_is_right cap = record {
  held = λ row there. absurd there;
  asked = λ u there. absurd there;
  owner = λ n. no_task;
  owned = λ s there. absurd there;
  spots = λ u there. absurd there;
}

pub up_keeps_right : UpKeepsRight
up_keeps_right above below sent f m right =
    heard_up (above ++ m ∷ []) below sent f m (stands_right m above (m ∷ []) (inl refl)) (above_grows above (m ∷ []) sent f right)

pub down_keeps_right : DownKeepsRight
down_keeps_right above below sent f k m right =
    let down : Down = record { link = k; message = m } in
    heard_down above (below ++ down ∷ []) sent f k m (place_of_link k f.links) (stands_right down below (down ∷ []) (inl refl)) right

pub lost_keeps_right : LostKeepsRight
lost_keeps_right above below sent f k right = loses_right above below sent f k right
