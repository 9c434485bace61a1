-- A step on workers that were changed, as a step of the foreman that it began with.
use Rattle.std.proofs.Common.{◌≡◌, ◌<◌, ℕ, List, [], ◌∷◌, length, Option, Some, None, Result, Ok, sym, subst}
use Rattle.std.specs.Prelude.{position, remove, slice_get, slice_set}
use Rattle.std.specs.Option.{option_map_or}
use Rattle.flow_types.specs.declared.job.Outcome.{Outcome}
use Rattle.flow_types.specs.declared.lists.Memory.{Memory}
use Rattle.flow_types.specs.declared.messages.Message.{Message}
use Rattle.flow_types.specs.declared.messages.Message.TheVariants as messages
use Rattle.flow_types.specs.declared.numbers.AttemptNo.{AttemptNo}
use Rattle.flow_types.specs.declared.numbers.LinkNo.{LinkNo}
use Rattle.link_session.specs.declared.word.Word.{Word}
use Rattle.link_session.specs.Sessions.{State}
use Rattle.foreman_core.specs.declared.acts.ForemanActs.{ForemanActs}
use Rattle.foreman_core.specs.declared.links.Below.{Below}
use Rattle.foreman_core.specs.declared.links.Spot.{Spot}
use Rattle.foreman_core.specs.declared.links.Upstream.{Upstream}
use Rattle.foreman_core.specs.Answers.{Leads}
use Rattle.foreman_core.specs.Drafts.{Drafted, led_of, resumed}
use Rattle.foreman_core.specs.Foremen.{Foreman, is_at, joined, kept, place_of_link}
use Rattle.foreman_core.specs.Steps.{cancel_at, cancels_at, closed_by, closed_on, ends_at, holding, kept_at, not_run, on_word, quiet, released, restated, settled, with_attempt}
use Rattle.foreman_core.proofs.Undoing.{at_place}

-- a worker joined
pub joins_by : (f inside : Foreman) (more : List Below) (b : Below) (acts : ForemanActs) (new : Foreman) → inside ≡ f → more ≡ joined b inside.links
    → (let r : Result ForemanActs Memory = Ok acts in Leads (restated (record inside { links = more })) inside r new → Leads (restated (record f { links = joined b f.links })) f r new)
joins_by f inside more b acts new view is leads =
    let r : Result ForemanActs Memory = Ok acts in
    subst (λ g. Leads (restated (record g { links = joined b g.links })) g r new) view (subst (λ ls. Leads (restated (record inside { links = ls })) inside r new) is leads)

-- a word, once the worker has this session
pub turns_by : (f inside : Foreman) (changed : List Below) (k : LinkNo) (on : ℕ) (m : Message) (word : Word) (session : State) (acts : ForemanActs) (new : Foreman) → inside ≡ f
    → changed ≡ resumed inside.links on session (slice_get inside.links on)
    → (let r : Result ForemanActs Memory = Ok acts in Leads (on_word (record inside { links = changed }) k on m word) inside r new
    → Leads (on_word (record f { links = resumed f.links on session (slice_get f.links on) }) k on m word) f r new)
turns_by f inside changed k on m word session acts new view is leads =
    let r : Result ForemanActs Memory = Ok acts in
    subst (λ g. Leads (on_word (record g { links = resumed g.links on session (slice_get g.links on) }) k on m word) g r new) view
    (subst (λ ls. Leads (on_word (record inside { links = ls }) k on m word) inside r new) is leads)

-- The attempt at a place ends, where the workers are these.
abbrev pub Ends : Foreman → ℕ → List Below → Drafted → Result ForemanActs Memory → Foreman → Type 0
Ends f at links d r new = (u : Upstream) → slice_get f.attempts at ≡ Some u → Leads (holding (settled (led_of f.cache (remove f.attempts at) links d)) (released f.cache.rows u)) f r new

-- the same, once it was closed at a worker
pub ends_closed : (f inside : Foreman) (changed : List Below) (on : ℕ) (number : AttemptNo) (at : ℕ) (d : Drafted) (acts : ForemanActs) (new : Foreman) → inside ≡ f
    → changed ≡ closed_by inside.links number on (slice_get inside.links on)
    → (let r : Result ForemanActs Memory = Ok acts in Ends inside at changed d r new → Ends f at (closed_by f.links number on (slice_get f.links on)) d r new)
ends_closed f inside changed on number at d acts new view is ends =
    let r : Result ForemanActs Memory = Ok acts in
    subst (λ g. Ends g at (closed_by g.links number on (slice_get g.links on)) d r new) view (subst (λ ls. Ends inside at ls d r new) is ends)

-- the same, by where the worker stands
pub ends_placed : (f : Foreman) (spot : Spot) (place : Option ℕ) (at : ℕ) (d : Drafted) (r : Result ForemanActs Memory) (new : Foreman) → place ≡ place_of_link spot.link f.links
    → Ends f at (option_map_or (λ on. closed_by f.links spot.number on (slice_get f.links on)) place f.links) d r new → Ends f at (closed_on f.links (Some spot)) d r new
ends_placed f spot place at d r new is ends = subst (λ p. Ends f at (option_map_or (λ on. closed_by f.links spot.number on (slice_get f.links on)) p f.links) d r new) is ends

-- An attempt ended below.
pub ends_below : (f : Foreman) (k : LinkNo) (number : AttemptNo) (outcome : Outcome) (at : ℕ) (d : Drafted) (r : Result ForemanActs Memory) (new : Foreman) → at < length f.attempts → Some at ≡ position (is_at k number) f.attempts
    → ((u : Upstream) → slice_get f.attempts at ≡ Some u → (let ended : Drafted = record { next = f.next; up = messages.Done u.task.attempt outcome ∷ []; down = [] } in d ≡ ended)) → Ends f at f.links d r new
    → Leads (with_attempt f k number (ends_at f outcome)) f r new
ends_below f k number outcome at d r new lt place drafted ends =
    subst (λ p. Leads (option_map_or (λ a. ends_at f outcome a (slice_get f.attempts a)) p (quiet f)) f r new) place
    (at_place f.attempts at (λ found. Leads (ends_at f outcome at found) f r new) lt
    (λ u got. subst (λ x. Leads (holding (settled (led_of f.cache (remove f.attempts at) f.links x)) (released f.cache.rows u)) f r new) (drafted u got) (ends u got)))

-- An attempt that isn't placed is cancelled.
pub cancels_kept : (f : Foreman) (at : ℕ) (d : Drafted) (r : Result ForemanActs Memory) (new : Foreman) → at < length f.attempts → ((u : Upstream) → slice_get f.attempts at ≡ Some u → u.spot ≡ None)
    → ((u : Upstream) → slice_get f.attempts at ≡ Some u → (let told : Drafted = record { next = f.next; up = not_run u ∷ []; down = [] } in d ≡ told)) → Ends f at f.links d r new
    → Leads (cancels_at f at (slice_get f.attempts at)) f r new
cancels_kept f at d r new lt free drafted ends =
    at_place f.attempts at (λ found. Leads (cancels_at f at found) f r new) lt
    (λ u got. subst (λ s. Leads (holding (settled (led_of f.cache (remove f.attempts at) (closed_on f.links s) (record { next = f.next; up = not_run u ∷ []; down = cancel_at s }))) (released f.cache.rows u)) f r new) (sym (free u got))
    (subst (λ x. Leads (holding (settled (led_of f.cache (remove f.attempts at) f.links x)) (released f.cache.rows u)) f r new) (drafted u got) (ends u got)))

-- An attempt came to no end below.
pub keeps_by : (f inside : Foreman) (changed : List Upstream) (at : ℕ) (d : Drafted) (acts : ForemanActs) (new : Foreman) → inside ≡ f → at < length inside.attempts
    → ((u : Upstream) → slice_get inside.attempts at ≡ Some u → changed ≡ slice_set inside.attempts at (kept u.task)) → (let none : Drafted = record { next = inside.next; up = []; down = [] } in d ≡ none)
    → (let r : Result ForemanActs Memory = Ok acts in Leads (settled (led_of inside.cache changed inside.links d)) inside r new → Leads (kept_at f at (slice_get f.attempts at)) f r new)
keeps_by f inside changed at d acts new view lt clears drafted leads =
    let r : Result ForemanActs Memory = Ok acts in
    let none : Drafted = record { next = inside.next; up = []; down = [] } in
    subst (λ g. Leads (kept_at g at (slice_get g.attempts at)) g r new) view
    (at_place inside.attempts at (λ found. Leads (kept_at inside at found) inside r new) lt
    (λ u got. subst (λ us. Leads (settled (led_of inside.cache us inside.links none)) inside r new) (clears u got)
    (subst (λ x. Leads (settled (led_of inside.cache changed inside.links x)) inside r new) drafted leads)))
