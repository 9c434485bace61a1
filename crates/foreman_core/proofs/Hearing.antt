-- What a message from below means, by its place and its word.
use Rattle.std.proofs.Common.{◌≡◌, ◌⊎◌, inl, inr, ℕ, ◌<◌, ◌≤◌, get_or, List, [], ◌∷◌, Option, Some, None, Result, Err, refl, sym, ap, ◌∙◌, subst, arith}
use Rattle.std.specs.Prelude.{length, slice_get, slice_set}
use Rattle.std.proofs.lemmas.Option.{slice_get_cases}
use Rattle.flow_types.specs.declared.lists.Memory.{Memory}
use Rattle.flow_types.specs.declared.messages.Message.{Message}
use Rattle.flow_types.specs.declared.numbers.LinkNo.{LinkNo}
use Rattle.link_session.specs.declared.word.Word.{Word}
use Rattle.link_session.specs.declared.word.SessionFault.{SessionFault}
use Rattle.link_session.specs.declared.word.SessionFault.TheVariants as faults
use Rattle.link_session.specs.Sessions.{Comes, State, Told, told}
use Rattle.foreman_core.specs.declared.acts.ForemanActs.{ForemanActs}
use Rattle.foreman_core.specs.declared.links.Below.{Below}
use Rattle.foreman_core.specs.Answers.{Leads}
use Rattle.foreman_core.specs.Drafts.{Drafted, led_of, resumed}
use Rattle.foreman_core.specs.Foremen.{Foreman, place_of_link, totals}
use Rattle.foreman_core.specs.Steps.{greeted, heard_at, heard_where, hears_down, in_session, on_told, restated, settled}

-- a step from below is that of where the link stands
pub heard_there : (f : Foreman) (k : LinkNo) (m : Message) (found : Option ℕ) (r : Result ForemanActs Memory) (new : Foreman) → place_of_link k f.links ≡ found → Leads (heard_where f k m found) f r new → Leads (hears_down f k m) f r new
heard_there f k m found r new is leads = subst (λ o. Leads (heard_where f k m o) f r new) (sym is) leads

-- ---- a first message

pub greets_by : (f : Foreman) (k : LinkNo) (t : Told) (old session : State) (answer : Result Word SessionFault) (r : Result ForemanActs Memory) (new : Foreman) → Comes t old answer session → (answer ≡ (let fault : Result Word SessionFault = Err faults.Memory in fault) → ⊥)
    → Leads (greeted f k session answer) f r new → Leads (greeted f k t.state t.answer) f r new
greets_by f k t old session answer r new (inl is) told_it leads = subst (λ s. Leads (greeted f k s t.answer) f r new) is.1 (subst (λ a. Leads (greeted f k session a) f r new) is.0 leads)
greets_by f k t old session answer r new (inr is) told_it leads = absurd (told_it is.0)

-- ---- a further message

-- The worker at a place means this, and these are the workers then; or memory is wanting.
abbrev pub Means : List Below → ℕ → Message → Result Word SessionFault → List Below → Type 0
Means links on m answer new =
    (b : Below) → slice_get links on ≡ Some b
    → ((answer ≡ (told b.session m).answer) × (new ≡ slice_set links on (in_session b (told b.session m).state))) ⊎ (answer ≡ Err faults.Memory)

-- The worker is given the session in which the message was heard.
pub means_by : (links : List Below) (on : ℕ) (m : Message) (own session : State) (answer : Result Word SessionFault) → ((b : Below) → slice_get links on ≡ Some b → own ≡ b.session) → Comes (told own m) own answer session
    → Means links on m answer (resumed links on session (slice_get links on))
means_by links on m own session answer is (inl said) b got =
    inl (said.0 ∙ ap (λ s. (told s m).answer) (is b got), ap (resumed links on session) got ∙ ap (λ s. slice_set links on (in_session b s)) (said.1 ∙ ap (λ s. (told s m).state) (is b got)))
means_by links on m own session answer is (inr wants) b got = inr wants.0

told_by_it : (f : Foreman) (k : LinkNo) (on : ℕ) (m : Message) (b : Below) (answer : Result Word SessionFault) (links : List Below) (r : Result ForemanActs Memory) (new : Foreman)
    → ((answer ≡ (told b.session m).answer) × (links ≡ slice_set f.links on (in_session b (told b.session m).state))) ⊎ (answer ≡ Err faults.Memory) → (answer ≡ (let fault : Result Word SessionFault = Err faults.Memory in fault) → ⊥)
    → Leads (on_told f k on m links answer) f r new → Leads (heard_at f k on m (Some b)) f r new
told_by_it f k on m b answer links r new (inl is) told_it leads =
    subst (λ a. Leads (on_told f k on m (slice_set f.links on (in_session b (told b.session m).state)) a) f r new) is.0 (subst (λ ls. Leads (on_told f k on m ls answer) f r new) is.1 leads)
told_by_it f k on m b answer links r new (inr is) told_it leads = absurd (told_it is)

pub hears_by : (f : Foreman) (k : LinkNo) (on : ℕ) (m : Message) (answer : Result Word SessionFault) (links : List Below) (r : Result ForemanActs Memory) (new : Foreman) → on < length f.links → Means f.links on m answer links
    → (answer ≡ (let fault : Result Word SessionFault = Err faults.Memory in fault) → ⊥) → Leads (on_told f k on m links answer) f r new → Leads (heard_at f k on m (slice_get f.links on)) f r new
hears_by f k on m answer links r new lt means told_it leads = by (slice_get f.links on) refl (slice_get_cases f.links on).1
  where
    by : (found : Option Below) → slice_get f.links on ≡ found → ((b : Below) × (on < length f.links) × (slice_get f.links on ≡ Some b) × (get_or f.links on b ≡ b)) ⊎ ((length f.links ≤ on) × (slice_get f.links on ≡ None))
        → Leads (heard_at f k on m found) f r new
    by (Some b) got cases = told_by_it f k on m b answer links r new (means b got) told_it leads
    by None got (inl is) = absurd (let h : ⊥ = cc in h)
    by None got (inr past) = absurd (let h : ⊥ = omega (arith, lt, past.0) in h)

-- ---- other workers

pub restated_by : (f : Foreman) (links others : List Below) (r : Result ForemanActs Memory) (new : Foreman) → links ≡ others → Leads (restated (record f { links = links })) f r new → Leads (restated (record f { links = others })) f r new
restated_by f links others r new is leads = subst (λ ls. Leads (restated (record f { links = ls })) f r new) is leads

pub restated_drafted : (f : Foreman) (d : Drafted) (r : Result ForemanActs Memory) (new : Foreman) → d ≡ (let drafted : Drafted = record { next = f.next; up = totals f ∷ []; down = [] } in drafted)
    → Leads (settled (led_of f.cache f.attempts f.links d)) f r new → Leads (restated f) f r new
restated_drafted f d r new is leads = subst (λ x. Leads (settled (led_of f.cache f.attempts f.links x)) f r new) is leads
