-- What the machines of a world show after a session of one link went on.
use Rattle.std.proofs.Common.{◌≡◌, ◌⊎◌, inl, inr, ◌<◌, ℕ, zero, suc, Bool, true, false, cond, List, [], ◌∷◌, Some, refl, ap, sym, ◌∙◌, subst, arith, length, map}
use Rattle.std.specs.Prelude.{slice_get, slice_set, ◌==◌}
use Rattle.std.proofs.lemmas.Bool.{eq-eqb, eqb-true}
use Rattle.flow_types.specs.declared.plan.Plan.{Plan}
use Rattle.flow_types.specs.declared.records.Record.{Record}
use Rattle.run_history.specs.declared.options.Options.{Options}
use Rattle.run_history.specs.Links.{records_of}
use Rattle.link_session.specs.Sessions.{State}
use Rattle.net_world.specs.declared.play.Play.{Play}
use Rattle.world_laws.specs.Members.{Every}
use Rattle.world_laws.specs.Worlds.{Connection, World, session_set, with_session}
use Rattle.net_world.specs.Plays.{AreOurs, IsOurs, IsShown, IsTable}
use Rattle.world_contents.specs.Holdings.{kept_in}
use Rattle.net_world.proofs.Lines.{Ascends, links_ascend, numbers_of}
use Rattle.world_laws.proofs.Members.{every_map}

-- beside the links nothing has changed
pub record IsBesideLines (old new : Play) : Type 0 where
  pub table : new.table ≡ old.table
  pub records : new.records.items ≡ old.records.items
  pub contents : new.contents.items ≡ old.contents.items
  pub peers : new.peers.items ≡ old.peers.items
  pub bag : new.bag.items ≡ old.bag.items
  pub up : new.up ≡ old.up

-- ---- one link of those that ascend

other_by : (k : ℕ) (s : State) (c : Connection) (b : Bool) → (c.link == k) ≡ b → (c.link ≡ k → ⊥) → session_set k s c ≡ c
other_by k s c true is apart = absurd (apart (eqb-true c.link k is))
other_by k s c false is apart = ap (λ b. let set : Connection = record c { session = cond b s c.session } in set) is

other : (k : ℕ) (s : State) (c : Connection) → (c.link ≡ k → ⊥) → session_set k s c ≡ c
other k s c apart = other_by k s c (c.link == k) refl apart

same : (s : State) (c : Connection) → session_set c.link s c ≡ (let set : Connection = record c { session = s } in set)
same s c = ap (λ b. let set : Connection = record c { session = cond b s c.session } in set) (eq-eqb c.link c.link refl)

-- links above this number stay as they are
others : (k a : ℕ) (s : State) (cs : List Connection) → (k ≡ a) ⊎ (k < a) → Ascends a (numbers_of cs) → map (session_set k s) cs ≡ cs
others k a s [] below all = refl
others k a s (c ∷ cs) below all =
    let apart : k < c.link = less below in
    ap (λ d. d ∷ map (session_set k s) cs) (other k s c (λ same. omega (arith, same, apart))) ∙ ap (λ (ds : List Connection). c ∷ ds) (others k c.link s cs (inr apart) all.1)
  where
    less : (k ≡ a) ⊎ (k < a) → k < c.link
    less (inl is) = omega (arith, is, all.0)
    less (inr under) = omega (arith, under, all.0)

later_above : (a n : ℕ) (cs : List Connection) (c : Connection) → Ascends a (numbers_of cs) → slice_get cs n ≡ Some c → a < c.link
later_above a n [] c all at = absurd (let h : ⊥ = cc in h)
later_above a zero (d ∷ cs) c all at = let is : d ≡ c = cc in subst (λ c. a < c.link) is all.0
later_above a (suc n) (d ∷ cs) c all at = let more : d.link < c.link = later_above d.link n cs c all.1 at in omega (arith, more, all.0)

-- the session of the link at a place
session_at : (a n : ℕ) (cs : List Connection) (c : Connection) (s : State) → Ascends a (numbers_of cs) → slice_get cs n ≡ Some c
    → map (session_set c.link s) cs ≡ slice_set cs n (let set : Connection = record c { session = s } in set)
session_at a n [] c s all at = absurd (let h : ⊥ = cc in h)
session_at a zero (d ∷ cs) c s all at =
    let is : d ≡ c = cc in
    subst (λ c. map (session_set c.link s) (d ∷ cs) ≡ (let set : Connection = record c { session = s } in set) ∷ cs) is
    (ap (λ e. e ∷ map (session_set d.link s) cs) (same s d) ∙ ap (λ (es : List Connection). (let set : Connection = record d { session = s } in set) ∷ es) (others d.link d.link s cs (inl refl) all.1))
session_at a (suc n) (d ∷ cs) c s all at =
    let apart : d.link < c.link = later_above d.link n cs c all.1 at in
    ap (λ e. e ∷ map (session_set c.link s) cs) (other c.link s d (λ same. omega (arith, same, apart))) ∙ ap (λ (es : List Connection). d ∷ es) (session_at d.link n cs c s all.1 at)

set_numbers : (k : ℕ) (s : State) (cs : List Connection) → numbers_of (map (session_set k s) cs) ≡ numbers_of cs
set_numbers k s [] = refl
set_numbers k s (c ∷ cs) = ap (λ (ks : List ℕ). c.link ∷ ks) (set_numbers k s cs)

set_ours : (P : Plan) (H : List Record) (k : ℕ) (s : State) (c : Connection) (b : Bool) → Every (IsOurs P H) s.attempts → AreOurs P H c → Every (IsOurs P H) (cond b s c.session).attempts
set_ours P H k s c true new old = new
set_ours P H k s c false new old = old

-- the session of the link at a place went on
pub session_shown : (P : Plan) (O : Options) (w : World) (old new : Play) (n : ℕ) (c : Connection) (s : State) → IsShown P O w old → slice_get w.connections n ≡ Some c
    → Every (IsOurs P (records_of w.moves)) s.attempts → new.lines.items ≡ slice_set old.lines.items n (let set : Connection = record c { session = s } in set) → IsBesideLines old new
    → IsShown P O (with_session w c.link s) new
session_shown P O w old new n c s shown at ours set same = record {
  table = subst (IsTable P O w.moves new.table) (sym same.records) (subst (λ t. IsTable P O w.moves t old.records.items) (sym same.table) shown.table);
  contents = λ f. shown.contents f ∙ ap (λ kept. kept_in (slice_get kept f)) (sym same.contents);
  places = ap length same.contents ∙ shown.places;
  lines = set ∙ ap (λ cs. slice_set cs n (let set : Connection = record c { session = s } in set)) shown.lines
      ∙ sym (session_at 0 n w.connections c s (links_ascend O w.moves w.connections shown.live) at);
  live = ap (λ (ks : List ℕ). 0 ∷ ks) (set_numbers c.link s w.connections) ∙ shown.live;
  ours = every_map (AreOurs P (records_of w.moves)) (session_set c.link s) w.connections
      (λ d there. set_ours P (records_of w.moves) c.link s d (d.link == c.link) ours (shown.ours d there));
  peers = same.peers ∙ shown.peers;
  bag = same.bag ∙ shown.bag;
  up = same.up ∙ shown.up;
}
