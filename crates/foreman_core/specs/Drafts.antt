-- A step while it is being made, and how placements are taken back.
use Rattle.std.specs.Prelude.{ℕ, List, [], ◌∷◌, Option, Some, None, map, slice_get, slice_set}
use Rattle.flow_types.specs.declared.messages.Message.{Message}
use Rattle.link_session.specs.Sessions.{State}
use Rattle.worker_cache.specs.Caches.{Cached}
use Rattle.foreman_core.specs.declared.acts.Down.{Down}
use Rattle.foreman_core.specs.declared.links.Upstream.{Upstream}
use Rattle.foreman_core.specs.declared.links.Below.{Below}
use Rattle.foreman_core.specs.declared.placed.Placed.{Placed}
use Rattle.foreman_core.specs.Foremen.{Foreman, kept, totals}
use Rattle.foreman_core.specs.Steps.{Led, in_session, not_run, sending, settled}

-- what is to be sent, and the number of the next attempt below
pub record Drafted : Type 0 where
  pub next : ℕ
  pub up : List Message
  pub down : List Down

-- the step that a draft is, over these contents, attempts and workers
abbrev pub led_of : Cached → List Upstream → List Below → Drafted → Led
led_of cache attempts links d = record {
  foreman = record { cache = cache; attempts = attempts; links = links; next = d.next };
  acts = sending d.up d.down;
}

-- the attempts and the workers
pub record Places : Type 0 where
  pub attempts : List Upstream
  pub links : List Below

-- the attempts, where that at a place isn't placed any more
abbrev pub unspotted : List Upstream → ℕ → Option Upstream → List Upstream
unspotted attempts at None = attempts
unspotted attempts at (Some u) = slice_set attempts at (kept u.task)

-- the workers, where that at a place has this session
abbrev pub resumed : List Below → ℕ → State → Option Below → List Below
resumed links on session None = links
resumed links on session (Some b) = slice_set links on (in_session b session)

-- what was before a placement
abbrev pub taken_back : Placed → Places → Places
taken_back p s = record {
  attempts = unspotted s.attempts p.at (slice_get s.attempts p.at);
  links = resumed s.links p.on p.session (slice_get s.links p.on);
}

-- what was before these placements, of which the last is taken back first
abbrev pub before : List Placed → Places → Places
before [] s = s
before (p ∷ placed) s = taken_back p (before placed s)

-- what is done where a link is lost, once this is what is left and these attempts are gone
abbrev pub parted : Foreman → List Upstream → Led
parted left gone =
    settled (record { foreman = left; acts = sending (totals left ∷ map not_run gone) [] })
