-- How a peer has done of late.
use Rattle.std.specs.Prelude.{◌≡◌, ◌≤◌, ◌*◌, ℕ, min}

-- How many attempts in a row came to no end at a peer, how many seconds it rests still, and how many
-- the next time.
pub record HealthState : Type 0 where
  pub lost : ℕ
  pub rests : ℕ
  pub next : ℕ

-- one that was asked for nothing yet, or that ended what it was asked for last
abbrev pub well : HealthState
well = record { lost = 0; rests = 0; next = 1 }

-- It doesn't rest, and no attempt was lost there since one came to its end.
pub record IsRested (health : HealthState) : Type 0 where
  pub lost : health.lost ≡ 0
  pub rests : health.rests ≡ 0

-- Three attempts in a row were lost there, or more: it rests for as long as it was to, and the next
-- time for twice as long, at most a minute.
pub record IsSicker (old new : HealthState) : Type 0 where
  pub lost : 3 ≤ new.lost
  pub rests : new.rests ≡ old.next
  pub next : new.next ≡ min (old.next * 2) 60
