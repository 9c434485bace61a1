-- A move that logs nothing keeps the invariant.
use Rattle.std.proofs.Common.{◌≡◌, [], ◌∷◌}
use Rattle.run_history.specs.declared.moves.Move.{Move}
use Rattle.run_history.specs.Links.{records_of}
use Rattle.run_history.proofs.Grows.{records-same}
use Rattle.world_laws.specs.Worlds.{World, records_in, moved}
use Rattle.world_laws.proofs.WorldSteps.{moved_kept}
use Rattle.world_laws.proofs.Invariant.{Setting, IsKept}

pub unlogged_kept : (S : Setting) (w : World) (move : Move) → records_of (move ∷ []) ≡ [] → IsKept S w → IsKept S (moved w move)
unlogged_kept S w move silent kept =
    moved_kept S w move w.contents (records_in w) (records-same w.moves move silent) (λ a r at. at) kept kept.recorded kept.stored kept.closed
