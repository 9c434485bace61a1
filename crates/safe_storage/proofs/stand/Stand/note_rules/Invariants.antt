use Rattle.std.proofs.Common.{◌≡◌, ◌<◌, ℕ, List, length}
use Rattle.run_history.specs.declared.moves.Move.{Move}
use Rattle.run_history.specs.Links.{records_of}
use Rattle.task_core.specs.Stands.{Stands}
use Rattle.safe_storage.specs.Counters.{phase_at}
use Rattle.safe_storage.specs.Pacing.{phase_in}
use Rattle.safe_storage.proofs.stand.Stand.note_rules.Given as goal

abbrev pub invariant-loop-rule : goal.invariant-loop-rule
invariant-loop-rule l = record {
  rules : length l.self.phases.items ≡ length l.fn.self.phases.items;
  bytes : l.self.bytes ≡ l.fn.self.bytes;
  phases : (moves : List Move) → Stands l.table moves → (r : ℕ) → r < l.rule
      → phase_at l.self.phases.items r ≡ phase_in (records_of moves) r;
}
