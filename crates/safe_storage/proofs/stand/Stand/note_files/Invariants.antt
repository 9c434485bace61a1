use Rattle.std.proofs.Common.{◌≡◌, ◌<◌, ◌≤◌, ℕ, List, length}
use Rattle.std.specs.Prelude.{slice_index_or}
use Rattle.flow_types.specs.Plans.{most_bytes}
use Rattle.run_history.specs.declared.moves.Move.{Move}
use Rattle.run_history.specs.Links.{records_of}
use Rattle.task_core.specs.Stands.{Stands}
use Rattle.safe_storage.specs.Pacing.{bytes_in}
use Rattle.safe_storage.proofs.stand.Stand.note_files.Given as goal

abbrev pub invariant-loop-file : goal.invariant-loop-file
invariant-loop-file l = record {
  files : length l.self.bytes.items ≡ length l.fn.self.bytes.items;
  phases : l.self.phases ≡ l.fn.self.phases;
  bytes : (moves : List Move) → Stands l.table moves → (f : ℕ) → f < l.file
      → slice_index_or l.self.bytes.items f 0 ≡ bytes_in l.table.plan (records_of moves) f;
  small : (f : ℕ) → f < l.file → slice_index_or l.self.bytes.items f 0 ≤ most_bytes;
}
