use Rattle.std.proofs.Common.{◌≡◌, ◌≤◌, ℕ, List, cond, length}
use Rattle.std.specs.Prelude.{nat_lt}
use Rattle.run_history.specs.declared.moves.Move.{Move}
use Rattle.run_history.specs.Links.{records_of}
use Rattle.task_core.specs.Stands.{Stands}
use Rattle.world_contents.specs.Holdings.{held_in}
use Rattle.world_laws.specs.Worlds.{present_only}
use Rattle.world_contents.proofs.present.keep_present.Given as goal

-- the files below the next one are done
abbrev pub invariant-loop-file : goal.invariant-loop-file
invariant-loop-file l = record {
  within : l.file ≤ length l.table.plan.files;
  places : length l.contents.items ≡ length l.fn.contents.items;
  held : (moves : List Move) → Stands l.table moves → (f : ℕ) → held_in l.contents.items f
      ≡ cond (nat_lt f l.file) (present_only l.table.plan (records_of moves) (held_in l.fn.contents.items) f) (held_in l.fn.contents.items f);
}
