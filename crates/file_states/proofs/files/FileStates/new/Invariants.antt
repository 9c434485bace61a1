use Rattle.file_states.proofs.Filling.{IsFilled}
use Rattle.file_states.proofs.files.FileStates.new.Given as goal

abbrev pub invariant-loop-row : goal.invariant-loop-row
invariant-loop-row l = IsFilled l.plan l.sources l.row-index l.states.items l.rows
