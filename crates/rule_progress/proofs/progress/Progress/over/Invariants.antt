use Rattle.rule_progress.specs.Progress.{IsSame, Knows, first_sizes}
use Rattle.rule_progress.proofs.progress.Progress.over.Given as goal

abbrev pub invariant-loop-file : goal.invariant-loop-file
invariant-loop-file l = record {
  known : Knows l.plan (first_sizes l.files l.file) l.progress;
  same : IsSame l.initial.progress l.progress;
}
