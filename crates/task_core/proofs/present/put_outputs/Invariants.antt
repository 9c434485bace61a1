use Rattle.std.proofs.Common.{◌≡◌, ◌≤◌, ℕ, drop, length}
use Rattle.flow_types.specs.Plans.{makes, most_bytes}
use Rattle.run_history.specs.States.{row_of}
use Rattle.rule_progress.specs.Progress.{IsSame, Knows}
use Rattle.task_core.specs.Accounts.{bytes_in, size_of, state_in, stored_in}
use Rattle.task_core.specs.Stands.{made_or}
use Rattle.task_core.proofs.present.put_outputs.Given as goal

abbrev pub invariant-outputs : goal.invariant-outputs
invariant-outputs l = record {
  within : l.at ≤ length l.outs;
  made : (f : ℕ) → state_in l.files f ≡ made_or (row_of f (drop l.at (makes l.plan l.fn.rule.0)) (drop l.at l.outs)) (state_in l.initial.files f);
  files : length l.files ≡ length l.plan.files;
  small : (f : ℕ) → bytes_in l.files f ≤ most_bytes;
  stored : l.account ≡ record l.initial.account { stored = stored_in l.plan l.files };
  known : Knows l.plan (size_of l.files) l.progress;
  rest : IsSame l.initial.progress l.progress;
}

abbrev pub decreases-outputs : goal.decreases-outputs
decreases-outputs l = l.at
