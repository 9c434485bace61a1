use Rattle.std.proofs.Common.{◌≡◌, ◌≤◌, take, length, sum_by}
use Rattle.outside.specs.Jobs.{AllFit}
use Rattle.real_jobs.proofs.outputs.take_outputs.Given as goal

abbrev pub invariant-loop-i : goal.invariant-loop-i
invariant-loop-i g l = record {
  within : l.together ≤ 67108864;
  total : l.together ≡ sum_by (λ content. length content) l.contents.items;
  fit : AllFit (take l.i l.want-items) l.contents.items;
}
