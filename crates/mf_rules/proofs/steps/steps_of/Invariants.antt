use Rattle.std.proofs.Common.{◌≡◌, ◌++◌, List, map, vec_len}
use Rattle.mf_rules.specs.declared.steps.Formed.{Formed}
use Rattle.mf_rules.specs.Faults.{is_answered}
use Rattle.mf_rules.specs.Flow.{formed}
use Rattle.mf_rules.specs.Progress.{stack_of}
use Rattle.mf_rules.proofs.steps.steps_of.Given as goal

-- what is left, and the lines behind it
abbrev pub invariant-loop-line : goal.invariant-loop-line
invariant-loop-line l = record {
  later : List Formed;
  whole : map formed l.lines.items ++ later ≡ map formed l.fn.lines.items;
  steps : l.steps.items ≡ stack_of later;
  answered : l.is_answered ≡ is_answered later;
}

abbrev pub decreases-loop-line : goal.decreases-loop-line
decreases-loop-line l = vec_len l.lines
