use Rattle.std.proofs.Common.{◌≡◌, ◌++◌, [], List, map, reverse, vec_len}
use Rattle.mf_rules.specs.declared.steps.Formed.{Formed}
use Rattle.mf_rules.specs.Faults.{first_fault}
use Rattle.mf_rules.specs.Flow.{given_pairs, formed}
use Rattle.mf_rules.specs.Progress.{Stands, stack_of}
use Rattle.mf_rules.proofs.flow.read_lines.Given as goal

-- the lines that were read, of which the last comes first, and those that are left
abbrev pub invariant-loop-step : goal.invariant-loop-step
invariant-loop-step l = record {
  earlier : List Formed;
  later : List Formed;
  left : l.steps.items ≡ stack_of later;
  whole : reverse later ++ earlier ≡ reverse (map formed l.fn.lines.items);
  faults : first_fault (given_pairs l.env) earlier later ≡ first_fault (given_pairs l.env) [] (map formed l.fn.lines.items);
  stands : Stands (given_pairs l.env) earlier l.reader;
}

abbrev pub decreases-loop-step : goal.decreases-loop-step
decreases-loop-step l = vec_len l.steps
