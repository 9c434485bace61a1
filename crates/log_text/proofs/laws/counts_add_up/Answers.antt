use Rattle.std.proofs.Common.{length, ◌∙◌}
use Rattle.std.proofs.lemmas.List.FromFn.{length-range_with_len}
use Rattle.flow_types.specs.Plans.{rule_numbers}
use Rattle.log_text.proofs.Counting.{states-add}
use Rattle.log_text.proofs.laws.counts_add_up.Goals as goal

pub returns : goal.returns
returns c P H = states-add H (rule_numbers P) ∙ length-range_with_len 0 (length P.rules)
