-- What holds of the printed log of every history.
use Rattle.std.specs.Prelude.{◌≡◌, ◌+◌, List, count_by, length}
use Rattle.flow_types.specs.declared.plan.Plan.{Plan}
use Rattle.flow_types.specs.declared.records.Record.{Record}
use Rattle.flow_types.specs.Plans.{rule_numbers}
use Rattle.run_history.specs.Storage.{has_failed, is_complete, is_running, is_waiting}

-- Each rule is counted in one state: the four counts of a line together are the number of rules.
abbrev pub CountsAddUp : Type 0
CountsAddUp = (P : Plan) (H : List Record)
    → count_by (is_waiting H) (rule_numbers P) + count_by (is_running H) (rule_numbers P) + count_by (is_complete H) (rule_numbers P) + count_by (has_failed H) (rule_numbers P)
    ≡ length P.rules
