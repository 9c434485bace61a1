use Rattle.std.proofs.Common.{◌≡◌, ◌≤◌, length, map, sym, arith}
use Rattle.std.proofs.lemmas.Bool.{le-ltb}
use Rattle.std.proofs.lemmas.List.{length-map}
use Rattle.flow_types.specs.Plans.{most_inputs}
use Rattle.rule_graph.specs.Flows.{raw_port, raw_inputs}
use Rattle.rule_graph.proofs.Repeats.{once_fewer}
use Rattle.rule_graph.proofs.checks.has_many_inputs.Goals as goal

pub returns-then-len : goal.returns-then-len
returns-then-len c =
    let files = c.args.rule.now.inputs in
    let fewer : length (raw_inputs c.args.rule.now) ≤ length (map raw_port files) = once_fewer (map raw_port files) in
    let mapped : length (map raw_port files) ≡ length files = length-map files raw_port in
    let few : length (raw_inputs c.args.rule.now) ≤ 4096 = omega (arith, fewer, mapped, c.len.ensures, c.if-len.true) in
    sym (le-ltb most_inputs (length (raw_inputs c.args.rule.now)) few)
