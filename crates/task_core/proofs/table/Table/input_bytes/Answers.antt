use Rattle.std.proofs.Common.{◌≡◌, ◌∙◌, arith}
use Rattle.task_core.specs.Known.{input_sum}
use Rattle.task_core.specs.States.{known_in}
use Rattle.task_core.proofs.Limiting.{small-rule}
use Rattle.task_core.proofs.table.Table.input_bytes.Goals as goal

pub bytes-requires : goal.bytes-requires
bytes-requires c = omega (arith, c.requires, c.progress.ensures.known.rules.rules)

pub returns-clause-sum : goal.returns-clause-sum
returns-clause-sum c = c.bytes.ensures ∙ c.progress.ensures.known.inputs.bytes c.args.rule.0

pub returns-clause-small : goal.returns-clause-small
returns-clause-small c =
    let few = small-rule (known_in c.args.self.now) c.args.rule.0 c.progress.ensures.valid c.progress.ensures.small in
    let sum : c.bytes.result ≡ input_sum (known_in c.args.self.now) c.args.rule.0 = c.bytes.ensures ∙ c.progress.ensures.known.inputs.bytes c.args.rule.0 in
    omega (arith, sum, few.bytes)
