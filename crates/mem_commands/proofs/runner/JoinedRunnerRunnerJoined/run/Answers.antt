use Rattle.std.proofs.Common.{◌≡◌, length, replicate, Some, None, rules}
use Rattle.mem_commands.specs.Joins.{content_of, failure_by}
use Rattle.mem_commands.proofs.Shapes.{failed_ends, failed_shape, whole_ends, whole_given, whole_shape}
use Rattle.mem_commands.proofs.runner.JoinedRunnerRunnerJoined.run.Goals as goal

pub returns-in-Some-clause-shape : goal.returns-in-Some-clause-shape
returns-in-Some-clause-shape c =
    let size = length c.in_ok-content.content in
    let fails : failure_by c.args.job.now size ≡ Some c.in-Some.why = search rules in
    failed_shape c.args.job.now size c.in-Some.why c.fail.result fails c.fail.ensures.why

pub returns-in-Some-clause-outcome : goal.returns-in-Some-clause-outcome
returns-in-Some-clause-outcome c =
    let content = c.in_ok-content.content in
    let is : content ≡ content_of c.args.job.now.command c.args.job.now.inputs = search rules in
    let fails : failure_by c.args.job.now (length content) ≡ Some c.in-Some.why = search rules in
    failed_ends c.args.job.now content c.in-Some.why c.fail.result is fails c.fail.ensures.why

pub returns-clause-shape : goal.returns-clause-shape
returns-clause-shape c =
    let content = c.in_ok-content.content in
    let contents = c.in_ok-copies_of-in-None.field-0 in
    let none : failure_by c.args.job.now (length content) ≡ None = search rules in
    let are : contents ≡ replicate (length c.args.job.now.outputs) content = search rules in
    whole_shape c.args.job.now content contents none are

pub returns-clause-outcome : goal.returns-clause-outcome
returns-clause-outcome c =
    let content = c.in_ok-content.content in
    let contents = c.in_ok-copies_of-in-None.field-0 in
    let is : content ≡ content_of c.args.job.now.command c.args.job.now.inputs = search rules in
    let none : failure_by c.args.job.now (length content) ≡ None = search rules in
    let are : contents ≡ replicate (length c.args.job.now.outputs) content = search rules in
    whole_ends c.args.job.now content contents is none are

pub returns-clause-honest : goal.returns-clause-honest
returns-clause-honest c =
    let content = c.in_ok-content.content in
    let contents = c.in_ok-copies_of-in-None.field-0 in
    let is : content ≡ content_of c.args.job.now.command c.args.job.now.inputs = search rules in
    let are : contents ≡ replicate (length c.args.job.now.outputs) content = search rules in
    whole_given c.args.job.now content contents is are
