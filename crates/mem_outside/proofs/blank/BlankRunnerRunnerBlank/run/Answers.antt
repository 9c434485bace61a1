use Rattle.std.proofs.Common.{◌≡◌, ◌∙◌, [], length, replicate, rules}
use Rattle.mem_outside.proofs.EmptyContents.{replicate-blanks, empty_shape}
use Rattle.mem_outside.proofs.blank.BlankRunnerRunnerBlank.run.Goals as goal

pub returns-clause-shape : goal.returns-clause-shape
returns-clause-shape c =
    let is : c.in_ok-contents.contents ≡ replicate (length c.args.job.now.outputs) [] = search rules in
    empty_shape c.args.job.now.outputs c.in_ok-contents.contents is

pub returns-clause-honest : goal.returns-clause-honest
returns-clause-honest c told =
    let is : c.in_ok-contents.contents ≡ replicate (length c.args.job.now.outputs) [] = search rules in
    is ∙ replicate-blanks c.args.job.now.outputs
