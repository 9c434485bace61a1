use Rattle.std.proofs.Common.{◌≤◌, length, subst, sym}
use Rattle.flow_types.specs.declared.messages.Message.{Message}
use Rattle.wq_messages.specs.Spelling.{most_body, spelling}
use Rattle.mem_links.proofs.Answering.{done_short}
use Rattle.mem_links.proofs.hearing.give_result.Goals as goal

pub frame_of-requires-clause-short : goal.frame_of-requires-clause-short
frame_of-requires-clause-short c =
    subst (λ (m : Message). length (spelling m) ≤ most_body) (sym c.in_ok-result.ensures)
    (done_short c.args.task.now c.requires)
