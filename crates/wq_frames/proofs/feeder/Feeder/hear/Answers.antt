use Rattle.std.proofs.Common.{sym, ap, ◌∙◌}
use Rattle.wq_messages.specs.Reading.{message_of}
use Rattle.wq_frames.proofs.Bodies.{has_message}
use Rattle.wq_frames.proofs.feeder.Feeder.hear.Goals as goal

pub returns-in-Ok-clause-message : goal.returns-in-Ok-clause-message
returns-in-Ok-clause-message c =
    λ _. has_message c.args.body.items c.in-Ok.field-0 (ap message_of (sym c.as_slice.ensures) ∙ sym c.in-Ok.ensures.answer)
