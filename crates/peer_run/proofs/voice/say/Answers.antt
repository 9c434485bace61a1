use Rattle.std.proofs.Common.{rules, ◌≡◌}
use Rattle.message_forms.specs.Streams.{frame}
use Rattle.links.proofs.Honesties.{said_as}
use Rattle.wq_messages.specs.Spelling.{spelling}
use Rattle.peer_run.proofs.voice.say.Goals as goal

pub returns-clause-said : goal.returns-clause-said
returns-clause-said g c = λ said tells link may.
    let same : c.in_ok-bytes.bytes ≡ frame (spelling c.args.message.now) = search rules in
    said_as g.F.Commands.gives g.F.Commands.may_fail (g.L.Link.history c.args.link.now) (g.L.Link.history c.hand.new.self) said c.args.message.now
    c.in_ok-bytes.bytes c.hand.result (c.hand.ensures.history tells) same link (c.in_ok-body.ensures.fits, c.requires.short) may
