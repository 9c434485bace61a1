use Rattle.std.proofs.Common.{rules, ◌≡◌}
use Rattle.message_forms.specs.Streams.{framed}
use Rattle.peers.proofs.Sending.{said_part, said_whole}
use Rattle.peers.proofs.voice.say.Goals as goal

pub returns-in-Ok-clause-sends : goal.returns-in-Ok-clause-sends
returns-in-Ok-clause-sends g c = λ tells.
    let m = c.args.message.now in
    let bytes = c.in_ok-bytes.bytes in
    let same : bytes ≡ framed m = search rules in
    said_whole m (g.L.Link.history c.args.way.now) (g.L.Link.history c.hand.new.self) bytes (c.in-Ok.ensures.history tells) same (c.in_ok-body.ensures.fits, c.requires.short)

pub returns-clause-sends : goal.returns-clause-sends
returns-clause-sends g c = λ tells.
    let m = c.args.message.now in
    let bytes = c.in_ok-bytes.bytes in
    let same : bytes ≡ framed m = search rules in
    said_part m c.of.result c.in-Err.fault (g.L.Link.history c.args.way.now) (g.L.Link.history c.hand.new.self) bytes (c.in-Err.ensures.history tells) same (c.in_ok-body.ensures.fits, c.requires.short)
