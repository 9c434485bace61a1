use Rattle.std.proofs.Common.{rules, ◌≡◌}
use Rattle.message_forms.specs.Streams.{framed}
use Rattle.foreman_run.proofs.Saying.{frame_sent}
use Rattle.foreman_run.proofs.voice.send_frame.Goals as goal

pub returns-clause-sent : goal.returns-clause-sent
returns-clause-sent g c = λ tells.
    let m = c.args.message.now in
    let bytes = c.in_ok-bytes.bytes in
    let is : bytes ≡ framed m = search rules in
    frame_sent c.hand.result m bytes (g.L.Link.history c.args.way.now) (g.L.Link.history c.hand.new.self) is (c.hand.ensures.history tells)
