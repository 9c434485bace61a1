use Rattle.std.proofs.Common.{rules, ◌≡◌, length}
use Rattle.peers.specs.Sends.{put_head}
use Rattle.foreman_run.proofs.Saying.{put_sent}
use Rattle.foreman_run.proofs.voice.send_put.Goals as goal

pub returns-in-Ok-clause-sent : goal.returns-in-Ok-clause-sent
returns-in-Ok-clause-sent g c = λ tells.
    let content = c.args.content in
    let head = c.as_slice-2.result.now in
    let is : head ≡ put_head c.args.key (length content) = search rules in
    put_sent c.hand.result c.args.key content head (g.L.Link.history c.args.way.now) (g.L.Link.history c.send.new.self) (g.L.Link.history c.hand.new.self) is (c.in-Ok.ensures.history tells) (c.hand.ensures.history tells)
