use Rattle.peer_run.proofs.Sends.{sends_one}
use Rattle.foreman_run.proofs.voice.say_plain.Goals as goal

pub returns-clause-one : goal.returns-clause-one
returns-clause-one g c = record {
  said = λ said t right may. c.say.ensures.said said t right may;
  sent = λ t. sends_one c.say.result c.args.message (g.U.Link.history c.args.link.now) (g.U.Link.history c.say.new.link) (c.say.ensures.sent t);
}
