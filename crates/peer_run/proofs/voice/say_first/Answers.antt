use Rattle.std.proofs.Common.{rules, ◌≡◌, List, Some, sym, subst}
use Rattle.std.specs.Prelude.{slice_get}
use Rattle.flow_types.specs.declared.messages.Message.{Message}
use Rattle.peer_run.specs.Says.{SendsAll}
use Rattle.peer_run.proofs.Sends.{one_only, sends_one}
use Rattle.peer_run.proofs.voice.say_first.Goals as goal

pub returns-in-Some-clause-sent : goal.returns-in-Some-clause-sent
returns-in-Some-clause-sent g c = λ tells.
    let first : slice_get c.args.messages.now 0 ≡ Some c.in-Some.message.now = search rules in
    let old = g.L.Link.history c.args.link.now in
    let new = g.L.Link.history c.say.new.link in
    subst (λ (ms : List Message). SendsAll c.say.result ms old new) (sym (one_only c.args.messages.now c.in-Some.message.now c.requires.few first))
    (sends_one c.say.result c.in-Some.message.now old new (c.say.ensures.sent tells))
