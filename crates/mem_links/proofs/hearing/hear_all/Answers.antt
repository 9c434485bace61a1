use Rattle.mem_links.proofs.Fronts.{heard_more}
use Rattle.mem_links.proofs.hearing.hear_all.Goals as goal

pub loop-message-preserved : goal.loop-message-preserved
loop-message-preserved c =
    heard_more c.args.bytes.now c.args.keys.now.items c.args.gives.now.items
    c.loop-message.rest.now c.in-Some.behind.now c.loop-message.keys.items c.hear.new.keys.items
    c.loop-message.gives.items c.hear.new.gives.items c.in-Some.message c.loop-message.invariant
    c.in-Some.ensures.some.0 c.in-Some.ensures.some.1 c.in_ok-hear.ensures.keys
    c.in_ok-hear.ensures.gives
