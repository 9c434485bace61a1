use Rattle.std.proofs.Common.{rules, ◌≡◌, ◌++◌, length, ap, ◌∙◌, List, ℕ}
use Rattle.message_forms.specs.Streams.{framed}
use Rattle.flow_types.specs.declared.messages.Message.TheVariants as messages
use Rattle.peers.specs.Sends.{put_head}
use Rattle.peers.proofs.Sending.{put_cut, put_framed, put_part, put_parts, put_whole}
use Rattle.peers.proofs.voice.say_put.Goals as goal

pub returns-in-Err-clause-sends : goal.returns-in-Err-clause-sends
returns-in-Err-clause-sends g c = λ tells.
    let key = c.args.key in
    let content = c.args.content in
    let head = c.as_slice-2.result.now in
    let is : head ≡ put_head key (length content) = search rules in
    let whole : head ++ content ≡ framed (messages.Put key content) = ap (λ (h : List ℕ). h ++ content) is ∙ put_parts key content in
    put_cut key content head c.of.result c.in-Err.fault (g.L.Link.history c.args.way.now) (g.L.Link.history c.send.new.self) (c.in-Err.ensures.history tells) whole
    (put_framed key content c.head_of.ensures.fits c.requires.short)

pub returns-in-Ok-clause-sends : goal.returns-in-Ok-clause-sends
returns-in-Ok-clause-sends g c = λ tells.
    let key = c.args.key in
    let content = c.args.content in
    let head = c.as_slice-2.result.now in
    let is : head ≡ put_head key (length content) = search rules in
    let whole : head ++ content ≡ framed (messages.Put key content) = ap (λ (h : List ℕ). h ++ content) is ∙ put_parts key content in
    put_whole key content head (g.L.Link.history c.args.way.now) (g.L.Link.history c.send.new.self) (g.L.Link.history c.hand.new.self) (c.in_default.ensures.history tells) (c.in-Ok.ensures.history tells) whole
    (put_framed key content c.head_of.ensures.fits c.requires.short)

pub returns-clause-sends : goal.returns-clause-sends
returns-clause-sends g c = λ tells.
    let key = c.args.key in
    let content = c.args.content in
    let head = c.as_slice-2.result.now in
    let is : head ≡ put_head key (length content) = search rules in
    let whole : head ++ content ≡ framed (messages.Put key content) = ap (λ (h : List ℕ). h ++ content) is ∙ put_parts key content in
    put_part key content head c.of-in-Err-hand.result c.in-Err-hand.fault (g.L.Link.history c.args.way.now) (g.L.Link.history c.send.new.self) (g.L.Link.history c.hand.new.self) (c.in_default.ensures.history tells)
    (c.in-Err-hand.ensures.history tells) whole (put_framed key content c.head_of.ensures.fits c.requires.short)
