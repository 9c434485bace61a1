use Rattle.std.proofs.Common.{rules, ◌≡◌, true, None, Err, Result, Bool, refl, sym, ap, subst, ◌∙◌}
use Rattle.flow_types.specs.declared.messages.Message.{Message}
use Rattle.links.specs.Honesty.{IsOrderly}
use Rattle.links.specs.Passings.{received_in, sent_in}
use Rattle.message_forms.specs.Streams.{IsBroken}
use Rattle.wq_frames.specs.declared.feeder.FeedFault.{FeedFault}
use Rattle.wq_frames.specs.declared.feeder.FeedFault.TheVariants as faults
use Rattle.wq_frames.specs.Streams.{AdvancesFrom}
use Rattle.peers.specs.declared.leave.Leave.TheVariants as leaves
use Rattle.peers.specs.Hears.{Hears, Takes}
use Rattle.peers.specs.States.{PeerState}
use Rattle.peers.proofs.Calm.{calm}
use Rattle.peers.proofs.Frames.{breaks, small_after, takes_by}
use Rattle.peers.proofs.Hearing.{heard_told, serves_on}
use Rattle.peers.proofs.Serving.{same_peer}
use Rattle.peers.proofs.peer.Peer.hear.Goals as goal

pub invariant_of-self : goal.invariant_of-self
invariant_of-self g c = small_after c.self.inside.feeder c.advance.new.self c.advance.result c.self.invariant c.advance.ensures.step

pub invariant_of-self-in-Err-Bad : goal.invariant_of-self-in-Err-Bad
invariant_of-self-in-Err-Bad g c = small_after c.self.inside.feeder c.advance.new.self c.advance.result c.self.invariant c.advance.ensures.step

pub returns-in-Ok-true-clause-hears : goal.returns-in-Ok-true-clause-hears
returns-in-Ok-true-clause-hears g c = λ unstopped.
    let history = g.L.Link.history in
    let way = c.self.inside.way in
    let feed = c.self.inside.feeder in
    let session = c.self.inside.session in
    let going = ap (λ (p : PeerState _). p.feed.stop) c.self.view_is ∙ unstopped in
    let next = c.advance.new.self in
    let taken : c.in-Ok-true.field-0 ≡ true = search rules in
    let took = takes_by feed next c.in-Ok-true.field-0 taken going c.self.invariant c.in-Ok-true.ensures.step in
    let m = c.heard-message.result in
    let takes : Takes m feed next = subst (λ (x : Message). Takes x feed next) (sym c.heard-message.ensures) took in
    let hears = heard_told feed next session c.meaning.new.session m c.meaning.result takes c.meaning.ensures in
    subst (λ (p : PeerState _). Hears p.feed p.session c.meaning.result next c.meaning.new.session) c.self.view_is hears

pub returns-in-Ok-true-clause-serves : goal.returns-in-Ok-true-clause-serves
returns-in-Ok-true-clause-serves g c = λ said heard tells serves.
    let gives = g.F.Commands.gives in
    let may_fail = g.F.Commands.may_fail in
    let history = g.L.Link.history in
    let way = c.self.inside.way in
    let feed = c.self.inside.feeder in
    let session = c.self.inside.session in
    let s = same_peer gives may_fail history c.args.self.now (record { way = way; feed = feed; session = session }) said heard None c.self.view_is serves in
    let going = s.going in
    let next = c.advance.new.self in
    let taken : c.in-Ok-true.field-0 ≡ true = search rules in
    let took = takes_by feed next c.in-Ok-true.field-0 taken going c.self.invariant c.in-Ok-true.ensures.step in
    let m = c.heard-message.result in
    let takes : Takes m feed next = subst (λ (x : Message). Takes x feed next) (sym c.heard-message.ensures) took in
    let hears = heard_told feed next session c.meaning.new.session m c.meaning.result takes c.meaning.ensures in
    serves_on gives may_fail (history way) said heard feed next session s c.meaning.result c.meaning.new.session hears

pub returns-in-Ok-true-clause-sure : goal.returns-in-Ok-true-clause-sure
returns-in-Ok-true-clause-sure g c = λ said heard tells serves orderly.
    let gives = g.F.Commands.gives in
    let may_fail = g.F.Commands.may_fail in
    let history = g.L.Link.history in
    let way = c.self.inside.way in
    let feed = c.self.inside.feeder in
    let session = c.self.inside.session in
    let s = same_peer gives may_fail history c.args.self.now (record { way = way; feed = feed; session = session }) said heard None c.self.view_is serves in
    let going = s.going in
    let next = c.advance.new.self in
    let taken : c.in-Ok-true.field-0 ≡ true = search rules in
    let took = takes_by feed next c.in-Ok-true.field-0 taken going c.self.invariant c.in-Ok-true.ensures.step in
    let m = c.heard-message.result in
    let takes : Takes m feed next = subst (λ (x : Message). Takes x feed next) (sym c.heard-message.ensures) took in
    let hears = heard_told feed next session c.meaning.new.session m c.meaning.result takes c.meaning.ensures in
    let in_order : IsOrderly (sent_in (history way)) (received_in (history way)) =
    subst (λ (p : PeerState _). IsOrderly (sent_in (history p.way)) (received_in (history p.way))) (sym c.self.view_is) orderly in
    calm gives may_fail (history way) said heard feed next session s in_order c.meaning.result c.meaning.new.session hears

pub returns-in-Err-TooLong-clause-hears : goal.returns-in-Err-TooLong-clause-hears
returns-in-Err-TooLong-clause-hears g c = λ unstopped.
    let history = g.L.Link.history in
    let way = c.self.inside.way in
    let feed = c.self.inside.feeder in
    let session = c.self.inside.session in
    let going = ap (λ (p : PeerState _). p.feed.stop) c.self.view_is ∙ unstopped in
    let next = c.advance.new.self in
    let step = subst (λ (f : FeedFault). let r : Result Bool FeedFault = Err f in AdvancesFrom feed.stop feed r next) c.in-Err-TooLong.field-0-is c.in-Err-TooLong.ensures.step in
    let broken : IsBroken feed.rest = breaks feed next (faults.TooLong c.in-Err-TooLong.field-0-0) going c.self.invariant step (λ e. let wrong : ⊥ = cc in wrong) in
    (subst (λ (p : PeerState _). IsBroken p.feed.rest) c.self.view_is broken, ap (λ (p : PeerState _). p.session) c.self.view_is)

pub returns-in-Err-TooLong-clause-serves : goal.returns-in-Err-TooLong-clause-serves
returns-in-Err-TooLong-clause-serves g c = λ said heard tells serves.
    let gives = g.F.Commands.gives in
    let may_fail = g.F.Commands.may_fail in
    let history = g.L.Link.history in
    let way = c.self.inside.way in
    let feed = c.self.inside.feeder in
    let session = c.self.inside.session in
    let s = same_peer gives may_fail history c.args.self.now (record { way = way; feed = feed; session = session }) said heard None c.self.view_is serves in
    let going = s.going in
    let next = c.advance.new.self in
    let step = subst (λ (f : FeedFault). let r : Result Bool FeedFault = Err f in AdvancesFrom feed.stop feed r next) c.in-Err-TooLong.field-0-is c.in-Err-TooLong.ensures.step in
    let broken : IsBroken feed.rest = breaks feed next (faults.TooLong c.in-Err-TooLong.field-0-0) going c.self.invariant step (λ e. let wrong : ⊥ = cc in wrong) in
    serves_on gives may_fail (history way) said heard feed next session s (Err leaves.Bad) session (broken, refl)

pub returns-in-Err-TooLong-clause-sure : goal.returns-in-Err-TooLong-clause-sure
returns-in-Err-TooLong-clause-sure g c = λ said heard tells serves orderly.
    let gives = g.F.Commands.gives in
    let may_fail = g.F.Commands.may_fail in
    let history = g.L.Link.history in
    let way = c.self.inside.way in
    let feed = c.self.inside.feeder in
    let session = c.self.inside.session in
    let s = same_peer gives may_fail history c.args.self.now (record { way = way; feed = feed; session = session }) said heard None c.self.view_is serves in
    let going = s.going in
    let next = c.advance.new.self in
    let step = subst (λ (f : FeedFault). let r : Result Bool FeedFault = Err f in AdvancesFrom feed.stop feed r next) c.in-Err-TooLong.field-0-is c.in-Err-TooLong.ensures.step in
    let broken : IsBroken feed.rest = breaks feed next (faults.TooLong c.in-Err-TooLong.field-0-0) going c.self.invariant step (λ e. let wrong : ⊥ = cc in wrong) in
    let in_order : IsOrderly (sent_in (history way)) (received_in (history way)) =
    subst (λ (p : PeerState _). IsOrderly (sent_in (history p.way)) (received_in (history p.way))) (sym c.self.view_is) orderly in
    calm gives may_fail (history way) said heard feed next session s in_order (Err leaves.Bad) session (broken, refl)

pub returns-in-Err-Bad-clause-hears : goal.returns-in-Err-Bad-clause-hears
returns-in-Err-Bad-clause-hears g c = λ unstopped.
    let history = g.L.Link.history in
    let way = c.self.inside.way in
    let feed = c.self.inside.feeder in
    let session = c.self.inside.session in
    let going = ap (λ (p : PeerState _). p.feed.stop) c.self.view_is ∙ unstopped in
    let next = c.advance.new.self in
    let step = subst (λ (f : FeedFault). let r : Result Bool FeedFault = Err f in AdvancesFrom feed.stop feed r next) c.in-Err-Bad.field-0-is c.in-Err-Bad.ensures.step in
    let broken : IsBroken feed.rest = breaks feed next (faults.Bad c.in-Err-Bad.field-0-0) going c.self.invariant step (λ e. let wrong : ⊥ = cc in wrong) in
    (subst (λ (p : PeerState _). IsBroken p.feed.rest) c.self.view_is broken, ap (λ (p : PeerState _). p.session) c.self.view_is)

pub returns-in-Err-Bad-clause-serves : goal.returns-in-Err-Bad-clause-serves
returns-in-Err-Bad-clause-serves g c = λ said heard tells serves.
    let gives = g.F.Commands.gives in
    let may_fail = g.F.Commands.may_fail in
    let history = g.L.Link.history in
    let way = c.self.inside.way in
    let feed = c.self.inside.feeder in
    let session = c.self.inside.session in
    let s = same_peer gives may_fail history c.args.self.now (record { way = way; feed = feed; session = session }) said heard None c.self.view_is serves in
    let going = s.going in
    let next = c.advance.new.self in
    let step = subst (λ (f : FeedFault). let r : Result Bool FeedFault = Err f in AdvancesFrom feed.stop feed r next) c.in-Err-Bad.field-0-is c.in-Err-Bad.ensures.step in
    let broken : IsBroken feed.rest = breaks feed next (faults.Bad c.in-Err-Bad.field-0-0) going c.self.invariant step (λ e. let wrong : ⊥ = cc in wrong) in
    serves_on gives may_fail (history way) said heard feed next session s (Err leaves.Bad) session (broken, refl)

pub returns-in-Err-Bad-clause-sure : goal.returns-in-Err-Bad-clause-sure
returns-in-Err-Bad-clause-sure g c = λ said heard tells serves orderly.
    let gives = g.F.Commands.gives in
    let may_fail = g.F.Commands.may_fail in
    let history = g.L.Link.history in
    let way = c.self.inside.way in
    let feed = c.self.inside.feeder in
    let session = c.self.inside.session in
    let s = same_peer gives may_fail history c.args.self.now (record { way = way; feed = feed; session = session }) said heard None c.self.view_is serves in
    let going = s.going in
    let next = c.advance.new.self in
    let step = subst (λ (f : FeedFault). let r : Result Bool FeedFault = Err f in AdvancesFrom feed.stop feed r next) c.in-Err-Bad.field-0-is c.in-Err-Bad.ensures.step in
    let broken : IsBroken feed.rest = breaks feed next (faults.Bad c.in-Err-Bad.field-0-0) going c.self.invariant step (λ e. let wrong : ⊥ = cc in wrong) in
    let in_order : IsOrderly (sent_in (history way)) (received_in (history way)) =
    subst (λ (p : PeerState _). IsOrderly (sent_in (history p.way)) (received_in (history p.way))) (sym c.self.view_is) orderly in
    calm gives may_fail (history way) said heard feed next session s in_order (Err leaves.Bad) session (broken, refl)
