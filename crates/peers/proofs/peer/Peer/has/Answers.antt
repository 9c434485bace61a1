use Rattle.std.proofs.Common.{rules, ◌≡◌, ◌∙◌}
use Rattle.link_session.specs.Sessions.{is_open}
use Rattle.peers.proofs.Hearing.{still_owed}
use Rattle.peers.proofs.Opens.{is_false}
use Rattle.peers.proofs.Owing.{none_open}
use Rattle.peers.proofs.peer.Peer.has.Goals as goal

pub returns-clause-owed : goal.returns-clause-owed
returns-clause-owed g c = λ said heard tells serves none is.
    let now = c.args.self.now in
    let same : is_open c.args.attempt now.session.attempts ≡ c.has.result = search rules in
    still_owed g.F.Commands.gives g.F.Commands.may_fail (g.L.Link.history now.way) said heard now.feed now.feed now.session serves c.args.attempt (same ∙ is) none

pub returns-clause-settled : goal.returns-clause-settled
returns-clause-settled g c = λ said heard tells serves provides none settle.
    let now = c.args.self.now in
    let same : is_open c.args.attempt now.session.attempts ≡ c.has.result = search rules in
    is_false c.has.result (λ is. none_open g.F.Commands.gives g.F.Commands.may_fail (g.L.Link.history now.way) said heard now.feed now.session serves c.args.attempt provides settle none (same ∙ is))
