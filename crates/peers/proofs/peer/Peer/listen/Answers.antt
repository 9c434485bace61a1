use Rattle.std.proofs.Common.{rules, ◌≡◌, ◌∷◌, Ok, Result, List, ℕ, sym, ap, subst, ◌∙◌}
use Rattle.links.specs.declared.passing.Got.{Got}
use Rattle.links.specs.declared.passing.Got.TheVariants as got
use Rattle.links.specs.declared.passing.Passed.{Passed}
use Rattle.links.specs.declared.passing.Passed.TheVariants.{Received}
use Rattle.links.specs.Passings.{Receives}
use Rattle.outside.specs.declared.fault.Fault.{Fault}
use Rattle.peers.specs.Serves.{Serves}
use Rattle.peers.proofs.Frames.{fed_going}
use Rattle.peers.proofs.Serving.{hears_piece, same_peer, stands, stands_after}
use Rattle.peers.proofs.Receiving.{came_on, kept_by}
use Rattle.peers.proofs.peer.Peer.listen.Goals as goal

pub returns-in-Ok-clause-serves : goal.returns-in-Ok-clause-serves
returns-in-Ok-clause-serves g c = λ said heard waiting tells serves.
    let gives = g.F.Commands.gives in
    let may_fail = g.F.Commands.may_fail in
    let history = g.L.Link.history in
    let way = c.self.inside.way in
    let feed = c.self.inside.feeder in
    let session = c.self.inside.session in
    let s = same_peer gives may_fail history c.args.self.now (record { way = way; feed = feed; session = session }) said heard waiting c.self.view_is serves in
    let piece = c.as_slice.result.now in
    let same : piece ≡ c.in-Ok-Piece.piece = search rules in
    let new = history c.recv.new.self in
    let is : new ≡ Received piece ∷ history way =
    subst (λ (x : Got). Receives (Ok x) (history way) new) c.in-Ok-Piece.field-0-is (c.in-Ok-Piece.ensures.history tells) ∙ ap (λ (b : List ℕ). Received b ∷ history way) (sym same) in
    let fed = fed_going feed c.take.new.feeder piece s.going c.in-Ok.ensures.ok in
    subst (λ (h : List Passed). Serves gives may_fail h c.take.new.feeder session said heard waiting) (sym is)
    (hears_piece gives may_fail (history way) feed c.take.new.feeder session said heard waiting piece fed.0 fed.1 s)

pub returns-in-Ok-Piece-clause-serves : goal.returns-in-Ok-Piece-clause-serves
returns-in-Ok-Piece-clause-serves g c = λ said heard waiting tells serves.
    let gives = g.F.Commands.gives in
    let may_fail = g.F.Commands.may_fail in
    let history = g.L.Link.history in
    let way = c.self.inside.way in
    let feed = c.self.inside.feeder in
    let session = c.self.inside.session in
    let s = same_peer gives may_fail history c.args.self.now (record { way = way; feed = feed; session = session }) said heard waiting c.self.view_is serves in
    let new = history c.recv.new.self in
    let answer : Result Got Fault = Ok (got.Piece c.in-Ok-Piece.piece) in
    stands_after gives may_fail answer (history way) new said heard (subst (λ (x : Got). Receives (Ok x) (history way) new) c.in-Ok-Piece.field-0-is (c.in-Ok-Piece.ensures.history tells))
    (stands gives may_fail (history way) feed session said heard waiting s)

pub returns-in-Ok-clause-kept : goal.returns-in-Ok-clause-kept
returns-in-Ok-clause-kept g c = λ tells.
    kept_by g.L.Link.history (record { way = c.self.inside.way; feed = c.self.inside.feeder; session = c.self.inside.session }) c.args.self.now (g.L.Link.history c.recv.new.self) c.self.view_is
    (came_on c.recv.result (g.L.Link.history c.self.inside.way) (g.L.Link.history c.recv.new.self) (c.recv.ensures.history tells))

pub returns-in-Ok-Piece-clause-kept : goal.returns-in-Ok-Piece-clause-kept
returns-in-Ok-Piece-clause-kept g c = λ tells.
    kept_by g.L.Link.history (record { way = c.self.inside.way; feed = c.self.inside.feeder; session = c.self.inside.session }) c.args.self.now (g.L.Link.history c.recv.new.self) c.self.view_is
    (came_on c.recv.result (g.L.Link.history c.self.inside.way) (g.L.Link.history c.recv.new.self) (c.recv.ensures.history tells))

pub returns-in-Ok-Idle-clause-kept : goal.returns-in-Ok-Idle-clause-kept
returns-in-Ok-Idle-clause-kept g c = λ tells.
    kept_by g.L.Link.history (record { way = c.self.inside.way; feed = c.self.inside.feeder; session = c.self.inside.session }) c.args.self.now (g.L.Link.history c.recv.new.self) c.self.view_is
    (came_on c.recv.result (g.L.Link.history c.self.inside.way) (g.L.Link.history c.recv.new.self) (c.recv.ensures.history tells))

pub returns-in-Ok-Closed-clause-kept : goal.returns-in-Ok-Closed-clause-kept
returns-in-Ok-Closed-clause-kept g c = λ tells.
    kept_by g.L.Link.history (record { way = c.self.inside.way; feed = c.self.inside.feeder; session = c.self.inside.session }) c.args.self.now (g.L.Link.history c.recv.new.self) c.self.view_is
    (came_on c.recv.result (g.L.Link.history c.self.inside.way) (g.L.Link.history c.recv.new.self) (c.recv.ensures.history tells))

pub returns-clause-kept : goal.returns-clause-kept
returns-clause-kept g c = λ tells.
    kept_by g.L.Link.history (record { way = c.self.inside.way; feed = c.self.inside.feeder; session = c.self.inside.session }) c.args.self.now (g.L.Link.history c.recv.new.self) c.self.view_is
    (came_on c.recv.result (g.L.Link.history c.self.inside.way) (g.L.Link.history c.recv.new.self) (c.recv.ensures.history tells))
