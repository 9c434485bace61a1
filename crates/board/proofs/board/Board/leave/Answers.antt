use Rattle.board.specs.Calls.{LeavesHere}
use Rattle.board.proofs.Goings.{left_here, untouched}
use Rattle.board.proofs.Turning.{called, counted}
use Rattle.board.proofs.board.Board.leave.Goals as goal

pub turn-requires-clause-counted : goal.turn-requires-clause-counted
turn-requires-clause-counted g c found after reply knew r =
    let s = g.S.Site in
    counted s.tells s.files s.may_leave s.moment s.images_since r (λ p q met.
    let goes = left_here p.now c.args.link q.now met.0 in
    ((goes.0, untouched s.tells s.files s.may_leave s.moment s.images_since p.now q.now goes.1), met.1))

pub returns : goal.returns
returns g c =
    let s = g.S.Site in
    record {
      called = called s.tells s.files s.may_leave s.moment s.images_since c.args.pass.now _ _ (λ r found after. LeavesHere found c.args.link after) c.turn.ensures.turned
          (λ p q reply met. met.0);
    }
