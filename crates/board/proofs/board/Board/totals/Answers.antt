use Rattle.board.specs.Calls.{ChangesHere}
use Rattle.board.proofs.Goings.{changed_here, untouched}
use Rattle.board.proofs.Turning.{called, counted}
use Rattle.board.proofs.board.Board.totals.Goals as goal

pub turn-requires-clause-counted : goal.turn-requires-clause-counted
turn-requires-clause-counted g c found after reply knew r =
    let s = g.S.Site in
    counted s.tells s.files s.may_leave s.moment s.images_since r (λ p q met.
    let goes = changed_here p.now c.args.link c.args.total c.args.largest c.args.cache reply.reply q.now met.0 in
    ((goes.0, untouched s.tells s.files s.may_leave s.moment s.images_since p.now q.now goes.1), met.1))

pub returns : goal.returns
returns g c =
    let s = g.S.Site in
    record {
      called = called s.tells s.files s.may_leave s.moment s.images_since c.args.pass.now _ _ (λ r found after. ChangesHere found c.args.link c.args.total c.args.largest c.args.cache r after) c.turn.ensures.turned
          (λ p q reply met. met.0);
    }
