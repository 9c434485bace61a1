use Rattle.desk.specs.Links.{Joins}
use Rattle.desk.proofs.Goings.{joins_goes}
use Rattle.board.proofs.Goings.{joins_site, untouched}
use Rattle.board.proofs.Turning.{called, counted}
use Rattle.board.proofs.board.Board.join.Goals as goal

pub turn-requires-clause-counted : goal.turn-requires-clause-counted
turn-requires-clause-counted g c found after reply knew r =
    let s = g.S.Site in
    counted s.tells s.files s.may_leave s.moment s.images_since r (λ p q met. (
      (
        joins_goes p.now c.args.total c.args.largest c.args.cache reply.reply q.now met.0,
        untouched s.tells s.files s.may_leave s.moment s.images_since p.now q.now (joins_site p.now c.args.total c.args.largest c.args.cache reply.reply q.now met.0),
      ),
      met.1,
    ))

pub returns : goal.returns
returns g c =
    let s = g.S.Site in
    record {
      called = called s.tells s.files s.may_leave s.moment s.images_since c.args.pass.now _ _ (λ r found after. Joins found c.args.total c.args.largest c.args.cache r after) c.turn.ensures.turned
          (λ p q reply met. met.0);
    }
