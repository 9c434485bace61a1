use Rattle.desk.specs.Collections.{Collects}
use Rattle.desk.proofs.Goings.{collects_goes}
use Rattle.board.specs.Calls.{IsGone}
use Rattle.board.proofs.Goings.{others_but_collected}
use Rattle.board.proofs.Turning.{called, counted}
use Rattle.board.proofs.board.Board.collect.Goals as goal

pub turn-requires-clause-counted : goal.turn-requires-clause-counted
turn-requires-clause-counted g c found after reply knew r =
    let s = g.S.Site in
    counted s.tells s.files s.may_leave s.moment s.images_since r (λ p q met. (
      (
        collects_goes s.count p.now c.args.moment reply.reply q.now met.0,
        others_but_collected s.tells s.files s.may_leave s.moment s.images_since p.now q.now met.1.1.0,
      ),
      met.1.1.1,
    ))

pub returns : goal.returns
returns g c =
    let s = g.S.Site in
    record {
      called = called s.tells s.files s.may_leave s.moment s.images_since c.args.pass.now _ _ (λ r found after. Collects s.count found c.args.moment r after × IsGone s.tells s.files found r after) c.turn.ensures.turned
          (λ p q reply met. (met.0, met.1.0));
    }
