use Rattle.run_history.specs.Answers.{claim_of}
use Rattle.board.specs.Calls.{ClaimsHere}
use Rattle.board.proofs.Goings.{claimed_here}
use Rattle.board.proofs.Turning.{called, counted}
use Rattle.board.proofs.board.claim.Board+F+S+T+AdmitAll+L.claim.Goals as goal

pub turn-requires-clause-counted : goal.turn-requires-clause-counted
turn-requires-clause-counted g c found after reply knew r =
    let s = g.S.Site in
    counted s.tells s.files s.may_leave s.moment s.images_since r (λ p q met.
    ((claimed_here s.count p.now (claim_of p.now.plan p.now.options p.now.moves p.now.stop c.args.link.0) c.args.link c.args.moment reply.reply q.now met.0, met.1.0), met.1.1))

pub returns : goal.returns
returns g c =
    let s = g.S.Site in
    record {
      called = called s.tells s.files s.may_leave s.moment s.images_since c.args.pass.now _ _ (λ r found after. ClaimsHere s.count found c.args.link c.args.moment r after) c.turn.ensures.turned
          (λ p q reply met. met.0);
    }
