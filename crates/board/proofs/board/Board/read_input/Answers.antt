use Rattle.std.proofs.Common.{◌≡◌, Some}
use Rattle.std.specs.Prelude.{IfOk}
use Rattle.flow_types.specs.Serial.{serial}
use Rattle.board.specs.Calls.{ReadsHere}
use Rattle.board.proofs.Goings.{read_here}
use Rattle.board.proofs.Turning.{called, counted}
use Rattle.board.proofs.board.Board.read_input.Goals as goal

pub turn-requires-clause-counted : goal.turn-requires-clause-counted
turn-requires-clause-counted g c found after reply knew r =
    let s = g.S.Site in
    counted s.tells s.files s.may_leave s.moment s.images_since r (λ p q met.
    ((read_here s.tells s.files s.count p.now c.args.file reply.reply q.now met.0, met.1.1.1.0), met.1.1.1.1))

pub returns-clause-called : goal.returns-clause-called
returns-clause-called g c =
    let s = g.S.Site in
    called s.tells s.files s.may_leave s.moment s.images_since c.args.pass.now _ _ (λ r found after. ReadsHere s.tells s.files s.count found c.args.file r after
    × IfOk r (λ bytes. s.tells → g.T.Terms.kept → g.T.Terms.trust → serial found.plan g.F.Commands.gives g.T.Terms.sources c.args.file.0 ≡ Some bytes)) c.turn.ensures.turned
    (λ p q reply met. (met.0, met.1.0))
