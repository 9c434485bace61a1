use Rattle.std.proofs.Common.{◌≡◌, ap}
use Rattle.std.specs.Prelude.{is_some}
use Rattle.desk.specs.State.{DeskState}
use Rattle.run_history.specs.Answers.{stop_of}
use Rattle.desk.proofs.Goings.{stop_stays, stops_goes}
use Rattle.board.specs.Calls.{Stops}
use Rattle.board.proofs.Goings.{untouched}
use Rattle.board.proofs.Turning.{called, counted}
use Rattle.board.proofs.board.end.Board+F+S+T+AdmitAll+L.stop.Goals as goal

pub turn-requires-clause-counted : goal.turn-requires-clause-counted
turn-requires-clause-counted g c found after reply knew r =
    let s = g.S.Site in
    counted s.tells s.files s.may_leave s.moment s.images_since r (λ p q met. (
      (
        stops_goes p.now (stop_of p.now.plan p.now.options p.now.moves p.now.stop c.args.why) q.now (λ first is. stop_stays p.now.plan p.now.options p.now.moves p.now.stop c.args.why first is) met.1.0,
        untouched s.tells s.files s.may_leave s.moment s.images_since p.now q.now (ap (λ (d : DeskState g.row.S.Denot). d.site) met.1.0),
      ),
      met.1.1,
    ))

pub returns : goal.returns
returns g c =
    let s = g.S.Site in
    record {
      called = called s.tells s.files s.may_leave s.moment s.images_since c.args.pass.now _ _ (λ r found after. (r ≡ is_some after.stop) × Stops found c.args.why after) c.turn.ensures.turned
          (λ p q reply met. (met.0, met.1.0));
    }
