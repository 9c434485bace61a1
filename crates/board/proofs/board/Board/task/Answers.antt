use Rattle.std.proofs.Common.{◌≡◌, ◌<◌, length, rules, Some}
use Rattle.std.specs.Prelude.{IfOk}
use Rattle.flow_types.specs.declared.plan.Plan.{Plan}
use Rattle.run_history.specs.Links.{records_of}
use Rattle.desk.specs.Tasks.{task_of}
use Rattle.desk.proofs.Goings.{same_goes}
use Rattle.board.proofs.Goings.{plan_stays, site_same, untouched}
use Rattle.board.proofs.Turning.{called, counted}
use Rattle.board.proofs.board.Board.task.Goals as goal

pub turn-requires-clause-callable : goal.turn-requires-clause-callable
turn-requires-clause-callable g c found knew p is =
    let a = c.args.attempt.now in
    (plan_stays (λ (P : Plan). a.rule.0 < length P.rules) c.requires.rule.0 found p.now is (knew.1 c.requires.rule.0 c.requires.rule.1).0.0.3 c.requires.rule.2, search rules)

pub turn-requires-clause-counted : goal.turn-requires-clause-counted
turn-requires-clause-counted g c found after reply knew r =
    let s = g.S.Site in
    counted s.tells s.files s.may_leave s.moment s.images_since r (λ p q met. (
      (
        same_goes p.now q.now met.1.0,
        untouched s.tells s.files s.may_leave s.moment s.images_since p.now q.now (site_same p.now q.now met.1.0),
      ),
      met.1.1,
    ))

pub returns : goal.returns
returns g c =
    let s = g.S.Site in
    record {
      called = called s.tells s.files s.may_leave s.moment s.images_since c.args.pass.now _ _ (λ r found after. IfOk r (λ task. task_of found.plan (records_of found.moves) c.args.attempt.now ≡ Some task) × (after ≡ found)) c.turn.ensures.turned
          (λ p q reply met. (met.0, met.1.0));
    }
