use Rattle.std.proofs.Common.{◌≡◌, ◌<◌, length, refl, rules, true}
use Rattle.std.specs.Prelude.{IfOk}
use Rattle.flow_types.specs.declared.plan.Plan.{Plan}
use Rattle.flow_types.specs.declared.records.Record.TheVariants as entries
use Rattle.flow_types.specs.Plans.{makes}
use Rattle.run_history.specs.Legal.{is_failure_at}
use Rattle.run_history.specs.Links.{records_of}
use Rattle.run_history.specs.Storage.{has_failed}
use Rattle.desk.specs.Asked.{MayFail}
use Rattle.desk.specs.State.{Closes, closed, is_final}
use Rattle.desk.proofs.Goings.{closes_goes}
use Rattle.board.proofs.Goings.{others_but_log, plan_stays}
use Rattle.board.proofs.Turning.{called, counted}
use Rattle.board.proofs.board.Board.fail.Goals as goal

pub turn-requires-clause-callable : goal.turn-requires-clause-callable
turn-requires-clause-callable g c found knew p is =
    let a = c.args.attempt in (
      plan_stays (λ (P : Plan). a.rule.0 < length P.rules) c.requires.rule.0 found p.now is (knew.1 c.requires.rule.0 c.requires.rule.1).0.0.3 c.requires.rule.2,
      (
        plan_stays (λ (P : Plan). is_failure_at c.args.why (length (makes P a.rule.0)) ≡ true) c.requires.index.0 found p.now is (knew.1 c.requires.index.0 c.requires.index.1).0.0.3 c.requires.index.2,
        (
          plan_stays (λ (P : Plan). MayFail g.T.Terms.trust g.F.Commands.gives g.F.Commands.may_fail g.T.Terms.sources P a.rule.0 c.args.why) c.requires.honest.0 found p.now is (knew.1 c.requires.honest.0 c.requires.honest.1).0.0.3 c.requires.honest.2,
          search rules,
        ),
      ),
    )

pub turn-requires-clause-counted : goal.turn-requires-clause-counted
turn-requires-clause-counted g c found after reply knew r =
    let s = g.S.Site in
    let a = c.args.attempt in
    let x = entries.Failed c.args.moment a.rule a.number c.args.why in
    counted s.tells s.files s.may_leave s.moment s.images_since r (λ p q met. (
      (
        closes_goes s.count p.now a.rule a.number a.link x (closed reply.reply) q.now refl met.0,
        others_but_log s.tells s.files s.may_leave s.moment s.images_since p.now q.now met.1.1.0,
      ),
      met.1.1.1,
    ))

pub returns : goal.returns
returns g c =
    let s = g.S.Site in
    let a = c.args.attempt in
    let x = entries.Failed c.args.moment a.rule a.number c.args.why in
    record {
      called = called s.tells s.files s.may_leave s.moment s.images_since c.args.pass.now _ _ (λ r found after. Closes s.count found a.rule a.number a.link x (closed r) after
          × IfOk r (λ next. is_final next ≡ has_failed (records_of after.moves) a.rule.0)) c.turn.ensures.turned
          (λ p q reply met. (met.0, met.1.0));
    }
