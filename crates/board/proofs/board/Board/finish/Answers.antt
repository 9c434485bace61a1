use Rattle.std.proofs.Common.{◌<◌, length, map, refl, rules}
use Rattle.flow_types.specs.declared.plan.Plan.{Plan}
use Rattle.flow_types.specs.declared.records.Record.TheVariants as entries
use Rattle.desk.specs.Kept.{logged}
use Rattle.desk.specs.State.{AreOutputs, Closes, IsDue}
use Rattle.desk.proofs.Goings.{closes_goes}
use Rattle.board.proofs.Goings.{others_but_rule, plan_stays}
use Rattle.board.proofs.Turning.{called, counted}
use Rattle.board.proofs.board.Board.finish.Goals as goal

pub turn-requires-clause-callable : goal.turn-requires-clause-callable
turn-requires-clause-callable g c found knew p is =
    let a = c.args.attempt in (
      plan_stays (λ (P : Plan). a.rule.0 < length P.rules) c.requires.rule.0 found p.now is (knew.1 c.requires.rule.0 c.requires.rule.1).0.0.3 c.requires.rule.2,
      (
        plan_stays (λ (P : Plan). AreOutputs P a.rule.0 c.args.outs.now) c.requires.outputs.0 found p.now is (knew.1 c.requires.outputs.0 c.requires.outputs.1).0.0.3 c.requires.outputs.2,
        (
          plan_stays (λ (P : Plan). g.T.Terms.trust → IsDue P g.F.Commands.gives g.T.Terms.sources a.rule.0 c.args.outs.now) c.requires.honest.0 found p.now is (knew.1 c.requires.honest.0 c.requires.honest.1).0.0.3 c.requires.honest.2,
          search rules,
        ),
      ),
    )

pub turn-requires-clause-counted : goal.turn-requires-clause-counted
turn-requires-clause-counted g c found after reply knew r =
    let s = g.S.Site in
    let a = c.args.attempt in
    let x = entries.Done c.args.moment a.rule a.number (map logged c.args.outs.now) in
    counted s.tells s.files s.may_leave s.moment s.images_since r (λ p q met. (
      (
        closes_goes s.count p.now a.rule a.number a.link x reply.reply q.now refl met.0,
        others_but_rule s.tells s.files s.may_leave s.moment s.images_since p.now q.now a.rule.0 met.1.0,
      ),
      met.1.1,
    ))

pub returns : goal.returns
returns g c =
    let s = g.S.Site in
    let a = c.args.attempt in
    let x = entries.Done c.args.moment a.rule a.number (map logged c.args.outs.now) in
    record {
      called = called s.tells s.files s.may_leave s.moment s.images_since c.args.pass.now _ _ (λ r found after. Closes s.count found a.rule a.number a.link x r after) c.turn.ensures.turned
          (λ p q reply met. met.0);
    }
