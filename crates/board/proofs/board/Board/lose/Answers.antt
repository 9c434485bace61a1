use Rattle.std.proofs.Common.{◌<◌, length, refl, rules, subst, sym}
use Rattle.flow_types.specs.declared.plan.Plan.{Plan}
use Rattle.flow_types.specs.declared.records.Record.TheVariants as entries
use Rattle.desk.specs.State.{CanLose, Closes, DeskState}
use Rattle.desk.proofs.Goings.{closes_goes}
use Rattle.board.proofs.Goings.{can_lose_stays, others_but_log, plan_stays}
use Rattle.board.proofs.Turning.{called, counted}
use Rattle.board.proofs.board.Board.lose.Goals as goal

pub turn-requires-clause-callable : goal.turn-requires-clause-callable
turn-requires-clause-callable g c found knew p is =
    let a = c.args.attempt in (
      plan_stays (λ (P : Plan). a.rule.0 < length P.rules) c.requires.rule.0 found p.now is (knew.1 c.requires.rule.0 c.requires.rule.1).0.0.3 c.requires.rule.2,
      (
        λ keen. let saw = c.requires.keen keen in
            subst (λ (d : DeskState g.row.S.Denot). CanLose d a.link.0) (sym is) (can_lose_stays saw.0 found a.link.0 (knew.0 saw.0 saw.1).0 saw.2),
        search rules,
      ),
    )

pub turn-requires-clause-counted : goal.turn-requires-clause-counted
turn-requires-clause-counted g c found after reply knew r =
    let s = g.S.Site in
    let a = c.args.attempt in
    let x = entries.Lost c.args.moment a.rule a.number in
    counted s.tells s.files s.may_leave s.moment s.images_since r (λ p q met. (
      (
        closes_goes s.count p.now a.rule a.number a.link x reply.reply q.now refl met.0,
        others_but_log s.tells s.files s.may_leave s.moment s.images_since p.now q.now met.1.0,
      ),
      met.1.1,
    ))

pub returns : goal.returns
returns g c =
    let s = g.S.Site in
    let a = c.args.attempt in
    let x = entries.Lost c.args.moment a.rule a.number in
    record {
      called = called s.tells s.files s.may_leave s.moment s.images_since c.args.pass.now _ _ (λ r found after. Closes s.count found a.rule a.number a.link x r after) c.turn.ensures.turned
          (λ p q reply met. met.0);
    }
