use Rattle.std.proofs.Common.{rules, subst, sym}
use Rattle.flow_types.specs.declared.plan.Plan.{Plan}
use Rattle.run_history.specs.Admissions.{claim_by}
use Rattle.board.specs.Calls.{ClaimsByHere}
use Rattle.board.proofs.Goings.{claimed_here, plan_stays}
use Rattle.board.proofs.Turning.{called_mut, counted_mut}
use Rattle.board.proofs.board.Board.claim_by.Goals as goal

pub turn_mut-requires-clause-callable : goal.turn_mut-requires-clause-callable
turn_mut-requires-clause-callable g c found knew p is =
    (plan_stays (λ (P : Plan). g.A.Admission.stands_for c.args.admission.now P) c.requires.stands.0 found p.now is (knew.1 c.requires.stands.0 c.requires.stands.1).0.0.3 c.requires.stands.2, search rules)

pub turn_mut-requires-clause-counted : goal.turn_mut-requires-clause-counted
turn_mut-requires-clause-counted g c found after reply left knew r =
    let s = g.S.Site in
    counted_mut s.tells s.files s.may_leave s.moment s.images_since r (λ p q called. let met = called.met.1 in (
      (
        claimed_here s.count p.now (claim_by g.A.Admission.admitted p.now.plan p.now.options p.now.moves p.now.stop c.args.link.0) c.args.link c.args.moment reply.reply q.now met.0,
        met.1.0,
      ),
      met.1.1.0,
    ))

pub returns-clause-called : goal.returns-clause-called
returns-clause-called g c =
    let s = g.S.Site in
    called_mut s.tells s.files s.may_leave s.moment s.images_since c.args.pass.now _ _ (λ r found after. ClaimsByHere g.A.Admission.admitted s.count found c.args.link c.args.moment r after) c.turn_mut.ensures.turned
    (λ p q reply called. called.met.1.0)

pub returns-clause-stays : goal.returns-clause-stays
returns-clause-stays g c P stands =
    let call = c.turn_mut.ensures.turned.4 in
    subst (λ (a : g.row.A.Denot). g.A.Admission.stands_for a P) (sym (c.admission-1.given.1 (sym call.called.met.0.1))) (call.called.met.1.1.1.1 P stands)
