use Rattle.std.proofs.Common.{◌≡◌, ap, rules, subst, sym}
use Rattle.std.specs.Prelude.{is_some}
use Rattle.flow_types.specs.declared.plan.Plan.{Plan}
use Rattle.run_history.specs.Admissions.{stop_by}
use Rattle.desk.specs.State.{DeskState}
use Rattle.desk.proofs.Courses.{first_stays}
use Rattle.desk.proofs.Goings.{stops_goes}
use Rattle.board.specs.Calls.{StopsBy}
use Rattle.board.proofs.Goings.{plan_stays, untouched}
use Rattle.board.proofs.Turning.{called_mut, counted_mut}
use Rattle.board.proofs.board.Board.stop_by.Goals as goal

pub turn_mut-requires-clause-callable : goal.turn_mut-requires-clause-callable
turn_mut-requires-clause-callable g c found knew p is =
    (plan_stays (λ (P : Plan). g.A.Admission.stands_for c.args.admission.now P) c.requires.stands.0 found p.now is (knew.1 c.requires.stands.0 c.requires.stands.1).0.0.3 c.requires.stands.2, search rules)

pub turn_mut-requires-clause-counted : goal.turn_mut-requires-clause-counted
turn_mut-requires-clause-counted g c found after reply left knew r =
    let s = g.S.Site in
    let A = g.A.Admission.admitted in
    counted_mut s.tells s.files s.may_leave s.moment s.images_since r (λ p q called. let met = called.met.1 in (
      (
        stops_goes p.now (stop_by A p.now.plan p.now.options p.now.moves p.now.stop c.args.why) q.now (λ first is. first_stays A p.now.plan p.now.options p.now.moves p.now.stop c.args.why first is) met.1.0,
        untouched s.tells s.files s.may_leave s.moment s.images_since p.now q.now (ap (λ (d : DeskState g.row.S.Denot). d.site) met.1.0),
      ),
      met.1.1.0,
    ))

pub returns-clause-called : goal.returns-clause-called
returns-clause-called g c =
    let s = g.S.Site in
    called_mut s.tells s.files s.may_leave s.moment s.images_since c.args.pass.now _ _ (λ r found after. (r ≡ is_some after.stop) × StopsBy g.A.Admission.admitted found c.args.why after) c.turn_mut.ensures.turned
    (λ p q reply called. (called.met.1.0, called.met.1.1.0))

pub returns-clause-stays : goal.returns-clause-stays
returns-clause-stays g c P stands =
    let call = c.turn_mut.ensures.turned.4 in
    subst (λ (a : g.row.A.Denot). g.A.Admission.stands_for a P) (sym (c.admission-1.given.1 (sym call.called.met.0.0))) (call.called.met.1.1.1.1 P stands)
