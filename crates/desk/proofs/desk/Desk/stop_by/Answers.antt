use Rattle.std.proofs.Common.{◌∙◌, ap, length, subst, sym}
use Rattle.std.specs.Vec.{vec_capacity}
use Rattle.task_core.specs.States.{TableState}
use Rattle.run_history.specs.Admissions.{stop_by}
use Rattle.desk.specs.Admitted.{AreAdmitted}
use Rattle.desk.specs.Asked.{MayFail}
use Rattle.desk.specs.Ends.{says_stopped}
use Rattle.desk.specs.Kept.{Fits}
use Rattle.desk.specs.Room.{HasPlaces}
use Rattle.desk.specs.State.{DeskState}
use Rattle.desk.specs.Woven.{moves_of}
use Rattle.desk.proofs.Courses.{course_stopped}
use Rattle.desk.proofs.Linking.{desk_of}
use Rattle.desk.proofs.Stopping.{stopped_desk, stopped_view}
use Rattle.desk.proofs.desk.Desk.stop_by.Goals as goal

pub stop_by-requires-clause-stands : goal.stop_by-requires-clause-stands
stop_by-requires-clause-stands g c κs within =
    subst (λ (v : DeskState g.row.S.Denot). g.A.Admission.stands_for c.args.admission.now v.plan) (sym c.self.view_is) c.requires.stands

pub invariant_of-self : goal.invariant_of-self
invariant_of-self g c = (
  c.self.invariant.0,
  stopped_desk (Fits g.T.Terms.trust g.F.Commands.gives g.T.Terms.sources) g.S.Site.tells g.T.Terms.kept g.S.Site.may_leave g.S.Site.moment g.S.Site.images_since g.S.Site.count g.T.Terms.born g.T.Terms.before
      (desk_of c.self.inside.table c.self.inside.log c.self.inside.base c.self.inside.faults c.self.inside.steps.items c.self.inside.records.items c.self.inside.trouble c.self.inside.site)
      c.self.inside.log c.self.inside.table c.stop_by.new.self (stop_by g.A.Admission.admitted c.self.inside.table.plan c.self.inside.table.options (moves_of c.self.inside.base c.self.inside.steps.items c.self.inside.records.items) c.self.inside.table.stop c.args.why) (c.stop_by.ensures.stop (moves_of c.self.inside.base c.self.inside.steps.items c.self.inside.records.items) c.self.invariant.2) c.self.invariant.1,
  c.stop_by.ensures.stands (moves_of c.self.inside.base c.self.inside.steps.items c.self.inside.records.items) c.self.invariant.2,
  subst (λ (v : TableState). HasPlaces v.plan v.options (moves_of c.self.inside.base c.self.inside.steps.items c.self.inside.records.items) (length c.self.inside.steps.items) (vec_capacity c.self.inside.records) (vec_capacity c.self.inside.steps) c.self.inside.log)
      (sym (c.stop_by.ensures.stop (moves_of c.self.inside.base c.self.inside.steps.items c.self.inside.records.items) c.self.invariant.2)) c.self.invariant.3,
  c.stop_by.ensures.answered c.self.invariant.4,
  course_stopped (MayFail g.T.Terms.trust g.F.Commands.gives g.F.Commands.may_fail g.T.Terms.sources) g.T.Terms.keen
      g.A.Admission.admitted c.self.inside.table c.stop_by.new.self c.args.why c.self.inside.base (moves_of c.self.inside.base c.self.inside.steps.items c.self.inside.records.items) c.self.invariant.5
      (c.stop_by.ensures.stop (moves_of c.self.inside.base c.self.inside.steps.items c.self.inside.records.items) c.self.invariant.2),
  subst (λ (v : TableState). AreAdmitted g.A.Admission.admitted v.plan v.options c.self.inside.records.items c.self.inside.base)
      (sym (c.stop_by.ensures.stop (moves_of c.self.inside.base c.self.inside.steps.items c.self.inside.records.items) c.self.invariant.2)) c.self.invariant.6,
)

pub returns-clause-stop : goal.returns-clause-stop
returns-clause-stop g c =
    stopped_view (desk_of c.self.inside.table c.self.inside.log c.self.inside.base c.self.inside.faults c.self.inside.steps.items c.self.inside.records.items c.self.inside.trouble c.self.inside.site)
    c.self.inside.table c.stop_by.new.self (stop_by g.A.Admission.admitted c.self.inside.table.plan c.self.inside.table.options (moves_of c.self.inside.base c.self.inside.steps.items c.self.inside.records.items) c.self.inside.table.stop c.args.why) (c.stop_by.ensures.stop (moves_of c.self.inside.base c.self.inside.steps.items c.self.inside.records.items) c.self.invariant.2)
    ∙ ap (λ (v : DeskState g.row.S.Denot). record v { stop = stop_by g.A.Admission.admitted v.plan v.options v.moves v.stop c.args.why }) c.self.view_is

pub returns-clause-answer : goal.returns-clause-answer
returns-clause-answer g c = c.says_stopped.ensures ∙ ap says_stopped c.stop_by.ensures.answer
