use Rattle.std.proofs.Common.{◌≡◌, List, sym, ap, ◌∙◌, subst}
use Rattle.crossbeam_queue.specs.Passes.{view}
use Rattle.flow_types.specs.declared.job.Outcome.{Outcome}
use Rattle.flow_types.specs.declared.job.Start.{Start}
use Rattle.worker_pool.specs.declared.hand.Hand.{Hand}
use Rattle.worker_pool.specs.declared.hand.Tally.{Tally}
use Rattle.worker_pool.specs.Courses.{Fits}
use Rattle.worker_pool.specs.Tallies.{plus, tally_of}
use Rattle.worker_pool.specs.Steers.{Steered}
use Rattle.worker_pool.proofs.Steps.{is_due, steered_heard}
use Rattle.worker_pool.proofs.steer.hear.Goals as goal

pub heard-requires : goal.heard-requires
heard-requires g c =
    let s = c.requires.steered in
    let ran = c.in-Some.ran in
    let given = c.take_back-report.ensures.given in (
      ran.start,
      is_due g.C.Course.asked g.C.Course.told g.C.Course.due g.B.Terms.fits s.0 c.args.course.now s.1 c.args.chief.now c.take_back-report.new.self s.2 ran.start s.3 c.take_back-report.ensures.waiting,
      sym given.0,
      subst (λ (o : Outcome). Fits g.F.Commands.gives g.F.Commands.may_fail g.C.Course.trust ran.start.job o) (sym given.1) (c.requires.fits ran.start.job ran.outcome c.in-Some.ensures.some.1.1),
    )

pub returns-clause-steered : goal.returns-clause-steered
returns-clause-steered g c first done was =
    let ran = c.in-Some.ran in
    let given = c.take_back-report.ensures.given in
    let old = view c.args.token.now in
    let taken : (view c.take.new.token).taken ≡ plus old.taken (tally_of c.take_back-report.result.outcome) =
    ap (λ (v : Hand). v.taken) c.in-Some.ensures.some.0 ∙ ap (λ (o : Outcome). plus old.taken (tally_of o)) (sym given.1) in
    subst (λ (n : Tally). Steered g.C.Course.asked g.C.Course.told g.C.Course.due g.B.Terms.fits first c.heard.new.self done c.take_back-report.new.self n) (sym taken)
    (steered_heard g.C.Course.asked g.C.Course.told g.C.Course.due g.B.Terms.fits first c.args.course.now c.heard.new.self done c.args.chief.now c.take_back-report.new.self old.taken ran.start c.take_back-report.result was
    c.take_back-report.ensures.waiting (sym given.0) (subst (λ (o : Outcome). g.B.Terms.fits ran.start.job o) (sym given.1) c.in-Some.ensures.some.1.1) c.heard.ensures.told c.heard.ensures.kept)
