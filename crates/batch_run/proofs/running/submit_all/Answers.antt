use Rattle.std.proofs.Common.{◌∙◌, List, ap, drop, length, refl, sym, subst}
use Rattle.task_book.specs.declared.task.Submission.{Submission}
use Rattle.task_book.specs.Kept.{Kept}
use Rattle.task_book.specs.Stages.{EndsOn}
use Rattle.batch_run.specs.Ends.{AreFit, AreOf}
use Rattle.batch_run.proofs.Batches.{ends_submitted, left_submitted, of_next}
use Rattle.batch_run.proofs.running.submit_all.Goals as goal

pub loop-task-init : goal.loop-task-init
loop-task-init g c = record {
  left = ap (λ (k : Kept). drop (length k.submitted) c.args.tasks.items) c.requires.none ∙ sym c.into_iter-task-iterator.ensures.into_iter_gives.0;
  of = subst (λ (k : Kept). AreOf c.args.tasks.items k) (sym c.requires.none) tt;
  ends = λ a o t end. end;
  files = refl;
  trusted = λ trusted. trusted;
  staffed = λ least hall fit is. (is, subst (λ (ts : List Submission). AreFit least ts) (sym c.into_iter-task-iterator.ensures.into_iter_gives.0) fit);
}

pub loop-task-preserved : goal.loop-task-preserved
loop-task-preserved g c =
    let old = c.loop-task.queue.kept in
    let now = c.submit_one.new.queue.kept in
    let left = c.loop-task.invariant.left ∙ c.in-Some.ensures.steps.0 in
    record {
      left = left_submitted c.args.tasks.items old now c.in-Some.task c.next.new.self.rest.items left c.in-Ok.ensures.ok;
      of = of_next c.args.tasks.items old now c.in-Some.task c.next.new.self.rest.items left c.in-Ok.ensures.ok c.loop-task.invariant.of;
      ends = λ a o t end. c.loop-task.invariant.ends a o t (ends_submitted old now c.in-Some.task c.in-Ok.ensures.ok a o t end);
      files = c.submit_one.ensures.files ∙ c.loop-task.invariant.files;
      trusted = λ trusted. c.submit_one.ensures.trusted (c.loop-task.invariant.trusted trusted);
      staffed = λ least hall fit is.
          let was = c.loop-task.invariant.staffed least hall fit is in
          let fits = subst (λ (ts : List Submission). AreFit least ts) c.in-Some.ensures.steps.0 was.1 in
          (c.submit_one.ensures.staffed least hall fits.0 was.0, fits.1);
    }

pub returns-in-Err-clause-ends : goal.returns-in-Err-clause-ends
returns-in-Err-clause-ends g c = subst (λ (k : Kept). EndsOn c.args.queue.now.kept.held k.held) (sym c.in-Err.ensures.err) c.loop-task.invariant.ends

pub returns-in-Err-clause-staffed : goal.returns-in-Err-clause-staffed
returns-in-Err-clause-staffed g c least hall fit is =
    let was = c.loop-task.invariant.staffed least hall fit is in
    let fits = subst (λ (ts : List Submission). AreFit least ts) c.in-Some.ensures.steps.0 was.1 in
    c.submit_one.ensures.staffed least hall fits.0 was.0
