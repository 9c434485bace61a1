use Rattle.std.proofs.Common.{arith}
use Rattle.wq_seats.proofs.Going.{goes_same, goes_then, waits_goes}
use Rattle.wq_seats.proofs.Keeping.{left_run, none_left_run}
use Rattle.wq_seats.proofs.seat.asking.lose_all.Goals as goal

pub loop-run-init : goal.loop-run-init
loop-run-init c = record { goes = goes_same c.args.book.now; ends = λ a o t end. end; stops = λ id attempt run. (run, λ has. has) }

pub loop-run-preserved : goal.loop-run-preserved
loop-run-preserved c = record {
  goes = goes_then c.args.book.now c.loop-run.book c.wait_again.new.self c.loop-run.invariant.goes (waits_goes c.loop-run.book c.wait_again.new.self _ _ c.wait_again.ensures.held);
  ends = λ a o t end. c.loop-run.invariant.ends a o t (c.wait_again.ensures.ends a o t end);
  stops = λ id attempt run.
      let stopped = c.wait_again.ensures.stops id attempt run in
      let was = c.loop-run.invariant.stops id attempt stopped.0 in
      (was.0, λ has. left_run id attempt c.args.runs.now c.loop-run.run-index _ (omega arith) stopped.1 (was.1 has));
}

pub returns-clause-stops : goal.returns-clause-stops
returns-clause-stops c id attempt run =
    let was = c.loop-run.invariant.stops id attempt run in
    (was.0, λ has. none_left_run id attempt c.args.runs.now c.loop-run.run-index (omega arith) (was.1 has))
