use Rattle.std.proofs.Common.{◌≡◌, ◌<◌, ℕ, List, Option, drop, length}
use Rattle.std.specs.List.{AllByRecursion}
use Rattle.flow_types.specs.declared.job.Task.{Task}
use Rattle.flow_types.specs.declared.numbers.FileNo.{FileNo}
use Rattle.peers.specs.Provides.{keys_of}
use Rattle.peers.specs.States.{GoesOn}
use Rattle.task_book.specs.declared.task.Held.{Held}
use Rattle.wq_seats.specs.declared.run.Again.{Again}
use Rattle.wq_seats.specs.Seats.{IsAtWork, MayAsk, own_run}
use Rattle.wq_seats.proofs.seat.Seat.put_all.Given as goal

abbrev pub invariant-loop-file : goal.invariant-loop-file
invariant-loop-file g l = record {
  only : l.self ≡ record l.fn.self { peer = l.self.peer };
  asks : (held : List Held) (next : ℕ) (task : Task) → g.L.Link.tells
      → MayAsk g.F.Commands.gives g.F.Commands.may_fail g.L.Link.history l.files held next l.fn.self task (keys_of own_run l.wanted)
      → MayAsk g.F.Commands.gives g.F.Commands.may_fail g.L.Link.history l.files held next l.self task (keys_of own_run (drop l.file-index l.wanted));
  works : (held : List Held) (next : ℕ) (again : Option Again) → g.L.Link.tells
      → IsAtWork g.F.Commands.gives g.F.Commands.may_fail g.L.Link.history l.files held next (record l.fn.self { again = again })
      → IsAtWork g.F.Commands.gives g.F.Commands.may_fail g.L.Link.history l.files held next (record l.self { again = again });
  on : GoesOn g.L.Link.honest g.L.Link.sure g.L.Link.offers l.fn.self.peer.way l.self.peer.way;
  calm : AllByRecursion (λ (file : FileNo). file.0 < length l.files) l.wanted → AllByRecursion (λ (file : FileNo). file.0 < length l.files) (drop l.file-index l.wanted);
}
