-- How a peer ends.
use Rattle.std.specs.Prelude.{ℕ, List, [], codes, Result, Ok, Err}
use Rattle.outside.specs.declared.fault.Fault.{Fault}
use Rattle.outside.specs.declared.fault.Fault.TheVariants as faults
use Rattle.peer_run.specs.declared.cause.PeerCause.{PeerCause}
use Rattle.peer_run.specs.declared.cause.PeerCause.TheVariants as causes
use Rattle.peer_run.specs.declared.halt.Halt.{Halt}
use Rattle.peer_run.specs.declared.halt.Halt.TheVariants as halts

-- the exit status
abbrev pub status_of : PeerCause → ℕ
status_of causes.Bye = 0
status_of causes.Usage = 2
status_of causes.Closed = 4
status_of (causes.DialFault before after) = 5
status_of (causes.LinkFault before after) = 5
status_of (causes.HallFault before after) = 5
status_of (causes.SinkFault before after) = 5
status_of (causes.BadMessage at) = 6
status_of causes.Memory = 8

-- what a worker prints
abbrev pub line_of : PeerCause → List ℕ
line_of causes.Bye = codes "work_queue_worker: bye\n"
line_of causes.Usage = codes "work_queue_worker: usage\n"
line_of causes.Closed = codes "work_queue_worker: closed\n"
line_of (causes.DialFault before after) = codes "work_queue_worker: fault\n"
line_of (causes.LinkFault before after) = codes "work_queue_worker: fault\n"
line_of (causes.HallFault before after) = codes "work_queue_worker: fault\n"
line_of (causes.SinkFault before after) = []
line_of (causes.BadMessage at) = codes "work_queue_worker: bad message\n"
line_of causes.Memory = codes "work_queue_worker: out of memory\n"

-- what a foreman prints
abbrev pub foreman_line_of : PeerCause → List ℕ
foreman_line_of causes.Bye = codes "work_queue_foreman: bye\n"
foreman_line_of causes.Usage = codes "work_queue_foreman: usage\n"
foreman_line_of causes.Closed = codes "work_queue_foreman: closed\n"
foreman_line_of (causes.DialFault before after) = codes "work_queue_foreman: fault\n"
foreman_line_of (causes.LinkFault before after) = codes "work_queue_foreman: fault\n"
foreman_line_of (causes.HallFault before after) = codes "work_queue_foreman: fault\n"
foreman_line_of (causes.SinkFault before after) = []
foreman_line_of (causes.BadMessage at) = codes "work_queue_foreman: bad message\n"
foreman_line_of causes.Memory = codes "work_queue_foreman: out of memory\n"

-- why it ends that left its link so, whose count is this by now and was nothing first
abbrev pub cause_of : ℕ → Halt → PeerCause
cause_of after halts.Bye = causes.Bye
cause_of after halts.Closed = causes.Closed
cause_of after halts.Link = causes.LinkFault 0 after
cause_of after (halts.Bad at) = causes.BadMessage at
cause_of after halts.Memory = causes.Memory

-- the cause once its line was printed
abbrev pub printed_cause : ℕ → ℕ → PeerCause → Result (Unit {0}) Fault → PeerCause
printed_cause before after cause (Ok done) = cause
printed_cause before after cause (Err faults.Failed) = causes.SinkFault before after
printed_cause before after cause (Err faults.Memory) = causes.Memory
