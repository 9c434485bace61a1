use Rattle.std.proofs.Common.{Result, Err, ap, subst}
use Rattle.outside.specs.declared.fault.Fault.TheVariants.{Memory}
use Rattle.txn_log.specs.declared.fault.LogFault.{LogFault}
use Rattle.txn_log.specs.Logs.{Appends}
use Rattle.desk.proofs.Wanting.{not_fine}
use Rattle.desk.proofs.entry.log_entry.Goals as goal

pub returns-in-Err-Memory-clause-still : goal.returns-in-Err-Memory-clause-still
returns-in-Err-Memory-clause-still g c wants fine =
    absurd (not_fine c.args.log.now c.append.new.self Memory
    (subst (λ (w : LogFault). Appends c.args.log.now c.args.entry (let r : Result (Unit {0}) LogFault = Err w in r) c.append.new.self) c.in-Err-Memory.field-0-is c.in-Err-Memory.ensures.answer) fine)

pub returns-in-Err-Memory-clause-room : goal.returns-in-Err-Memory-clause-room
returns-in-Err-Memory-clause-room g c records steps wants fine =
    not_fine c.args.log.now c.append.new.self Memory
    (subst (λ (w : LogFault). Appends c.args.log.now c.args.entry (let r : Result (Unit {0}) LogFault = Err w in r) c.append.new.self) c.in-Err-Memory.field-0-is c.in-Err-Memory.ensures.answer) fine

pub returns-in-Err-Memory-clause-wanting : goal.returns-in-Err-Memory-clause-wanting
returns-in-Err-Memory-clause-wanting g c ample room wants = absurd (c.in-Err-Memory.ensures.never ample c.requires.takes.fine room (ap Err c.in-Err-Memory.field-0-is))
