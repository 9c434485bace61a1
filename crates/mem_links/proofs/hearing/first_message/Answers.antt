use Rattle.std.proofs.Common.{◌≡◌, Ok, Err, Result, arith}
use Rattle.flow_types.specs.declared.messages.Message.{Message}
use Rattle.wq_messages.specs.declared.fault.MessageFault.{MessageFault}
use Rattle.mem_links.proofs.Fronts.{none_bad, none_long, none_short, one_front}
use Rattle.mem_links.proofs.hearing.first_message.Goals as goal

pub returns-then-body-gt-MOST_BODY-clause-none : goal.returns-then-body-gt-MOST_BODY-clause-none
returns-then-body-gt-MOST_BODY-clause-none c =
    none_long c.args.bytes.now c.in-Ok.body.now c.in-Ok.behind.now c.in-Ok.ensures.field
    c.if-body-gt-MOST_BODY.true

pub returns-in-Ok-read_message-clause-some : goal.returns-in-Ok-read_message-clause-some
returns-in-Ok-read_message-clause-some c =
    let read = c.in-Ok-read_message.ensures.spelled in
    one_front c.args.bytes.now c.in-Ok.body.now c.in-Ok.behind.now c.in-Ok-read_message.message
    (λ i. omega (arith, c.type_inv.bytes i)) c.in-Ok.ensures.field c.if-body-gt-MOST_BODY.false read.0 read.1

not_read : (e : MessageFault) (m : Message)
    → (let read : Result Message MessageFault = Err e in read ≡ Ok m) → ⊥
not_read e m same = cc

pub returns-in-Err-read_message-clause-none : goal.returns-in-Err-read_message-clause-none
returns-in-Err-read_message-clause-none c =
    none_bad c.args.bytes.now c.in-Ok.body.now c.in-Ok.behind.now c.in-Ok.ensures.field
    (λ m fits same. not_read c.in-Err-read_message.field-0 m
    (c.in-Err-read_message.ensures.again m fits same))

pub returns-in-Err-clause-none : goal.returns-in-Err-clause-none
returns-in-Err-clause-none c =
    none_short c.args.bytes.now c.in-Err.field-0 c.in-Err.ensures.field
