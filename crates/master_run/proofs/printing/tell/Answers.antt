use Rattle.std.proofs.Common.{◌≡◌, ◌∙◌, true, false, Err, refl}
use Rattle.outside.specs.declared.fault.Fault.TheVariants as faults
use Rattle.report.specs.declared.cause.Cause.TheVariants.{Memory}
use Rattle.master_run.specs.Asked.{choice}
use Rattle.master_run.proofs.Printed.{told_printed}
use Rattle.master_run.proofs.printing.tell.Goals as goal

true_is_false : {A : Type 0} → true ≡ false → A
true_is_false wrong = absurd (cc)

pub returns-in-Err-clause-told : goal.returns-in-Err-clause-told
returns-in-Err-clause-told g c = λ tells. record {
  told = Memory;
  is_own = λ own. true_is_false (let wrong : false ≡ true = own in cc);
  is_standing = λ printed. true_is_false printed;
  whole = λ same some. true_is_false some;
  of_end = λ ends. true_is_false (let wrong : false ≡ true = ends in cc);
  part = (c.write.ensures.bytes tells).some;
}

pub returns-in-Err-clause-stands : goal.returns-in-Err-clause-stands
returns-in-Err-clause-stands g c = record { printed = Err faults.Memory; is_cause = refl; rose = λ wrong. absurd (cc) }

pub returns-in-Ok-clause-told : goal.returns-in-Ok-clause-told
returns-in-Ok-clause-told g c = λ tells.
    told_printed (choice c.args.words.now) c.args.plan.now c.args.records.now (g.O.Sink.count c.args.out.now) (g.O.Sink.count c.write-printed.new.self) c.as_slice.result.now (g.O.Sink.bytes c.args.out.now) (g.O.Sink.bytes c.write-printed.new.self)
    c.args.cause c.printed_cause.result c.write-printed.result (c.as_slice.ensures ∙ c.in-Ok.ensures) (rw c.faults-before.ensures at (rw c.faults.ensures at c.printed_cause.ensures)) (c.write-printed.ensures.bytes tells) c.write-printed.ensures.cause.failed
