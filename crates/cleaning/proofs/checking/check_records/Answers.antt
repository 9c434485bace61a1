use Rattle.std.proofs.Common.{None, false, sym, subst}
use Rattle.run_history.specs.declared.options.Options.{Options}
use Rattle.run_history.specs.declared.options.Mode.TheVariants.{Never}
use Rattle.flow_types.specs.declared.plan.Plan.{Plan}
use Rattle.cleaning.specs.declared.answers.LookFault.{LookFault}
use Rattle.cleaning.specs.Looks.{IsLookFault, WasRead, look_fault}
use Rattle.cleaning.proofs.Looked.{refused_of_records, told_by_look}
use Rattle.cleaning.proofs.checking.check_records.Goals as goal

-- what the table is asked for
no_run : Options
no_run = record { mode = Never; limit = None; retries = 0; wq = false; local = record { cores = 0; memory = 0; disk = 0 } }

pub look_fault-requires : goal.look_fault-requires
look_fault-requires c = refused_of_records c.in-Ok.copy no_run c.args.records.now c.in-Err.why c.in-Err.ensures

pub returns-in-Err : goal.returns-in-Err
returns-in-Err c =
    subst (λ (why : LookFault). WasRead why × IsLookFault c.args.plan.now c.args.records.now why) (sym c.look_fault.ensures)
    (subst (λ (P : Plan). WasRead (look_fault c.in-Err.why) × IsLookFault P c.args.records.now (look_fault c.in-Err.why)) c.in-Ok.ensures
    (told_by_look c.in-Ok.copy no_run c.args.records.now c.in-Err.why (refused_of_records c.in-Ok.copy no_run c.args.records.now c.in-Err.why c.in-Err.ensures) c.in-Err.ensures))
