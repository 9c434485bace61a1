use Rattle.flow_types.proofs.Orders.{every-rule-taken, serial-is_fixed}
use Rattle.flow_types.proofs.SerialRun.{serial-source}
use Rattle.flow_types.proofs.laws.serial_run_is_fixed.Goals as goal

pub returns-clause-made : goal.returns-clause-made
returns-clause-made c = serial-is_fixed

pub returns-clause-sources : goal.returns-clause-sources
returns-clause-sources c = serial-source

pub returns-clause-whole : goal.returns-clause-whole
returns-clause-whole c = every-rule-taken
