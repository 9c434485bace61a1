use Rattle.std.proofs.Common.{refl}
use Rattle.worked_run.proofs.Reading.{planned, text, words}
use Rattle.worked_run.proofs.laws.the_flow_computes.Goals as goal

pub returns-clause-read : goal.returns-clause-read
returns-clause-read c = record { words = words; text = text; planned = planned }

pub returns-clause-made : goal.returns-clause-made
returns-clause-made c = record { source = refl; first = refl; second = refl }
