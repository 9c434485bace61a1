use Rattle.world_laws.proofs.Reached.{every_report}
use Rattle.world_laws.proofs.laws.every_report_fits_a_frame.Goals as goal

pub returns : goal.returns
returns g c = every_report g.F.Commands.gives g.F.Commands.may_fail
