use Rattle.table_laws.proofs.Admitting.{none-unadmitted}
use Rattle.table_laws.proofs.laws.none_is_unadmitted.Goals as goal

pub returns : goal.returns
returns c = none-unadmitted
