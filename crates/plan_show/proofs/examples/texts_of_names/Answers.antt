-- The texts are computed.
use Rattle.std.proofs.Common.{refl}
use Rattle.std.specs.Str.{chars}
use lib.Utf8.{encode}
use Rattle.plan_show.proofs.examples.texts_of_names.Goals as goal

pub returns-clause-marks : goal.returns-clause-marks
unfolding chars encode
returns-clause-marks c = refl

pub returns-clause-codes : goal.returns-clause-codes
unfolding chars encode
returns-clause-codes c = refl

pub returns-clause-late : goal.returns-clause-late
unfolding chars encode
returns-clause-late c = refl

pub returns-clause-empty : goal.returns-clause-empty
unfolding chars encode
returns-clause-empty c = refl
