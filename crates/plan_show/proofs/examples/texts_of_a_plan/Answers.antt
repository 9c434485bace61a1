-- The texts are computed.
use Rattle.std.proofs.Common.{refl}
use Rattle.std.specs.Fmt.{digits}
use Rattle.std.specs.Str.{chars}
use lib.Utf8.{encode}
use Rattle.plan_show.proofs.examples.texts_of_a_plan.Goals as goal

pub returns-clause-rules : goal.returns-clause-rules
unfolding digits chars encode
returns-clause-rules c = refl

pub returns-clause-files : goal.returns-clause-files
unfolding digits chars encode
returns-clause-files c = refl

pub returns-clause-graph : goal.returns-clause-graph
unfolding digits chars encode
returns-clause-graph c = refl
