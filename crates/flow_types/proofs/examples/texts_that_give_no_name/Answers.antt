use Rattle.std.proofs.Common.{refl}
use Rattle.std.specs.Str.{is_utf8, chars}
use lib.Utf8.{encode}
use Rattle.flow_types.proofs.examples.texts_that_give_no_name.Goals as goal

pub returns-clause-half_a_character : goal.returns-clause-half_a_character
unfolding is_utf8 chars encode
returns-clause-half_a_character c = refl
