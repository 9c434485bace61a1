use Rattle.std.proofs.Common.{refl}
use Rattle.std.specs.Str.{is_utf8, chars}
use lib.Utf8.{encode}
use Rattle.flow_types.proofs.examples.texts_that_give_names.Goals as goal

pub returns-clause-short : goal.returns-clause-short
unfolding is_utf8 chars encode
returns-clause-short c = refl

pub returns-clause-folder : goal.returns-clause-folder
unfolding is_utf8 chars encode
returns-clause-folder c = refl

pub returns-clause-dots : goal.returns-clause-dots
unfolding is_utf8 chars encode
returns-clause-dots c = refl

pub returns-clause-accent : goal.returns-clause-accent
unfolding is_utf8 chars encode
returns-clause-accent c = refl

pub returns-clause-full : goal.returns-clause-full
unfolding is_utf8 chars encode
returns-clause-full c = refl
