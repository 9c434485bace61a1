use Rattle.std.proofs.Common.{refl}
use Rattle.message_forms.specs.Streams.{framed}
use Rattle.links.proofs.Honesties.{new_link_right, heard_as, said_as}
use Rattle.links.proofs.laws.what_was_asked_is_answered_honestly.Goals as goal

pub returns-clause-begins : goal.returns-clause-begins
returns-clause-begins g c = new_link_right g.F.Commands.gives g.F.Commands.may_fail

pub returns-clause-hears : goal.returns-clause-hears
returns-clause-hears g c = heard_as g.F.Commands.gives g.F.Commands.may_fail

pub returns-clause-says : goal.returns-clause-says
returns-clause-says g c = λ old new said m result sends.
    said_as g.F.Commands.gives g.F.Commands.may_fail old new said m (framed m) result sends refl
