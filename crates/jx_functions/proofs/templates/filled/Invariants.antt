use Rattle.std.proofs.Common.{◌≡◌, length, string_bytes}
use Rattle.std.specs.Str.{chars}
use Rattle.jx_meaning.specs.Values.{find}
use Rattle.jx_meaning.specs.Texts.{filled, outside, made}
use Rattle.jx_functions.specs.Spots.{spot_of}
use Rattle.jx_functions.specs.Drafts.{finished}
use Rattle.jx_functions.proofs.Filling.{to_come}
use Rattle.jx_functions.proofs.templates.filled.Given as goal

-- what is left decides
abbrev pub invariant-loop-c : goal.invariant-loop-c
invariant-loop-c g l =
    finished l.place l.draft (to_come l.place (λ x. find x (g.N.Names.names l.names)) (spot_of l.spot (string_bytes l.name)) (chars l.text) (length l.yielded)) ≡ made l.place (filled l.place (λ x. find x (g.N.Names.names l.names)) outside l.text)
