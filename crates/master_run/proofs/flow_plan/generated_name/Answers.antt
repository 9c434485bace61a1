use Rattle.std.proofs.Common.{◌≡◌, ◌∙◌, Some, refl, sym, codes}
use Rattle.std.specs.Str.{is_utf8, chars}
use lib.Utf8.{encode}
use Rattle.flow_types.specs.Names.{name_of}
use Rattle.master_run.proofs.flow_plan.generated_name.Goals as goal

generated_is_a_name : name_of (codes "generated") ≡ Some (codes "generated")
unfolding is_utf8 chars encode
generated_is_a_name = refl

pub returns-in-Ok : goal.returns-in-Ok
returns-in-Ok c =
    let known : Some (codes "generated") ≡ Some c.in-Ok.name = sym generated_is_a_name ∙ c.in-Ok.ensures.name in
    let same : codes "generated" ≡ c.in-Ok.name = cc in sym same
