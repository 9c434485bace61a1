use Rattle.std.proofs.Common.{codes}
use Rattle.mf_forms.proofs.Quoting.{before_bare, hash_is_ascii}
use Rattle.mf_forms.proofs.form.uncommented.Goals as goal

pub split_at-requires : goal.split_at-requires
split_at-requires c = before_bare (codes "#") hash_is_ascii c.args.line.now c.bare_position.result c.bare_position.ensures
