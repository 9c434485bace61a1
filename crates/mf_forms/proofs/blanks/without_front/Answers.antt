use Rattle.mf_forms.specs.Words.{is_blank}
use Rattle.mf_forms.proofs.Places.{behind_prefix, blanks_are_ascii}
use Rattle.mf_forms.proofs.blanks.without_front.Goals as goal

pub split_at-requires : goal.split_at-requires
split_at-requires c = behind_prefix is_blank blanks_are_ascii c.args.text.now c.front_len.result c.utf8.text c.front_len.ensures
