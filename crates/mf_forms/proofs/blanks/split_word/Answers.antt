use Rattle.mf_forms.specs.Words.{is_blank}
use Rattle.mf_forms.proofs.Places.{before_first_pass, blanks_are_ascii}
use Rattle.mf_forms.proofs.blanks.split_word.Goals as goal

pub split_at-requires : goal.split_at-requires
split_at-requires c = before_first_pass is_blank blanks_are_ascii c.without_front-rest.result.now c.word_len.result c.word_len.ensures
