use Rattle.std.proofs.Common.{arith}
use Rattle.std.proofs.lemmas.List.Sums.{suffix_len-le-length}
use Rattle.mf_forms.specs.Words.{is_blank}
use Rattle.mf_forms.proofs.Places.{before_suffix, blanks_are_ascii}
use Rattle.mf_forms.proofs.blanks.without_end.Goals as goal

pub overflow_sub-text : goal.overflow_sub-text
overflow_sub-text c = omega (arith, c.end_len-blanks.ensures, suffix_len-le-length is_blank c.args.text.now)

pub split_at-requires : goal.split_at-requires
split_at-requires c = before_suffix is_blank blanks_are_ascii c.args.text.now c.end_len-blanks.result c.end_len-blanks.ensures
