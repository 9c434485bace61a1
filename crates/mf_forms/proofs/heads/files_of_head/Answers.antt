use Rattle.std.proofs.Common.{codes, None, lit<}
use Rattle.std.proofs.lemmas.Str.Pattern.{strip_prefix_char}
use Rattle.mf_forms.proofs.Quoting.{before_bare, colon_is_ascii, head-none}
use Rattle.mf_forms.proofs.heads.files_of_head.Goals as goal

pub split_at-requires : goal.split_at-requires
split_at-requires c = before_bare (codes ":") colon_is_ascii c.args.text.now c.bare_position.result c.bare_position.ensures

pub returns-in_default : goal.returns-in_default
returns-in_default c =
    head-none c.args.text.now c.split_at.result.1.now c.bare_position.result c.bare_position.ensures c.split_at.ensures.back (strip_prefix_char 58 c.split_at.result.1.now None c.in_default.ensures.cases (lit< tt))
