use Rattle.std.proofs.Common.{◌≡◌, ◌∷◌, Some, None, lit<}
use Rattle.std.proofs.lemmas.Str.Pattern.{strip_prefix_char}
use Rattle.mf_forms.proofs.Naming.{no_sign, plus_alone}
use Rattle.mf_forms.proofs.assignments.behind_sign.Goals as goal

pub returns-in_default-strip_prefix : goal.returns-in_default-strip_prefix
returns-in_default-strip_prefix c =
    no_sign c.args.text.now (strip_prefix_char 61 c.args.text.now None c.in_default.ensures.cases (lit< tt)) (strip_prefix_char 43 c.args.text.now None c.in_default-strip_prefix.ensures.cases (lit< tt))

pub returns-in-None : goal.returns-in-None
returns-in-None c =
    let plus : c.args.text.now ≡ 43 ∷ c.in-Some-strip_prefix.rest.now = strip_prefix_char 43 c.args.text.now (Some c.in-Some-strip_prefix.rest) c.in-Some-strip_prefix.ensures.cases (lit< tt) in
    plus_alone c.args.text.now c.in-Some-strip_prefix.rest.now plus (strip_prefix_char 61 c.in-Some-strip_prefix.rest.now None c.in-None.ensures.cases (lit< tt))
