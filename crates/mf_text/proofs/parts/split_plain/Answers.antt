use Rattle.std.proofs.Common.{lit<, Some, None}
use Rattle.std.proofs.lemmas.Str.Pattern.{find_char}
use Rattle.mf_text.proofs.Cutting.{lacks_before, lacks_everywhere}
use Rattle.mf_text.proofs.parts.split_plain.Goals as goal

pub returns-in-Some-clause-plain : goal.returns-in-Some-clause-plain
returns-in-Some-clause-plain c =
    rw c.split_at.ensures.front (lacks_before 36 c.in-Some.at c.args.text.now (find_char 36 c.args.text.now (Some c.in-Some.at) c.in-Some.ensures.cases (lit< tt)).2)

pub returns-in-None-clause-plain : goal.returns-in-None-clause-plain
returns-in-None-clause-plain c = lacks_everywhere 36 c.args.text.now (find_char 36 c.args.text.now None c.in-None.ensures.cases (lit< tt))
