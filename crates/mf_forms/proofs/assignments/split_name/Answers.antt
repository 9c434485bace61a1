use Rattle.std.proofs.Common.{sym, ◌∙◌}
use Rattle.mf_text.specs.Names.{continues_name}
use Rattle.mf_forms.proofs.Places.{behind_prefix}
use Rattle.mf_forms.proofs.Naming.{names_are_ascii, leading-is_variable, named, unnamed}
use Rattle.mf_forms.proofs.assignments.split_name.Goals as goal

pub split_at-requires : goal.split_at-requires
split_at-requires c = behind_prefix continues_name names_are_ascii c.args.text.now c.in-Some.len c.utf8.text (named _ _ _ c.in-Some.ensures).1

pub returns-in-Some-clause-begins : goal.returns-in-Some-clause-begins
returns-in-Some-clause-begins c = sym (leading-is_variable c.args.text.now ∙ (named _ _ _ c.in-Some.ensures).0)

pub returns-in-None-clause-begins : goal.returns-in-None-clause-begins
returns-in-None-clause-begins c = sym (leading-is_variable c.args.text.now ∙ unnamed _ _ c.in-None.ensures)
