use lib.Utf8.{encode}
use Rattle.std.proofs.Common.{refl, codes}
use Rattle.std.specs.Str.{is_utf8, chars}
use Rattle.jx_tokens.specs.Tokens.{scan_of, scan, front, literal, mark, name, word, number}
use Rattle.jx_tokens.specs.Texts.{closing, content, escape, unit_at}
use Rattle.jx_syntax.specs.Reading.{run, reduce}
use Rattle.jx_tokens.specs.declared.fault.JxFault.TheVariants.{Unexpected}
use Rattle.jx_syntax.proofs.Decided.{is_refused}
use Rattle.jx_syntax.proofs.examples.texts_that_are_unexpected.Goals as goal

pub returns : goal.returns
unfolding is_utf8 chars encode scan_of scan front literal mark name word number closing content escape unit_at run reduce
returns c = record {
  nothing = is_refused (codes "") (Unexpected 0) refl;
  two = is_refused (codes "1 2") (Unexpected 2) refl;
  no_operand = is_refused (codes "1+") (Unexpected 2) refl;
  chain = is_refused (codes "1<2<3") (Unexpected 3) refl;
  not_behind_equal = is_refused (codes "1==not 2") (Unexpected 3) refl;
  comma_ends_call = is_refused (codes "f(1,)") (Unexpected 4) refl;
  lone_comma = is_refused (codes "[,]") (Unexpected 1) refl;
  called_group = is_refused (codes "(f)(1)") (Unexpected 3) refl;
  called_call = is_refused (codes "f(1)(2)") (Unexpected 4) refl;
  key = is_refused (codes "{k:1}") (Unexpected 1) refl;
  condition_alone = is_refused (codes "[1 if 2]") (Unexpected 3) refl;
  loop_in_call = is_refused (codes "f(x for x in y)") (Unexpected 4) refl;
  open_list = is_refused (codes "[1") (Unexpected 2) refl;
}
