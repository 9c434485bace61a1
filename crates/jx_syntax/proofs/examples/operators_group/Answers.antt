use lib.Utf8.{encode}
use Rattle.std.proofs.Common.{refl, codes}
use Rattle.std.specs.Str.{is_utf8, chars}
use Rattle.jx_tokens.specs.Tokens.{scan_of, scan, front, literal, mark, name, word, number}
use Rattle.jx_tokens.specs.Texts.{closing, content, escape, unit_at}
use Rattle.jx_syntax.specs.Reading.{run, reduce}
use Rattle.jx_syntax.specs.Grammar as jx
use Rattle.jx_syntax.specs.Examples as shown
use Rattle.jx_syntax.specs.declared.operator.Operator.TheVariants as op
use Rattle.jx_syntax.specs.declared.operator.Sign.TheVariants as sign
use Rattle.jx_syntax.proofs.Decided.{is_written}
use Rattle.jx_syntax.proofs.examples.operators_group.Goals as goal

pub returns : goal.returns
unfolding is_utf8 chars encode scan_of scan front literal mark name word number closing content escape unit_at run reduce
returns c = record {
  to_the_left = is_written (codes "9-4-2") (jx.operation 3 op.Subtract (jx.operation 1 op.Subtract (shown.digit 0 9) (shown.digit 2 4)) (shown.digit 4 2)) refl;
  by_strength = is_written (codes "9-4*2") (jx.operation 1 op.Subtract (shown.digit 0 9) (jx.operation 3 op.Multiply (shown.digit 2 4) (shown.digit 4 2))) refl;
  by_parentheses = is_written (codes "(9-4)*2") (jx.operation 5 op.Multiply (jx.group 0 (jx.operation 2 op.Subtract (shown.digit 1 9) (shown.digit 3 4)) 4) (shown.digit 6 2)) refl;
  not_behind_comparison = is_written (codes "!1==2") (jx.signed 0 sign.Not (jx.operation 2 op.Equal (shown.digit 1 1) (shown.digit 4 2))) refl;
  minus_before_product = is_written (codes "-1*2") (jx.operation 2 op.Multiply (jx.signed 0 sign.Minus (shown.digit 1 1)) (shown.digit 3 2)) refl;
  minus_behind_index = is_written (codes "-a[1]") (jx.signed 0 sign.Minus (jx.index (jx.name 1 (codes "a")) 2 (shown.digit 3 1) 4)) refl;
  least = is_written (codes "-9223372036854775808") (jx.least 0 1) refl;
}
