use lib.Utf8.{encode}
use Rattle.std.proofs.Common.{refl, codes}
use Rattle.std.specs.Str.{is_utf8, chars}
use Rattle.jx_tokens.specs.Tokens.{scan_of, scan, front, literal, mark, name, word, number}
use Rattle.jx_tokens.specs.Texts.{closing, content, escape, unit_at}
use Rattle.jx_syntax.specs.Reading.{run, reduce}
use Rattle.jx_tokens.specs.declared.fault.JxFault.TheVariants.{FloatUnsupported, IntTooWide, OpenText, TooDeep, Unexpected}
use Rattle.jx_syntax.specs.Examples as shown
use Rattle.jx_syntax.proofs.Decided.{is_refused}
use Rattle.jx_syntax.proofs.examples.texts_with_other_faults.Goals as goal

pub returns : goal.returns
unfolding is_utf8 chars encode scan_of scan front literal mark name word number closing content escape unit_at run reduce
returns c = record {
  wide = is_refused (codes "9223372036854775808") (IntTooWide 0) refl;
  wide_behind_binary_minus = is_refused (codes "1-9223372036854775808") (IntTooWide 2) refl;
  float = is_refused (codes "[1.5") (FloatUnsupported 1) refl;
  unexpected_before_float = is_refused (codes "1 2 1.5") (Unexpected 2) refl;
  open_text = is_refused (codes "1+\"") (OpenText 2) refl;
  deep = is_refused (shown.brackets 129) (TooDeep 128) refl;
  not_deep = is_refused (shown.brackets 128) (Unexpected 128) refl;
  deep_signs = is_refused (shown.minuses 129) (TooDeep 128) refl;
}
