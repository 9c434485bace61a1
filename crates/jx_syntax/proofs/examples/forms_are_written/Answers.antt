use lib.Utf8.{encode}
use Rattle.std.proofs.Common.{refl, codes}
use Rattle.std.specs.Str.{is_utf8, chars}
use Rattle.jx_tokens.specs.Tokens.{scan_of, scan, front, literal, mark, name, word, number}
use Rattle.jx_tokens.specs.Texts.{closing, content, escape, unit_at}
use Rattle.jx_syntax.specs.Reading.{run, reduce}
use Rattle.jx_syntax.specs.Grammar as jx
use Rattle.jx_syntax.specs.Examples as shown
use Rattle.jx_syntax.proofs.Decided.{is_written}
use Rattle.jx_syntax.proofs.examples.forms_are_written.Goals as goal

pub returns : goal.returns
unfolding is_utf8 chars encode scan_of scan front literal mark name word number closing content escape unit_at run reduce
returns c = record {
  trailing_comma = is_written (codes "[1,]") (jx.list 0 (jx.item jx.no_items (jx.once (shown.digit 1 1)) 2) 3) refl;
  no_trailing_comma = is_written (codes "[1]") (jx.list_last 0 jx.no_items (jx.once (shown.digit 1 1)) 2) refl;
  object = is_written (codes "{\"k\":1,}") (jx.object 0 (jx.pair jx.no_pairs 1 (codes "k") 4 (shown.digit 5 1) 6) 7) refl;
  call = is_written (codes "f(1,2)") (jx.call 0 (codes "f") 1 (jx.argument jx.no_arguments (shown.digit 2 1) 3) (shown.digit 4 2) 5) refl;
  bare_call = is_written (codes "f()") (jx.bare_call 0 (codes "f") 1 2) refl;
  slice = is_written (codes "a[:1]") (jx.slice (jx.name 0 (codes "a")) 1 jx.open_end 2 (jx.end_at (shown.digit 3 1)) 4) refl;
  looped = is_written (codes "[x for x in y if z]") (jx.list_last 0 jx.no_items (jx.each_if (jx.once (jx.name 1 (codes "x"))) 3 7 (codes "x") 9 (jx.name 12 (codes "y")) 14 (jx.name 17 (codes "z"))) 18) refl;
}
