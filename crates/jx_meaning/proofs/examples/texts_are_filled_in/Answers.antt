use lib.Utf8.{encode}
use Rattle.std.proofs.Common.{refl}
use Rattle.std.specs.Fmt.{digits}
use Rattle.std.specs.Str.{chars}
use Rattle.jx_meaning.specs.Values.{equal, depth, count}
use Rattle.jx_meaning.specs.Numbers.{stepped}
use Rattle.jx_meaning.specs.Texts.{written, formatted, filled}
use Rattle.jx_meaning.specs.Functions.{function_of}
use Rattle.jx_meaning.specs.Operations.{operated, applied}
use Rattle.jx_meaning.specs.Meaning.{evaluate}
use Rattle.jx_meaning.specs.Examples.{nested}
use Rattle.jx_meaning.proofs.examples.texts_are_filled_in.Goals as goal

pub returns : goal.returns
unfolding evaluate operated applied function_of chars encode equal depth count stepped written formatted filled nested digits
returns c = record {
  marks = refl;
  bad_mark = refl;
  lone_mark = refl;
  too_few = refl;
  spare = refl;
  no_number = refl;
  filled = refl;
  no_mate = refl;
  open_brace = refl;
  unnamed = refl;
}
