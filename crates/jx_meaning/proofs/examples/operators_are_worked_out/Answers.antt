use lib.Utf8.{encode}
use Rattle.std.proofs.Common.{refl}
use Rattle.std.specs.Str.{chars}
use Rattle.jx_meaning.specs.Values.{equal, depth, count}
use Rattle.jx_meaning.specs.Numbers.{stepped}
use Rattle.jx_meaning.specs.Texts.{written, formatted, filled}
use Rattle.jx_meaning.specs.Functions.{function_of}
use Rattle.jx_meaning.specs.Operations.{operated, applied}
use Rattle.jx_meaning.specs.Meaning.{evaluate}
use Rattle.jx_meaning.specs.Examples.{nested}
use Rattle.jx_meaning.proofs.examples.operators_are_worked_out.Goals as goal

pub returns : goal.returns
unfolding evaluate operated applied function_of chars encode equal depth count stepped written formatted filled nested
returns c = record {
  or_decides = refl;
  or_goes_on = refl;
  or_of_number = refl;
  and_decides = refl;
  mixed = refl;
  by_bytes = refl;
  not_number = refl;
  any_order = refl;
}
