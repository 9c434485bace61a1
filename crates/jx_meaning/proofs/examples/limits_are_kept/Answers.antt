use lib.Utf8.{encode}
use Rattle.std.proofs.Common.{refl}
use Rattle.std.specs.Str.{chars}
use Rattle.jx_meaning.specs.Values.{equal, depth, count}
use Rattle.jx_meaning.specs.Numbers.{stepped}
use Rattle.jx_meaning.specs.Texts.{written, formatted, filled}
use Rattle.jx_meaning.specs.Functions.{function_of}
use Rattle.jx_meaning.specs.Operations.{operated, applied}
use Rattle.jx_meaning.specs.Meaning.{evaluate}
use Rattle.jx_meaning.specs.Examples.{nested}
use Rattle.jx_meaning.proofs.examples.limits_are_kept.Goals as goal

pub returns : goal.returns
unfolding evaluate operated applied function_of chars encode equal depth count stepped written formatted filled nested
returns c = record {
  last_node = refl;
  one_node_more = refl;
  node_of_operand = refl;
  deep = refl;
  too_deep = refl;
}
