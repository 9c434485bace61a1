use Rattle.std.proofs.Common.{◌<◌, refl, arith}
use Rattle.std.proofs.lemmas.Bool.{lt-ltb}
use Rattle.jx_syntax.specs.Grammar.{no_pairs}
use Rattle.jx_syntax.specs.Reading.{wants_key, depth}
use Rattle.jx_syntax.proofs.pending.Reader.open_object.Goals as goal

pub returns : goal.returns
returns c = record {
  shown = λ fs h d.
      let low : depth fs < 128 = omega (arith, d, c.if-self-ge128.false) in (
        wants_key fs c.args.place no_pairs,
        rw (lt-ltb (depth fs) 128 low) refl,
        (fs, no_pairs, refl, h, omega (arith, d), rw c.new.ensures (record { within = tt; shows = λ rest. refl })),
      );
}
