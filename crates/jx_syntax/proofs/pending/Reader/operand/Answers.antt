use Rattle.std.proofs.Common.{refl, ap}
use Rattle.jx_tokens.specs.declared.token.Kind.{Kind}
use Rattle.jx_syntax.specs.Grammar.{name}
use Rattle.jx_syntax.specs.Reading.{has, depth, moved, wanted}
use Rattle.jx_syntax.proofs.pending.Reader.operand.Goals as goal

pub returns-in-Name : goal.returns-in-Name
returns-in-Name c = record {
  shown = λ fs h d.
      (has fs (name c.args.place c.in-Name.name), ap (λ (k : Kind). moved 128 (depth fs) c.args.place k (wanted fs c.args.place k)) c.in-Name.is, (fs, refl, h, d));
}
