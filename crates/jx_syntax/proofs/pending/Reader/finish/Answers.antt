use Rattle.jx_syntax.specs.declared.pending.Wanted.TheVariants as wanted
use Rattle.jx_syntax.specs.Grammar.{name}
use Rattle.jx_syntax.specs.Shown.{IsState}
use Rattle.jx_syntax.proofs.Parsed.{name_read}
use Rattle.jx_syntax.proofs.pending.Reader.finish.Goals as goal

pub whole-requires : goal.whole-requires
whole-requires c =
    let h : IsState c.args.self (wanted.Behind c.in-Behind.operand) c.requires.state.0 = rw c.in-Behind.is at c.requires.state.1 in
    record { state = (h.0, h.1, (h.3, h.4, h.5)) }

pub returns-in-Behind : goal.returns-in-Behind
returns-in-Behind c = record {
  shown = λ st h.
      let g : IsState c.args.self (wanted.Behind c.in-Behind.operand) st = rw c.in-Behind.is at h in
      rw g.2 (c.whole.ensures.shown g.0 g.1 (g.3, g.4, g.5));
}

pub whole-requires-in-Named : goal.whole-requires-in-Named
whole-requires-in-Named c =
    let put = c.in_ok-operand-in-Named in
    let at = c.in-Named.at in
    let x = c.in-Named.name in
    let h : IsState c.args.self (wanted.Named at x) c.requires.state.0 = rw c.in-Named.is at c.requires.state.1 in
    record {
      state = (h.0, name at x, name_read c.args.self c.put.new.self put.operand at x h.0 h.2 h.3 put.ensures.nodes put.ensures.index put.ensures.stack put.ensures.depth);
    }

pub returns-in-Named : goal.returns-in-Named
returns-in-Named c = record {
  shown = λ st h.
      let put = c.in_ok-operand-in-Named in
      let at = c.in-Named.at in
      let x = c.in-Named.name in
      let g : IsState c.args.self (wanted.Named at x) st = rw c.in-Named.is at h in
      let r = name_read c.args.self c.put.new.self put.operand at x g.0 g.2 g.3 put.ensures.nodes put.ensures.index put.ensures.stack put.ensures.depth in
      rw g.1 (c.whole-in-Named.ensures.shown g.0 (name at x) r);
}
