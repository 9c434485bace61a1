use Rattle.std.proofs.Common.{List, vec_len, ap, ◌∙◌, arith}
use Rattle.std.proofs.lemmas.Grind.{common_steps}
use Rattle.std.proofs.lemmas.List.{nil_from_length}
use Rattle.jx_syntax.specs.declared.node.Node.{Node}
use Rattle.jx_syntax.specs.Grammar.{Derivation}
use Rattle.jx_syntax.specs.Reading.{Frame, reduce}
use Rattle.jx_syntax.specs.Tree.{tree_of, expression_of}
use Rattle.jx_syntax.proofs.Parsed.{is_whole, all_read, still_waits, some_waits}
use Rattle.jx_syntax.proofs.pending.Reader.whole.Goals as goal

pub returns-then-not-is_empty : goal.returns-then-not-is_empty
returns-then-not-is_empty c = record {
  shown = λ fs x h.
      let r = c.in_ok-reduced.ensures.shown fs x h.0 h.1 h.2 in
      let stack = c.reduced.new.self.stack in
      still_waits c.args.len c.reduced.new.self c.in_ok-reduced.field-0 (reduce 1 fs x) r
      (some_waits (vec_len stack) stack.items stack.ok.0 (λ e. grind (arith, common_steps, c.if-not-is_empty.ensures, e)));
}

pub expr_of-requires-clause-ordered : goal.expr_of-requires-clause-ordered
expr_of-requires-clause-ordered c =
    let s = c.requires.state in
    (c.in_ok-reduced.ensures.shown s.0 s.1 s.2.0 s.2.1 s.2.2).0.ordered

pub expr_of-requires-clause-some : goal.expr_of-requires-clause-some
expr_of-requires-clause-some c =
    let s = c.requires.state in
    let last = (c.in_ok-reduced.ensures.shown s.0 s.1 s.2.0 s.2.1 s.2.2).2.last in
    omega (arith, last)

pub returns : goal.returns
returns c = record {
  shown = λ fs x h.
      let r = c.in_ok-reduced.ensures.shown fs x h.0 h.1 h.2 in
      let p : List Frame × Derivation = reduce 1 fs x in
      let stack = c.reduced.new.self.stack in
      let ok = stack.ok.0 in (
        p.1,
        all_read c.args.len c.reduced.new.self c.in_ok-reduced.field-0 p r (nil_from_length stack.items (grind (arith, common_steps, c.if-not-is_empty.ensures, ok))),
        ap (λ (ns : List Node). expression_of ns) c.expr_of.ensures ∙ is_whole c.reduced.new.self.nodes.items c.in_ok-reduced.field-0 (tree_of p.1) r.2,
      );
}
