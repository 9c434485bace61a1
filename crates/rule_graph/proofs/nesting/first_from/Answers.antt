use Rattle.std.proofs.Common.{◌≡◌, ℕ, List, [], ◌+◌, ◌-◌, ◌/◌, ◌<◌, true, length, get_or, ap, sym, ◌∙◌, arith}
use Rattle.flow_types.specs.Plans.{is_name_less}
use Rattle.rule_graph.proofs.Folders.{less_upto, get_same}
use Rattle.rule_graph.proofs.nesting.first_from.Goals as goal

pub loop-low-preserved-then-is_less : goal.loop-low-preserved-then-is_less
loop-low-preserved-then-is_less c =
    let names : List (List ℕ) = c.args.names.now in
    let low : ℕ = c.loop-low.low in
    let high : ℕ = c.loop-low.high in
    let middle : ℕ = low + (high - low) / 2 in
    let below : middle < high = omega (arith, c.loop-low-test.true) in
    let inside : middle < length names = omega (arith, below, c.loop-low.invariant.within) in
    let less : is_name_less (get_or names middle []) c.args.start.now ≡ true =
    ap (λ name. is_name_less name c.args.start.now) (get_same names middle [] c.index-names-middle.result inside ∙ sym c.index-names-middle.is)
    ∙ sym c.is_less.ensures ∙ c.if-is_less.true in
    record {
      order = omega (arith, below);
      within = c.loop-low.invariant.within;
      before = λ k upto. less_upto names c.args.start.now middle k c.requires inside upto less;
      from = c.loop-low.invariant.from;
    }

pub loop-low-preserved : goal.loop-low-preserved
loop-low-preserved c =
    let names : List (List ℕ) = c.args.names.now in
    let low : ℕ = c.loop-low.low in
    let high : ℕ = c.loop-low.high in
    let middle : ℕ = low + (high - low) / 2 in
    let below : middle < high = omega (arith, c.loop-low-test.true) in
    record {
      order = omega arith;
      within = omega (arith, below, c.loop-low.invariant.within);
      before = c.loop-low.invariant.before;
      from = λ inside.
          ap (λ name. is_name_less name c.args.start.now) (get_same names middle [] c.index-names-middle.result inside ∙ sym c.index-names-middle.is)
          ∙ sym c.is_less.ensures ∙ c.if-is_less.false;
    }
