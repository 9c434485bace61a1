use Rattle.std.proofs.Common.{◌≡◌, ℕ, ◌+◌, ◌-◌, ◌/◌, ◌<◌, [], length, get_or, inl, inr, sym, arith}
use Rattle.std.specs.declared.cmp.Ordering.TheVariants.{Less, Equal, Greater}
use Rattle.std.proofs.lemmas.List.{get_or_read}
use Rattle.std.proofs.lemmas.Bool.{cases_lt}
use Rattle.rule_graph.proofs.NamePlaces.{by_bytes, below_here, above_here, place_found, place_none, middle_inside}
use Rattle.rule_graph.proofs.numbering.place_of.Goals as goal

pub search-preserved-in-Less : goal.search-preserved-in-Less
search-preserved-in-Less c =
    let m : ℕ = c.search.low + (c.search.high - c.search.low) / 2 in
    let inside : m < length c.args.names.now = omega (arith, middle_inside c.search.low c.search.high c.search-test.true, c.search.invariant.inside) in
    let read = get_or_read c.args.names.now m c.index-names-middle.result inside c.index-names-middle.is [] in
    let here : by_bytes (get_or c.args.names.now m []) c.args.name.now ≡ Less = cc (read, c.as_slice.ensures, c.cmp.ensures, c.in-Less.is) in
    record {
      inside = c.search.invariant.inside;
      below = λ k low. below_here c.args.names.now c.args.name.now m k c.requires inside here (omega (arith, low));
      above = c.search.invariant.above;
    }

pub search-preserved : goal.search-preserved
search-preserved c =
    let m : ℕ = c.search.low + (c.search.high - c.search.low) / 2 in
    let inside : m < length c.args.names.now = omega (arith, middle_inside c.search.low c.search.high c.search-test.true, c.search.invariant.inside) in
    let read = get_or_read c.args.names.now m c.index-names-middle.result inside c.index-names-middle.is [] in
    let here : by_bytes (get_or c.args.names.now m []) c.args.name.now ≡ Greater = cc (read, c.as_slice.ensures, c.cmp.ensures, c.in-Greater.is) in
    record {
      inside = omega (arith, inside);
      below = c.search.invariant.below;
      above = λ k high k_inside. above_here c.args.names.now c.args.name.now m k c.requires inside here high k_inside;
    }

pub returns-in-Equal : goal.returns-in-Equal
returns-in-Equal c =
    let m : ℕ = c.search.low + (c.search.high - c.search.low) / 2 in
    let inside : m < length c.args.names.now = omega (arith, middle_inside c.search.low c.search.high c.search-test.true, c.search.invariant.inside) in
    let read = get_or_read c.args.names.now m c.index-names-middle.result inside c.index-names-middle.is [] in
    let here : by_bytes (get_or c.args.names.now m []) c.args.name.now ≡ Equal = cc (read, c.as_slice.ensures, c.cmp.ensures, c.in-Equal.is) in
    sym (place_found c.args.names.now c.args.name.now m c.requires inside here)

pub returns : goal.returns
returns c =
    sym (place_none c.args.names.now c.args.name.now
    (λ k inside tie. elim (cases_lt k c.search.low) [
      | inl before ↦ absurd (let wrong : ⊥ = cc (c.search.invariant.below k before) in wrong)
      | inr after ↦ absurd (let wrong : ⊥ = cc (c.search.invariant.above k (omega (arith, c.search-test.false)) inside) in wrong)
    ]))
