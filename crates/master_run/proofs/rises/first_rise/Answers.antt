use Rattle.std.proofs.Common.{◌≡◌, ◌∙◌, ℕ, length, map, sym, ap, arith}
use Rattle.std.specs.Prelude.{slice_index_or}
use Rattle.std.proofs.lemmas.List.{length-map}
use Rattle.std.proofs.lemmas.List.Sums.{sum_by-drop_more}
use Rattle.std.proofs.lemmas.List.{get_or-map}
use Rattle.master_run.proofs.rises.first_rise.Goals as goal

pub loop-at-preserved : goal.loop-at-preserved
loop-at-preserved g c rises =
    let b = c.args.before.now in
    let a = map g.R.Runner.count c.args.runners.now in
    let many : length a ≡ length c.args.runners.now = length-map c.args.runners.now g.R.Runner.count in
    let here : slice_index_or a c.loop-at.at 0 ≡ c.faults-after.result =
    get_or-map g.R.Runner.count c.args.runners.now c.loop-at.at c.index-runners-at.result 0 c.loop-at-test.true ∙ ap g.R.Runner.count (sym c.index-runners-at.is) ∙ sym c.faults-after.ensures in
    let was = sum_by-drop_more (λ (n : ℕ). n) b c.loop-at.at 0 (omega (arith, c.requires, c.loop-at-test.true)) in
    let is = sum_by-drop_more (λ (n : ℕ). n) a c.loop-at.at 0 (omega (arith, many, c.loop-at-test.true)) in
    let left = c.loop-at.invariant rises in
    omega (arith, was, is, left, here, c.if-before-at.false)
