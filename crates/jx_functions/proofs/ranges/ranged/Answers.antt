use Rattle.std.proofs.Common.{◌≡◌, ◌<◌, ◌≤◌, ◌^◌, false, ap, ◌∙◌, rules, arith, ℤ, ◌+ℤ◌, to_z, of_z, w64}
use Rattle.std.specs.Int.{saturate_signed}
use Rattle.std.proofs.lemmas.Bool.{le-leb}
use Rattle.std.specs.Int.Signed.{mag}
use Rattle.jx_meaning.specs.Numbers.{is_zero, range_len, ranged}
use Rattle.jx_functions.proofs.Ranging.{number_pushed, all_pushed}
use Rattle.jx_functions.proofs.ranges.ranged.Goals as goal

pub loop-preserved : goal.loop-preserved
loop-preserved c =
    let step : ℤ = to_z w64 (of_z w64 c.args.step) in
    let end : ℤ = to_z w64 (of_z w64 c.args.end) in
    let now : ℤ = to_z w64 c.loop.next-bits in
    let next : ℤ = to_z w64 (of_z w64 c.saturating_add-next.result) in
    let some : is_zero step ≡ false = search rules in
    let fits : mag now < 2 ^ 63 = search rules in
    let fits_end : mag end < 2 ^ 63 = search rules in
    let stepped_on : next ≡ saturate_signed w64 (now +ℤ step) = search rules in
    let lt : c.loop.counter < c.range_len-len.result = search rules in
    let both = number_pushed now next end step c.range_len-len.result c.loop.counter c.loop.items.items c.push.new.self.items _ some fits fits_end lt stepped_on c.loop.invariant.left c.in_ok-push.ensures.items c.loop.invariant.made in
    record {
      within = omega (arith, lt);
      left = both.0;
      made = both.1;
    }

pub returns : goal.returns
returns c =
    let step : ℤ = to_z w64 (of_z w64 c.args.step) in
    let end : ℤ = to_z w64 (of_z w64 c.args.end) in
    let first : ℤ = to_z w64 (of_z w64 c.args.first) in
    let same_step : c.args.step ≡ step = search rules in
    let same_end : c.args.end ≡ end = search rules in
    let same_first : c.args.first ≡ first = search rules in
    let some : is_zero step ≡ false = search rules in
    let len : c.range_len-len.result ≡ range_len first end step = search rules in
    let few : c.range_len-len.result ≤ 1000000 = search rules in
    ap (λ (z : ℤ). ranged c.args.place c.args.first c.args.end z) same_step ∙ ap (λ (z : ℤ). ranged c.args.place c.args.first z step) same_end ∙ ap (λ (z : ℤ). ranged c.args.place z end step) same_first
    ∙ all_pushed c.args.place first end step (to_z w64 c.loop.next-bits) c.range_len-len.result c.loop.counter c.loop.items.items c.of.result some len (le-leb c.range_len-len.result 1000000 few) c.loop-test.false c.of.ensures c.loop.invariant.made
