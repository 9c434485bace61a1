use Rattle.std.proofs.Common.{◌≡◌, ℕ, sym, ap, ◌∙◌, rules, ℤ, pos, ◌-ℤ◌, ◌<ℤ◌, to_z, of_z, w64}
use Rattle.std.specs.Prelude.{unsigned_abs}
use Rattle.std.specs.Int.{div_ceil}
use Rattle.jx_meaning.specs.Numbers.{whole}
use Rattle.jx_functions.proofs.Ranging.{range_up}
use Rattle.jx_functions.proofs.ranges.range_len.Goals as goal

pub returns-then-step-gt0 : goal.returns-then-step-gt0
returns-then-step-gt0 c =
    let up : pos 0 <ℤ c.args.step = search rules in
    let same : to_z w64 (of_z w64 c.args.step) ≡ c.args.step = search rules in
    let end : to_z w64 (of_z w64 c.args.end) ≡ c.args.end = search rules in
    let first : to_z w64 (of_z w64 c.args.first) ≡ c.args.first = search rules in
    c.div_ceil.ensures
    ∙ ap (λ (n : ℕ). div_ceil n c.unsigned_abs-size.result) (c.distance.ensures ∙ ap (λ (z : ℤ). whole (z -ℤ to_z w64 (of_z w64 c.args.first))) end ∙ ap (λ (z : ℤ). whole (c.args.end -ℤ z)) first)
    ∙ ap (div_ceil _) (c.unsigned_abs-size.ensures.value ∙ ap unsigned_abs same)
    ∙ sym (range_up c.args.first c.args.end c.args.step up)
