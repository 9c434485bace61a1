use Rattle.std.proofs.Common.{◌≡◌, length, get_or, ap, ◌∙◌, arith}
use Rattle.foreman_run.proofs.Telling.{counted_more}
use Rattle.foreman_run.proofs.voice.size_of.Goals as goal

pub overflow_cast-size : goal.overflow_cast-size
overflow_cast-size c =
    let content = c.content-item.result in
    let is : length c.as_slice.result.now ≡ length (get_or c.args.contents.now c.loop-content.content-index content) = ap length (c.as_slice.ensures ∙ c.content-item.is) in
    omega (arith, is, counted_more c.args.contents.now c.loop-content.content-index content c.loop-content-test.true, c.requires)

pub overflow_add-size : goal.overflow_add-size
overflow_add-size c =
    let content = c.content-item.result in
    let is : length c.as_slice.result.now ≡ length (get_or c.args.contents.now c.loop-content.content-index content) = ap length (c.as_slice.ensures ∙ c.content-item.is) in
    omega (arith, is, counted_more c.args.contents.now c.loop-content.content-index content c.loop-content-test.true, c.requires)

pub overflow_add-size-in-loop-content : goal.overflow_add-size-in-loop-content
overflow_add-size-in-loop-content c =
    let content = c.content-item.result in
    let is : length c.as_slice.result.now ≡ length (get_or c.args.contents.now c.loop-content.content-index content) = ap length (c.as_slice.ensures ∙ c.content-item.is) in
    omega (arith, is, c.loop-content.invariant, counted_more c.args.contents.now c.loop-content.content-index content c.loop-content-test.true, c.requires)
