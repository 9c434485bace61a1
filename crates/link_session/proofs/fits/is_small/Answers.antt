use Rattle.std.proofs.Common.{ℕ, List, length, sum_by, arith, sym}
use Rattle.flow_types.specs.Plans.{most_bytes}
use Rattle.wq_messages.specs.Views.{contents_of}
use Rattle.link_session.proofs.Contents.{step_sum, too_much}
use Rattle.link_session.proofs.fits.is_small.Goals as goal

pub returns-then-content-total : goal.returns-then-content-total
returns-then-content-total c =
    let contents = contents_of c.args.message.now in
    let step = step_sum contents c.loop-at.at c.in-Some.content.now (sym c.in-Some.ensures.content) in
    let sum = c.loop-at.invariant.1 in
    too_much (sum_by (λ (x : List ℕ). length x) contents) most_bytes (omega arith)

pub loop-at-preserved : goal.loop-at-preserved
loop-at-preserved c =
    let step = step_sum (contents_of c.args.message.now) c.loop-at.at c.in-Some.content.now (sym c.in-Some.ensures.content) in
    let sum = c.loop-at.invariant.1 in
    (omega arith, omega arith)
