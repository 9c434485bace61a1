use Rattle.std.proofs.Common.{◌<◌, ap, ◌∙◌, length, arith}
use Rattle.std.specs.Prelude.{slice_set}
use Rattle.world_peers.specs.Company.{cut_if, is_under}
use Rattle.world_peers.proofs.Loops.{mapped_step}
use Rattle.world_peers.proofs.company.cut_under.Goals as goal

pub loop-at-preserved : goal.loop-at-preserved
loop-at-preserved c =
    let now = c.loop-at.peers.items in
    let peers = c.args.peers.now.items in
    let inside : c.loop-at.at < length peers = omega (arith, c.loop-at-test.true, c.len-at-end.ensures) in
    ap (slice_set now c.loop-at.at) (c.cut_one_under.ensures ∙ ap (cut_if (is_under c.args.foreman)) c.index_mut.ensures.value)
    ∙ mapped_step (cut_if (is_under c.args.foreman)) c.loop-at.at peers now c.index_mut.result.now inside c.loop-at.invariant
