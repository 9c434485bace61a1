use Rattle.std.proofs.Common.{rules, ◌<◌, ap, ◌∙◌, length, arith}
use Rattle.std.specs.Prelude.{slice_set}
use Rattle.world_laws.specs.Worlds.{forgets}
use Rattle.net_world.proofs.CollectShows.{forgotten_step, unlinks_step}
use Rattle.net_world.proofs.play.collects.unlink_on_lines.Goals as goal

pub loop-at-preserved : goal.loop-at-preserved
loop-at-preserved c =
    let now = c.loop-at.lines.items in
    let lines = c.args.lines.now.items in
    let inside : c.loop-at.at < length lines = omega (arith, c.loop-at-test.true, c.len-at-end.ensures) in
    record {
      lines = ap (slice_set now c.loop-at.at) (c.unlink_on_line.ensures.line ∙ ap (forgets c.args.file) c.index_mut.ensures.value)
          ∙ forgotten_step c.args.file c.loop-at.at lines now c.index_mut.result.now inside c.loop-at.invariant.lines;
      sent = unlinks_step c.args.file c.loop-at.at lines now c.index_mut.result.now c.args.bag.now.items c.loop-at.bag.items c.unlink_on_line.new.bag.items inside
          c.loop-at.invariant.lines c.loop-at.invariant.sent (search rules);
    }
