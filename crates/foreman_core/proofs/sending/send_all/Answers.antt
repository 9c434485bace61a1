use Rattle.foreman_core.proofs.Drafts.{put_step}
use Rattle.foreman_core.proofs.sending.send_all.Goals as goal

pub loop-file-preserved : goal.loop-file-preserved
loop-file-preserved c =
    put_step _ c.args.cache.now.rows c.args.task.run c.args.link c.args.files.now c.loop-file.file-index c.args.down.now c.loop-file.down c.send_put.new.down c.loop-file-test.true c.in_ok-send_put.ensures c.loop-file.invariant
