use Rattle.std.proofs.Common.{◌<◌, length, arith}
use Rattle.mem_outside.specs.Entries.{files_in}
use Rattle.mem_outside.proofs.Replays.{written_more, synced_more}
use Rattle.mem_outside.proofs.mem_site.image.replay.Goals as goal

pub loop-step-preserved : goal.loop-step-preserved
loop-step-preserved c =
    let start = files_in c.args.start.now in
    let steps = c.args.steps.now in
    let i = c.loop-step.step-index in
    let lt : c.loop-step.step-index < length c.args.steps.now = omega arith in
    let files = files_in c.loop-step.disk.written in
    record {
      written = written_more start steps i c.step-item.result files (files_in c.step.new.self.written) lt c.step-item.is c.loop-step.invariant.written c.in_ok-step.ensures.written;
      synced = synced_more start steps i c.step-item.result files (files_in c.loop-step.disk.synced) (files_in c.step.new.self.synced) lt c.step-item.is c.loop-step.invariant.written c.loop-step.invariant.synced c.in_ok-step.ensures.synced;
    }
