use Rattle.std.proofs.Common.{◌≡◌, take}
use Rattle.mem_outside.specs.Entries.{files_in}
use Rattle.mem_outside.specs.Steps.{reads, synced}
use Rattle.mem_outside.proofs.mem_site.image.replay.Given as goal

abbrev pub invariant-loop-step : goal.invariant-loop-step
invariant-loop-step l = record {
  written : files_in l.disk.written ≡ reads (files_in l.start) (take l.step-index l.steps);
  synced : files_in l.disk.synced ≡ synced (files_in l.start) (take l.step-index l.steps);
}
