use Rattle.std.proofs.Common.{◌≡◌, take, length}
use Rattle.std.specs.Prelude.{sum_by}
use Rattle.worker_cache.specs.Caches.{content_of}
use Rattle.worker_core.specs.Workers.{content_or_none, key_of}
use Rattle.foreman_core.proofs.room.task_bytes.Given as goal

abbrev pub invariant-loop-input : goal.invariant-loop-input
invariant-loop-input l = l.total ≡ sum_by (λ port. length (content_or_none (content_of (key_of l.task.run port.file) l.cache.rows))) (take l.input-index l.input-items)
