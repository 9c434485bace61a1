use Rattle.std.proofs.Common.{ℕ, List, length, ap}
use Rattle.flow_types.specs.declared.messages.Key.{Key}
use Rattle.worker_cache.specs.declared.held.Held.{Held}
use Rattle.worker_cache.specs.Caches.{bytes_of, make_room}
use Rattle.worker_cache.proofs.Walks.{step_left}
use Rattle.worker_cache.proofs.leaving.bytes_left.Goals as goal

pub loop-held-preserved-then-not-stays : goal.loop-held-preserved-then-not-stays
loop-held-preserved-then-not-stays c =
    let row : Key × Held = (c.in-Some.field-0-0.now, c.in-Some.held.now) in
    let rows = c.next.new.self in
    step_left c.loop-held.left c.loop-held.held-iterator row rows c.pass-stays.result.0 c.pass-stays.result.1 c.loop-held.total c.saturating_sub-total.result (length c.as_slice.result.now)
    (bytes_of (make_room c.args.excess c.args.rows.now.entries))
    c.in-Some.ensures.steps c.pass-stays.ensures c.if-not-stays.true (ap (λ (bytes : List ℕ). length bytes) c.as_slice.ensures) c.saturating_sub-total.ensures c.loop-held.invariant
