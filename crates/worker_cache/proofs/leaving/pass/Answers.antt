use Rattle.flow_types.specs.declared.messages.Key.{Key}
use Rattle.worker_cache.specs.declared.held.Held.{Held}
use Rattle.worker_cache.proofs.Walks.{passes_none, passes_pinned}
use Rattle.worker_cache.proofs.leaving.pass.Goals as goal
use Rattle.worker_cache.proofs.leaving.pass.Goals.{then-excess-eq0-via-then-excess-eq0, then-excess-eq0-via-else-excess-eq0+then-held-gt0}

pub returns-then-excess-eq0 : goal.returns-then-excess-eq0
returns-then-excess-eq0 c = λ key rows.
    let row : Key × Held = (key, c.args.held.now) in
    elim c.then-excess-eq0.branch [
      | then-excess-eq0-via-then-excess-eq0 w ↦ passes_none c.args.excess row rows w.if-excess-eq0.true
      | then-excess-eq0-via-else-excess-eq0+then-held-gt0 w ↦ passes_pinned c.args.excess row rows w.if-held-gt0.true
    ]
