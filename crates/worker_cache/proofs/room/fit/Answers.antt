use Rattle.std.proofs.Common.{◌-◌, sym, ◌∙◌}
use Rattle.std.proofs.lemmas.Bool.{eq-eqb}
use Rattle.worker_cache.proofs.Walks.{none_over}
use Rattle.worker_cache.proofs.room.fit.Goals as goal

pub returns-then-excess-eq0-clause-rows : goal.returns-then-excess-eq0-clause-rows
returns-then-excess-eq0-clause-rows c =
    let excess = c.args.total - c.args.cap in
    sym (none_over excess c.args.rows.now (eq-eqb excess 0 (sym c.saturating_sub-excess.ensures ∙ c.if-excess-eq0.true)))
