use Rattle.std.proofs.Common.{rules}
use Rattle.worker_cache.specs.contracts.leaving.fn.let_go.retain as closure
use Rattle.worker_cache.proofs.Walks.{room_retained}
use Rattle.worker_cache.proofs.leaving.let_go.Goals as goal

pub returns : goal.returns
returns c =
    room_retained _ (λ f. (closure.captures f).left) (λ f key held stays after g call. search rules) _ c.args.rows.now.entries c.retain.new.self.entries c.retain.ensures.filtered
