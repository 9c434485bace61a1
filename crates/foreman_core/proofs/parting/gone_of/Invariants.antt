use Rattle.std.proofs.Common.{◌≡◌, filter, take}
use Rattle.foreman_core.specs.Foremen.{is_last, others}
use Rattle.foreman_core.proofs.parting.gone_of.Given as goal

abbrev pub invariant-loop-u : goal.invariant-loop-u
invariant-loop-u l = l.gone.items ≡ filter (λ u. is_last l.cache.rows l.links (others l.link l.links) u.task) (take l.u-index l.attempts)
