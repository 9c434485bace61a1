use Rattle.std.proofs.Common.{◌≡◌, filter, map, not, take}
use Rattle.foreman_core.specs.Foremen.{is_last, off_link, others}
use Rattle.foreman_core.proofs.parting.stay_of.Given as goal

abbrev pub invariant-loop-u : goal.invariant-loop-u
invariant-loop-u l = l.stay.items ≡ map (off_link l.link) (filter (λ u. not (is_last l.cache.rows l.links (others l.link l.links) u.task)) (take l.u-index l.attempts))
