-- Loads of fewer attempts are no more.
use Rattle.std.proofs.Common.{◌≤◌, ℕ, zero, suc, Bool, true, false, cond, List, [], ◌∷◌, length, take, arith}
use Rattle.std.specs.Prelude.{map, filter}
use Rattle.flow_types.specs.declared.numbers.LinkNo.{LinkNo}
use Rattle.run_history.specs.Links.{Load}
use Rattle.worker_cache.specs.Caches.{Rows}
use Rattle.foreman_core.specs.declared.links.Upstream.{Upstream}
use Rattle.foreman_core.specs.Foremen.{is_on, load_of, loads_among}

fewer_by : (g : Upstream → Load) (u : Upstream) (fs gs : List Upstream) (b : Bool) → length (map g fs) ≤ length (map g gs) → length (map g (cond b (u ∷ fs) fs)) ≤ length (map g (cond b (u ∷ gs) gs))
fewer_by g u fs gs true less = omega (arith, less)
fewer_by g u fs gs false less = less

pub fewer : (rows : Rows) (k : LinkNo) (n : ℕ) (attempts : List Upstream) → length (loads_among rows k (take n attempts)) ≤ length (loads_among rows k attempts)
fewer rows k zero attempts = omega arith
fewer rows k (suc n) [] = omega arith
fewer rows k (suc n) (u ∷ attempts) = fewer_by (λ u. load_of rows u.task) u (filter (is_on k) (take n attempts)) (filter (is_on k) attempts) (is_on k u) (fewer rows k n attempts)
