-- What the chief gets back was out.
use Rattle.std.proofs.Common.{◌≡◌, ℕ, List, [], ◌∷◌, ◌++◌, Option, Some, None, refl, ap, ◌∙◌}
use Rattle.flow_types.specs.declared.job.Start.{Start}
use Rattle.worker_pool.specs.declared.entry.Entry.{Entry}
use Rattle.worker_pool.specs.declared.entry.Hold.{Hold}
use Rattle.worker_pool.specs.declared.entry.View.{View}
use Rattle.worker_pool.specs.Courses.{TakesOut}
use Rattle.worker_pool.specs.Tickets.{taking, TookOut, starts}

starts_append : (xs ys : List Entry) → starts (xs ++ ys) ≡ starts xs ++ starts ys
starts_append [] ys = refl
starts_append (x ∷ xs) ys = ap (λ l. x.start ∷ l) (starts_append xs ys)

pub takes_starts : (e : Entry) (old new : List Entry) → TakesOut e old new → TakesOut e.start (starts old) (starts new)
takes_starts e old new t = (starts t.0, starts t.1, ap starts t.2 ∙ starts_append t.0 (e ∷ t.1), ap starts t.3 ∙ starts_append t.0 t.1)

pub took_back : (v n : View) (s : Option Entry) (e : Entry) → s ≡ Some e → n ≡ taking v s → TookOut n → TakesOut e v.waiting n.waiting
took_back v n s e is eq took = took (record { entry = e; before = v.waiting }) (ap (λ (x : View). x.last) (eq ∙ ap (taking v) is))
