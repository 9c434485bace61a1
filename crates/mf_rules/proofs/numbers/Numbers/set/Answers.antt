use Rattle.std.proofs.Common.{ℕ, List, ap, ◌∙◌, string_bytes}
use Rattle.std.specs.FinMap as map
use Rattle.mf_rules.specs.Tables.{Counts}
use Rattle.mf_rules.proofs.NumberLemmas.{insert-seen}
use Rattle.mf_rules.proofs.numbers.Numbers.set.Goals as goal
use Rattle.mf_rules.proofs.numbers.Numbers.set.Goals.{in-Ok-insert, in-Err}

pub returns-clause-ok : goal.returns-clause-ok
returns-clause-ok c =
    elim c.match-insert.branch [
      | in-Ok-insert w ↦
          rw w.result-is (insert-seen c.self.inside.numbers c.insert.new.self (string_bytes c.in-Ok.name) c.args.number w.in-Ok-insert.ensures.updates
          ∙ ap (λ (m : Counts). map.insert m (string_bytes c.in-Ok.name) c.args.number) c.self.view_is
          ∙ ap (λ (k : List ℕ). map.insert c.args.self.now k c.args.number) c.in-Ok.ensures.ok)
      | in-Err w ↦ rw w.result-is tt
    ]
