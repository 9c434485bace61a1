use Rattle.std.proofs.Common.{ℕ, List, ap, ◌∙◌, string_bytes}
use Rattle.std.specs.FinMap as finite
use Rattle.mf_rules.specs.Tables.{NameSet}
use Rattle.mf_rules.proofs.NameLemmas.{insert-seen}
use Rattle.mf_rules.proofs.names.Names.insert.Goals as goal
use Rattle.mf_rules.proofs.names.Names.insert.Goals.{in-Ok-insert, in-Err}

pub returns-clause-ok : goal.returns-clause-ok
returns-clause-ok c =
    elim c.match-insert.branch [
      | in-Ok-insert w ↦
          rw w.result-is (insert-seen c.self.inside.names c.insert.new.self (string_bytes c.in-Ok.name) w.in-Ok-insert.ensures.updates
          ∙ ap (λ (s : NameSet). finite.insert s (string_bytes c.in-Ok.name) tt) c.self.view_is
          ∙ ap (λ (k : List ℕ). finite.insert c.args.self.now k tt) c.in-Ok.ensures.ok)
      | in-Err w ↦ rw w.result-is tt
    ]
