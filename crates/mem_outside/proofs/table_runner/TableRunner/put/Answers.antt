use Rattle.std.proofs.Common.{◌≡◌, List, ℕ, Some, subst}
use Rattle.std.proofs.lemmas.Map.Text.{btree_map_updates_text}
use Rattle.std.specs.BTreeMap.{get_by_text}
use Rattle.std.specs.String.{string_bytes}
use Rattle.mem_outside.specs.TableRunner.{with_outcome}
use Rattle.mem_outside.proofs.table_runner.TableRunner.put.Goals as goal

pub returns-in-Ok-insert-clause-ok : goal.returns-in-Ok-insert-clause-ok
returns-in-Ok-insert-clause-ok g c =
    subst (λ (command : List ℕ). (λ other. get_by_text c.insert.new.self other) ≡ with_outcome command c.args.outcome (λ other. get_by_text c.args.self.now.table other)) c.in-Ok.ensures.ok
    (λ i other. btree_map_updates_text (string_bytes c.in-Ok.key) c.args.self.now.table c.insert.new.self (Some c.args.outcome) c.in-Ok-insert.ensures.updates other i)
