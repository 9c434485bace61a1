use Rattle.std.proofs.Common.{ℕ, List, ap, ◌∙◌, string_bytes}
use Rattle.std.specs.FinMap as map
use Rattle.mf_text.specs.Names.{Values}
use Rattle.mf_text.proofs.ScopeLemmas.{insert-seen}
use Rattle.mf_text.proofs.scope.Scope.set.Goals as goal

pub returns-in-Ok-insert-clause-ok : goal.returns-in-Ok-insert-clause-ok
returns-in-Ok-insert-clause-ok c =
    insert-seen c.self.inside.values c.insert.new.self c.in-Ok.name c.in-Ok-from_str.value c.in-Ok-insert.ensures.updates
    ∙ ap (λ (m : Values). map.insert m (string_bytes c.in-Ok.name) (string_bytes c.in-Ok-from_str.value)) c.self.view_is
    ∙ ap (λ (k : List ℕ). map.insert c.args.self.now k (string_bytes c.in-Ok-from_str.value)) c.in-Ok.ensures.ok
    ∙ ap (λ (v : List ℕ). map.insert c.args.self.now c.args.name.now v) c.in-Ok-from_str.ensures.ok
