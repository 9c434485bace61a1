use Rattle.std.proofs.Common.{◌∙◌, ℕ, List, [], ap, refl, replicate}
use Rattle.rule_progress.proofs.Filling.{filled-first}
use Rattle.rule_progress.proofs.takers.Takers.new.Goals as goal

pub rules-init : goal.rules-init
rules-init c = filled-first c.args.plan.now c.len-rule.result c.in_ok-files.files.items none c.len-rule.ensures refl (c.in_ok-files.ensures ∙ ap (λ n. replicate n none) c.len.ensures)
  where
    none : List ℕ
    none = []
