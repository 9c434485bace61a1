use Rattle.std.proofs.Common.{sym, ap, ◌∙◌}
use Rattle.std.specs.FinMap as map
use Rattle.mf_rules.specs.Tables.{Counts}
use Rattle.mf_rules.proofs.NumberLemmas.{get-seen}
use Rattle.mf_rules.proofs.numbers.Numbers.get.Goals as goal

pub returns : goal.returns
returns c =
    c.copied.ensures ∙ c.get.ensures.value ∙ sym (get-seen c.self.inside.numbers c.args.name.now)
    ∙ ap (λ (m : Counts). map.get m c.args.name.now) c.self.view_is
