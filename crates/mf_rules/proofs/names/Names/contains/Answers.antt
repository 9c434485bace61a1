use Rattle.std.proofs.Common.{sym, ap, ◌∙◌}
use Rattle.std.specs.FinMap as finite
use Rattle.mf_rules.specs.Tables.{NameSet}
use Rattle.mf_rules.proofs.NameLemmas.{contains-seen}
use Rattle.mf_rules.proofs.names.Names.contains.Goals as goal

pub returns : goal.returns
returns c =
    c.contains.ensures ∙ sym (contains-seen c.self.inside.names c.args.name.now)
    ∙ ap (λ (s : NameSet). finite.contains_key s c.args.name.now) c.self.view_is
