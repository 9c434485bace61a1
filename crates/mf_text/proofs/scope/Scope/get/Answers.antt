use Rattle.std.proofs.Common.{ℕ, List, String, Global, Some, Option, sym, ap, ◌∙◌, string_bytes}
use Rattle.std.specs.Option.{option_map}
use Rattle.std.specs.FinMap as map
use Rattle.mf_text.specs.Names.{Values}
use Rattle.mf_text.proofs.ScopeLemmas.{get-seen}
use Rattle.mf_text.proofs.scope.Scope.get.Goals as goal

pub returns-in-Some : goal.returns-in-Some
returns-in-Some c =
    ap (λ (v : List ℕ). Some v) c.as_str.ensures.value
    ∙ ap (λ (o : Option (String Global)). option_map string_bytes o) c.in-Some.ensures.value
    ∙ sym (get-seen c.self.inside.values c.args.name.now)
    ∙ ap (λ (m : Values). map.get m c.args.name.now) c.self.view_is

pub returns-in-None : goal.returns-in-None
returns-in-None c =
    ap (λ (o : Option (String Global)). option_map string_bytes o) c.in-None.ensures.value
    ∙ sym (get-seen c.self.inside.values c.args.name.now)
    ∙ ap (λ (m : Values). map.get m c.args.name.now) c.self.view_is
