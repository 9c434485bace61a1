use Rattle.std.proofs.Common.{rules, tests, ◌≡◌, sym, ◌∙◌}
use Rattle.std.specs.Prelude.{◌==◌}
use Rattle.std.specs.List.{list_any}
use Rattle.std.proofs.lemmas.Iterator.{YieldsList-from_slice}
use Rattle.std.proofs.lemmas.Iterator.Search.{any_from_yields_List}
use Rattle.wq_run.proofs.Companies.{unseated_of}
use Rattle.wq_run.proofs.company.Company.has.Goals as goal

pub returns : goal.returns
returns g c none =
    let all : c.any.result ≡ list_any (λ s. s.link.0 == c.args.link.0) c.args.self.now.seats =
    any_from_yields_List (λ s. s.link.0 == c.args.link.0) _ _ _ c.any.ensures.ran (YieldsList-from_slice c.args.self.now.seats cc) (λ x b q k. search (rules, tests)) in
    unseated_of c.args.link.0 c.args.self.now.seats (sym all ∙ none)
