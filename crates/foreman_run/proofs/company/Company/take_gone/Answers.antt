use Rattle.std.proofs.Common.{rules, ◌≡◌, ◌<◌, ◌∙◌, Some, length, sym, ap, subst, get_or}
use Rattle.std.specs.Prelude.{position, remove}
use Rattle.std.proofs.lemmas.List.Quantifiers.{position-Some}
use Rattle.std.proofs.lemmas.Option.{slice_get-get_or}
use Rattle.foreman_run.specs.Lowers.{LowerState, Parts}
use Rattle.foreman_run.proofs.Tying.{split_there}
use Rattle.foreman_run.proofs.company.Company.take_gone.Goals as goal

pub returns-clause-some : goal.returns-clause-some
returns-clause-some g c =
    let old = c.args.self.now in
    let at = c.in_ok-at.at in
    let found : position (λ (l : LowerState _). l.gone) old ≡ Some at = search rules in
    let first = position-Some (λ (l : LowerState _). l.gone) old at c.remove.result found in
    let lt : at < length old = first.0 in
    let now : c.remove.new.self.items ≡ remove old at = search rules in
    let value : c.remove.result ≡ get_or old at c.remove.result = search rules in (
      subst (Parts c.remove.result old) (sym now) (split_there old at c.remove.result (slice_get-get_or old at c.remove.result lt ∙ ap (λ (l : LowerState _). Some l) (sym value))),
      ap (λ (l : LowerState _). l.gone) value ∙ first.1,
    )
