use Rattle.std.proofs.Common.{◌≡◌, true, sym, ap, ◌∙◌}
use Rattle.mf_forms.specs.Quotes.{is_enclosed}
use Rattle.mf_forms.proofs.Quoting.{behind_mark}
use Rattle.mf_forms.proofs.quotes.unquoted.Goals as goal

pub range-requires-clause-start_boundary : goal.range-requires-clause-start_boundary
range-requires-clause-start_boundary c =
    let is : is_enclosed c.args.text.now ≡ true = ap is_enclosed (sym c.as_bytes.ensures.value) ∙ sym c.is_enclosed.ensures ∙ c.if-is_enclosed.true in
    λ _. behind_mark c.args.text.now c.utf8.text is
