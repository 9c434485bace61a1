use Rattle.std.proofs.Common.{◌≡◌, ap, sym, ◌∙◌, rules, to_z, of_z, w64}
use Rattle.std.specs.Fmt.{signed_decimal}
use Rattle.jx_functions.specs.Drafts.{extended}
use Rattle.jx_functions.proofs.Marks.{decimal_taken}
use Rattle.jx_functions.proofs.formats.write_decimal.Goals as goal

pub returns-in_ok-add_number-in-Some-number_in-clause-text : goal.returns-in_ok-add_number-in-Some-number_in-clause-text
returns-in_ok-add_number-in-Some-number_in-clause-text c = λ more.
    let z = c.in-Some-number_in.n in
    let same : to_z w64 (of_z w64 z) ≡ z = search rules in
    decimal_taken c.args.place c.args.draft.now c.add_number.new.self c.args.values.now c.in-Some.field-0-1.now c.in-Some.first.now c.in-Some-number_in.n more c.in-Some.ensures.cases.0
    (sym c.in-Some-number_in.is ∙ c.number_in.ensures) (c.in_ok-add_number-in-Some-number_in.ensures ∙ ap (λ n. extended c.args.draft.now (signed_decimal n)) same)
