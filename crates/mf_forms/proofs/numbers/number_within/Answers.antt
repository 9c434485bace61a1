use Rattle.std.proofs.Common.{sym, ◌∙◌}
use Rattle.mf_forms.proofs.Digits.{IsNumber, number_from, accepted, above, unread}
use Rattle.mf_forms.proofs.numbers.number_within.Goals as goal

pub returns-in-Ok : goal.returns-in-Ok
returns-in-Ok c =
    let is : IsNumber c.args.text.now = number_from c.args.text.now (sym c.is_empty.ensures ∙ c.if-is_empty.false) c.if-text-gt-MOST_DIGITS.false (sym c.all_digits.ensures ∙ c.if-not-all_digits.false) in
    accepted c.args.most c.args.text.now c.parse.result c.in-Ok.number is c.parse.ensures.value.0 c.in-Ok.is c.if-number-most.true

pub returns-in_default : goal.returns-in_default
returns-in_default c =
    let is : IsNumber c.args.text.now = number_from c.args.text.now (sym c.is_empty.ensures ∙ c.if-is_empty.false) c.if-text-gt-MOST_DIGITS.false (sym c.all_digits.ensures ∙ c.if-not-all_digits.false) in
    above c.args.most c.args.text.now c.parse.result c.in-Ok.number is c.parse.ensures.value.0 c.in-Ok.is c.if-number-most.false

pub returns-in_default-2 : goal.returns-in_default-2
returns-in_default-2 c =
    let is : IsNumber c.args.text.now = number_from c.args.text.now (sym c.is_empty.ensures ∙ c.if-is_empty.false) c.if-text-gt-MOST_DIGITS.false (sym c.all_digits.ensures ∙ c.if-not-all_digits.false) in
    absurd (unread c.args.text.now c.parse.result c.in_default.field-0 is c.parse.ensures.value.0 c.in_default.is)
