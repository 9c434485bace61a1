use Rattle.std.proofs.Common.{◌∙◌, sym, ap, map, List, Ok}
use Rattle.jx_syntax.specs.declared.value.JxValue.{JxValue}
use Rattle.jx_meaning.specs.Values.{list, plain, values}
use Rattle.jx_values.proofs.Plain.{plain-list}
use Rattle.jx_values.proofs.Room.{too_large, fits}
use Rattle.jx_values.proofs.Cuts.{list_is}
use Rattle.jx_values.proofs.slices.list_value.Goals as goal

pub returns-then-not-may_be_list : goal.returns-then-not-may_be_list
returns-then-not-may_be_list c =
    let xs : List JxValue = c.args.part.now in
    too_large c.args.place (list (values (map plain xs))) (list_is xs c.items_size.result c.around.result c.may_be_list.result c.items_size.ensures c.around.ensures c.may_be_list.ensures ∙ c.if-not-may_be_list.true)

pub returns : goal.returns
returns c =
    let xs : List JxValue = c.args.part.now in
    fits c.args.place (list (values (map plain xs))) (list_is xs c.items_size.result c.around.result c.may_be_list.result c.items_size.ensures c.around.ensures c.may_be_list.ensures ∙ c.if-not-may_be_list.false)
    ∙ ap Ok (ap (λ (l : List JxValue). list (values (map plain l))) (sym c.in_ok-items.ensures) ∙ sym (plain-list c.in_ok-items.items))
