use Rattle.std.proofs.Common.{◌∙◌, sym, ap, subst, map, List, Result, option_map, option_copied}
use Rattle.jx_syntax.specs.declared.value.JxValue.{JxValue}
use Rattle.jx_meaning.specs.declared.fault.EvalFault.{EvalFault}
use Rattle.jx_meaning.specs.Answers.{Gives}
use Rattle.jx_meaning.specs.Values.{Value, plain}
use Rattle.jx_values.proofs.Cuts.{sliced_list}
use Rattle.jx_values.proofs.slices.sliced.Goals as goal

pub returns-in-Some : goal.returns-in-Some
returns-in-Some c =
    let xs : List JxValue = c.in-Some.items.now in
    subst (λ (g : Result Value EvalFault). Gives plain c.list_value.result g)
    (sliced_list c.args.place (plain c.args.value.now) (option_map plain (option_copied c.args.start)) (option_map plain (option_copied c.args.stop)) c.in_ok-first.first c.in_ok-last.last
    xs c.part_of.result.now c.start_in-from.result c.stop_in-to.result c.in_ok-first.ensures c.in_ok-last.ensures
    (sym c.items_in.ensures ∙ ap (λ o. option_map (map plain) (option_copied o)) c.in-Some.is) c.start_in-from.ensures.value c.stop_in-to.ensures.value c.part_of.ensures)
    c.list_value.ensures
