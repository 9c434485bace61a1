use Rattle.std.proofs.Common.{◌≡◌, ℕ, List, Some, None, false, ap, sym, ◌∙◌}
use Rattle.std.specs.Prelude.{Option, nat_eq}
use Rattle.std.specs.List.{list_any, starts_with}
use Rattle.std.specs.Option.{option_map_or, option_copied}
use Rattle.flow_types.specs.Names.{is_folder_of}
use Rattle.rule_graph.specs.declared.faults.GraphFault.{GraphFault}
use Rattle.rule_graph.specs.declared.faults.GraphFault.TheVariants as faults
use Rattle.rule_graph.specs.Checked.{IsName}
use Rattle.rule_graph.proofs.RuleFaults.{find_in}
use Rattle.rule_graph.proofs.Folders.{none_found}
use Rattle.rule_graph.proofs.nesting.nested_under.Goals as goal

pub returns-then-not-any_begins : goal.returns-then-not-any_begins
returns-then-not-any_begins c =
    let folder : List ℕ = c.args.folder.now in
    let none : list_any (is_folder_of folder) c.args.sorted.now ≡ false =
    ap (λ start. list_any (λ name. starts_with nat_eq name start) c.args.sorted.now) (sym (c.deref.ensures.value ∙ c.in_ok-start.ensures))
    ∙ sym c.any_begins.ensures ∙ c.if-not-any_begins.true in
    ap (λ found. let fault : Option GraphFault = option_map_or (λ name. Some (faults.NestedName folder name)) found None in fault)
    (sym (none_found c.args.sorted.now c.args.names.now (is_folder_of folder) c.requires.all none))

pub name_from-requires-in-Some : goal.name_from-requires-in-Some
name_from-requires-in-Some c =
    find_in IsName (λ name. starts_with nat_eq name c.deref-2.result.now) c.args.names.now c.in-Some.name.now c.requires.names
    (sym c.first_begins.ensures ∙ ap option_copied c.in-Some.is)
