use Rattle.std.proofs.Common.{◌≡◌, ◌∙◌, List, ℕ, sym, ap, subst, All, map, length}
use Rattle.std.specs.Option.{option_map}
use Rattle.std.proofs.lemmas.List.{length-map}
use Rattle.rule_graph.specs.Flows.{rule_no, names_of, raw_maker, is_taken, is_named_kept, stated_bound}
use Rattle.rule_graph.specs.Faults.{makings}
use Rattle.rule_graph.specs.Checked.{IsAscending, IsName}
use Rattle.rule_graph.specs.Numbering.{IsMakingAmong, first_maker}
use Rattle.rule_graph.proofs.Ports.{names_ascending}
use Rattle.rule_graph.proofs.Known.{makings_among, names_named}
use Rattle.rule_graph.proofs.Makings.{first_is_maker}
use Rattle.rule_graph.proofs.Tables.{map_same}
use Rattle.rule_graph.proofs.rows.tables_of.Goals as goal

pub makers_of-requires-clause-ascending : goal.makers_of-requires-clause-ascending
makers_of-requires-clause-ascending c = subst IsAscending (sym (c.deref.ensures.value ∙ c.requires.of_flow)) (names_ascending c.args.flow.now)

pub makers_of-requires-clause-among : goal.makers_of-requires-clause-among
makers_of-requires-clause-among c =
    subst (λ names. All (IsMakingAmong names) c.deref-2.result.now) (sym (c.deref.ensures.value ∙ c.requires.of_flow))
    (subst (λ all. All (IsMakingAmong (names_of c.args.flow.now)) all) (sym (c.deref-2.ensures.value ∙ c.in_ok-makings.ensures)) (makings_among c.args.flow.now c.requires.names))

pub taken_of-requires : goal.taken_of-requires
taken_of-requires c = subst IsAscending (sym (c.deref-3.ensures.value ∙ c.requires.of_flow)) (names_ascending c.args.flow.now)

pub kept_of-requires : goal.kept_of-requires
kept_of-requires c = subst IsAscending (sym (c.deref-4.ensures.value ∙ c.requires.of_flow)) (names_ascending c.args.flow.now)

pub bounds_of-requires : goal.bounds_of-requires
bounds_of-requires c = subst IsAscending (sym (c.deref-5.ensures.value ∙ c.requires.of_flow)) (names_ascending c.args.flow.now)

pub returns-clause-level : goal.returns-clause-level
returns-clause-level c =
    let names : List (List ℕ) = c.args.names.items in
    let is : names ≡ names_of c.args.flow.now = c.requires.of_flow in
    record {
      ascending = subst IsAscending (sym is) (names_ascending c.args.flow.now);
      names = subst (λ xs. All IsName xs) (sym is) (names_named c.args.flow.now c.requires.names);
      makers = ap length c.in_ok-makers.ensures.first ∙ length-map c.deref.result.now (first_maker c.deref-2.result.now) ∙ ap length c.deref.ensures.value;
      taken = ap length c.in_ok-taken.ensures ∙ length-map c.deref-3.result.now (is_taken c.args.flow.now) ∙ ap length c.deref-3.ensures.value;
      kept = ap length c.in_ok-kept.ensures ∙ length-map c.deref-4.result.now (is_named_kept c.args.flow.now) ∙ ap length c.deref-4.ensures.value;
      bounds = ap length c.in_ok-bounds.ensures ∙ length-map c.deref-5.result.now (stated_bound c.args.flow.now) ∙ ap length c.deref-5.ensures.value;
    }

pub returns-clause-tables : goal.returns-clause-tables
returns-clause-tables c =
    let is : c.args.names.items ≡ names_of c.args.flow.now = c.requires.of_flow in
    record {
      names = is;
      makers = c.in_ok-makers.ensures.first
          ∙ ap (λ all. map (first_maker all) c.deref.result.now) (c.deref-2.ensures.value ∙ c.in_ok-makings.ensures)
          ∙ ap (map (first_maker (makings c.args.flow.now))) (c.deref.ensures.value ∙ is)
          ∙ map_same (first_maker (makings c.args.flow.now)) (λ name. option_map rule_no (raw_maker c.args.flow.now name)) (names_of c.args.flow.now) (first_is_maker c.args.flow.now);
      taken = c.in_ok-taken.ensures ∙ ap (map (is_taken c.args.flow.now)) (c.deref-3.ensures.value ∙ is);
      kept = c.in_ok-kept.ensures ∙ ap (map (is_named_kept c.args.flow.now)) (c.deref-4.ensures.value ∙ is);
      bounds = c.in_ok-bounds.ensures ∙ ap (map (stated_bound c.args.flow.now)) (c.deref-5.ensures.value ∙ is);
    }
