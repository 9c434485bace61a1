use Rattle.std.proofs.Common.{◌≡◌, ◌∙◌, ◌∷◌, ◌++◌, [], sym, ap, subst, All, map, append_assoc}
use Rattle.std.specs.Vec.Iter.{into_iter_items}
use Rattle.std.proofs.lemmas.List.{map_push}
use Rattle.std.proofs.lemmas.List.Elements.{All-tail}
use Rattle.flow_types.specs.declared.flow.RawRule.{RawRule}
use Rattle.rule_graph.specs.Flows.{names_of, rule_for}
use Rattle.rule_graph.specs.Numbering.{IsRuleAmong}
use Rattle.rule_graph.proofs.rows.rules_of.Goals as goal

pub loop-rule-preserved : goal.loop-rule-preserved
loop-rule-preserved c =
    let rule : RawRule = c.in-Some.rule in
    let steps : into_iter_items c.loop-rule.rule-iterator ≡ rule ∷ into_iter_items c.next.new.self = c.in-Some.ensures.steps.0 in
    record {
      rules = λ flow of.
          c.in_ok-push.ensures.items
          ∙ ap (λ xs. xs ++ c.in_ok-rule_of.field-0 ∷ []) (c.loop-rule.invariant.rules flow of)
          ∙ ap (λ x. map (rule_for flow (names_of flow)) c.loop-rule.yielded ++ x ∷ []) (c.in_ok-rule_of.ensures flow of)
          ∙ sym (map_push (rule_for flow (names_of flow)) c.loop-rule.yielded rule);
      rest = append_assoc c.loop-rule.yielded (rule ∷ []) (into_iter_items c.next.new.self) ∙ ap (λ xs. c.loop-rule.yielded ++ xs) (sym steps) ∙ c.loop-rule.invariant.rest;
      among = All-tail (IsRuleAmong c.args.tables.now.names.items) rule (into_iter_items c.next.new.self)
          (subst (λ xs. All (IsRuleAmong c.args.tables.now.names.items) xs) steps c.loop-rule.invariant.among);
    }
