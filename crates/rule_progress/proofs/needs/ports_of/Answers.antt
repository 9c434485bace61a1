use Rattle.std.proofs.Common.{◌≡◌, ◌++◌, ◌∷◌, [], ◌∙◌, ap, cond, length, map, not, sym}
use Rattle.flow_types.specs.Plans.{numbers, takes}
use Rattle.rule_progress.proofs.Needing.{map-more}
use Rattle.rule_progress.proofs.needs.ports_of.Goals as goal

pub loop-rule-preserved : goal.loop-rule-preserved
loop-rule-preserved c =
    let grown : c.push.new.self.items ≡ c.loop-rule.ports.items ++ (c.input_count.result ∷ []) =
    c.push.ensures.items ∙ ap (λ b. cond b (c.loop-rule.ports.items ++ (c.input_count.result ∷ [])) c.loop-rule.ports.items) (c.is_err.ensures.negation ∙ ap not c.if-is_err.false) in
    grown ∙ ap (λ xs. xs ++ (c.input_count.result ∷ [])) c.loop-rule.invariant ∙ ap (λ x. map (λ r. length (takes c.args.plan.now r)) (numbers c.loop-rule.rule) ++ (x ∷ [])) c.input_count.ensures
    ∙ sym (map-more (λ r. length (takes c.args.plan.now r)) c.loop-rule.rule)
