use Rattle.std.proofs.Common.{◌≡◌, ◌++◌, ◌∷◌, [], ◌∙◌, ap, cond, map, not, sym}
use Rattle.flow_types.specs.Plans.{numbers}
use Rattle.rule_progress.specs.Progress.{need_of}
use Rattle.rule_progress.proofs.Needing.{map-more}
use Rattle.rule_progress.proofs.needs.needs_of.Goals as goal

pub loop-rule-preserved : goal.loop-rule-preserved
loop-rule-preserved c =
    let grown : c.push.new.self.items ≡ c.loop-rule.needs.items ++ (c.need_of.result ∷ []) =
    c.push.ensures.items ∙ ap (λ b. cond b (c.loop-rule.needs.items ++ (c.need_of.result ∷ [])) c.loop-rule.needs.items) (c.is_err.ensures.negation ∙ ap not c.if-is_err.false) in
    grown ∙ ap (λ xs. xs ++ (c.need_of.result ∷ [])) c.loop-rule.invariant ∙ ap (λ x. map (need_of c.args.plan.now c.args.options) (numbers c.loop-rule.rule) ++ (x ∷ [])) c.need_of.ensures
    ∙ sym (map-more (need_of c.args.plan.now c.args.options) c.loop-rule.rule)
