use Rattle.std.proofs.Common.{◌≤◌, ◌<◌, ℕ, List, arith, subst, ◌∙◌}
use Rattle.flow_types.specs.declared.plan.Plan.{Plan}
use Rattle.safe_walks.specs.Walk.{Standing, additions, greatest}
use Rattle.std.proofs.Common.{drop}
use Rattle.std.proofs.Math.Nat.{le-max_left}
use Rattle.safe_storage.specs.Counters.{numbers_of, passed_at, told}
use Rattle.safe_storage.proofs.Asking.{answer-beyond, answer-last, answer-room}
use Rattle.safe_storage.proofs.admission.walks_within.Goals as goal

pub returns-then-reach-limit-clause-answer : goal.returns-then-reach-limit-clause-answer
returns-then-reach-limit-clause-answer c =
    let P : Plan = c.args.plan.now in
    let S : Standing = told c.args.stand.now in
    let order : List ℕ = numbers_of c.args.order.now in
    let at : ℕ = c.pass_before-reach.result.at in
    let g : ℕ = c.pass_before-reach.result.greatest in
    answer-beyond P S c.args.rule.0 c.args.limit g c.if-reach-limit.true
    (subst (λ n. g ≤ n) c.pass_before-reach.ensures.whole
    (le-max_left g (greatest (additions P S (passed_at order at) (drop at order)))))

pub returns-then-rule_of-limit-clause-answer : goal.returns-then-rule_of-limit-clause-answer
returns-then-rule_of-limit-clause-answer c =
    answer-room c.args.plan.now (told c.args.stand.now) c.args.rule.0 c.args.limit
    c.pass_before-reach.result.greatest c.rule_of.result.now.bound
    (c.pass_before-reach.ensures.before c.if-reach-limit.false) c.rule_of.ensures.bound
    (omega (arith, c.if-rule_of-limit.true, c.if-reach-limit.false))

pub returns-clause-answer : goal.returns-clause-answer
returns-clause-answer c =
    let P : Plan = c.args.plan.now in
    let S : Standing = told c.args.stand.now in
    answer-last P S c.args.rule.0 c.args.limit c.pass_before-reach.result.greatest
    c.rule_of.result.now.bound c.pass_rest.result
    (c.pass_before-reach.ensures.before c.if-reach-limit.false) c.rule_of.ensures.bound
    (omega (arith, c.if-rule_of-limit.false, c.if-reach-limit.false))
    (λ le. c.pass_rest.ensures.exact le ∙ c.pass_before-reach.ensures.whole)
    (λ above. subst (λ n. c.args.limit < n) c.pass_before-reach.ensures.whole
    (c.pass_rest.ensures.beyond above))
