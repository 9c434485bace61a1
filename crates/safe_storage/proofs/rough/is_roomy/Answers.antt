use Rattle.std.proofs.Common.{◌≡◌, ap, arith, sym, ◌∙◌}
use Rattle.std.specs.Prelude.{sum_by}
use Rattle.flow_types.specs.declared.plan.Plan.{Plan}
use Rattle.flow_types.specs.Plans.{rule_numbers}
use Rattle.flow_types.specs.Serial.{serial_order}
use Rattle.run_history.specs.Storage.{rule_bound}
use Rattle.safe_storage.specs.Counters.{claim_share, numbers_of, told}
use Rattle.safe_storage.specs.Pacing.{bounds_before}
use Rattle.safe_storage.proofs.Rooms.{table-fits}
use Rattle.safe_storage.proofs.rough.is_roomy.Goals as goal

pub returns : goal.returns
returns c moves stands are fits =
    let P : Plan = c.args.table.now.plan in
    let claimed = c.claims-claimed.ensures.sum
    ∙ ap (λ plan. sum_by (claim_share plan (told c.args.stand.now)) (rule_numbers plan))
    c.plan-plan.ensures.plan in
    let bound : c.rule_of.result.now.bound ≡ rule_bound P c.args.rule.0 =
    c.rule_of.ensures.bound ∙ ap (λ plan. rule_bound plan c.args.rule.0) c.plan-plan.ensures.plan in
    let before : bounds_before P (told c.args.stand.now) c.args.rule.0 (serial_order P)
    ≡ bounds_before c.plan-plan.result.now (told c.args.stand.now) c.args.rule.0
    (numbers_of c.args.order.now) =
    ap (bounds_before P (told c.args.stand.now) c.args.rule.0) (sym c.requires.order)
    ∙ ap (λ plan. bounds_before plan (told c.args.stand.now) c.args.rule.0
    (numbers_of c.args.order.now)) (sym c.plan-plan.ensures.plan) in
    table-fits c.args.table.now moves c.args.stand.now c.args.rule.0 c.args.limit
    c.stored-stored.result c.claims-claimed.result stands are c.stored-stored.ensures.sum claimed
    (omega (arith, before, bound, c.fit_before.ensures fits, c.if-need-limit.false))
