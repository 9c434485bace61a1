use Rattle.std.proofs.Common.{◌≡◌, ◌<◌, ◌+◌, ◌-◌, ◌∙◌, Some, None, ap, length, sym, arith}
use Rattle.task_core.specs.Asked.{asks, least_candidate}
use Rattle.task_core.specs.Known.{number_in}
use Rattle.task_core.specs.States.{known_in}
use Rattle.task_core.proofs.Looking.{look-end, look-found, look-none, look-on, looking-first, next-one}
use Rattle.task_core.proofs.Telling.{least-is, no-number}
use Rattle.task_core.proofs.table.Table.first_of.Goals as goal

pub rules-init : goal.rules-init
rules-init c = looking-first (known_in c.args.self.now) (asks (known_in c.args.self.now) c.args.asked)

pub least-requires : goal.least-requires
least-requires c = omega (arith, c.rules.invariant.within, c.progress-progress.ensures.known.rules.rules)

pub holds-requires : goal.holds-requires
holds-requires c =
    let found : least_candidate (known_in c.args.self.now) c.rules.from c.limits-limits.result ≡ Some c.in-Some.rule.0 =
    sym (least-is (known_in c.args.self.now) c.progress-progress.result.now c.rules.from c.limits-limits.result c.least.result c.progress-progress.ensures.known c.least.ensures) ∙ ap number_in c.in-Some.is in
    (next-one (known_in c.args.self.now) c.limits-limits.result c.rules.from c.in-Some.rule.0 found).1

pub rules-preserved : goal.rules-preserved
rules-preserved c =
    let found : least_candidate (known_in c.args.self.now) c.rules.from c.limits-limits.result ≡ Some c.in-Some.rule.0 =
    sym (least-is (known_in c.args.self.now) c.progress-progress.result.now c.rules.from c.limits-limits.result c.least.result c.progress-progress.ensures.known c.least.ensures) ∙ ap number_in c.in-Some.is in
    look-on (known_in c.args.self.now) c.limits-limits.result (asks (known_in c.args.self.now) c.args.asked) c.rules.from c.in-Some.rule.0 c.limits-limits.ensures c.rules.invariant found (sym c.holds.ensures ∙ c.if-holds.false)

pub returns-then-holds : goal.returns-then-holds
returns-then-holds c =
    let found : least_candidate (known_in c.args.self.now) c.rules.from c.limits-limits.result ≡ Some c.in-Some.rule.0 =
    sym (least-is (known_in c.args.self.now) c.progress-progress.result.now c.rules.from c.limits-limits.result c.least.result c.progress-progress.ensures.known c.least.ensures) ∙ ap number_in c.in-Some.is in
    sym (look-found (known_in c.args.self.now) c.limits-limits.result (asks (known_in c.args.self.now) c.args.asked) c.rules.from c.in-Some.rule.0 c.limits-limits.ensures c.rules.invariant found (sym c.holds.ensures ∙ c.if-holds.true))

pub returns : goal.returns
returns c =
    sym (look-end (known_in c.args.self.now) (asks (known_in c.args.self.now) c.args.asked) c.rules.from (omega (arith, c.rules-test.false, c.rule_count-count.ensures.count)) c.rules.invariant)

pub overflow_add-from : goal.overflow_add-from
overflow_add-from c =
    let found : least_candidate (known_in c.args.self.now) c.rules.from c.limits-limits.result ≡ Some c.in-Some.rule.0 =
    sym (least-is (known_in c.args.self.now) c.progress-progress.result.now c.rules.from c.limits-limits.result c.least.result c.progress-progress.ensures.known c.least.ensures) ∙ ap number_in c.in-Some.is in
    let next = next-one (known_in c.args.self.now) c.limits-limits.result c.rules.from c.in-Some.rule.0 found in
    omega (arith, next.1, c.rule_count-count.ensures.count, c.rule_count-count.ensures.few)

pub rules-smaller : goal.rules-smaller
rules-smaller c =
    let found : least_candidate (known_in c.args.self.now) c.rules.from c.limits-limits.result ≡ Some c.in-Some.rule.0 =
    sym (least-is (known_in c.args.self.now) c.progress-progress.result.now c.rules.from c.limits-limits.result c.least.result c.progress-progress.ensures.known c.least.ensures) ∙ ap number_in c.in-Some.is in
    let next = next-one (known_in c.args.self.now) c.limits-limits.result c.rules.from c.in-Some.rule.0 found in
    let smaller : length c.args.self.now.plan.rules - (c.in-Some.rule.0 + 1) < length c.args.self.now.plan.rules - c.rules.from = omega (arith, next.0, next.1) in
    smaller

pub returns-in_default : goal.returns-in_default
returns-in_default c =
    let none : least_candidate (known_in c.args.self.now) c.rules.from c.limits-limits.result ≡ None =
    sym (least-is (known_in c.args.self.now) c.progress-progress.result.now c.rules.from c.limits-limits.result c.least.result c.progress-progress.ensures.known c.least.ensures) ∙ no-number c.least.result (λ rule is. c.in_default.not-Some rule is) in
    sym (look-none (known_in c.args.self.now) c.limits-limits.result (asks (known_in c.args.self.now) c.args.asked) c.rules.from c.limits-limits.ensures c.rules.invariant none)
