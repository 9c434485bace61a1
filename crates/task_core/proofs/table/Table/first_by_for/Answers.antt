use Rattle.std.proofs.Common.{◌≡◌, ◌<◌, ◌+◌, ◌-◌, ◌∙◌, true, Some, None, ap, length, sym, subst, arith}
use Rattle.std.specs.Prelude.{unwrap_or}
use Rattle.flow_types.specs.declared.numbers.RuleNo.{RuleNo}
use Rattle.run_history.specs.Links.{records_of}
use Rattle.task_core.specs.declared.asking.AskedFor.TheVariants.{Startable}
use Rattle.run_history.specs.Admissions.{Admitting}
use Rattle.task_core.specs.Admissions.{asks_for_by}
use Rattle.task_core.specs.Asked.{asks_for, least_candidate}
use Rattle.task_core.specs.Known.{Known, number_in}
use Rattle.task_core.specs.States.{known_in}
use Rattle.task_core.proofs.Looking.{look-end, look-found, look-none, look-on, next-one}
use Rattle.task_core.proofs.Permits.{fewer, looking-from}
use Rattle.task_core.proofs.Telling.{least-is, no-number}
use Rattle.task_core.proofs.table.Table.first_by_for.Goals as goal

pub rules-init : goal.rules-init
rules-init g c = record {
  stays = λ P stands. stands;
  within = c.requires.before.0;
  looking = λ moves stands. looking-from g.A.Admission.admitted (known_in c.args.self.now) (records_of moves) c.args.beside.now.link.0 c.args.first.0 c.requires.before;
}

pub least-requires : goal.least-requires
least-requires g c = omega (arith, c.rules.invariant.within, c.progress-progress.ensures.known.rules.rules)

pub may_start_by-requires-clause-stands : goal.may_start_by-requires-clause-stands
may_start_by-requires-clause-stands g c κs lasts = c.rules.invariant.stays c.args.self.now.plan c.requires.stands

pub may_start_by-requires-clause-inside : goal.may_start_by-requires-clause-inside
may_start_by-requires-clause-inside g c κs lasts =
    let found : least_candidate (known_in c.args.self.now) c.rules.from c.limits_for-limits.result ≡ Some c.in-Some.rule.0 =
    sym (least-is (known_in c.args.self.now) c.progress-progress.result.now c.rules.from c.limits_for-limits.result c.least.result c.progress-progress.ensures.known c.least.ensures) ∙ ap number_in c.in-Some.is in
    (next-one (known_in c.args.self.now) c.limits_for-limits.result c.rules.from c.in-Some.rule.0 found).1

pub rules-preserved : goal.rules-preserved
rules-preserved g c =
    let K : Known = known_in c.args.self.now in
    let A : Admitting = g.A.Admission.admitted in
    let found : least_candidate K c.rules.from c.limits_for-limits.result ≡ Some c.in-Some.rule.0 =
    sym (least-is K c.progress-progress.result.now c.rules.from c.limits_for-limits.result c.least.result c.progress-progress.ensures.known c.least.ensures) ∙ ap number_in c.in-Some.is in
    let next = next-one K c.limits_for-limits.result c.rules.from c.in-Some.rule.0 found in
    record {
      stays = λ P stands. c.may_start_by.ensures.stays P (c.rules.invariant.stays P stands);
      within = omega (arith, next.1);
      looking = λ moves stands.
          look-on K c.limits_for-limits.result (asks_for_by A K (records_of moves) c.args.beside.now.link.0 Startable) c.rules.from c.in-Some.rule.0
          (fewer K c.limits_for-limits.result (asks_for K c.args.beside.now.link.0 Startable) (A K.plan K.options (records_of moves)) c.limits_for-limits.ensures)
          (c.rules.invariant.looking moves stands) found (sym (c.may_start_by.ensures.may moves stands) ∙ c.if-may_start_by.false);
    }

pub returns-then-may_start_by-clause-found : goal.returns-then-may_start_by-clause-found
returns-then-may_start_by-clause-found g c moves stands =
    let K : Known = known_in c.args.self.now in
    let A : Admitting = g.A.Admission.admitted in
    let found : least_candidate K c.rules.from c.limits_for-limits.result ≡ Some c.in-Some.rule.0 =
    sym (least-is K c.progress-progress.result.now c.rules.from c.limits_for-limits.result c.least.result c.progress-progress.ensures.known c.least.ensures) ∙ ap number_in c.in-Some.is in
    sym (look-found K c.limits_for-limits.result (asks_for_by A K (records_of moves) c.args.beside.now.link.0 Startable) c.rules.from c.in-Some.rule.0
    (fewer K c.limits_for-limits.result (asks_for K c.args.beside.now.link.0 Startable) (A K.plan K.options (records_of moves)) c.limits_for-limits.ensures)
    (c.rules.invariant.looking moves stands) found (sym (c.may_start_by.ensures.may moves stands) ∙ c.if-may_start_by.true))

pub returns-then-may_start_by-clause-startable : goal.returns-then-may_start_by-clause-startable
returns-then-may_start_by-clause-startable g c rule is =
    subst (λ (r : RuleNo). asks_for (known_in c.args.self.now) c.args.beside.now.link.0 Startable r.0 ≡ true) (ap (λ o. unwrap_or o c.in-Some.rule) is) (c.may_start_by.ensures.startable c.if-may_start_by.true)

pub returns-then-may_start_by-clause-inside : goal.returns-then-may_start_by-clause-inside
returns-then-may_start_by-clause-inside g c rule is =
    let found : least_candidate (known_in c.args.self.now) c.rules.from c.limits_for-limits.result ≡ Some c.in-Some.rule.0 =
    sym (least-is (known_in c.args.self.now) c.progress-progress.result.now c.rules.from c.limits_for-limits.result c.least.result c.progress-progress.ensures.known c.least.ensures) ∙ ap number_in c.in-Some.is in
    subst (λ (r : RuleNo). r.0 < length c.args.self.now.plan.rules) (ap (λ o. unwrap_or o c.in-Some.rule) is) (next-one (known_in c.args.self.now) c.limits_for-limits.result c.rules.from c.in-Some.rule.0 found).1

pub returns-then-may_start_by-clause-stays : goal.returns-then-may_start_by-clause-stays
returns-then-may_start_by-clause-stays g c P stands = c.may_start_by.ensures.stays P (c.rules.invariant.stays P stands)

pub returns-clause-found : goal.returns-clause-found
returns-clause-found g c moves stands =
    let K : Known = known_in c.args.self.now in
    sym (look-end K (asks_for_by g.A.Admission.admitted K (records_of moves) c.args.beside.now.link.0 Startable) c.rules.from (omega (arith, c.rules-test.false, c.rule_count-count.ensures.count)) (c.rules.invariant.looking moves stands))

pub returns-clause-stays : goal.returns-clause-stays
returns-clause-stays g c P stands = c.rules.invariant.stays P stands

pub overflow_add-from : goal.overflow_add-from
overflow_add-from g c =
    let found : least_candidate (known_in c.args.self.now) c.rules.from c.limits_for-limits.result ≡ Some c.in-Some.rule.0 =
    sym (least-is (known_in c.args.self.now) c.progress-progress.result.now c.rules.from c.limits_for-limits.result c.least.result c.progress-progress.ensures.known c.least.ensures) ∙ ap number_in c.in-Some.is in
    let next = next-one (known_in c.args.self.now) c.limits_for-limits.result c.rules.from c.in-Some.rule.0 found in
    omega (arith, next.1, c.rule_count-count.ensures.count, c.rule_count-count.ensures.few)

pub rules-smaller : goal.rules-smaller
rules-smaller g c =
    let found : least_candidate (known_in c.args.self.now) c.rules.from c.limits_for-limits.result ≡ Some c.in-Some.rule.0 =
    sym (least-is (known_in c.args.self.now) c.progress-progress.result.now c.rules.from c.limits_for-limits.result c.least.result c.progress-progress.ensures.known c.least.ensures) ∙ ap number_in c.in-Some.is in
    let next = next-one (known_in c.args.self.now) c.limits_for-limits.result c.rules.from c.in-Some.rule.0 found in
    let smaller : length c.args.self.now.plan.rules - (c.in-Some.rule.0 + 1) < length c.args.self.now.plan.rules - c.rules.from = omega (arith, next.0, next.1) in
    smaller

pub returns-in_default-clause-found : goal.returns-in_default-clause-found
returns-in_default-clause-found g c moves stands =
    let K : Known = known_in c.args.self.now in
    let A : Admitting = g.A.Admission.admitted in
    let none : least_candidate K c.rules.from c.limits_for-limits.result ≡ None =
    sym (least-is K c.progress-progress.result.now c.rules.from c.limits_for-limits.result c.least.result c.progress-progress.ensures.known c.least.ensures) ∙ no-number c.least.result (λ rule is. c.in_default.not-Some rule is) in
    sym (look-none K c.limits_for-limits.result (asks_for_by A K (records_of moves) c.args.beside.now.link.0 Startable) c.rules.from
    (fewer K c.limits_for-limits.result (asks_for K c.args.beside.now.link.0 Startable) (A K.plan K.options (records_of moves)) c.limits_for-limits.ensures)
    (c.rules.invariant.looking moves stands) none)

pub returns-in_default-clause-stays : goal.returns-in_default-clause-stays
returns-in_default-clause-stays g c P stands = c.rules.invariant.stays P stands
