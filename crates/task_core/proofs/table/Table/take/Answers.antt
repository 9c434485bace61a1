use Rattle.std.proofs.Common.{◌<◌, ◌∙◌, ap, sym, subst, true≢false}
use Rattle.task_core.specs.Allowed.{may_start}
use Rattle.task_core.specs.States.{HasAnswer, TableState, known_in}
use Rattle.task_core.proofs.Taking.{claimable-may, may-open, start-allowed, take-stands}
use Rattle.task_core.proofs.table.Table.take.Goals as goal

pub place-requires-clause-inside : goal.place-requires-clause-inside
place-requires-clause-inside c = (may-open c.args.self.now c.args.rule.0 c.next_attempt-attempt.result.0 (sym c.may_start.ensures ∙ c.if-not-may_start.false)).inside

pub place-requires-clause-starts : goal.place-requires-clause-starts
place-requires-clause-starts c = (may-open c.args.self.now c.args.rule.0 c.next_attempt-attempt.result.0 (sym c.may_start.ensures ∙ c.if-not-may_start.false)).starts

pub place-requires-clause-room : goal.place-requires-clause-room
place-requires-clause-room c = (may-open c.args.self.now c.args.rule.0 c.next_attempt-attempt.result.0 (sym c.may_start.ensures ∙ c.if-not-may_start.false)).room

pub place-requires-clause-goes_on : goal.place-requires-clause-goes_on
place-requires-clause-goes_on c = (may-open c.args.self.now c.args.rule.0 c.next_attempt-attempt.result.0 (sym c.may_start.ensures ∙ c.if-not-may_start.false)).ended

pub place-requires-clause-places : goal.place-requires-clause-places
place-requires-clause-places c = (may-open c.args.self.now c.args.rule.0 c.next_attempt-attempt.result.0 (sym c.may_start.ensures ∙ c.if-not-may_start.false)).places

pub returns-then-not-may_start-clause-allowed : goal.returns-then-not-may_start-clause-allowed
returns-then-not-may_start-clause-allowed c moves stands =
    start-allowed c.args.self.now moves c.args.rule c.args.link c.next_attempt-attempt.result _ c.next_attempt-attempt.ensures.starts (sym c.may_start.ensures ∙ c.if-not-may_start.true) stands

pub returns-then-not-may_start-clause-claimable : goal.returns-then-not-may_start-clause-claimable
returns-then-not-may_start-clause-claimable c moves stands begun is =
    let t : TableState = c.args.self.now in
    absurd (true≢false (sym (claimable-may t moves c.args.link.0 c.args.rule.0 stands begun is) ∙ ap (may_start (known_in t) c.args.rule.0) (sym c.next_attempt-attempt.ensures.starts) ∙ sym c.may_start.ensures ∙ c.if-not-may_start.true))

pub returns-clause-takes : goal.returns-clause-takes
returns-clause-takes c moves stands =
    let t : TableState = c.args.self.now in
    let free = may-open t c.args.rule.0 c.next_attempt-attempt.result.0 (sym c.may_start.ensures ∙ c.if-not-may_start.false) in
    take-stands t c.place.new.self moves c.args.rule c.args.link c.next_attempt-attempt.result c.next_attempt-attempt.ensures.starts c.place.ensures.table
    (subst (λ n. c.args.rule.0 < n) (sym c.place.ensures.rows) free.inside) free.begun stands

pub returns-clause-allowed : goal.returns-clause-allowed
returns-clause-allowed c moves stands =
    start-allowed c.args.self.now moves c.args.rule c.args.link c.next_attempt-attempt.result _ c.next_attempt-attempt.ensures.starts (sym c.may_start.ensures ∙ c.if-not-may_start.false) stands

pub returns-clause-answered : goal.returns-clause-answered
returns-clause-answered c has = subst HasAnswer (sym c.place.ensures.table) has
