use Rattle.std.proofs.Common.{◌∙◌, ℕ, Some, None, Ok, Err, Result, ap, sym, subst}
use Rattle.std.specs.Prelude.{find}
use Rattle.flow_types.specs.declared.numbers.LinkNo.{LinkNo}
use Rattle.run_history.specs.declared.answers.Nothing.{Nothing}
use Rattle.run_history.specs.Links.{records_of}
use Rattle.task_core.specs.declared.asking.AskedFor.TheVariants.{Startable}
use Rattle.run_history.specs.Admissions.{Admitting}
use Rattle.task_core.specs.Admissions.{NoneBefore, asks_for_by}
use Rattle.task_core.specs.Known.{number_in, rules_of}
use Rattle.task_core.specs.States.{TableState, known_in}
use Rattle.task_core.specs.Surveys.{claimed}
use Rattle.task_core.proofs.Permits.{claim-admitted, claim-is, claim-refused, least-admitted, may-start, none-before}
use Rattle.task_core.proofs.table.Table.chosen_by.Goals as goal

pub returns-in-Err-clause-choice : goal.returns-in-Err-clause-choice
returns-in-Err-clause-choice g c moves stands =
    let t : TableState = c.args.self.now in
    let refused : Result ℕ Nothing = Err c.in-Err.nothing in
    sym (claim-refused g.A.Admission.admitted t.plan t.options moves t.stop c.args.link.0 c.in-Err.nothing
    (claim-is t moves c.args.link.0 refused stands (sym (ap claimed c.in-Err.is) ∙ c.claim_answer.ensures.claim)))

pub first_by_for-requires-clause-before : goal.first_by_for-requires-clause-before
first_by_for-requires-clause-before g c κs lasts =
    let t : TableState = c.args.self.now in
    subst (λ (link : LinkNo). NoneBefore (known_in t) link.0 c.in-Ok.rule.0) (sym c.beside-beside.ensures.link)
    (none-before (known_in t) t.stop c.args.link.0 c.in-Ok.rule.0 (sym (ap claimed c.in-Ok.is) ∙ c.claim_answer.ensures.claim))

pub returns-in-Some-clause-choice : goal.returns-in-Some-clause-choice
returns-in-Some-clause-choice g c moves stands =
    let t : TableState = c.args.self.now in
    let A : Admitting = g.A.Admission.admitted in
    let first : Result ℕ Nothing = Ok c.in-Ok.rule.0 in
    sym (claim-admitted A t.plan t.options moves t.stop c.args.link.0 c.in-Ok.rule.0 (Some c.in-Some.rule.0)
    (claim-is t moves c.args.link.0 first stands (sym (ap claimed c.in-Ok.is) ∙ c.claim_answer.ensures.claim))
    (least-admitted A t moves c.args.link.0 stands
    ∙ ap (λ (link : LinkNo). find (asks_for_by A (known_in t) (records_of moves) link.0 Startable) (rules_of (known_in t))) (sym c.beside-beside.ensures.link)
    ∙ sym (c.first_by_for.ensures.found moves stands) ∙ ap number_in c.in-Some.is))

pub returns-in-None-clause-choice : goal.returns-in-None-clause-choice
returns-in-None-clause-choice g c moves stands =
    let t : TableState = c.args.self.now in
    let A : Admitting = g.A.Admission.admitted in
    let first : Result ℕ Nothing = Ok c.in-Ok.rule.0 in
    sym (claim-admitted A t.plan t.options moves t.stop c.args.link.0 c.in-Ok.rule.0 None
    (claim-is t moves c.args.link.0 first stands (sym (ap claimed c.in-Ok.is) ∙ c.claim_answer.ensures.claim))
    (least-admitted A t moves c.args.link.0 stands
    ∙ ap (λ (link : LinkNo). find (asks_for_by A (known_in t) (records_of moves) link.0 Startable) (rules_of (known_in t))) (sym c.beside-beside.ensures.link)
    ∙ sym (c.first_by_for.ensures.found moves stands) ∙ ap number_in c.in-None.is))

pub returns-in-Some-clause-inside : goal.returns-in-Some-clause-inside
returns-in-Some-clause-inside g c = c.first_by_for.ensures.inside c.in-Some.rule c.in-Some.is

pub returns-in-Some-clause-starts : goal.returns-in-Some-clause-starts
returns-in-Some-clause-starts g c =
    (may-start (known_in c.args.self.now) c.beside-beside.result.link.0 c.in-Some.rule.0 (c.first_by_for.ensures.startable c.in-Some.rule c.in-Some.is)).0

pub returns-in-Some-clause-room : goal.returns-in-Some-clause-room
returns-in-Some-clause-room g c =
    (may-start (known_in c.args.self.now) c.beside-beside.result.link.0 c.in-Some.rule.0 (c.first_by_for.ensures.startable c.in-Some.rule c.in-Some.is)).1
