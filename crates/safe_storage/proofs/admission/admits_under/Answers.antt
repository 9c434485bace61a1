use Rattle.std.proofs.Common.{List, sym, ◌∙◌}
use Rattle.flow_types.specs.declared.records.Record.{Record}
use Rattle.run_history.specs.Links.{records_of}
use Rattle.safe_storage.proofs.Asking.{admits-claimed, admits-complete, admits-open}
use Rattle.safe_storage.proofs.Asking.{claimed-phase, complete-phase, new-phase, undone-phase}
use Rattle.safe_storage.proofs.admission.admits_under.Goals as goal

pub returns-in-Complete-clause-answer : goal.returns-in-Complete-clause-answer
returns-in-Complete-clause-answer c moves stands =
    let H : List Record = records_of moves in
    admits-complete c.args.table.now.plan H c.args.limit c.args.rule.0
    (complete-phase H c.args.rule.0 (sym c.in-Complete.is ∙ c.phase.ensures moves stands))

pub returns-in-Claimed-clause-answer : goal.returns-in-Claimed-clause-answer
returns-in-Claimed-clause-answer c moves stands =
    let H : List Record = records_of moves in
    admits-claimed c.args.table.now.plan H c.args.limit c.args.rule.0
    (claimed-phase H c.args.rule.0 (sym c.in-Claimed.is ∙ c.phase.ensures moves stands))

pub returns-in-Open-clause-answer : goal.returns-in-Open-clause-answer
returns-in-Open-clause-answer c moves stands =
    let H : List Record = records_of moves in
    let is = sym c.in-Open.is ∙ c.phase.ensures moves stands in
    c.walks.ensures.answer moves stands
    ∙ admits-open c.args.table.now.plan H c.args.limit c.args.rule.0 c.requires.inside
    (undone-phase H c.args.rule.0 is) (new-phase H c.args.rule.0 is)
