use Rattle.std.proofs.Common.{not, List, ap, sym, ◌∙◌}
use Rattle.flow_types.specs.declared.plan.Plan.{Plan}
use Rattle.flow_types.specs.declared.records.Record.{Record}
use Rattle.run_history.specs.Links.{records_of}
use Rattle.safe_walks.specs.Passes.{has_room_before}
use Rattle.safe_walks.specs.Walk.{standing, stays_within}
use Rattle.run_history.proofs.Inputs.{or_either}
use Rattle.safe_storage.specs.Counters.{phase_at, told}
use Rattle.safe_storage.specs.Pacing.{admits_one_walk}
use Rattle.safe_storage.proofs.Asking.{answer-alike}
use Rattle.safe_storage.proofs.Told.{noted-alike}
use Rattle.safe_storage.proofs.admission.walks.Goals as goal

pub returns-clause-answer : goal.returns-clause-answer
returns-clause-answer c moves stands =
    let P : Plan = c.args.table.now.plan in
    let H : List Record = records_of moves in
    c.walks_within.ensures.answer
    ∙ ap (λ plan. admits_one_walk plan (told c.note_files.new.self) c.args.rule.0 c.args.limit)
    c.plan-2.ensures.plan
    ∙ answer-alike P (told c.note_files.new.self) (standing P H) c.args.rule.0 c.args.limit
    (noted-alike P H c.note_files.new.self
    (λ r inside. ap (λ p. phase_at p.items r) c.note_files.ensures.phases
    ∙ c.note_rules.ensures.phases moves stands r inside)
    (c.note_files.ensures.bytes moves stands))

pub returns-then-is_roomy-clause-answer : goal.returns-then-is_roomy-clause-answer
returns-then-is_roomy-clause-answer c moves stands =
    let P : Plan = c.args.table.now.plan in
    let H : List Record = records_of moves in
    sym (or_either (not (stays_within P (standing P H) c.args.limit))
    (has_room_before P (standing P H) c.args.rule.0 c.args.limit)
    (c.is_roomy.ensures moves stands (c.note_rules.ensures.phases moves stands)
    c.if-is_roomy.true))
