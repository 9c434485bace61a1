use Rattle.std.proofs.Common.{◌&&◌, not, subst, sym}
use Rattle.ready_rules.specs.declared.shelf.Weight.{Weight}
use Rattle.task_core.specs.declared.asking.Asked.{Asked}
use Rattle.task_core.specs.Asked.{AreCandidates, asks, no_limits}
use Rattle.task_core.specs.Ends.{is_taken_now}
use Rattle.task_core.specs.Known.{can_start, has_storage, passes_most}
use Rattle.task_core.specs.States.{known_in}
use Rattle.task_core.proofs.Limiting.{large-candidates, ready-candidates, roomy-candidates, short-candidates, taken-candidates}
use Rattle.task_core.proofs.table.Table.limits.Goals as goal

pub returns-in-Ready : goal.returns-in-Ready
returns-in-Ready c =
    let K = known_in c.args.self.now in
    subst (λ (a : Asked). AreCandidates K no_limits (asks K a)) (sym c.in-Ready.is) (ready-candidates K c.requires.valid c.requires.small)

pub returns-in-Large : goal.returns-in-Large
returns-in-Large c =
    let K = known_in c.args.self.now in
    subst (λ (a : Asked). AreCandidates K c.large_limits.result (asks K a)) (sym c.in-Large.is)
    (subst (λ (w : Weight). AreCandidates K w (λ r. can_start K r && passes_most K r)) (sym c.large_limits.ensures) (large-candidates K c.requires.valid c.requires.small))

pub returns-in-Short : goal.returns-in-Short
returns-in-Short c =
    let K = known_in c.args.self.now in
    subst (λ (a : Asked). AreCandidates K c.short_limits.result (asks K a)) (sym c.in-Short.is)
    (subst (λ (w : Weight). AreCandidates K w (λ r. can_start K r && not (has_storage K r))) (sym c.short_limits.ensures) (short-candidates K c.requires.valid c.requires.small))

pub returns-in-Roomy : goal.returns-in-Roomy
returns-in-Roomy c =
    let K = known_in c.args.self.now in
    subst (λ (a : Asked). AreCandidates K c.roomy_limits.result (asks K a)) (sym c.in-Roomy.is)
    (subst (λ (w : Weight). AreCandidates K w (λ r. can_start K r && has_storage K r)) (sym c.roomy_limits.ensures) (roomy-candidates K c.requires.valid c.requires.small))

pub returns-in-Taken : goal.returns-in-Taken
returns-in-Taken c =
    let K = known_in c.args.self.now in
    subst (λ (a : Asked). AreCandidates K c.roomy_limits-in-Taken.result (asks K a)) (sym c.in-Taken.is)
    (subst (λ (w : Weight). AreCandidates K w (is_taken_now K)) (sym c.roomy_limits-in-Taken.ensures) (taken-candidates K c.requires.valid c.requires.small))
