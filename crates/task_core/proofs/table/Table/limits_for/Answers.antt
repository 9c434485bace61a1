use Rattle.std.proofs.Common.{◌&&◌, ◌∙◌, ap, subst, sym}
use Rattle.ready_rules.specs.declared.shelf.Weight.{Weight}
use Rattle.task_core.specs.declared.asking.AskedFor.{AskedFor}
use Rattle.task_core.specs.Asked.{AreCandidates, asks_for, kinds_for, roomy_limits}
use Rattle.task_core.specs.Known.{fits_link, has_storage, passes_most}
use Rattle.task_core.specs.Surveys.{is_ready_for}
use Rattle.task_core.specs.States.{known_in}
use Rattle.task_core.proofs.Limiting.{fitting-candidates, large-for-candidates, ready-for-candidates, startable-candidates}
use Rattle.task_core.proofs.table.Table.limits_for.Goals as goal

pub returns-in-Ready : goal.returns-in-Ready
returns-in-Ready c =
    let K = known_in c.args.self.now in
    let k = c.args.beside.now.link.0 in
    subst (λ (a : AskedFor). AreCandidates K c.kinds_for.result (asks_for K k a)) (sym c.in-Ready.is)
    (subst (λ (w : Weight). AreCandidates K w (is_ready_for K k)) (sym c.kinds_for.ensures) (ready-for-candidates K k c.requires.valid c.requires.small))

pub returns-in-Large : goal.returns-in-Large
returns-in-Large c =
    let K = known_in c.args.self.now in
    let k = c.args.beside.now.link.0 in
    subst (λ (a : AskedFor). AreCandidates K c.kinds_for-in-Large.result (asks_for K k a)) (sym c.in-Large.is)
    (subst (λ (w : Weight). AreCandidates K w (λ r. is_ready_for K k r && passes_most K r)) (sym (c.kinds_for-in-Large.ensures ∙ ap (kinds_for k) c.large_limits.ensures)) (large-for-candidates K k c.requires.valid c.requires.small))

pub returns-in-Fitting : goal.returns-in-Fitting
returns-in-Fitting c =
    let K = known_in c.args.self.now in
    let k = c.args.beside.now.link.0 in
    subst (λ (a : AskedFor). AreCandidates K c.limits.result (asks_for K k a)) (sym c.in-Fitting.is)
    (subst (λ (w : Weight). AreCandidates K w (λ r. is_ready_for K k r && fits_link K k r)) (sym c.limits.ensures) (fitting-candidates K c.args.beside.now c.requires.known c.requires.valid c.requires.small))

pub returns-in-Startable : goal.returns-in-Startable
returns-in-Startable c =
    let K = known_in c.args.self.now in
    let k = c.args.beside.now.link.0 in
    subst (λ (a : AskedFor). AreCandidates K c.roomy_limits.result (asks_for K k a)) (sym c.in-Startable.is)
    (subst (λ (w : Weight). AreCandidates K w (λ r. is_ready_for K k r && (fits_link K k r && has_storage K r))) (sym (c.roomy_limits.ensures ∙ ap (roomy_limits K) c.limits-in-Startable.ensures))
    (startable-candidates K c.args.beside.now c.requires.known c.requires.valid c.requires.small))
