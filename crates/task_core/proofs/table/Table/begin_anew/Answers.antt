use Rattle.std.proofs.Common.{◌≤◌, ◌∙◌, List, ap, length, replicate, subst, sym}
use Rattle.flow_types.specs.declared.plan.Plan.{Plan}
use Rattle.flow_types.specs.Plans.{most_bytes}
use Rattle.running_rules.specs.Tasks.{Tasks}
use Rattle.run_history.specs.declared.states.FileState.{FileState}
use Rattle.rule_progress.specs.Progress.{bytes_by, sizes_in}
use Rattle.file_states.specs.States.{first_states}
use Rattle.gc_refcount.specs.Counting.{Counting, nothing_made}
use Rattle.task_core.specs.States.{blank_row}
use Rattle.task_core.proofs.Accounting.{begun-anew}
use Rattle.task_core.proofs.Storing.{held}
use Rattle.task_core.proofs.Opening.{first-length, first-small}
use Rattle.task_core.proofs.Progressing.{IsBy, blank-waits, states_by}
use Rattle.task_core.proofs.Tasking.{blank-tasks}
use Rattle.task_core.proofs.table.Table.begin_anew.Goals as goal

pub invariant_of-self : goal.invariant_of-self
invariant_of-self c =
    let kept = begun-anew _ c.self.inside.counts c.in_ok-counts.counts c.self.inside.account c.new-self-inside.result c.args.sources.now c.in_ok-rules.rules.items c.in_ok-files.files (c.self.invariant.0, c.self.invariant.1, c.self.invariant.2) c.requires.small
    (c.in_ok-rules.ensures ∙ ap (λ n. replicate n blank_row) (c.len.ensures ∙ c.self.inside.rules.ok.0))
    (c.in_ok-files.ensures ∙ ap (λ (P : Plan). first_states P c.args.sources.now) c.plan.ensures.plan)
    (c.in_ok-counts.ensures ∙ ap (λ (P : Plan). nothing_made P) c.plan-2.ensures.plan)
    (c.new-self-inside.ensures ∙ ap (λ l. held l 0 0) c.limit.ensures) in (
      kept.0,
      kept.1,
      kept.2,
      subst (λ (P : Plan). IsBy P c.self.inside.options c.self.inside.retries c.in_ok-rules.rules.items c.in_ok-files.files c.in_ok-progress.progress)
          (sym (ap (λ (X : Counting). X.plan) c.in_ok-counts.ensures ∙ c.plan-2.ensures.plan ∙ sym c.plan-3.ensures.plan))
          (c.in_ok-progress.ensures (states_by c.self.inside.retries c.in_ok-rules.rules.items) (λ r inside. blank-waits c.self.inside.retries _ r c.in_ok-rules.rules.items c.in_ok-rules.ensures)),
      blank-tasks c.in_ok-counts.counts.plan c.self.inside.retries _ c.in_ok-rules.rules.items c.clear.new.self c.in_ok-rules.ensures (ap (λ (T : Tasks). T.links) c.clear.ensures) (ap (λ (T : Tasks). T.rules) c.clear.ensures)
          (ap (λ (T : Tasks). T.places) c.clear.ensures ∙ c.self.invariant.4.room ∙ sym (ap (λ (X : Counting). length X.plan.rules) c.in_ok-counts.ensures ∙ ap (λ (P : Plan). length P.rules) c.plan-2.ensures.plan)),
    )

pub over-requires-clause-files : goal.over-requires-clause-files
over-requires-clause-files c =
    ap length c.in_ok-files.ensures ∙ first-length c.plan.result.now c.args.sources.now ∙ ap (λ (P : Plan). length P.files) (c.plan.ensures.plan ∙ sym c.plan-3.ensures.plan)

pub over-requires-clause-small : goal.over-requires-clause-small
over-requires-clause-small c f =
    subst (λ (xs : List FileState). bytes_by (sizes_in xs) f ≤ most_bytes) (sym c.in_ok-files.ensures) (first-small c.plan.result.now c.args.sources.now f c.requires.small)
