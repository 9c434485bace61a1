use Rattle.std.proofs.Common.{◌≡◌, ap, ◌∙◌}
use Rattle.flow_types.specs.declared.plan.Plan.{Plan}
use Rattle.run_history.specs.Legal.{is_legal}
use Rattle.print_cases.proofs.logs.printed.printed.Goals as goal

pub print_log-requires-clause-legal : goal.print_log-requires-clause-legal
print_log-requires-clause-legal c =
    (c.args.digest.now.0, ap (λ (P : Plan). is_legal P c.args.digest.now.0 c.args.history.now) (c.plan.ensures.plan ∙ c.in-Ok.ensures.over.plan) ∙ c.in-Ok.ensures.over.legal)
