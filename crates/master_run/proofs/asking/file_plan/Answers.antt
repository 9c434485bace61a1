use Rattle.master_run.proofs.asking.file_plan.Goals as goal

pub returns-in-Ok-flow_plan-clause-flow : goal.returns-in-Ok-flow_plan-clause-flow
returns-in-Ok-flow_plan-clause-flow g c = c.checked.ensures.flow c.args.name
