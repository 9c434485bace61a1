use Rattle.std.proofs.Common.{◌∙◌, ap}
use Rattle.flow_types.specs.declared.records.Record.TheVariants as records
use Rattle.rule_graph.specs.Spelling.{plan_digest}
use Rattle.world_contents.proofs.Beginnings.{sources_rows}
use Rattle.world_contents.proofs.sources.opening.Goals as goal

pub returns : goal.returns
returns c =
    ap (λ digest. records.Opened 0 0 c.args.options.now.retries c.args.options.now.limit (record { 0 = digest }) c.in_ok-rows.rows) c.plan_digest.ensures
    ∙ ap (λ rows. records.Opened 0 0 c.args.options.now.retries c.args.options.now.limit (record { 0 = plan_digest c.args.plan.now }) rows)
    (c.in_ok-rows.ensures ∙ sources_rows c.args.plan.now c.args.sources.now c.requires.sources)
