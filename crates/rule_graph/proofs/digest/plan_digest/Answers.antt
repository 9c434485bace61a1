use Rattle.std.proofs.Common.{[]}
use Rattle.rule_graph.specs.Spelling.{plan_digest, plan_bytes}
use Rattle.rule_graph.proofs.Hashed.{adds_more}
use Rattle.rule_graph.proofs.Counts.{rules_countable, files_countable}
use Rattle.rule_graph.proofs.digest.plan_digest.Goals as goal

pub add_rules-requires-clause-each : goal.add_rules-requires-clause-each
add_rules-requires-clause-each c = rules_countable c.args.plan.now c.requires

pub add_files-requires-clause-each : goal.add_files-requires-clause-each
add_files-requires-clause-each c = files_countable c.args.plan.now c.requires

pub returns : goal.returns
unfolding plan_digest
returns c =
    c.finalize.ensures (plan_bytes c.args.plan.now)
    (adds_more _ _ _ _ _ c.add_rules.ensures c.add_files.ensures [] c.new-hasher.ensures)
