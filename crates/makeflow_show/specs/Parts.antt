-- What is shown of a plan.
use Rattle.std.specs.Prelude.{ℕ, List, Option, Some, option_map, slice_get}
use Rattle.flow_types.specs.declared.plan.Plan.{Plan}
use Rattle.plan_show.specs.Rules as rules
use Rattle.plan_show.specs.Files as files
use Rattle.plan_show.specs.Graph as graph
use Rattle.show_words.specs.declared.options.Part.{Part}
use Rattle.show_words.specs.declared.options.Part.TheVariants as parts

-- the text of a part of the plan; none of a rule that the plan doesn't have
abbrev pub part_text : Plan → Part → Option (List ℕ)
part_text plan parts.Rules = Some (rules.rules_text plan)
part_text plan (parts.Rule number) = option_map (rules.rule_block plan number.0) (slice_get plan.rules number.0)
part_text plan parts.Files = Some (files.files_text plan)
part_text plan parts.Graph = Some (graph.graph_text plan)
