-- Where attempts are started.
use Rattle.std.specs.Prelude.{◌≡◌, true, List, ◌++◌, All}
use Rattle.flow_types.specs.declared.plan.Plan.{Plan}
use Rattle.flow_types.specs.declared.records.Record.{Record}
use Rattle.flow_types.specs.declared.records.Record.TheVariants as records
use Rattle.run_history.specs.declared.options.Options.{Options}
use Rattle.run_history.specs.Links.{may_run_on}

-- If the record starts an attempt, it does so where its rule may run: at the local place exactly where the rule is a LOCAL one or all rules run here, and else on another link.
abbrev pub StartsWhere : Plan → Options → Record → Type 0
StartsWhere P O (records.Started moment rule attempt link) = may_run_on P O rule.0 link.0 ≡ true
StartsWhere P O _ = Unit {0}

-- More records stand behind these, and each attempt that one of those starts is started where its rule may run.
pub record PlacedBy (P : Plan) (O : Options) (H all : List Record) : Type 0 where
  pub more : List Record
  pub are : all ≡ H ++ more
  pub each : All (StartsWhere P O) more
