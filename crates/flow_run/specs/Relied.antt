-- What a run over a log relies on of its workers.
use Rattle.std.specs.Prelude.{◌≡◌, ℕ, List}
use Rattle.flow_types.specs.declared.plan.Plan.{Plan}
use Rattle.flow_types.specs.declared.records.Record.{Record}
use Rattle.flow_types.specs.Serial.{Contents, Function, serial}
use Rattle.run_history.specs.declared.options.Options.{Options}
use Rattle.run_history.specs.History.{next_run}

-- What is relied on is so exactly where the run is trusted, and speaks of this plan and these options, of the run that is opened behind these records, and of the serial run's contents.
pub record IsRelied (trust : Type 0) (gives : Function) (sources : Contents) (holds : Type 0) (plan : Plan) (options : Options) (run : ℕ) (due : Contents) (P : Plan) (O : Options) (H : List Record) : Type 0 where
  pub relies : trust → holds
  pub trusts : holds → trust
  pub plan_is : P ≡ plan
  pub options_is : O ≡ options
  pub run_is : next_run H ≡ run
  pub due_is : serial P gives sources ≡ due
