-- Jobs over a desk.
use Rattle.std.specs.Prelude.{◌≡◌, List, [], unwrap_or, Result, Ok, Err}
use Rattle.flow_types.specs.declared.plan.Port.{Port}
use Rattle.flow_types.specs.declared.job.Given.{Given}
use Rattle.flow_types.specs.declared.plan.Plan.{Plan}
use Rattle.flow_types.specs.declared.records.Record.{Record}
use Rattle.flow_types.specs.Serial.{Contents}
use Rattle.outside.specs.Files.{Files}
use Rattle.desk.specs.declared.answers.Trouble.TheVariants as trouble
use Rattle.desk.specs.declared.answers.InputRefused.{InputRefused}
use Rattle.desk.specs.declared.answers.InputRefused.TheVariants as refused
use Rattle.desk.specs.State.{DeskState}
use Rattle.local_run.specs.declared.halt.Halt.{Halt}
use Rattle.local_run.specs.Ends.{IsDamaged}
use Rattle.local_run.specs.declared.halt.Halt.TheVariants as halts

-- what is given at a port, over these contents
abbrev pub given_at : Contents → Port → Given
given_at contents port = record { remote = port.remote; content = unwrap_or (contents port.file.0) [] }

-- The reading of files leaves the desk as it was, but where its site failed or memory was wanting.
abbrev pub ReadsOver : {S A : Type 0} → DeskState S → Result A InputRefused → DeskState S → Type 0
ReadsOver d (Ok inputs) after = after ≡ record d { site = after.site }
ReadsOver d (Err (refused.Damaged file logged found)) after = after ≡ record d { site = after.site }
ReadsOver d (Err (refused.Broken before now)) after = after ≡ record d { trouble = trouble.Broken before now; site = after.site }
ReadsOver d (Err refused.Memory) after = after ≡ record d { trouble = after.trouble; site = after.site }

-- why a run stops whose input isn't read
abbrev pub halt_by : InputRefused → Halt
halt_by (refused.Damaged file logged found) = halts.Damaged file logged found
halt_by (refused.Broken before now) = halts.Site
halt_by refused.Memory = halts.Memory

-- An input that is refused as damaged was found so.
abbrev pub IsRefusedDamage : Plan → List Record → Files → InputRefused → Type 0
IsRefusedDamage P H files (refused.Damaged file logged found) = IsDamaged P H files file logged found
IsRefusedDamage P H files (refused.Broken before now) = Unit {0}
IsRefusedDamage P H files refused.Memory = Unit {0}

-- not that an input is damaged
abbrev pub IsWholeInput : InputRefused → Type 0
IsWholeInput (refused.Damaged file logged found) = ⊥
IsWholeInput (refused.Broken before now) = Unit {0}
IsWholeInput refused.Memory = Unit {0}
