-- What a hasher takes in, and which lengths and counts have a spelling.
use Rattle.std.specs.Prelude.{ℕ, ◌++◌, ◌<◌, ◌^◌, List, All, length, Option, Some, None, IfSome}
use Rattle.sha2.specs.declared.Sha256.{Sha256}
use Rattle.sha2.specs.Hashers.{Holds256}
use Rattle.flow_types.specs.declared.plan.Plan.{Plan}
use Rattle.flow_types.specs.declared.plan.Rule.{Rule}
use Rattle.flow_types.specs.declared.plan.FileRow.{FileRow}
use Rattle.flow_types.specs.declared.plan.Port.{Port}
use Rattle.flow_types.specs.declared.flow.Pair.{Pair}

-- the hasher takes in these bytes behind whatever it holds
abbrev pub Adds : Sha256 → Sha256 → List ℕ → Type 0
Adds old new bytes = (message : List ℕ) → Holds256 old message → Holds256 new (message ++ bytes)

-- a list whose length fits a u32
abbrev pub IsCountable : {A : Type 0} → List A → Type 0
IsCountable items = length items < 2 ^ 32

-- a pair whose texts have lengths that fit a u32
abbrev pub IsPairCountable : Pair → Type 0
IsPairCountable pair = IsCountable pair.name × IsCountable pair.value

-- a port whose remote name has such a length
abbrev pub IsPortCountable : Port → Type 0
IsPortCountable port = IsCountable port.remote

-- each text and list of a rule has a length that fits a u32
pub record IsRuleCountable (rule : Rule) : Type 0 where
  pub command : IsCountable rule.command
  pub pairs : IsCountable rule.env
  pub each_pair : All IsPairCountable rule.env
  pub inputs : IsCountable rule.inputs
  pub each_input : All IsPortCountable rule.inputs
  pub outputs : IsCountable rule.outputs
  pub each_output : All IsPortCountable rule.outputs

-- a file whose name has such a length
abbrev pub IsFileCountable : FileRow → Type 0
IsFileCountable row = IsCountable row.name
