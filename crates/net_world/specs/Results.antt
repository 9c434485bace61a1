-- What a run of a world answers.
use Rattle.std.specs.Prelude.{◌≡◌, ℕ, Bool, List, Option, None, if◌then◌else◌, filter_map, is_some}
use Rattle.std.specs.Option.{option_map}
use Rattle.flow_types.specs.declared.plan.Plan.{Plan}
use Rattle.flow_types.specs.Plans.{made_files, maker_of}
use Rattle.flow_types.specs.Serial.{Contents}
use Rattle.run_history.specs.Answers.{file_no}
use Rattle.run_history.specs.Storage.{is_present}
use Rattle.net_world.specs.declared.world.Holding.{Holding}
use Rattle.net_world.specs.declared.world.World.{World as WorldValue}
use Rattle.world_laws.specs.Worlds.{World, records_in}

-- a file with its content, where the master holds it
abbrev pub holding_of : Contents → ℕ → Option Holding
holding_of contents f = option_map (λ content. record { file = file_no f; content = content }) (contents f)

-- a file with its content, where it is present
abbrev pub present_holding : Plan → World → ℕ → Option Holding
present_holding P w f = if is_present P (records_in w) f then holding_of w.contents f else None

-- some rule makes the file
abbrev pub is_made : Plan → ℕ → Bool
is_made P f = is_some (maker_of P f)

-- the made files that are present, ascending, each with its content
abbrev pub holdings : Plan → World → List Holding
holdings P w = filter_map (present_holding P w) (made_files P)

-- the answer shows the world: its records, its made files that are present, and its messages
pub record Shows (P : Plan) (w : World) (shown : WorldValue) : Type 0 where
  pub records : shown.records ≡ records_in w
  pub files : shown.files ≡ holdings P w
  pub sent : shown.sent ≡ w.bag
