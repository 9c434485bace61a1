-- What a foreman answers.
use Rattle.std.specs.Prelude.{◌≡◌, Bool, true, false, Result, Ok, Err}
use Rattle.flow_types.specs.declared.lists.Memory.{Memory}
use Rattle.wq_messages.specs.declared.fault.PeerFault.{PeerFault}
use Rattle.wq_messages.specs.declared.fault.PeerFault.TheVariants as faults
use Rattle.foreman_core.specs.declared.acts.ForemanActs.{ForemanActs}
use Rattle.foreman_core.specs.Foremen.{Foreman}
use Rattle.foreman_core.specs.Steps.{Led}

-- A step that was done; or memory is wanting and nothing changes.
abbrev pub Leads : Led → Foreman → Result ForemanActs Memory → Foreman → Type 0
Leads led old (Ok acts) new = (acts ≡ led.acts) × (new ≡ led.foreman)
Leads led old (Err why) new = new ≡ old

-- A message that only goes up is unexpected and changes nothing; another is a step, or memory is
-- wanting and nothing changes.
abbrev pub HearsUp : Bool → Led → Foreman → Result ForemanActs PeerFault → Foreman → Type 0
HearsUp true led old r new = (r ≡ Err faults.Unexpected) × (new ≡ old)
HearsUp false led old (Ok acts) new = (acts ≡ led.acts) × (new ≡ led.foreman)
HearsUp false led old (Err why) new = (why ≡ faults.Memory) × (new ≡ old)

-- A message from below is a step, or memory is wanting and nothing changes.
abbrev pub HearsDown : Led → Foreman → Result ForemanActs PeerFault → Foreman → Type 0
HearsDown led old (Ok acts) new = (acts ≡ led.acts) × (new ≡ led.foreman)
HearsDown led old (Err why) new = (why ≡ faults.Memory) × (new ≡ old)
