-- What a foreman hears of a worker.
use Rattle.std.specs.Prelude.{◌≡◌, ◌≤◌, true, false, is_some, List, Option, Some, None, Result, Ok, Err}
use Rattle.flow_types.specs.declared.lists.Memory.{Memory}
use Rattle.flow_types.specs.declared.messages.Message.{Message}
use Rattle.foreman_core.specs.declared.acts.ForemanActs.{ForemanActs}
use Rattle.foreman_core.specs.Foremen.{Foreman}
use Rattle.foreman_core.specs.Steps.{hears_down}
use Rattle.peer_run.specs.Ends.{Advanced}
use Rattle.wq_messages.specs.Views.{shown}
use Rattle.wq_messages.specs.Heads.{head_of}
use Rattle.foreman_run.specs.Lost.{Seen, refused_by}
use Rattle.foreman_run.specs.Lowers.{IsHeld, LowerState}
use Rattle.foreman_run.specs.Met.{Roll}

-- The next message was taken and is a step: then the link is to be left exactly where the step says so.
-- Or there was none and what holds of the link stays so; or memory was wanting and the foreman is the
-- same.
abbrev pub Hears : {L : Type 0} → Type 0 → (L → Seen) → Foreman → Foreman → LowerState L
    → LowerState L → Result (Option ForemanActs) Memory → Type 0
Hears tells seen f f_now old new (Ok (Some acts)) =
    (old.gone ≡ false) × Advanced old.ear (Ok true) new.ear
    × (acts ≡ (hears_down f old.link (shown new.ear.body)).acts)
    × (f_now ≡ (hears_down f old.link (shown new.ear.body)).foreman)
    × (new.gone ≡ is_some acts.leave) × (new.care.greeted ≡ true)
    × (new.care.refused ≤ refused_by old.care.refused (head_of (shown new.ear.body)))
Hears tells seen f f_now old new (Ok None) =
    (f_now ≡ f)
    × ((roll : Roll) (heard : List Message) → IsHeld tells seen roll heard old
    → IsHeld tells seen roll heard new)
Hears tells seen f f_now old new (Err why) = f_now ≡ f
