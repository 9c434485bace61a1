-- Rules whose attempts are closed.
use Rattle.std.specs.Prelude.{◌≡◌, ℕ, Some, slice_get}
use Rattle.flow_types.specs.declared.plan.Plan.{Plan}
use Rattle.flow_types.specs.declared.plan.Rule.{Rule}
use Rattle.flow_types.specs.declared.job.Outcome.{Outcome}
use Rattle.flow_types.specs.declared.numbers.AttemptNo.{AttemptNo}
use Rattle.flow_types.specs.Serial.{job_of}
use Rattle.links.specs.Honesty.{HasRun}
use Rattle.outside.specs.Jobs.{IsShaped}
use Rattle.run_history.specs.declared.options.Options.{Options}
use Rattle.net_world.specs.declared.play.Play.{Play}
use Rattle.world_laws.specs.Worlds.{World, closed_at}
use Rattle.net_world.specs.Plays.{IsShown}

-- the outcome has the shape that the rule's job asks for, if it ran
abbrev pub FitsRule : Plan → World → ℕ → Outcome → Type 0
FitsRule P w r outcome =
    (rule : Rule) → slice_get P.rules r ≡ Some rule → HasRun outcome
    → IsShaped (job_of P rule w.contents) outcome

-- Machines that showed a world show it after an attempt of this rule ended so, where that fits the
-- rule.
abbrev pub ClosesRule : ℕ → AttemptNo → Outcome → Play → Play → Type 0
ClosesRule r attempt outcome old new =
    (P : Plan) (O : Options) (w : World) → IsShown P O w old → FitsRule P w r outcome
    → IsShown P O (closed_at P w attempt outcome (Some r)) new
