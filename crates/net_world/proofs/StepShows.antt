-- What the machines of a world show after an event.
use Rattle.std.proofs.Common.{◌≡◌, true, false, cond, sym, ◌∙◌, subst}
use Rattle.std.specs.Prelude.{Result, Ok, Err, OnOk}
use Rattle.flow_types.specs.declared.lists.Memory.{Memory}
use Rattle.flow_types.specs.declared.job.Outcome.TheVariants as outcomes
use Rattle.flow_types.specs.declared.numbers.LinkNo.{LinkNo}
use Rattle.flow_types.specs.Serial.{Function}
use Rattle.world_laws.specs.declared.events.Cut.{Cut}
use Rattle.world_laws.specs.declared.events.WorldEvent.{WorldEvent}
use Rattle.world_laws.specs.declared.events.WorldEvent.TheVariants as events
use Rattle.world_peers.specs.declared.fault.WorldFault.{WorldFault}
use Rattle.net_world.specs.declared.play.Play.{Play}
use Rattle.net_world.specs.Plays.{IsShown, Turns}
use Rattle.world_peers.specs.Runs.{Failures}
use Rattle.world_laws.specs.Due.{RunsSo, due_down, due_up}
use Rattle.net_world.specs.Steps.{RunsAs, StepsBy, in_world}
use Rattle.world_laws.specs.Worlds.{cut_short, happens_down, happens_up, job_run, loses_link, stopped}

-- what an event makes of a world while the master runs
abbrev pub StepsUp : Function → Failures → WorldEvent → Play → Play → Type 0
StepsUp gives may_fail e old new =
    RunsAs gives may_fail (λ P w. job_run P w e) (λ P w. due_up P w e) (λ P O w outcome. happens_up P O w e outcome) old new

-- and while it doesn't
abbrev pub StepsDown : Function → Failures → WorldEvent → Play → Play → Type 0
StepsDown gives may_fail e old new =
    RunsAs gives may_fail (λ P w. job_run P w e) (λ P w. due_down w e) (λ P O w outcome. happens_down P O w e outcome) old new

-- what a cut leaves of its event
abbrev pub StepsCut : Function → Failures → Cut → Play → Play → Type 0
StepsCut gives may_fail cut old new =
    RunsAs gives may_fail (λ P w. job_run P w (events.Crash cut)) (λ P w. due_up P w (events.Crash cut)) (λ P O w outcome. cut_short P O w cut outcome) old new

pub up_as : (gives : Function) (may_fail : Failures) (tells : Type 0) (e d : WorldEvent) (old new : Play) → e ≡ d → (tells → StepsUp gives may_fail d old new)
    → tells → StepsUp gives may_fail e old new
up_as gives may_fail tells e d old new is steps told = subst (λ e. StepsUp gives may_fail e old new) (sym is) (steps told)

pub down_as : (gives : Function) (may_fail : Failures) (tells : Type 0) (e d : WorldEvent) (old new : Play) → e ≡ d → (tells → StepsDown gives may_fail d old new)
    → tells → StepsDown gives may_fail e old new
down_as gives may_fail tells e d old new is steps told = subst (λ e. StepsDown gives may_fail e old new) (sym is) (steps told)

pub cut_as : (gives : Function) (may_fail : Failures) (tells : Type 0) (cut one : Cut) (old new : Play) → cut ≡ one → (tells → StepsCut gives may_fail one old new)
    → tells → StepsCut gives may_fail cut old new
cut_as gives may_fail tells cut one old new is steps told = subst (λ cut. StepsCut gives may_fail cut old new) (sym is) (steps told)

-- an answer that is another's
pub answered_by : {T : Type 0} (P Q : Type 0) (answer : Result T Memory) (result : Result T WorldFault) → result ≡ in_world answer → (P → Q) → OnOk answer P → OnOk result Q
answered_by {T} P Q answer result is follows on = subst (λ result. OnOk result Q) (sym is) (by answer on)
  where
    by : (answer : Result T Memory) → OnOk answer P → OnOk (in_world answer) Q
    by (Ok x) on = follows on
    by (Err lack) on = tt

-- a link is lost
pub link_lost : (gives : Function) (may_fail : Failures) (tells : Type 0) (e : WorldEvent) (link : LinkNo) (old new : Play) → e ≡ events.LoseLink link
    → Turns (λ P O w. loses_link P w link.0) old new → tells → StepsUp gives may_fail e old new
link_lost gives may_fail tells e link old new is turns told =
    subst (λ e. StepsUp gives may_fail e old new) (sym is) (λ P O w shown. (outcomes.NotRun, (tt, tt), turns P O w shown))

-- the master stops where the crash cut its event short
pub crashed : (gives : Function) (may_fail : Failures) (tells : Type 0) (cut : Cut) (old mid new : Play) → (tells → StepsCut gives may_fail cut old mid)
    → Turns (λ P O w. stopped P w) mid new → tells → StepsUp gives may_fail (events.Crash cut) old new
crashed gives may_fail tells cut old mid new steps turns told P O w shown =
    let did = steps told P O w shown in
    (did.0, did.1, turns P O (cut_short P O w cut did.0) did.2)

-- an event while the master runs
pub while_up : (gives : Function) (may_fail : Failures) (tells : Type 0) (e : WorldEvent) (old new : Play) → old.up ≡ true → (tells → StepsUp gives may_fail e old new)
    → tells → StepsBy gives may_fail e old new
while_up gives may_fail tells e old new up steps told P O w shown =
    let did = steps told P O w shown in (
      did.0,
      subst (λ b. RunsSo gives may_fail (job_run P w e) (cond b (due_up P w e) (due_down w e)) did.0) (sym up ∙ shown.up) did.1,
      subst (λ b. IsShown P O (cond b (happens_up P O w e did.0) (happens_down P O w e did.0)) new) (sym up ∙ shown.up) did.2,
    )

-- and while it doesn't
pub while_down : (gives : Function) (may_fail : Failures) (tells : Type 0) (e : WorldEvent) (old new : Play) → old.up ≡ false → (tells → StepsDown gives may_fail e old new)
    → tells → StepsBy gives may_fail e old new
while_down gives may_fail tells e old new down steps told P O w shown =
    let did = steps told P O w shown in (
      did.0,
      subst (λ b. RunsSo gives may_fail (job_run P w e) (cond b (due_up P w e) (due_down w e)) did.0) (sym down ∙ shown.up) did.1,
      subst (λ b. IsShown P O (cond b (happens_up P O w e did.0) (happens_down P O w e did.0)) new) (sym down ∙ shown.up) did.2,
    )
