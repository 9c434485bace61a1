-- One event of a list of events.
use Rattle.std.proofs.Common.{◌<◌, ◌≤◌, ◌+◌, suc, zero, ℕ, List, [], ◌∷◌, length, drop, refl, sym, subst, get_or, add-one, drop-cons, arith}
use Rattle.flow_types.specs.declared.plan.Plan.{Plan}
use Rattle.flow_types.specs.declared.job.Outcome.{Outcome}
use Rattle.flow_types.specs.Serial.{Function}
use Rattle.run_history.specs.declared.options.Options.{Options}
use Rattle.world_laws.specs.declared.events.WorldEvent.{WorldEvent}
use Rattle.world_laws.specs.Worlds.{World, happens, job_run}
use Rattle.world_peers.specs.Runs.{Failures}
use Rattle.world_laws.specs.Reach.{Reaches}
use Rattle.world_laws.specs.Due.{Plays, RunsSo, job_due}

-- what is left begins with this event
pub next_plays : (P : Plan) (O : Options) (gives : Function) (may_fail : Failures) (w : World) (events : List WorldEvent) (i : ℕ) (d : WorldEvent) (outcome : Outcome) (v : World)
    → i < length events → RunsSo gives may_fail (job_run P w (get_or events i d)) (job_due P w (get_or events i d)) outcome
    → Plays P O gives may_fail (happens P O w (get_or events i d) outcome) (drop (i + 1) events) v → Plays P O gives may_fail w (drop i events) v
next_plays P O gives may_fail w events i d outcome v inside may reached =
    subst (λ es. Plays P O gives may_fail w es v) (sym (drop-cons events i d inside))
    (outcome, may, subst (λ n. Plays P O gives may_fail (happens P O w (get_or events i d) outcome) (drop n events) v) (add-one i) reached)

-- nothing is left
pub none_left : (P : Plan) (O : Options) (gives : Function) (may_fail : Failures) (w : World) (events : List WorldEvent) (i : ℕ) → length events ≤ i → Plays P O gives may_fail w (drop i events) w
none_left P O gives may_fail w [] zero past = refl
none_left P O gives may_fail w [] (suc i) past = refl
none_left P O gives may_fail w (e ∷ es) zero past = absurd (let h : ⊥ = omega (arith, past) in h)
none_left P O gives may_fail w (e ∷ es) (suc i) past = none_left P O gives may_fail w es i (omega (arith, past))

-- what is played is reached
pub plays_reach : (P : Plan) (O : Options) (gives : Function) (may_fail : Failures) (events : List WorldEvent) (w v : World) → Plays P O gives may_fail w events v → Reaches P O gives may_fail w events v
plays_reach P O gives may_fail [] w v plays = plays
plays_reach P O gives may_fail (e ∷ es) w v plays = (plays.0, plays.1.0, plays_reach P O gives may_fail es (happens P O w e plays.0) v plays.2)
