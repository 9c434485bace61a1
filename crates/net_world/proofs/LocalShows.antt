-- What the machines of a world show after an attempt on the local place.
use Rattle.std.proofs.Common.{◌≡◌, ℕ, cond, List, [], ◌∷◌, Option, Some, None, map, refl, ap, sym, ◌∙◌, subst}
use Rattle.std.specs.Prelude.{slice_get, unwrap_or}
use Rattle.std.specs.Option.{option_map}
use Rattle.flow_types.specs.declared.plan.Plan.{Plan}
use Rattle.flow_types.specs.declared.plan.Port.{Port}
use Rattle.flow_types.specs.declared.plan.Rule.{Rule}
use Rattle.flow_types.specs.declared.job.Given.{Given}
use Rattle.flow_types.specs.declared.job.Job.{Job}
use Rattle.flow_types.specs.declared.job.Outcome.{Outcome}
use Rattle.flow_types.specs.declared.numbers.AttemptNo.{AttemptNo}
use Rattle.flow_types.specs.declared.numbers.RuleNo.{RuleNo}
use Rattle.flow_types.specs.Serial.{Contents, Function, job_of}
use Rattle.outside.specs.Jobs.{IsShaped}
use Rattle.run_history.specs.declared.options.Options.{Options}
use Rattle.net_world.specs.declared.play.Play.{Play}
use Rattle.world_contents.specs.Holdings.{given_at, held_in}
use Rattle.net_world.specs.Plays.{IsFit, IsShown}
use Rattle.world_peers.specs.Runs.{EndsSo, Failures}
use Rattle.world_laws.specs.Reach.{MayAnswer}
use Rattle.world_laws.specs.Due.{Ended, RunsSo, local_due}
use Rattle.net_world.specs.Steps.{RunsLocally, job_in}
use Rattle.world_laws.specs.Worlds.{World, closes, job_at, records_in, rule_at, runs_local, the_rule, want_at}

-- ---- the job

same_given : (held contents : Contents) (ports : List Port) → ((f : ℕ) → held f ≡ contents f) → map (given_at held) ports ≡ map (given_at contents) ports
same_given held contents [] same = refl
same_given held contents (port ∷ ports) same =
    ap (λ (found : Option (List ℕ)). let given : Given = record { remote = port.remote; content = unwrap_or found [] } in given ∷ map (given_at held) ports) (same port.file.0)
    ∙ ap (λ (more : List Given). given_at contents port ∷ more) (same_given held contents ports same)

same_job : (P : Plan) (rule : Rule) (held contents : Contents) → ((f : ℕ) → held f ≡ contents f) → job_of P rule held ≡ job_of P rule contents
same_job P rule held contents same =
    ap (λ (inputs : List Given). let job : Job = record { command = rule.command; env = rule.env; inputs = inputs; outputs = map (want_at P) rule.outputs } in job)
    (same_given held contents rule.inputs same)

-- the job of the rule is that of the attempt
job_is : (P : Plan) (O : Options) (w : World) (play : Play) (attempt : AttemptNo) (rule : RuleNo) (job : Job) → rule_at (records_in w) attempt.0 ≡ Some rule.0 → IsShown P O w play
    → job_at P w attempt ≡ Some job → job_in play rule.0 ≡ Some job
job_is P O w play attempt rule job at shown is =
    ap (λ P. option_map (λ rule. job_of P rule (held_in play.contents.items)) (slice_get P.rules rule.0)) shown.table.plan
    ∙ by (slice_get P.rules rule.0) ∙ ap (λ found. option_map (λ rule. job_of P rule w.contents) (the_rule P found)) (sym at) ∙ is
  where
    by : (found : Option Rule) → option_map (λ rule. job_of P rule (held_in play.contents.items)) found ≡ option_map (λ rule. job_of P rule w.contents) found
    by None = refl
    by (Some rule) = ap Some (same_job P rule (held_in play.contents.items) w.contents (λ f. sym (shown.contents f)))

-- an outcome of the rule's job is fit
pub fit_here : (P : Plan) (O : Options) (w : World) (play : Play) (attempt : AttemptNo) (rule : RuleNo) (outcome : Outcome) → RunsLocally P w attempt (Some rule) → IsShown P O w play
    → ((job : Job) → job_in play rule.0 ≡ Some job → IsShaped job outcome) → IsFit P w attempt outcome
fit_here P O w play attempt rule outcome here shown shape job is ran = shape job (job_is P O w play attempt rule job here.1 shown is)

may_answer : (gives : Function) (may_fail : Failures) (job : Option Job) (outcome : Outcome) → ((j : Job) → job ≡ Some j → EndsSo gives may_fail j outcome) → MayAnswer gives may_fail job outcome
may_answer gives may_fail None outcome ends = tt
may_answer gives may_fail (Some j) outcome ends = λ ran. ends j refl

-- a job that was run ended so
ended : (gives : Function) (may_fail : Failures) (job : Option Job) (outcome : Outcome) → ((j : Job) → job ≡ Some j → EndsSo gives may_fail j outcome) → Ended gives may_fail job outcome
ended gives may_fail None outcome ends = tt
ended gives may_fail (Some j) outcome ends = ends j refl

-- an attempt that runs on the local place ended as the commands say
pub here_shown : (gives : Function) (may_fail : Failures) (P : Plan) (O : Options) (w : World) (old new : Play) (attempt : AttemptNo) (rule : RuleNo) (outcome : Outcome)
    → RunsLocally P w attempt (Some rule) → IsShown P O w old → ((job : Job) → job_in old rule.0 ≡ Some job → EndsSo gives may_fail job outcome) → IsShown P O (closes P w attempt outcome) new
    → (outcome : Outcome) × RunsSo gives may_fail (job_at P w attempt) (local_due P w attempt) outcome × IsShown P O (runs_local P w attempt outcome) new
here_shown gives may_fail P O w old new attempt rule outcome here shown ends then = (
  outcome,
  (
    may_answer gives may_fail (job_at P w attempt) outcome (λ job is. ends job (job_is P O w old attempt rule job here.1 shown is)),
    subst (λ b. Ended gives may_fail (cond b (job_at P w attempt) None) outcome) (sym here.0)
        (ended gives may_fail (job_at P w attempt) outcome (λ job is. ends job (job_is P O w old attempt rule job here.1 shown is))),
  ),
  subst (λ b. IsShown P O (cond b (closes P w attempt outcome) w) new) (sym here.0) then,
)
