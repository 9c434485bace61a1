-- The machines of a world as they run, and which world they show.
use Rattle.std.specs.Option.{option_map_or}
use Rattle.std.specs.Prelude.{◌≡◌, ◌&&◌, ℕ, Bool, false, List, ◌∷◌, Option, Some, None, length, map, slice_get}
use Rattle.flow_types.specs.declared.plan.Plan.{Plan}
use Rattle.flow_types.specs.declared.plan.Rule.{Rule}
use Rattle.flow_types.specs.declared.numbers.AttemptNo.{AttemptNo}
use Rattle.flow_types.specs.declared.job.Job.{Job}
use Rattle.flow_types.specs.declared.job.Outcome.{Outcome}
use Rattle.flow_types.specs.declared.job.Task.{Task}
use Rattle.flow_types.specs.declared.records.Record.{Record}
use Rattle.flow_types.specs.Plans.{bound_of, is_empty}
use Rattle.flow_types.specs.Serial.{Function}
use Rattle.run_history.specs.declared.moves.Move.{Move}
use Rattle.run_history.specs.declared.options.Options.{Options}
use Rattle.run_history.specs.History.{part}
use Rattle.run_history.specs.Links.{records_of, runs_on}
use Rattle.run_history.specs.Moves.{live_links}
use Rattle.run_history.specs.Storage.{is_running}
use Rattle.link_session.specs.declared.open.Open.{Open}
use Rattle.link_session.specs.Sessions.{is_open, opened}
use Rattle.links.specs.Honesty.{HasRun}
use Rattle.outside.specs.Jobs.{IsShaped}
use Rattle.task_core.specs.Stands.{Stands}
use Rattle.task_core.specs.States.{TableState}
use Rattle.net_world.specs.declared.play.Play.{Play}
use Rattle.world_contents.specs.Holdings.{kept_in}
use Rattle.world_laws.specs.Members.{Every}
use Rattle.world_laws.specs.Worlds.{Connection, World, claim_logged, claimed_rule, claims, closes, dispatched_on, job_at, ran_on, rule_at, sent_out}
use Rattle.world_peers.specs.Company.{next_job}
use Rattle.world_peers.specs.Runs.{Failures}
use Rattle.world_laws.specs.Due.{RunsSo, peer_due}

-- The table stands behind the moves of a run of this plan that was opened and that no stop ends,
-- and these are their records.
pub record IsTable (P : Plan) (O : Options) (M : List Move) (table : TableState)
    (entries : List Record) : Type 0 where
  pub plan : table.plan ≡ P
  pub options : table.options ≡ O
  pub stop : table.stop ≡ None
  pub stands : Stands table M
  pub opened : is_empty (part (records_of M)) ≡ false
  pub records : entries ≡ records_of M

-- rule r runs, on link k
abbrev pub runs_there : List Record → ℕ → ℕ → Bool
runs_there H k r = is_running H r && runs_on H k r

-- An open attempt is one that was started, with the bounds of its rule's outputs.
pub record IsOurs (P : Plan) (H : List Record) (o : Open) : Type 0 where
  pub number : ℕ
  pub rule : Rule
  pub started : rule_at H o.attempt.0 ≡ Some number
  pub in_plan : slice_get P.rules number ≡ Some rule
  pub bounds : o.bounds ≡ map (λ port. bound_of P port.file.0) rule.outputs

-- each attempt that is open on a link is one that was started
abbrev pub AreOurs : Plan → List Record → Connection → Type 0
AreOurs P H c = Every (IsOurs P H) c.session.attempts

-- The machines show the world: the table and the records are those of its moves, and the contents,
-- links, peers and messages are the world's. There is a place for each file's content. The links
-- are, beside the local place, those that live, and what is open there was started.
pub record IsShown (P : Plan) (O : Options) (w : World) (play : Play) : Type 0 where
  pub table : IsTable P O w.moves play.table play.records.items
  pub contents : (f : ℕ) → w.contents f ≡ kept_in (slice_get play.contents.items f)
  pub places : length play.contents.items ≡ length P.files
  pub lines : play.lines.items ≡ w.connections
  pub live : 0 ∷ map (λ c. c.link) w.connections ≡ live_links O w.moves
  pub ours : Every (AreOurs P (records_of w.moves)) w.connections
  pub peers : play.peers.items ≡ w.peers
  pub bag : play.bag.items ≡ w.bag
  pub up : play.up ≡ w.up

-- Machines that showed a world show what this makes of it.
abbrev pub Turns : (Plan → Options → World → World) → Play → Play → Type 0
Turns change old new =
    (P : Plan) (O : Options) (w : World) → IsShown P O w old → IsShown P O (change P O w) new

-- Machines that showed a world show it after a peer that isn't gone ran its least job.
abbrev pub RunsPeer : Function → Failures → ℕ → Play → Play → Type 0
RunsPeer gives may_fail p old new =
    (P : Plan) (O : Options) (w : World) → IsShown P O w old
    → (outcome : Outcome)
    × RunsSo gives may_fail (next_job (slice_get w.peers p)) (peer_due (slice_get w.peers p)) outcome
    × IsShown P O (ran_on w p outcome (slice_get w.peers p)) new

-- the outcome has the shape that the attempt's job asks for, if it ran
abbrev pub IsFit : Plan → World → AttemptNo → Outcome → Type 0
IsFit P w attempt outcome =
    (job : Job) → job_at P w attempt ≡ Some job → HasRun outcome → IsShaped job outcome

-- Machines that showed a world show it after an attempt ended so, where the outcome is fit.
abbrev pub Closes : AttemptNo → Outcome → Play → Play → Type 0
Closes attempt outcome old new =
    (P : Plan) (O : Options) (w : World) → IsShown P O w old → IsFit P w attempt outcome
    → IsShown P O (closes P w attempt outcome) new

-- the attempt is open on no link
abbrev pub IsNew : AttemptNo → World → Type 0
IsNew attempt w = Every (λ c. is_open attempt c.session.attempts ≡ false) w.connections

-- Machines that showed a world show it after an attempt went over a link, which was open on none.
abbrev pub SendsOut : ℕ → AttemptNo → Play → Play → Type 0
SendsOut k attempt old new =
    (P : Plan) (O : Options) (w : World) → IsShown P O w old → IsNew attempt w
    → IsShown P O (sent_out P w k attempt) new

-- the same of the link at a place, and of this task of a rule's attempt
abbrev pub Dispatches : ℕ → Task → Play → Play → Type 0
Dispatches at t old new =
    (P : Plan) (O : Options) (w : World) (c : Connection) → IsShown P O w old
    → slice_get w.connections at ≡ Some c → IsNew t.attempt w
    → IsOurs P (records_of w.moves) (opened t) → IsShown P O (dispatched_on w c t) new

-- What a claim logged, and the attempt that is to go over the link from then on.
pub record IsClaimed (P : Plan) (O : Options) (w : World) (k : ℕ) (found : Option AttemptNo)
    (new : Play) : Type 0 where
  pub logged : IsShown P O (claim_logged w k (claimed_rule P O w k)) new
  pub sent : claims P w k (claimed_rule P O w k)
      ≡ option_map_or (sent_out P (claim_logged w k (claimed_rule P O w k)) k) found
      (claim_logged w k (claimed_rule P O w k))
  pub fresh : (attempt : AttemptNo) → found ≡ Some attempt
      → IsNew attempt (claim_logged w k (claimed_rule P O w k))
