-- What holds of every world that events lead to.
use Rattle.std.specs.Prelude.{◌≡◌, ◌≤◌, ◌⊎◌, ℕ, List, ◌++◌, Some, IsTrue, nat_le, length, map, slice_get}
use Rattle.flow_types.specs.declared.plan.Plan.{Plan}
use Rattle.flow_types.specs.declared.job.Outcome.{Outcome}
use Rattle.flow_types.specs.declared.job.Outcome.TheVariants as outcomes
use Rattle.flow_types.specs.declared.job.Start.{Start}
use Rattle.flow_types.specs.declared.job.Task.{Task}
use Rattle.flow_types.specs.declared.messages.Message.{Message}
use Rattle.flow_types.specs.declared.messages.Message.TheVariants as messages
use Rattle.flow_types.specs.declared.numbers.AttemptNo.{AttemptNo}
use Rattle.flow_types.specs.declared.numbers.Content.{Content}
use Rattle.flow_types.specs.declared.numbers.RuleNo.{RuleNo}
use Rattle.flow_types.specs.declared.records.Record.{Record}
use Rattle.flow_types.specs.declared.records.Record.TheVariants as records
use Rattle.flow_types.specs.Plans.{IsValid, is_source, most_bytes}
use Rattle.flow_types.specs.Serial.{Contents, Function, given_by, serial}
use Rattle.link_session.specs.Sessions.{State}
use Rattle.links.specs.Honesty.{task_job}
use Rattle.rule_graph.specs.Spelling.{plan_digest}
use Rattle.run_history.specs.declared.options.Options.{Options}
use Rattle.run_history.specs.Legal.{is_legal}
use Rattle.run_history.specs.Storage.{is_present}
use Rattle.wq_messages.specs.Spelling.{HasCounts, most_body, spelling}
use Rattle.worker_core.specs.declared.running.Running.{Running}
use Rattle.foreman_core.specs.Steps.{renumbered}
use Rattle.world_peers.specs.declared.sent.Party.{Party}
use Rattle.world_peers.specs.declared.sent.Party.TheVariants.{Master, Peer}
use Rattle.world_peers.specs.declared.sent.Sent.{Sent}
use Rattle.world_laws.specs.declared.events.WorldEvent.{WorldEvent}
use Rattle.world_laws.specs.Members.{Stands}
use Rattle.world_peers.specs.declared.member.Home.{Home}
use Rattle.world_peers.specs.declared.member.Member.{Member}
use Rattle.world_peers.specs.declared.member.Member.TheVariants.{Works}
use Rattle.world_peers.specs.Peers.{Machine, told_to, up_from}
use Rattle.world_laws.specs.Worlds.{World, link_no, records_in}
use Rattle.world_peers.specs.Runs.{Failures}
use Rattle.world_laws.specs.Reach.{MayEnd, Reaches, first_world}

-- each source has a content within its limit
abbrev pub AreSources : Plan → Contents → Type 0
AreSources P sources =
    (f : ℕ) → IsTrue (is_source P f)
    → (content : List ℕ) × (sources f ≡ Some content) × IsTrue (nat_le (length content) most_bytes)

-- a task, as it stands in the bag
abbrev pub task_sent : Party → Party → Task → Sent
task_sent from to t = record { from = from; to = to; message = messages.Task t }

-- the attempt was started on the local place
abbrev pub IsLocal : List Record → AttemptNo → Type 0
IsLocal H attempt =
    (moment : ℕ) × ((r : RuleNo) × Stands (records.Started moment r attempt (link_no 0)) H)

-- a task of the attempt, from one end to the other, stands in the bag
abbrev pub IsCarried : List Sent → Party → Party → AttemptNo → Type 0
IsCarried bag from to attempt =
    (t : Task) × (t.attempt ≡ attempt) × Stands (task_sent from to t) bag

-- a task of the attempt went to some peer
abbrev pub WentOut : List Sent → AttemptNo → Type 0
WentOut bag attempt = (p : ℕ) × IsCarried bag Master (Peer p) attempt

-- An end of an attempt is one with which the job of its task may end over these contents, and this
-- task stands in the bag, from one end to the other.
abbrev pub IsAnswer :
    Function → Failures → Contents → List Sent → Party → Party → AttemptNo → Outcome → Type 0
IsAnswer gives may_fail contents bag from to attempt outcome =
    (t : Task) × (t.attempt ≡ attempt) × Stands (task_sent from to t) bag
    × MayEnd gives may_fail (task_job t contents) outcome

-- A task that a peer hands on was sent to it by the master, but for its number.
abbrev pub IsHandedOn : List Sent → ℕ → Task → Type 0
IsHandedOn bag p t =
    (u : Task) × Stands (task_sent Master (Peer p) u) bag × (t ≡ renumbered u t.attempt)

-- What the records and the bag say is so.
pub record IsTrueWorld (P : Plan) (gives : Function) (may_fail : Failures) (sources : Contents)
    (w : World) : Type 0 where
  -- The records are legal.
  pub legal : IsTrue (is_legal P (plan_digest P) (records_in w))
  -- The master holds each file that is present, with the serial run's content.
  pub contents : (f : ℕ) → IsTrue (is_present P (records_in w) f)
      → (content : List ℕ) × (w.contents f ≡ Some content)
      × (serial P gives sources f ≡ Some content)
  -- Every Done is of an attempt that was started on the local place, or that a task in the bag
  -- carried to a peer.
  pub dones : (moment : ℕ) (r : RuleNo) (attempt : AttemptNo) (outs : List Content)
      → Stands (records.Done moment r attempt outs) (records_in w)
      → IsLocal (records_in w) attempt ⊎ WentOut w.bag attempt
  -- The master's tasks of one attempt number have one job, over whatever contents.
  pub jobs : (t u : Task) (p q : ℕ)
      → Stands (task_sent Master (Peer p) t) w.bag → Stands (task_sent Master (Peer q) u) w.bag
      → t.attempt.0 ≡ u.attempt.0
      → (contents : Contents) → task_job t contents ≡ task_job u contents
  -- What a foreman hands on is what the master sent to it, under numbers of the foreman's own.
  pub handed : (p q : ℕ) (t : Task) → Stands (task_sent (Peer p) (Peer q) t) w.bag
      → IsHandedOn w.bag p t
  -- A foreman's tasks of one number are one task.
  pub single : (p q r : ℕ) (t u : Task)
      → Stands (task_sent (Peer p) (Peer q) t) w.bag → Stands (task_sent (Peer p) (Peer r) u) w.bag
      → t.attempt.0 ≡ u.attempt.0 → t ≡ u
  -- What a peer tells of an attempt, be it to the master or to its foreman, is an end of the job of
  -- this very attempt, over the serial run's contents.
  pub answers : (p : ℕ) (to : Party) (attempt : AttemptNo) (outcome : Outcome)
      → Stands (told_to to p (messages.Done attempt outcome)) w.bag
      → IsAnswer gives may_fail (serial P gives sources) w.bag to (Peer p) attempt outcome

-- Contents that a success of an attempt tells, whoever tells it to the master, are what the commands
-- give for the job of each task of this attempt that the master sent, over the serial run's contents.
abbrev pub EveryAnswerIsOfItsJob : Function → Failures → Type 0
EveryAnswerIsOfItsJob gives may_fail =
    (P : Plan) (O : Options) (sources : Contents) (fresh : State) (events : List WorldEvent)
    (w : World) (p q : ℕ) (t : Task) (told : List (List ℕ)) → IsValid P → AreSources P sources
    → Reaches P O gives may_fail (first_world P O sources fresh) events w
    → Stands (task_sent Master (Peer q) t) w.bag
    → Stands (up_from p (messages.Done t.attempt (outcomes.Success told))) w.bag
    → told ≡ given_by gives (task_job t (serial P gives sources))

-- the attempts of these jobs
abbrev pub attempts_of : List Start → List AttemptNo
attempts_of jobs = map (λ s. s.attempt) jobs

-- the attempts that run
abbrev pub attempts_in : List Running → List AttemptNo
attempts_in running = map (λ r. r.attempt) running

-- The jobs that a worker has are those of the attempts that its machine runs, in the same order.
abbrev pub RunsItsJobs : Machine → Type 0
RunsItsJobs machine = attempts_of machine.jobs ≡ attempts_in machine.worker.running

-- In every world each worker has the jobs of the attempts that its machine runs.
abbrev pub EveryPeerRunsItsJobs : Function → Failures → Type 0
EveryPeerRunsItsJobs gives may_fail =
    (P : Plan) (O : Options) (sources : Contents) (fresh : State) (events : List WorldEvent)
    (w : World) (p : ℕ) (home : Home) (machine : Machine) → IsValid P → AreSources P sources
    → Reaches P O gives may_fail (first_world P O sources fresh) events w
    → slice_get w.peers p ≡ Some (Works home machine) → RunsItsJobs machine

-- Each list of events leads from each world to some world.
abbrev pub EventsLeadOn : Function → Failures → Type 0
EventsLeadOn gives may_fail =
    (P : Plan) (O : Options) (w : World) (events : List WorldEvent)
    → (v : World) × Reaches P O gives may_fail w events v

-- What events and then others lead to, the one list behind the other leads to.
abbrev pub EventsCompose : Function → Failures → Type 0
EventsCompose gives may_fail =
    (P : Plan) (O : Options) (u v w : World) (events more : List WorldEvent)
    → Reaches P O gives may_fail u events v → Reaches P O gives may_fail v more w
    → Reaches P O gives may_fail u (events ++ more) w

-- Whatever is dispatched, lost, repeated, late, evicted, crashed or resumed, what the records and
-- the bag say is so.
abbrev pub EveryWorldIsTrue : Function → Failures → Type 0
EveryWorldIsTrue gives may_fail =
    (P : Plan) (O : Options) (sources : Contents) (fresh : State) (events : List WorldEvent)
    (w : World) → IsValid P → AreSources P sources
    → Reaches P O gives may_fail (first_world P O sources fresh) events w
    → IsTrueWorld P gives may_fail sources w

-- a frame takes the message
abbrev pub FitsFrame : Message → Type 0
FitsFrame m = HasCounts m × (length (spelling m) ≤ most_body)

-- the end of an attempt, inputs that are missing, or totals, and a frame takes it
abbrev pub IsReport : Message → Type 0
IsReport (messages.Done attempt outcome) = FitsFrame (messages.Done attempt outcome)
IsReport (messages.Missing attempt files) = FitsFrame (messages.Missing attempt files)
IsReport (messages.Totals total largest cache) =
    FitsFrame (messages.Totals total largest cache)
IsReport _ = ⊥

-- this peer tells this end what it did: any peer the master, and a worker its foreman
abbrev pub TellsTo : List Member → ℕ → Party → Type 0
TellsTo peers p Master = Unit {0}
TellsTo peers p (Peer f) =
    (home : Home) × ((machine : Machine) × (slice_get peers p ≡ Some (Works home machine)))

-- Each message that a peer told the master, or a worker its foreman, is a report that a frame takes.
abbrev pub EveryReportFits : Function → Failures → Type 0
EveryReportFits gives may_fail =
    (P : Plan) (O : Options) (sources : Contents) (fresh : State) (events : List WorldEvent)
    (w : World) (p : ℕ) (to : Party) (m : Message) → IsValid P → AreSources P sources
    → Reaches P O gives may_fail (first_world P O sources fresh) events w
    → Stands (told_to to p m) w.bag → TellsTo w.peers p to → IsReport m
