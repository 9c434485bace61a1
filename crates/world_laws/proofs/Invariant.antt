-- What holds of every world that a list of events leads to, in parts.
use Rattle.std.proofs.Common.{◌≡◌, ℕ, true, false, List, [], ◌∷◌, Option, Some, None}
use Rattle.std.specs.Prelude.{slice_get, is_some, ◌⊎◌}
use Rattle.flow_types.specs.declared.plan.Plan.{Plan}
use Rattle.flow_types.specs.declared.plan.Rule.{Rule}
use Rattle.flow_types.specs.declared.job.Outcome.{Outcome}
use Rattle.flow_types.specs.declared.job.Start.{Start}
use Rattle.flow_types.specs.declared.job.Task.{Task}
use Rattle.flow_types.specs.declared.numbers.AttemptNo.{AttemptNo}
use Rattle.flow_types.specs.declared.numbers.LinkNo.{LinkNo}
use Rattle.flow_types.specs.declared.messages.Key.{Key}
use Rattle.flow_types.specs.declared.messages.Message.{Message}
use Rattle.flow_types.specs.declared.messages.Message.TheVariants as messages
use Rattle.flow_types.specs.declared.records.Record.{Record}
use Rattle.flow_types.specs.declared.records.Record.TheVariants as records
use Rattle.flow_types.specs.Plans.{IsValid, is_empty}
use Rattle.flow_types.specs.Serial.{Contents, Function, job_of, serial}
use Rattle.links.specs.Honesty.{task_job}
use Rattle.rule_graph.specs.Spelling.{plan_digest}
use Rattle.run_history.specs.History.{part}
use Rattle.run_history.specs.Legal.{is_legal}
use Rattle.run_history.specs.Storage.{is_present}
use Rattle.worker_cache.specs.Caches.{Rows}
use Rattle.foreman_core.specs.declared.acts.Down.{Down}
use Rattle.foreman_core.specs.Members as lists
use Rattle.foreman_core.specs.Right as foremen
use Rattle.world_peers.specs.declared.sent.Party.{Party}
use Rattle.world_peers.specs.declared.sent.Party.TheVariants.{Master, Peer}
use Rattle.world_peers.specs.declared.sent.Sent.{Sent}
use Rattle.world_laws.specs.Members.{Stands, Every}
use Rattle.world_peers.specs.declared.member.Member.{Member}
use Rattle.world_peers.specs.declared.member.Member.TheVariants.{Leads, Works}
use Rattle.world_peers.specs.Company.{party_of}
use Rattle.world_laws.specs.Worlds.{World, rule_at, task_with, records_in}
use Rattle.world_peers.specs.Peers.{Machine, Lead, told_to, down_to}
use Rattle.world_peers.specs.Runs.{Failures}
use Rattle.world_laws.specs.Reach.{MayEnd}
use Rattle.world_laws.specs.Laws.{IsAnswer, IsHandedOn, IsReport, IsLocal, RunsItsJobs, WentOut, task_sent}

-- the plan, which is valid, what its commands do, and the sources, on which all contents hang
pub record Setting : Type 1 where
  pub plan : Plan
  pub gives : Function
  pub may_fail : Failures
  pub sources : Contents
  pub valid : IsValid plan

-- the contents of the serial run
abbrev pub due : Setting → Contents
due S = serial S.plan S.gives S.sources

-- the rule for which an attempt was started
pub record IsStarted (P : Plan) (H : List Record) (a : ℕ) : Type 0 where
  pub number : ℕ
  pub rule : Rule
  pub started : rule_at H a ≡ Some number
  pub in_plan : slice_get P.rules number ≡ Some rule

-- the task of a started attempt
abbrev pub IsOurTask : Setting → List Record → Task → Type 0
IsOurTask S H t = (s : IsStarted S.plan H t.attempt.0) × (t ≡ task_with S.plan s.rule t.attempt t.run)

-- an outcome of a started attempt, over the contents of the serial run
abbrev pub IsOurOutcome : Setting → List Record → ℕ → Outcome → Type 0
IsOurOutcome S H a outcome =
    (s : IsStarted S.plan H a) × MayEnd S.gives S.may_fail (job_of S.plan s.rule (due S)) outcome

-- an answer to a task of the bag, over the contents of the serial run
abbrev pub IsOurAnswer : Setting → List Sent → Party → Party → AttemptNo → Outcome → Type 0
IsOurAnswer S bag from to attempt outcome = IsAnswer S.gives S.may_fail (due S) bag from to attempt outcome

-- a task that may stand in the bag, by who sent it
abbrev pub IsRightTask : Setting → List Record → List Sent → Party → Task → Type 0
IsRightTask S H bag Master t = IsOurTask S H t
IsRightTask S H bag (Peer p) t = IsHandedOn bag p t

-- a message that may stand in the bag
abbrev pub IsRightMessage : Setting → List Record → List Sent → Party → Party → Message → Type 0
IsRightMessage S H bag from to (messages.Put key content) = due S key.file.0 ≡ Some content
IsRightMessage S H bag from to (messages.Task t) = IsRightTask S H bag from t
IsRightMessage S H bag from to (messages.Done attempt outcome) = IsOurAnswer S bag to from attempt outcome
IsRightMessage S H bag from to _ = Unit {0}

-- the same with its two ends
abbrev pub IsRight : Setting → List Record → List Sent → Sent → Type 0
IsRight S H bag sent = IsRightMessage S H bag sent.from sent.to sent.message

-- the content is that of the serial run
abbrev pub IsDue : Setting → Key → List ℕ → Type 0
IsDue S key content = due S key.file.0 ≡ Some content

-- each row has the fact
abbrev pub AllRows : (Key → List ℕ → Type 0) → Rows → Type 0
AllRows P [] = Unit {0}
AllRows P (row ∷ rows) = P row.0 row.1.content × AllRows P rows

-- a message that the master may send
abbrev pub IsSendable : Setting → List Record → List Sent → Sent → Type 0
IsSendable S H bag sent = IsRight S H bag sent × (sent.from ≡ Master)

-- a job that a worker was told to start has its task in the bag, and is over the serial run's contents
pub record IsRightJob (S : Setting) (bag : List Sent) (home : Party) (p : ℕ) (s : Start) : Type 0 where
  pub task : Task
  pub numbered : task.attempt ≡ s.attempt
  pub stands : Stands (task_sent home (Peer p) task) bag
  pub job_is : s.job ≡ task_job task (due S)

-- a peer has said nothing
abbrev pub SaysNone : List Sent → ℕ → Type 0
SaysNone bag p = (to : Party) (m : Message) → Stands (told_to to p m) bag → ⊥

-- a peer has sent reports alone
abbrev pub SaysReports : List Sent → ℕ → Type 0
SaysReports bag p = (to : Party) (m : Message) → Stands (told_to to p m) bag → IsReport m

-- what a worker holds is due, its jobs are right, they are those of the attempts that run, and it sends reports alone
pub record IsRightPeer (S : Setting) (bag : List Sent) (home : Party) (p : ℕ) (machine : Machine) : Type 0 where
  pub held : AllRows (IsDue S) machine.worker.cache.rows
  pub jobs : Every (IsRightJob S bag home p) machine.jobs
  pub same : RunsItsJobs machine
  pub reports : SaysReports bag p

-- the end of an attempt that was told to a foreman stands in the bag
abbrev pub IsHeardBelow : List Sent → ℕ → Message → Type 0
IsHeardBelow bag p (messages.Done attempt outcome) =
    (q : ℕ) × Stands (told_to (Peer p) q (messages.Done attempt outcome)) bag
IsHeardBelow bag p _ = Unit {0}

-- a task that a foreman handed on, among all that it sent down
abbrev pub IsAmong : List Down → Task → Type 0
IsAmong sent t = (k : LinkNo) × lists.Stands (let down : Down = record { link = k; message = messages.Task t } in down) sent

-- A foreman is right over some messages that it heard from above and below and some that it sent: those stand in the bag, and
-- each task that it handed on is among these. It tells the master reports alone.
pub record IsRightLead (S : Setting) (bag : List Sent) (p : ℕ) (lead : Lead) : Type 0 where
  pub above : List Message
  pub below : List Down
  pub down : List Down
  pub heard : lists.Every (λ m. Stands (down_to p m) bag) above
  pub told : lists.Every (λ d. IsHeardBelow bag p d.message) below
  pub handed : (q : ℕ) (t : Task) → Stands (task_sent (Peer p) (Peer q) t) bag → IsAmong down t
  pub said : (m : Message) → Stands (told_to Master p m) bag → IsReport m
  pub right : foremen.IsRight above down lead.foreman

-- a peer, or nobody
abbrev pub IsRightPlace : Setting → List Sent → ℕ → Option Member → Type 0
IsRightPlace S bag p None = SaysNone bag p
IsRightPlace S bag p (Some (Works home machine)) = IsRightPeer S bag (party_of home) p machine
IsRightPlace S bag p (Some (Leads lead)) = IsRightLead S bag p lead

-- a Done has a cause
abbrev pub IsRightRecord : List Record → List Sent → Record → Type 0
IsRightRecord H bag (records.Done moment rule attempt outs) = IsLocal H attempt ⊎ WentOut bag attempt
IsRightRecord H bag _ = Unit {0}

-- the records are legal, and a part is begun
pub record IsRecorded (P : Plan) (H : List Record) : Type 0 where
  pub legal : is_legal P (plan_digest P) H ≡ true
  pub opened : is_empty (part H) ≡ false

-- what the master holds is due, and it holds what is present
pub record IsStored (S : Setting) (H : List Record) (contents : Contents) : Type 0 where
  pub sound : (f : ℕ) (content : List ℕ) → contents f ≡ Some content → due S f ≡ Some content
  pub present : (f : ℕ) → is_present S.plan H f ≡ true → is_some (contents f) ≡ true

-- the world
pub record IsKept (S : Setting) (w : World) : Type 0 where
  pub recorded : IsRecorded S.plan (records_in w)
  pub stored : IsStored S (records_in w) w.contents
  pub sent : Every (IsRight S (records_in w) w.bag) w.bag
  pub peers : (p : ℕ) → IsRightPlace S w.bag p (slice_get w.peers p)
  pub closed : Every (IsRightRecord (records_in w) w.bag) (records_in w)
