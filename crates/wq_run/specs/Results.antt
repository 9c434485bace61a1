-- Where the results of attempts come from, by the records and by what passed over links.
use Rattle.std.specs.Prelude.{◌≡◌, ◌⊎◌, ℕ, Bool, true, List, [], ◌∷◌, ◌++◌, Option, Some, All, IsTrue, map}
use Rattle.std.specs.List.{list_any}
use Rattle.flow_types.specs.declared.numbers.AttemptNo.{AttemptNo}
use Rattle.flow_types.specs.declared.numbers.LinkNo.{LinkNo}
use Rattle.flow_types.specs.declared.numbers.RuleNo.{RuleNo}
use Rattle.flow_types.specs.declared.job.Outcome.{Outcome}
use Rattle.flow_types.specs.declared.job.Outcome.TheVariants as outcomes
use Rattle.flow_types.specs.declared.job.Task.{Task}
use Rattle.flow_types.specs.declared.messages.Message.{Message}
use Rattle.flow_types.specs.declared.messages.Message.TheVariants as messages
use Rattle.flow_types.specs.Plans.{contains_number, files_of}
use Rattle.flow_types.specs.declared.records.Record.{Record}
use Rattle.flow_types.specs.declared.records.Record.TheVariants as records
use Rattle.links.specs.declared.passing.Passed.{Passed}
use Rattle.links.specs.Honesty.{key_of}
use Rattle.links.specs.Passings.{received_in, sent_in}
use Rattle.message_forms.specs.Streams.{BeginsWith, Carries}
use Rattle.peers.specs.Provides.{IsPut}
use Rattle.desk.specs.Kept.{logged}
use Rattle.local_run.specs.Losses.{starts_on}
use Rattle.wq_run.specs.Losses.{GaveBack}

-- The peer told that the attempt ended so, and a task of the attempt was sent to it, behind a content for each file that it takes in.
pub record WasTold (past : List Passed) (attempt : AttemptNo) (outcome : Outcome) : Type 0 where
  pub came : Carries (received_in past) (messages.Done attempt outcome)
  pub task : Task
  pub of_attempt : task.attempt ≡ attempt
  pub before : List Message
  pub asked : BeginsWith (sent_in past) (before ++ (messages.Task task ∷ []))
  pub inputs : (f : ℕ) → IsTrue (contains_number f (files_of task.inputs)) → IsPut before (key_of task.run f)

-- What passed over a link shows why the record was logged by which an attempt there ended: that the attempt was given back, that contents of these sizes and digests came, or that this failure did.
abbrev pub ShowsEnd : Record → List Passed → Type 0
ShowsEnd (records.Lost moment rule attempt) past = GaveBack (received_in past) attempt
ShowsEnd (records.Done moment rule attempt rows) past = (outs : List (List ℕ)) × (rows ≡ map logged outs) × WasTold past attempt (outcomes.Success outs)
ShowsEnd (records.Failed moment rule attempt why) past = WasTold past attempt (outcomes.Failed why)
ShowsEnd _ past = Unit {0}

-- The attempt was started on one of these links, by its number, which shows the record.
pub record IsShownBy {L : Type 0} (history : L → List Passed) (links : List (Option LinkNo × L)) (all : List Record) (rule : RuleNo) (attempt : AttemptNo) (x : Record) : Type 0 where
  pub link : LinkNo
  pub started : list_any (starts_on link.0 rule.0 attempt.0) all ≡ true
  pub way : L
  pub earlier : List (Option LinkNo × L)
  pub later : List (Option LinkNo × L)
  pub among : links ≡ earlier ++ ((Some link, way) ∷ later)
  pub shown : ShowsEnd x (history way)

-- If the record tells how an attempt came to its end, that was started at the local place, or on one of these links, which shows it.
abbrev pub IsResultBy : {L : Type 0} → (L → List Passed) → List (Option LinkNo × L) → List Record → Record → Type 0
IsResultBy history links all (records.Done moment rule attempt rows) =
    (list_any (starts_on 0 rule.0 attempt.0) all ≡ true) ⊎ IsShownBy history links all rule attempt (records.Done moment rule attempt rows)
IsResultBy history links all (records.Failed moment rule attempt why) =
    (list_any (starts_on 0 rule.0 attempt.0) all ≡ true) ⊎ IsShownBy history links all rule attempt (records.Failed moment rule attempt why)
IsResultBy history links all _ = Unit {0}

-- More links were handed back and more records were logged, and each attempt that came to its end by these was started at the local place, or on one of these links over which its result came.
pub record AreResults {L : Type 0} (history : L → List Passed) (got got_now : List (Option LinkNo × L)) (H all : List Record) : Type 0 where
  pub links : List (Option LinkNo × L)
  pub back : got_now ≡ got ++ links
  pub more : List Record
  pub are : all ≡ H ++ more
  pub each : All (IsResultBy history links all) more
