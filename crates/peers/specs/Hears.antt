-- What a peer tells by its next message.
use Rattle.std.specs.Prelude.{◌≡◌, ◌≤◌, ◌⊎◌, ℕ, List, [], ◌∷◌, ◌++◌, None, Result, Ok, Err}
use Rattle.flow_types.specs.declared.job.Failure.{Failure}
use Rattle.flow_types.specs.declared.job.Job.{Job}
use Rattle.flow_types.specs.declared.job.Outcome.{Outcome}
use Rattle.flow_types.specs.declared.job.Outcome.TheVariants as outcomes
use Rattle.flow_types.specs.declared.job.Task.{Task}
use Rattle.flow_types.specs.declared.messages.Message.{Message}
use Rattle.flow_types.specs.declared.messages.Message.TheVariants as messages
use Rattle.flow_types.specs.declared.numbers.AttemptNo.{AttemptNo}
use Rattle.flow_types.specs.declared.numbers.FileNo.{FileNo}
use Rattle.flow_types.specs.Serial.{Contents, Function, given_by}
use Rattle.link_session.specs.declared.word.Word.{Word}
use Rattle.link_session.specs.declared.word.Word.TheVariants as words
use Rattle.link_session.specs.declared.word.SessionFault.TheVariants as faults
use Rattle.link_session.specs.Laws.{Closes, ended_by_word}
use Rattle.link_session.specs.Sessions.{State, told}
use Rattle.links.specs.declared.passing.Passed.{Passed}
use Rattle.links.specs.Honesty.{task_job}
use Rattle.links.specs.Ill.{Misspeaks, OutcomeFits, TakesIn}
use Rattle.links.specs.Passings.{received_in, sent_in}
use Rattle.message_forms.specs.Streams.{IsAmong, IsBroken, IsFramed, framed}
use Rattle.outside.specs.Jobs.{IsHonest}
use Rattle.wq_frames.specs.Frames.{front, part}
use Rattle.wq_frames.specs.Streams.{Stream}
use Rattle.wq_messages.specs.Views.{contents_of_outcome}
use Rattle.peers.specs.declared.leave.Leave.{Leave}
use Rattle.peers.specs.declared.leave.Leave.TheVariants as leaves
use Rattle.peers.specs.declared.told.Told.{Told}
use Rattle.peers.specs.declared.told.Told.TheVariants as tell
use Rattle.peers.specs.Serves.{AreDue, Serves, Stands, WasHonest, missings_of}

-- the outputs that a message brings
abbrev pub made_in : Message → List (List ℕ)
made_in (messages.Done attempt outcome) = contents_of_outcome outcome
made_in _ = []

-- a session's word, with what its message brings
abbrev pub told_as : Word → Message → Told
told_as (words.Joined total largest cache) m = tell.Joined total largest cache
told_as (words.Changed total largest cache) m = tell.Changed total largest cache
told_as (words.Finish attempt) m = tell.Finish attempt (made_in m)
told_as (words.Fail attempt why) m = tell.Fail attempt why
told_as (words.Lose attempt) m = tell.Lose attempt
told_as (words.PutAgain attempt files) m = tell.PutAgain attempt files
told_as (words.Stale attempt) m = tell.Stale attempt

-- What a message means, and the session after it.
abbrev pub Turns : State → Message → Result Told Leave → State → Type 0
Turns before m (Ok t) after = (word : Word) × ((told before m).answer ≡ Ok word)
    × (after ≡ (told before m).state) × Closes (ended_by_word word) before.attempts after.attempts
    × (t ≡ told_as word m)
Turns before m (Err leaves.Unexpected) after =
    ((told before m).answer ≡ Err faults.Unexpected) × (after ≡ (told before m).state)
Turns before m (Err leaves.Memory) after = Unit {0}
Turns before m (Err leaves.Closed) after = ⊥
Turns before m (Err leaves.Failed) after = ⊥
Turns before m (Err leaves.Bad) after = ⊥

-- The message was taken off the front.
pub record Takes (m : Message) (old new : Stream) : Type 0 where
  pub whole : IsFramed m
  pub parts : old.rest ≡ framed m ++ new.rest
  pub going : new.stop ≡ None

-- A message was taken off the front, and it means this.
abbrev pub Means : Stream → State → Result Told Leave → Stream → State → Type 0
Means old before t new after = (m : Message) × Takes m old new × Turns before m t after

-- less than a whole message is there, and nothing changes
abbrev pub Waits : Stream → State → Stream → State → Type 0
Waits old before new after = (front old.rest ≡ part) × (new ≡ old) × (after ≡ before)

-- What is told by the next message, and what is left of the stream and made of the session.
abbrev pub Hears : Stream → State → Result Told Leave → Stream → State → Type 0
Hears old before (Ok tell.Nothing) new after = Waits old before new after
Hears old before (Ok t) new after = Means old before (Ok t) new after
Hears old before (Err leaves.Bad) new after = IsBroken old.rest × (after ≡ before)
Hears old before (Err leaves.Unexpected) new after =
    Means old before (Err leaves.Unexpected) new after
Hears old before (Err leaves.Memory) new after = Unit {0}
Hears old before (Err leaves.Closed) new after = ⊥
Hears old before (Err leaves.Failed) new after = ⊥

-- The outcome was heard, and fits a task that was said under the attempt; and where what was put is
-- due and the link was honest, it is the one that the task's job over what is due may have.
pub record IsResult (gives : Function) (may_fail : Job → Failure → Type 0) (history : List Passed)
    (said heard : List Message) (attempt : AttemptNo) (outcome : Outcome) : Type 0 where
  pub came : IsAmong (messages.Done attempt outcome) heard
  pub task : Task
  pub of_attempt : task.attempt ≡ attempt
  pub asked : IsAmong (messages.Task task) said
  pub fits : OutcomeFits task outcome
  pub honest : (due : Contents) → AreDue due said → WasHonest gives may_fail history
      → IsHonest (given_by gives (task_job task due)) (may_fail (task_job task due)) outcome

-- how often a peer lacks inputs of an attempt when it is lost
abbrev pub most_missings : ℕ
most_missings = 3

-- A task of the attempt was said that takes in these files.
abbrev pub LacksInputs : List Message → AttemptNo → List FileNo → Type 0
LacksInputs said attempt files = (t : Task) × (t.attempt ≡ attempt)
    × IsAmong (messages.Task t) said × TakesIn t files

-- What is so of what was told, with all that was said and heard by then.
abbrev pub IsTold : Function → (Job → Failure → Type 0) → List Passed → List Message
    → List Message → Told → Type 0
IsTold gives may_fail history said heard tell.Nothing = Unit {0}
IsTold gives may_fail history said heard (tell.Joined total largest cache) =
    heard ≡ messages.Hello total largest cache ∷ []
IsTold gives may_fail history said heard (tell.Changed total largest cache) =
    IsAmong (messages.Totals total largest cache) heard
IsTold gives may_fail history said heard (tell.Finish attempt outs) =
    IsResult gives may_fail history said heard attempt (outcomes.Success outs)
IsTold gives may_fail history said heard (tell.Fail attempt why) =
    IsResult gives may_fail history said heard attempt (outcomes.Failed why)
IsTold gives may_fail history said heard (tell.Lose attempt) =
    IsAmong (messages.Done attempt outcomes.NotRun) heard
    ⊎ (most_missings ≤ missings_of attempt heard)
IsTold gives may_fail history said heard (tell.PutAgain attempt files) =
    LacksInputs said attempt files
IsTold gives may_fail history said heard (tell.Stale attempt) = Unit {0}

-- The peer is served with one message more heard, and what was told is so.
pub record Tells (gives : Function) (may_fail : Job → Failure → Type 0) (history : List Passed)
    (feed : Stream) (session : State) (said heard : List Message) (t : Told) : Type 0 where
  pub message : Message
  pub serves : Serves gives may_fail history feed session said (heard ++ message ∷ []) None
  pub is_so : IsTold gives may_fail history said (heard ++ message ∷ []) t

-- The peer is served on, with what it told; or its link is left, and it has misspoken.
abbrev pub ServesOn : Function → (Job → Failure → Type 0) → List Passed → List Message
    → List Message → Result Told Leave → Stream → State → Type 0
ServesOn gives may_fail history said heard (Ok tell.Nothing) feed session =
    Serves gives may_fail history feed session said heard None
ServesOn gives may_fail history said heard (Ok t) feed session =
    Tells gives may_fail history feed session said heard t
ServesOn gives may_fail history said heard (Err leaves.Memory) feed session =
    Stands history said heard
ServesOn gives may_fail history said heard (Err leave) feed session =
    Stands history said heard × Misspeaks (sent_in history) (received_in history)

-- What a sure peer tells: no end of an attempt but a success, nothing that is put again, and no
-- reason to leave its link but want of memory.
abbrev pub IsCalm : Result Told Leave → Type 0
IsCalm (Ok tell.Nothing) = Unit {0}
IsCalm (Ok (tell.Joined total largest cache)) = Unit {0}
IsCalm (Ok (tell.Changed total largest cache)) = Unit {0}
IsCalm (Ok (tell.Finish attempt outs)) = Unit {0}
IsCalm (Ok (tell.Fail attempt why)) = ⊥
IsCalm (Ok (tell.Lose attempt)) = ⊥
IsCalm (Ok (tell.PutAgain attempt files)) = ⊥
IsCalm (Ok (tell.Stale attempt)) = Unit {0}
IsCalm (Err leaves.Memory) = Unit {0}
IsCalm (Err leave) = ⊥
