-- What a link in memory serves, as a worker would whose commands leave each output empty.
use Rattle.std.specs.Prelude.{◌≡◌, ℕ, ◌==◌, Bool, ◌&&◌, List, [], ◌∷◌, ◌++◌, map, if◌then◌else◌}
use Rattle.std.specs.List.{list_all, list_any, flat_map}
use Rattle.flow_types.specs.declared.numbers.Amounts.{Amounts}
use Rattle.flow_types.specs.declared.job.Outcome.TheVariants.{Success}
use Rattle.flow_types.specs.declared.job.Task.{Task}
use Rattle.flow_types.specs.declared.job.Want.{Want}
use Rattle.flow_types.specs.declared.messages.Key.{Key}
use Rattle.flow_types.specs.declared.messages.Message.{Message}
use Rattle.flow_types.specs.declared.messages.Message.TheVariants as messages
use Rattle.flow_types.specs.declared.plan.Port.{Port}
use Rattle.message_forms.specs.Streams.{BeginsWith, IsStream, framed}
use Rattle.mem_links.specs.declared.mem_link.LinkStep.{LinkStep}
use Rattle.mem_links.specs.declared.mem_link.LinkStep.TheVariants as steps

-- What is offered, the keys that were put, and the bytes behind the last message that came whole.
pub record ServerState : Type 0 where
  pub total : Amounts
  pub cache : ℕ
  pub keys : List Key
  pub rest : List ℕ

-- to which nothing came yet
abbrev pub new_server : Amounts → ℕ → ServerState
new_server total cache = record { total = total; cache = cache; keys = []; rest = [] }

-- its first message: one job may take all that there is
abbrev pub hello : Amounts → ℕ → Message
hello total cache = messages.Hello total total cache

-- the same run and file
abbrev pub same_key : Key → Key → Bool
same_key a b = (a.run == b.run) && (a.file.0 == b.file.0)

-- the key is among these
abbrev pub contains_key : Key → List Key → Bool
contains_key key keys = list_any (λ other. same_key other key) keys

-- each input of a task of this run is among these
abbrev pub contains_inputs : List Key → ℕ → List Port → Bool
contains_inputs keys run ports =
    list_all (λ port. contains_key (record { run = run; file = port.file }) keys) ports

-- an empty content for each output
abbrev pub blanks : List Want → List (List ℕ)
blanks outputs = map (λ want. []) outputs

-- the result of a task
abbrev pub done_of : Task → Message
done_of task = messages.Done task.attempt (Success (blanks task.outputs))

-- the key that a message puts
abbrev pub key_put : Message → List Key
key_put (messages.Put key content) = key ∷ []
key_put _ = []

-- the keys that these messages put
abbrev pub keys_put : List Message → List Key
keys_put ms = flat_map key_put ms

-- what is answered to a message where these keys were put: a task that has its inputs is done
abbrev pub answer : List Key → Message → List Message
answer keys (messages.Task task) =
    if contains_inputs keys task.run task.inputs then done_of task ∷ [] else []
answer keys _ = []

-- what is answered to these messages, one after the other
abbrev pub answers : List Key → List Message → List Message
answers keys [] = []
answers keys (m ∷ ms) = answer keys m ++ answers (keys ++ key_put m) ms

-- the steps that give these messages, a frame each
abbrev pub given : List Message → List LinkStep
given ms = map (λ m. steps.Give (framed m)) ms

-- The bytes begin with no whole frame of a message.
abbrev pub BeginsNone : List ℕ → Type 0
BeginsNone bytes = (m : Message) → BeginsWith bytes (m ∷ []) → ⊥

-- These messages came, and this is left.
pub record Comes (bytes : List ℕ) (ms : List Message) (rest : List ℕ) : Type 0 where
  pub parts : IsStream bytes ms rest
  pub no_more : BeginsNone rest

-- What came of some bytes: the server after them, and what it gives.
pub record Hears (old : ServerState) (bytes : List ℕ) (new : ServerState)
    (gives : List LinkStep) : Type 0 where
  pub messages : List Message
  pub rest : List ℕ
  pub came : Comes (old.rest ++ bytes) messages rest
  pub server : new ≡ record old { keys = old.keys ++ keys_put messages; rest = rest }
  pub answered : gives ≡ given (answers old.keys messages)

-- These bytes are the messages that came and a rest that begins none; their keys stand behind the
-- old ones, and what is given for them behind what was given.
pub record HearsAll (bytes : List ℕ) (keys : List Key) (gives : List LinkStep) (rest : List ℕ)
    (keys_now : List Key) (gives_now : List LinkStep) : Type 0 where
  pub messages : List Message
  pub came : Comes bytes messages rest
  pub keys_are : keys_now ≡ keys ++ keys_put messages
  pub gives_are : gives_now ≡ gives ++ given (answers keys messages)
