-- What was put before a task was said.
use Rattle.std.specs.Prelude.{◌≡◌, ◌⊎◌, ℕ, List, [], ◌∷◌, ◌++◌, map, Option, Some, None, IsTrue}
use Rattle.std.specs.List.{AllByRecursion}
use Rattle.flow_types.specs.declared.job.Task.{Task}
use Rattle.flow_types.specs.declared.messages.Key.{Key}
use Rattle.flow_types.specs.declared.messages.Message.{Message}
use Rattle.flow_types.specs.declared.messages.Message.TheVariants as messages
use Rattle.flow_types.specs.declared.numbers.FileNo.{FileNo}
use Rattle.flow_types.specs.Plans.{contains_number, files_of}
use Rattle.links.specs.Honesty.{key_of}
use Rattle.link_session.specs.Keys as session
use Rattle.link_session.specs.Keys.{forgotten, lacking, learned}
use Rattle.link_session.specs.Sessions.{State, told}
use Rattle.message_forms.specs.Streams.{IsAmong}

-- A content was put under the key.
abbrev pub IsPut : List Message → Key → Type 0
IsPut said key = (content : List ℕ) × IsAmong (messages.Put key content) said

-- The key is one of these.
abbrev pub IsOneOf : Key → List Key → Type 0
IsOneOf key [] = ⊥
IsOneOf key (k ∷ ks) = (key ≡ k) ⊎ IsOneOf key ks

-- It was put, or is one of those that are left to be put.
abbrev pub IsPutOrLeft : List Message → List Key → Key → Type 0
IsPutOrLeft said left key = IsPut said key ⊎ IsOneOf key left

-- The task was said behind all that it takes in.
pub record WasProvided (said : List Message) (t : Task) : Type 0 where
  pub before : List Message
  pub after : List Message
  pub row : said ≡ before ++ messages.Task t ∷ after
  pub inputs : (f : ℕ) → IsTrue (contains_number f (files_of t.inputs))
      → IsPut before (key_of t.run f)

-- Each key that is known was put or is left to be put, the inputs of a task that waits are known,
-- and each task was said behind all that it takes in.
pub record Provides (known : List Key) (said : List Message) (waiting : Option Task)
    (left : List Key) : Type 0 where
  pub put_or_left : AllByRecursion (IsPutOrLeft said left) known
  pub waits : (t : Task) → waiting ≡ Some t → (f : ℕ)
      → IsTrue (contains_number f (files_of t.inputs)) → IsOneOf (key_of t.run f) known
  pub provided : (t : Task) → IsAmong (messages.Task t) said → WasProvided said t

-- the keys of these files
abbrev pub keys_of : ℕ → List FileNo → List Key
keys_of run files = map (λ file. session.key_of run file) files

-- It is so of a session in which nothing was said.
abbrev pub ProvidesFirst : Type 0
ProvidesFirst = Provides [] [] None []

-- Once a task is opened, the files of its inputs that weren't known are left.
abbrev pub ProvidesOpened : Type 0
ProvidesOpened = (known : List Key) (said : List Message) (t : Task)
    → Provides known said None []
    → Provides (learned known t.run t.inputs) said (Some t)
    (keys_of t.run (lacking known t.run t.inputs))

-- Once a key is put, it isn't left.
abbrev pub ProvidesPut : Type 0
ProvidesPut = (known left : List Key) (said : List Message) (waiting : Option Task) (key : Key)
    (content : List ℕ) → Provides known said waiting (key ∷ left)
    → Provides known (said ++ messages.Put key content ∷ []) waiting left

-- It stays so where a message is said that is no task.
abbrev pub ProvidesSaid : Type 0
ProvidesSaid = (known left : List Key) (said : List Message) (waiting : Option Task) (m : Message)
    → ((t : Task) → messages.Task t ≡ m → ⊥) → Provides known said waiting left
    → Provides known (said ++ m ∷ []) waiting left

-- Once nothing is left, the task may be said.
abbrev pub ProvidesAsked : Type 0
ProvidesAsked = (known : List Key) (said : List Message) (t : Task)
    → Provides known said (Some t) []
    → Provides known (said ++ messages.Task t ∷ []) None []

-- A task that was said may be said again.
abbrev pub ProvidesAgain : Type 0
ProvidesAgain = (known : List Key) (said : List Message) (t : Task)
    → IsAmong (messages.Task t) said → Provides known said None []
    → Provides known (said ++ messages.Task t ∷ []) None []

-- It stays so whatever is heard.
abbrev pub ProvidesHeard : Type 0
ProvidesHeard = (s : State) (said : List Message) (m : Message)
    → Provides s.known said None [] → Provides (told s m).state.known said None []

-- It stays so where a file is dropped.
abbrev pub ProvidesDropped : Type 0
ProvidesDropped = (known : List Key) (said : List Message) (key : Key)
    → Provides known said None [] → Provides (forgotten known key) said None []
