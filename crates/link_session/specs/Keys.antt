-- The keys that a peer was sent.
use Rattle.std.specs.Prelude.{◌≡◌, ℕ, ◌==◌, Bool, ◌&&◌, if◌then◌else◌, List, [], ◌∷◌, ◌++◌}
use Rattle.std.specs.List.{list_any}
use Rattle.indexmap.specs.IndexSet.{swap_remove_by}
use Rattle.flow_types.specs.declared.messages.Key.{Key}
use Rattle.flow_types.specs.declared.numbers.FileNo.{FileNo}
use Rattle.flow_types.specs.declared.plan.Port.{Port}

-- the same run and file
abbrev pub same_key : Key → Key → Bool
same_key a b = (a.run == b.run) && (a.file.0 == b.file.0)

-- the key of a run's file
abbrev pub key_of : ℕ → FileNo → Key
key_of run file = record { run = run; file = file }

-- the key is among these
abbrev pub contains_key : Key → List Key → Bool
contains_key key known = list_any (same_key key) known

-- the files of these inputs whose keys aren't known, each once, in their order
abbrev pub lacking : List Key → ℕ → List Port → List FileNo
lacking known run [] = []
lacking known run (port ∷ ports) =
    if contains_key (key_of run port.file) known then lacking known run ports
    else port.file ∷ lacking (known ++ key_of run port.file ∷ []) run ports

-- the keys that are known once these inputs were sent
abbrev pub learned : List Key → ℕ → List Port → List Key
learned known run [] = known
learned known run (port ∷ ports) =
    if contains_key (key_of run port.file) known then learned known run ports
    else learned (known ++ key_of run port.file ∷ []) run ports

-- without this key; the last one takes its place
abbrev pub forgotten : List Key → Key → List Key
forgotten known key = swap_remove_by (same_key key) known

-- without the keys of these files
abbrev pub all_forgotten : List Key → ℕ → List FileNo → List Key
all_forgotten known run [] = known
all_forgotten known run (file ∷ files) = all_forgotten (forgotten known (key_of run file)) run files

-- Some keys stand behind the old ones, or none.
abbrev pub Begins : List Key → List Key → Type 0
Begins old new = (more : List Key) × (new ≡ old ++ more)
