-- Made files that are present, as a table knows them.
use Rattle.std.specs.Prelude.{◌&&◌, ◌∷◌, [], ℕ, Bool, List, is_some, if◌then◌else◌}
use Rattle.flow_types.specs.Plans.{maker_of}
use Rattle.run_history.specs.Storage.{size_in}
use Rattle.task_core.specs.States.{TableState, file_at}

-- the file is made, and present
abbrev pub is_there : TableState → ℕ → Bool
is_there t f = is_some (maker_of t.plan f) && is_some (size_in (file_at t f))

-- the number, where the test holds
abbrev pub put_where : Bool → ℕ → List ℕ
put_where test f = if test then (f ∷ []) else []
