-- Which names a log can't have.
use Rattle.std.specs.Prelude.{ℕ, Bool, ◌||◌, List, ◌∷◌, Option, Some, None, Result, Ok, Err, map, find}
use Rattle.std.specs.Str.{bytes_eq}
use Rattle.flow_types.specs.declared.plan.Plan.{Plan}
use Rattle.flow_types.specs.Names.{are_nested}
use Rattle.report.specs.declared.cause.Cause.{Cause}
use Rattle.report.specs.declared.cause.Cause.TheVariants.{LogNameTaken}

-- two names can't stand beside each other: they are the same, or one is a folder of the other
abbrev pub clash : List ℕ → List ℕ → Bool
clash a b = bytes_eq a b || are_nested a b

-- whose name the log's name can't stand beside: the flow file's, where there is one, else that of the least file of the plan
abbrev pub taken_name : List ℕ → Option (List ℕ) → Plan → Option (List ℕ)
taken_name log None P = find (clash log) (map (λ row. row.name) P.files)
taken_name log (Some flow) P = find (clash log) (flow ∷ map (λ row. row.name) P.files)

-- the plan, or the name
abbrev pub name_checked : Plan → Option (List ℕ) → Result Plan Cause
name_checked P None = Ok P
name_checked P (Some name) = Err (LogNameTaken name)

-- the plan, where the log can stand beside the flow file, if there is one, and each of its files
abbrev pub with_log_name : List ℕ → Option (List ℕ) → Plan → Result Plan Cause
with_log_name log flow P = name_checked P (taken_name log flow P)
