-- The files that a rule names.
use Rattle.std.specs.Prelude.{ℕ, List, [], ◌∷◌, Option, Some, None, Ok, Err, map, flat_map, codes}
use Rattle.flow_types.specs.declared.flow.RawFile.{RawFile}
use Rattle.flow_types.specs.declared.flow.SizeBound.{SizeBound}
use Rattle.jx_meaning.specs.Values.{Value, Entry, find}
use Rattle.jx_values.specs.Kinds.{text_in, entries_in}
use Rattle.jx_flow.specs.declared.fault.JxFlowFault.TheVariants.{FieldKind}
use Rattle.jx_flow.specs.declared.files.Output.{Output}
use Rattle.jx_flow.specs.Reading.{Found, and_then, required, each, items_of, optional_text, required_text, optional_number}

-- a file of an object: its name, and perhaps the one that the command uses
abbrev pub named_file : Option ℕ → List Entry → Found RawFile
named_file rule es =
    and_then (required_text rule (codes "dag_name") es) (λ local.
    and_then (optional_text rule (codes "task_name") es) (λ remote. Ok (record { local = local; remote = remote })))

-- a file by the text or the object that names it
abbrev pub file_by : Option ℕ → List ℕ → Option (List ℕ) → Option (List Entry) → Found RawFile
file_by rule name (Some t) es = Ok (record { local = t; remote = None })
file_by rule name None (Some es) = named_file rule es
file_by rule name None None = Err (FieldKind rule name)

-- the file that an item of this field names
abbrev pub file_of : Option ℕ → List ℕ → Value → Found RawFile
file_of rule name v = file_by rule name (text_in v) (entries_in v)

-- the bound of an object, where it states one
abbrev pub bound_by : Option ℕ → Option (List Entry) → Found (Option ℕ)
bound_by rule None = Ok None
bound_by rule (Some es) = optional_number rule (codes "size") 67108864 es

-- an output and its bound
abbrev pub output_of : Option ℕ → Value → Found Output
output_of rule v =
    and_then (file_of rule (codes "outputs") v) (λ file.
    and_then (bound_by rule (entries_in v)) (λ bound. Ok (record { file = file; bound = bound })))

-- the outputs; they must be there
abbrev pub outputs_of : Option ℕ → List Entry → Found (List Output)
outputs_of rule es =
    and_then (required rule (codes "outputs") (items_of rule (codes "outputs")) (find (codes "outputs") es)) (λ vs. each (output_of rule) vs)

-- the inputs, none where they aren't there
abbrev pub inputs_by : Option ℕ → Option Value → Found (List RawFile)
inputs_by rule None = Ok []
inputs_by rule (Some v) = and_then (items_of rule (codes "inputs") v) (λ vs. each (file_of rule (codes "inputs")) vs)

-- the inputs of a rule
abbrev pub inputs_of : Option ℕ → List Entry → Found (List RawFile)
inputs_of rule es = inputs_by rule (find (codes "inputs") es)

-- ---- what the flow takes of outputs

-- the bound by the file's name
abbrev pub bound_line : List ℕ → Option ℕ → List SizeBound
bound_line name None = []
bound_line name (Some bytes) = record { name = name; bytes = bytes } ∷ []

-- the files alone
abbrev pub files_in : List Output → List RawFile
files_in os = map (λ (o : Output). o.file) os

-- the bounds alone
abbrev pub bounds_in : List Output → List SizeBound
bounds_in os = flat_map (λ (o : Output). bound_line o.file.local o.bound) os
