-- The bytes of a plan, of which its digest is taken.
use Rattle.std.specs.Prelude.{ℕ, Bool, true, false, List, [], ◌∷◌, ◌++◌, length, Option, Some, None, flat_map}
use Rattle.std.specs.Int.{to_be_bytes, w32, w64}
use Rattle.sha2.specs.Sha256.{sha256}
use Rattle.flow_types.specs.declared.plan.Plan.{Plan}
use Rattle.flow_types.specs.declared.plan.Rule.{Rule}
use Rattle.flow_types.specs.declared.plan.FileRow.{FileRow}
use Rattle.flow_types.specs.declared.plan.Port.{Port}
use Rattle.flow_types.specs.declared.flow.Pair.{Pair}
use Rattle.flow_types.specs.declared.numbers.RuleNo.{RuleNo}

-- a length, and that many bytes
abbrev pub text_bytes : List ℕ → List ℕ
text_bytes text = to_be_bytes w32 (length text) ++ text

-- a count, and each item
abbrev pub counted_bytes : {A : Type 0} → (A → List ℕ) → List A → List ℕ
counted_bytes spell items = to_be_bytes w32 (length items) ++ flat_map spell items

-- name, then value
abbrev pub pair_bytes : Pair → List ℕ
pair_bytes pair = text_bytes pair.name ++ text_bytes pair.value

-- the file's number in four bytes, then the remote name
abbrev pub port_bytes : Port → List ℕ
port_bytes port = to_be_bytes w32 port.file.0 ++ text_bytes port.remote

-- command, environment, inputs, outputs, and the bound in eight bytes
abbrev pub rule_bytes : Rule → List ℕ
rule_bytes rule =
    text_bytes rule.command ++ counted_bytes pair_bytes rule.env ++ counted_bytes port_bytes rule.inputs
    ++ counted_bytes port_bytes rule.outputs ++ to_be_bytes w64 rule.bound

-- 0 for a source; 1 and the rule's number in four bytes for a made file
abbrev pub maker_bytes : Option RuleNo → List ℕ
maker_bytes None = 0 ∷ []
maker_bytes (Some rule) = 1 ∷ to_be_bytes w32 rule.0

-- 1 for true, 0 for false
abbrev pub flag_bytes : Bool → List ℕ
flag_bytes true = 1 ∷ []
flag_bytes false = 0 ∷ []

-- name, maker, kept, and the bound in eight bytes
abbrev pub file_bytes : FileRow → List ℕ
file_bytes row = text_bytes row.name ++ maker_bytes row.maker ++ flag_bytes row.kept ++ to_be_bytes w64 row.bound

-- The rules and then the files; needs and the local mark may change between runs and aren't in it.
abbrev pub plan_bytes : Plan → List ℕ
plan_bytes P = counted_bytes rule_bytes P.rules ++ counted_bytes file_bytes P.files

-- the digest of a plan
unfoldable pub plan_digest : Plan → List ℕ
plan_digest P = sha256 (plan_bytes P)
