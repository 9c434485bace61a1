-- What the text read so far became, and what the pieces behind it make of that.
use Rattle.std.specs.Prelude.{◌≡◌, ◌≤◌, ◌+◌, ℕ, Bool, false, ◌||◌, List, ◌++◌, length, nat_lt, Option, Some, Result, string_bytes}
use Rattle.std.specs.List.{flat_map, list_any}
use Rattle.mf_text.specs.declared.fault.MakeFault.{MakeFault}
use Rattle.mf_text.specs.declared.output.Expanded.{Expanded}
use Rattle.mf_text.specs.declared.output.Output.{Output}
use Rattle.mf_text.specs.Expansion.{Piece, unknown_in, is_unclosed, becomes, shortened, settled}

-- what pieces make of what was written, with this room for values, where a mark stayed open before them or a value was left out
abbrev pub completed : (List ℕ → Option (List ℕ)) → ℕ → Bool → Bool → ℕ → List ℕ → List Piece → Result Expanded MakeFault
completed value line is_open is_shortened room text ps =
    settled line (flat_map (unknown_in value) ps) (is_open || list_any is_unclosed ps) (Some (record {
      text = text ++ shortened value room ps;
      is_too_large = is_shortened || nat_lt 16777216 (length (text ++ flat_map (becomes value) ps));
    }))

-- what pieces make of an output
abbrev pub outcome : (List ℕ → Option (List ℕ)) → ℕ → Output → List Piece → Result Expanded MakeFault
outcome value line output ps = completed value line output.is_open output.is_shortened output.room (string_bytes output.text) ps

-- a value without room would bring the text past the limit, where nothing is left out yet
abbrev pub HasRoom : Output → Type 0
HasRoom output = output.is_shortened ≡ false → 16777216 ≤ length (string_bytes output.text) + output.room
