-- The loop that is named where a serial run leaves rules over.
use Rattle.std.specs.Prelude.{ℕ, ◌+◌, Bool, false, not, ◌&&◌, zero, suc, List, [], ◌∷◌, ◌++◌, length, ◌==◌, Option, Some, None, if◌then◌else◌, filter, find, map, take_while, drop, unwrap_or}
use Rattle.std.specs.List.{prefix_len}
use Rattle.std.specs.Option.{option_map_or, option_and_then}
use Rattle.flow_types.specs.declared.plan.Plan.{Plan}
use Rattle.flow_types.specs.Plans.{rule_numbers, file_numbers, takes, maker_of, contains_number}
use Rattle.flow_types.specs.Serial.{serial_order}

-- the rules that a serial run never takes
abbrev pub left_over : Plan → List ℕ
left_over P = filter (λ r. not (contains_number r (serial_order P))) (rule_numbers P)

-- the file's maker is among these rules
abbrev pub is_made_among : Plan → List ℕ → ℕ → Bool
is_made_among P rules f = option_map_or (λ m. contains_number m rules) (maker_of P f) false

-- the maker of the rule's least input whose maker is left over
abbrev pub maker_before : Plan → List ℕ → ℕ → Option ℕ
maker_before P left r = option_and_then (maker_of P) (find (λ f. contains_number f (takes P r) && is_made_among P left f) (file_numbers P))

-- the list from the first x on
abbrev pub from_first : ℕ → List ℕ → List ℕ
from_first x xs = drop (prefix_len (λ y. not (y == x)) xs) xs

-- the list from the first x on, and then what stands before it
abbrev pub begun_at : ℕ → List ℕ → List ℕ
begun_at x xs = from_first x xs ++ take_while (λ y. not (y == x)) xs

-- the rules walked over until one repeats: the loop from that one on. Among rules left over each has such a maker, and there
-- are steps enough, so that the path alone is never the answer.
abbrev pub walked : Plan → List ℕ → ℕ → List ℕ → ℕ → List ℕ
walked P left zero path r = path
walked P left (suc steps) path r =
    if contains_number r path then from_first r path
    else option_map_or (walked P left steps (path ++ (r ∷ []))) (maker_before P left r) path

-- the least rule of a loop; a loop has one
abbrev pub least_rule : Plan → List ℕ → ℕ
least_rule P loop = unwrap_or (find (λ r. contains_number r loop) (rule_numbers P)) 0

-- the loop found from the first of the rules left over, begun at its least rule
abbrev pub loop_among : Plan → List ℕ → Option (List ℕ)
loop_among P [] = None
loop_among P (r ∷ rs) =
    let loop : List ℕ = walked P (r ∷ rs) (length (r ∷ rs) + 1) [] r in
    Some (begun_at (least_rule P loop) loop)
