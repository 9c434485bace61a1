-- Moves by which links join, change and leave.
use Rattle.std.specs.Prelude.{Bool, List, filter, is_none}
use Rattle.run_history.specs.declared.moves.Move.{Move}
use Rattle.run_history.specs.Links.{logged_in}

-- the move logs no record: a link joined, changed its amounts, or left
abbrev pub is_of_link : Move → Bool
is_of_link m = is_none (logged_in m)

-- the moves of links among these, in their order
abbrev pub link_moves : List Move → List Move
link_moves M = filter is_of_link M
