-- Which links live, and which move may follow which moves of a desk.
use Rattle.std.specs.Prelude.{ℕ, ◌+◌, Bool, true, false, not, ◌&&◌, List, [], ◌∷◌, ◌++◌, length, Option, Some, None, ◌==◌, nat_le, nat_lt, if◌then◌else◌, filter, map, count_by, is_none}
use Rattle.std.specs.Option.{option_map_or}
use Rattle.flow_types.specs.declared.plan.Plan.{Plan}
use Rattle.flow_types.specs.declared.records.Record.{Record}
use Rattle.flow_types.specs.declared.records.Record.TheVariants as records
use Rattle.flow_types.specs.declared.records.EndKind.TheVariants as kinds
use Rattle.flow_types.specs.Plans.{is_empty, numbers}
use Rattle.run_history.specs.declared.options.Options.{Options}
use Rattle.run_history.specs.declared.moves.Move.{Move}
use Rattle.run_history.specs.declared.moves.Move.TheVariants as moves
use Rattle.run_history.specs.declared.links.JoinRefused.{JoinRefused}
use Rattle.run_history.specs.declared.links.JoinRefused.TheVariants as refused
use Rattle.run_history.specs.Storage.{wanted}
use Rattle.run_history.specs.Legal.{is_allowed, is_legal}
use Rattle.run_history.specs.Links.{records_of, is_live, running_on, may_run_on, fits}

-- the most links that live beside the local place
abbrev pub most_links : ℕ
most_links = 32

-- the most joins and changes of one desk
abbrev pub most_joins : ℕ
most_joins = 1000000

-- a link joined
abbrev pub is_join : Move → Bool
is_join (moves.Joined link total largest cache) = true
is_join _ = false

-- a link changed its amounts
abbrev pub is_change : Move → Bool
is_change (moves.Changed link total largest cache) = true
is_change _ = false

-- the number of the next link: those of the links that joined are 1 and upward
abbrev pub next_link : List Move → ℕ
next_link M = count_by is_join M + 1

-- how many joins and changes were made
abbrev pub joins_and_changes : List Move → ℕ
joins_and_changes M = count_by is_join M + count_by is_change M

-- the links that live, ascending; the local place always does
abbrev pub live_links : Options → List Move → List ℕ
live_links O M = filter (is_live O M) (numbers (next_link M))

-- one more link may live beside the local place
abbrev pub has_link_room : Options → List Move → Bool
has_link_room O M = nat_le (length (live_links O M)) most_links

-- one more join or change may be made
abbrev pub has_join_room : List Move → Bool
has_join_room M = nat_lt (joins_and_changes M) most_joins

-- why a link can't change its amounts
abbrev pub change_refusal : List Move → Option JoinRefused
change_refusal M = if has_join_room M then None else Some refused.TooManyJoins

-- why a link can't join
abbrev pub join_refusal : Options → List Move → Option JoinRefused
join_refusal O M = if has_link_room O M then change_refusal M else Some refused.TooManyLinks

-- what a desk asks of its records beside that each is allowed
abbrev pub is_served : Plan → Options → List Move → Record → Bool
is_served P O M (records.Started moment r attempt link) =
    is_live O M link.0 && may_run_on P O r.0 link.0 && fits P O M r.0 link.0 && is_none (wanted P O.mode (records_of M))
is_served P O M (records.Dropped moment f) = option_map_or (λ g. g == f.0) (wanted P O.mode (records_of M)) false
is_served P O M (records.Ended moment kinds.Complete) = is_none (wanted P O.mode (records_of M))
is_served P O M _ = true

-- the link leaves: it lives, isn't the local place, and nothing runs there
abbrev pub may_leave : Plan → Options → List Move → ℕ → Bool
may_leave P O M k = not (k == 0) && is_live O M k && is_empty (running_on P (records_of M) k)

-- The move may follow these moves of a desk.
abbrev pub may_follow : Plan → List ℕ → Options → List Move → Move → Bool
may_follow P digest O M (moves.Logged entry) = is_allowed P digest (records_of M) entry && is_served P O M entry
may_follow P digest O M (moves.Joined link total largest cache) = (link.0 == next_link M) && has_link_room O M
may_follow P digest O M (moves.Changed link total largest cache) = is_live O M link.0
may_follow P digest O M (moves.Left link) = may_leave P O M link.0

-- each of the moves may follow those before it
abbrev pub all_follow : Plan → List ℕ → Options → List Move → List Move → Bool
all_follow P digest O before [] = true
all_follow P digest O before (m ∷ ms) = may_follow P digest O before m && all_follow P digest O (before ++ (m ∷ [])) ms

-- The moves of a desk that started over this history: the history is legal, and each move since may follow those before it.
abbrev pub serves : Plan → List ℕ → Options → List Record → List Move → Bool
serves P digest O history since = is_legal P digest history && all_follow P digest O (map moves.Logged history) since
