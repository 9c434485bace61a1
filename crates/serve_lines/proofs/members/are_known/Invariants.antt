use Rattle.std.proofs.Common.{◌≡◌}
use Rattle.serde_json.specs.View.{members_view}
use Rattle.serve_lines.specs.Requests.{are_known}
use Rattle.serve_lines.proofs.members.are_known.Given as goal

-- what is left decides
abbrev pub invariant-loop-key : goal.invariant-loop-key
invariant-loop-key l = are_known (members_view l.key-iterator) ≡ are_known (members_view l.members.entries)
