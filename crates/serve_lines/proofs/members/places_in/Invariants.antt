use Rattle.std.proofs.Common.{◌≡◌}
use Rattle.serde_json.specs.View.{members_view}
use Rattle.serve_lines.specs.Requests.{places_in}
use Rattle.serve_lines.proofs.Each.{behind}
use Rattle.serve_lines.proofs.members.places_in.Given as goal

-- what is left decides
abbrev pub invariant-loop-key : goal.invariant-loop-key
invariant-loop-key l = behind l.places.items (places_in l.part (members_view l.key-iterator)) ≡ places_in l.part (members_view l.members.entries)
