use Rattle.std.proofs.Common.{◌≡◌}
use Rattle.serde_json.specs.View.{members_view}
use Rattle.serve_lines.specs.Requests.{variables_in}
use Rattle.serve_lines.proofs.Each.{behind}
use Rattle.serve_lines.proofs.members.variables_in.Given as goal

-- what is left decides
abbrev pub invariant-loop-key : goal.invariant-loop-key
invariant-loop-key l = behind l.variables.items (variables_in (members_view l.key-iterator)) ≡ variables_in (members_view l.members.entries)
