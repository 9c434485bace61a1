use Rattle.std.proofs.Common.{◌≡◌, ℕ, List, ◌++◌, take, drop}
use Rattle.std.specs.FinMap as finite
use Rattle.mf_rules.specs.Tables.{set_of}
use Rattle.mf_rules.specs.Faults.{first_unknown}
use Rattle.mf_rules.proofs.variables.Variables.mark.Given as goal

-- the names so far are marked, and what is left decides
abbrev pub invariant-loop-name : goal.invariant-loop-name
invariant-loop-name l = record {
  values : l.self.values ≡ l.fn.self.values;
  of_text : l.self.of_text ≡ l.fn.self.of_text;
  marked : (marks : List (List ℕ)) → l.fn.self.marked ≡ set_of marks → l.self.marked ≡ set_of (take l.name-index l.names ++ marks);
  faults : first_unknown (finite.get l.fn.self.values) l.number (drop l.name-index l.names) ≡ first_unknown (finite.get l.fn.self.values) l.number l.names;
}
