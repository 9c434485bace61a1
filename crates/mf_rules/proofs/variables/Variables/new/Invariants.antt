use Rattle.std.proofs.Common.{◌≡◌, ℕ, List, drop}
use Rattle.std.specs.FinMap as finite
use Rattle.mf_rules.specs.Flow.{given_pairs}
use Rattle.mf_rules.specs.Values.{first_pair, or_given}
use Rattle.mf_rules.proofs.variables.Variables.new.Given as goal

-- what is left decides where nothing was set
abbrev pub invariant-loop-name : goal.invariant-loop-name
invariant-loop-name l = (x : List ℕ) → or_given (finite.get l.values x) (first_pair (given_pairs (drop l.name-index l.env)) x) ≡ first_pair (given_pairs l.env) x
