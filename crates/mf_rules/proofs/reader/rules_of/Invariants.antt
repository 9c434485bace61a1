use Rattle.std.proofs.Common.{◌≡◌, ◌++◌, map}
use Rattle.mf_rules.specs.Progress.{with_needs}
use Rattle.mf_rules.proofs.reader.rules_of.Given as goal

-- what is left decides
abbrev pub invariant-loop-draft : goal.invariant-loop-draft
invariant-loop-draft l = l.rules.items ++ map (with_needs l.categories) l.draft-iterator.rest.items ≡ map (with_needs l.categories) l.fn.drafts.items
