use Rattle.std.proofs.Common.{◌≡◌, ◌≤◌, ◌++◌, map, string_bytes}
use Rattle.std.specs.FinMap as finite
use Rattle.mf_rules.specs.Tables.{pairs_of, environment_size}
use Rattle.mf_rules.proofs.names.Names.pairs.Given as goal

-- what is left decides
abbrev pub invariant-loop-name : goal.invariant-loop-name
invariant-loop-name l = record {
  whole : l.pairs.items ++ pairs_of (finite.get l.values) (map string_bytes l.name-iterator) ≡ pairs_of (finite.get l.values) (finite.keys l.self);
  counted : l.size ≡ environment_size l.pairs.items;
  small : l.size ≤ 1048576;
}
