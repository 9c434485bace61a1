use Rattle.std.proofs.Common.{ℕ, rules}
use Rattle.std.specs.Prelude.{nat_lt}
use Rattle.std.proofs.lemmas.List.Sorted.{IsPartitionPoint-from_clause, IsPartitionedBy-ltb}
use Rattle.running_rules.proofs.running.first_of.Goals as goal

pub returns : goal.returns
returns c =
    let k : ℕ = c.args.link.0 in
    (c.partition_point.ensures.bound, IsPartitionPoint-from_clause (λ l. nat_lt l.0 k) _ _ c.partition_point.ensures.partitioned (IsPartitionedBy-ltb (λ l. l.0) c.args.links.now k c.requires) (λ a r f called. search rules))
