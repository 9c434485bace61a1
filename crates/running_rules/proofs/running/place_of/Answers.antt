use Rattle.std.proofs.Common.{ℕ, rules}
use Rattle.std.specs.Prelude.{nat_lt}
use Rattle.std.proofs.lemmas.List.Sorted.{IsPartitionPoint-from_clause}
use Rattle.ready_rules.proofs.Places.{numbers-parted, place-number}
use Rattle.running_rules.proofs.running.place_of.Goals as goal

pub returns : goal.returns
returns c =
    let x : ℕ = c.args.rule.0 in
    place-number c.args.rules.now x c.partition_point.result c.partition_point.ensures.bound
    (IsPartitionPoint-from_clause (λ y. nat_lt y.0 x) _ _ c.partition_point.ensures.partitioned (numbers-parted c.args.rules.now x c.requires) (λ a r f called. search rules))
