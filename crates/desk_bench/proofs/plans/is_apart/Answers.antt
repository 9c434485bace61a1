use Rattle.std.proofs.Common.{◌∙◌, sym}
use Rattle.desk_bench.proofs.Apart.{none_named, not_true}
use Rattle.desk_bench.proofs.plans.is_apart.Goals as goal

pub returns : goal.returns
returns c none =
    none_named c.args.plan.now.files c.args.name.now c.as_bytes-bytes.ensures.name
    (rw c.as_slice.ensures at (sym c.has_name.ensures ∙ not_true _ none))
