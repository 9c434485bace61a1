use Rattle.std.proofs.Common.{◌∙◌, ap, sym}
use Rattle.flow_types.specs.declared.plan.Rule.{Rule}
use Rattle.std.proofs.Common.{List}
use Rattle.master_run.specs.Needs.{excess_among}
use Rattle.master_run.proofs.Fitted.{all_fit}
use Rattle.master_run.proofs.asking.with_needs.Goals as goal

pub returns-in-None-clause-fits : goal.returns-in-None-clause-fits
returns-in-None-clause-fits c r inside runs =
    all_fit c.args.options.now c.args.plan.rules 0 (ap (λ (rows : List Rule). excess_among c.args.options.now 0 rows) (sym c.as_slice.ensures) ∙ sym c.least_excess.ensures ∙ c.in-None.is) r inside runs
