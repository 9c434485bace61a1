use Rattle.std.proofs.Common.{not, ◌||◌, ap, sym, ◌∙◌}
use Rattle.run_history.specs.States.{limit_of}
use Rattle.safe_walks.specs.Safe.{admits_by}
use Rattle.safe_walks.proofs.Records.{start-keeps}
use Rattle.safe_walks.proofs.laws.admitted_start_keeps_the_walk.Goals as goal

pub returns : goal.returns
returns c P digest O H moment r attempt link limit collecting under allowed admitted safe =
    start-keeps P H moment r attempt link limit
    (sym (ap (λ b. not b || admits_by P H r.0 (limit_of H)) collecting
    ∙ ap (admits_by P H r.0) under) ∙ admitted) safe
