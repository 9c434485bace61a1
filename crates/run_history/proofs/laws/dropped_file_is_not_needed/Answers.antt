use Rattle.flow_types.specs.Plans.{takers_of, is_kept}
use Rattle.run_history.proofs.Allowed.{drops_file}
use Rattle.run_history.proofs.Keeps.{all-complete-append, not_from}
use Rattle.run_history.proofs.laws.dropped_file_is_not_needed.Goals as goal

pub returns : goal.returns
returns c = λ P digest H more moment f allowed same.
    let why = drops_file P digest H moment f allowed in
    (not_from (is_kept P f.0) why.not_kept, all-complete-append H more (takers_of P f.0) why.not_needed same)
