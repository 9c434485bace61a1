-- The law of the safe admission, as its trait asks for it.
use Rattle.flow_types.specs.declared.plan.Plan.{Plan}
use Rattle.run_history.specs.Admissions.{AdmitsOne}
use Rattle.safe_walks.specs.Safe.{safely_admitted}
use Rattle.safe_walks.proofs.Admits.{safe-admits_one}

-- Where no rule runs or has failed, no file is wanted and some ready rule fits the storage, one
-- that does is admitted.
pub safe_one_is_admitted : (of : Plan → Type 0) → AdmitsOne safely_admitted of
safe_one_is_admitted of P O digest H stands valid legal idle sound unwanted some =
    safe-admits_one P digest O H valid legal idle sound unwanted some
