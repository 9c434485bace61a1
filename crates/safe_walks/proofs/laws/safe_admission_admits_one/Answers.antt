use Rattle.safe_walks.proofs.Admits.{safe-admits_one}
use Rattle.safe_walks.proofs.laws.safe_admission_admits_one.Goals as goal

pub returns : goal.returns
returns c P O digest H stands valid legal idle sound unwanted some =
    safe-admits_one P digest O H valid legal idle sound unwanted some
