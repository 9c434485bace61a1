use Rattle.run_history.proofs.Grows.{legal-push}
use Rattle.run_history.proofs.laws.history_grows_by_what_is_allowed.Goals as goal

pub returns-clause-legal : goal.returns-clause-legal
returns-clause-legal c = legal-push
