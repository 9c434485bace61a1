use Rattle.safe_walks.proofs.Courses.{safe-has_room}
use Rattle.safe_walks.proofs.laws.safe_run_has_room.Goals as goal

pub returns : goal.returns
returns c = safe-has_room
