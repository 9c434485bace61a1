use Rattle.foreman_core.proofs.Keeps.{first_is_right, up_keeps_right, down_keeps_right, lost_keeps_right}
use Rattle.foreman_core.proofs.laws.what_a_foreman_tells_is_right.Goals as goal

pub returns-clause-first : goal.returns-clause-first
returns-clause-first c = first_is_right

pub returns-clause-up : goal.returns-clause-up
returns-clause-up c = up_keeps_right

pub returns-clause-down : goal.returns-clause-down
returns-clause-down c = down_keeps_right

pub returns-clause-lost : goal.returns-clause-lost
returns-clause-lost c = lost_keeps_right
