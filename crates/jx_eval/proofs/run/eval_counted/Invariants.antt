use Rattle.std.proofs.Common.{◌≡◌, ◌+◌, ◌-◌, ◌*◌, vec_len}
use Rattle.jx_syntax.specs.Tree.{node_at}
use Rattle.jx_meaning.specs.Meaning.{evaluate}
use Rattle.jx_meaning.specs.Scopes.{names_of}
use Rattle.jx_eval.specs.Machine.{trees, given, weight}
use Rattle.jx_eval.proofs.run.eval_counted.Given as goal

abbrev pub invariant-steps : goal.invariant-steps
invariant-steps l = given (trees l.nodes) (names_of l.scope) l.state l.step ≡ evaluate (node_at (trees l.nodes) l.fn.node) (names_of l.scope) l.fn.begun

abbrev pub decreases-steps : goal.decreases-steps
decreases-steps l = 2 * (10000000 - l.state.count) + vec_len l.state.frames + weight l.step
