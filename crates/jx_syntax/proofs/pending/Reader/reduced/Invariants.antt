use Rattle.std.proofs.Common.{◌≡◌, List, vec_len}
use Rattle.jx_syntax.specs.Grammar.{Derivation}
use Rattle.jx_syntax.specs.Reading.{Frame, depth, reduce}
use Rattle.jx_syntax.specs.Tree.{tree_of}
use Rattle.jx_syntax.specs.Shown.{IsShown, IsLast, IsReduced}
use Rattle.jx_syntax.proofs.pending.Reader.reduced.Given as goal

abbrev pub invariant-loop-applied : goal.invariant-loop-applied
invariant-loop-applied l = (fs : List Frame) (x : Derivation) → IsShown l.fn.self fs → l.fn.self.depth ≡ depth fs → IsLast l.fn.self.nodes.items l.fn.operand (tree_of x)
    → (p : List Frame × Derivation) × IsReduced l.self l.operand p × (reduce l.level p.0 p.1 ≡ reduce l.level fs x)

abbrev pub decreases-loop-applied : goal.decreases-loop-applied
decreases-loop-applied l = vec_len l.self.stack
