use Rattle.std.proofs.Common.{◌≡◌, List, map, vec_len}
use Rattle.jx_syntax.specs.Tree.{Tree}
use Rattle.jx_meaning.specs.Values.{plain}
use Rattle.jx_meaning.specs.Meaning.{Scope}
use Rattle.jx_eval.specs.Machine.{listed, goes_on}
use Rattle.jx_eval.proofs.state.State.next_turn.Given as goal

abbrev pub invariant-loops : goal.invariant-loops
invariant-loops l = record {
  frames : l.self.frames ≡ l.fn.self.frames;
  count : l.self.count ≡ l.fn.self.count;
  same : (ts : List Tree) (s : Scope) → listed ts s l.self l.making (goes_on ts s l.self.local.items l.making (map plain l.making.done) l.self.count)
      ≡ listed ts s l.fn.self l.fn.making (goes_on ts s l.fn.self.local.items l.fn.making (map plain l.fn.making.done) l.fn.self.count);
}

abbrev pub decreases-loops : goal.decreases-loops
decreases-loops l = vec_len l.making.loops
