use Rattle.jx_eval.proofs.Steps.{pushed}
use Rattle.jx_meaning.specs.Meaning.{evaluate}
use Rattle.jx_syntax.specs.Tree.{node_at}
use Rattle.jx_eval.specs.Machine.{bound_on}
use Rattle.jx_eval.proofs.state.State.wait.Goals as goal

pub returns-clause-kept : goal.returns-clause-kept
returns-clause-kept c = λ ts s.
    let st = c.args.self.now in
    pushed ts s st.local.items st.frames.items c.push.new.self.items c.args.frame (evaluate (node_at ts c.args.node) (bound_on st.local.items s) st.count) c.in_ok-push.ensures.items
