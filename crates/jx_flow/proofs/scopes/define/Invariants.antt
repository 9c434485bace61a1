use Rattle.std.proofs.Common.{◌≡◌, drop}
use Rattle.jx_meaning.specs.Scopes.{names_of}
use Rattle.jx_flow.specs.Flow.{defined}
use Rattle.jx_flow.specs.Nodes.{said}
use Rattle.jx_flow.proofs.scopes.define.Given as goal

-- what is left decides
abbrev pub invariant-loop-field : goal.invariant-loop-field
invariant-loop-field l = defined (said l.expr (drop l.field-index l.fields)) (names_of l.scope) l.count ≡ defined (said l.expr l.fields) (names_of l.fn.scope) l.fn.count
