use Rattle.std.proofs.Common.{◌≡◌, ◌++◌, map}
use Rattle.std.specs.Vec.Iter.{into_iter_items}
use Rattle.rule_graph.proofs.checks.add_remotes.Given as goal

abbrev pub invariant-loop-port : goal.invariant-loop-port
invariant-loop-port l = record {
  names : l.names.items ≡ l.fn.names.items ++ map (λ port. port.remote) l.yielded;
  rest : l.yielded ++ into_iter_items l.port-iterator ≡ l.fn.ports.items;
}
