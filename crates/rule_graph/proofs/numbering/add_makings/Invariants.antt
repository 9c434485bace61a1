use Rattle.std.proofs.Common.{◌≡◌, ◌++◌, map}
use Rattle.std.specs.Vec.Iter.{into_iter_items}
use Rattle.rule_graph.specs.declared.numbering.Making.{Making}
use Rattle.rule_graph.proofs.numbering.add_makings.Given as goal

-- a making for each port so far
abbrev pub invariant-loop-port : goal.invariant-loop-port
invariant-loop-port l = record {
  made : l.makings.items ≡ l.fn.makings.items ++ map (λ port. let making : Making = record { maker = l.maker; name = port.local } in making) l.yielded;
  rest : l.yielded ++ into_iter_items l.port-iterator ≡ l.fn.outputs.items;
}
