use Rattle.std.proofs.Common.{◌≡◌, ◌++◌, drop, length}
use Rattle.link_session.specs.Keys.{lacking, learned, Begins}
use Rattle.link_session.proofs.known.learn_all.Given as goal

abbrev pub invariant-loop-port : goal.invariant-loop-port
invariant-loop-port l =
    (lacking l.initial.known.keys l.run l.inputs ≡ l.files.items ++ lacking l.known.keys l.run (drop l.port-index l.inputs))
    × (learned l.initial.known.keys l.run l.inputs ≡ learned l.known.keys l.run (drop l.port-index l.inputs))
    × Begins l.initial.known.keys l.known.keys
    × (l.before ≡ length l.initial.known.keys)
