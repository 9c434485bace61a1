use Rattle.std.proofs.Common.{◌≡◌, drop}
use Rattle.link_session.specs.Keys.{all_forgotten}
use Rattle.link_session.proofs.known.forget_all.Given as goal

abbrev pub invariant-loop-file : goal.invariant-loop-file
invariant-loop-file l = all_forgotten l.initial.known.keys l.run l.files ≡ all_forgotten l.known.keys l.run (drop l.file-index l.files)
