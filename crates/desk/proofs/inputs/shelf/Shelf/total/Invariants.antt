use Rattle.std.proofs.Common.{◌≡◌, take}
use Rattle.desk.specs.Shelves.{bytes_on}
use Rattle.desk.proofs.inputs.shelf.Shelf.total.Given as goal

abbrev pub invariant-loop-shelved : goal.invariant-loop-shelved
invariant-loop-shelved l = l.total ≡ bytes_on (take l.shelved-index l.shelved-items)
