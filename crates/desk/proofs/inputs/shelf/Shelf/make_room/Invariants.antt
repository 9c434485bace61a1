use Rattle.std.proofs.Common.{◌≡◌, ℕ, length, drop}
use Rattle.desk.specs.Shelves.{bytes_on}
use Rattle.desk.proofs.inputs.shelf.Shelf.make_room.Given as goal

abbrev pub invariant-loop-total : goal.invariant-loop-total
invariant-loop-total l = record {
  total : l.total ≡ bytes_on l.self;
  rest : (n : ℕ) × (l.self ≡ drop n l.fn.self);
}

abbrev pub decreases-loop-total : goal.decreases-loop-total
decreases-loop-total l = length l.self
