use Rattle.std.proofs.Common.{◌≡◌, fold, take}
use Rattle.foreman_core.specs.Steps.{released}
use Rattle.foreman_core.proofs.pins.release_all.Given as goal

abbrev pub invariant-loop-u : goal.invariant-loop-u
invariant-loop-u l = record {
  rows : l.cache.rows ≡ fold released l.initial.cache.rows (take l.u-index l.gone);
  cap : l.cache.cap ≡ l.initial.cache.cap;
}
