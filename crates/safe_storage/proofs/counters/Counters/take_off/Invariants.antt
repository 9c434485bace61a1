use Rattle.std.proofs.Common.{◌≡◌}
use Rattle.gc_refcount.proofs.Freeing.{IsCountedDown}
use Rattle.safe_storage.specs.Counters.{IsLoaded, told}
use Rattle.safe_storage.proofs.counters.Counters.take_off.Given as goal

abbrev pub invariant-loop-port : goal.invariant-loop-port
invariant-loop-port l = record {
  loaded : IsLoaded l.plan (told l.stand) l.self.over.items l.self.left.items l.self.rest.items
      l.self.load;
  counts : IsCountedDown l.fn.self.left.items l.ports l.port-index l.self.left.items;
  over : l.self.over ≡ l.fn.self.over;
}
