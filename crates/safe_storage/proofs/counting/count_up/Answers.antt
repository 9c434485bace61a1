use Rattle.std.proofs.Common.{◌≡◌, ◌<◌, ◌∙◌, ℕ, sym, subst, length, arith}
use Rattle.std.specs.Prelude.{slice_index_or}
use Rattle.gc_refcount.proofs.Changing.{port-inside, same-item}
use Rattle.gc_refcount.proofs.Freeing.{up-room}
use Rattle.safe_storage.proofs.counting.count_up.Goals as goal

pub overflow_add-index_mut : goal.overflow_add-index_mut
overflow_add-index_mut c =
    let g : ℕ = c.port-item.result.file.0 in
    let here = sym c.port-item.is in
    let less : g < length c.loop-port.counts.items =
    subst (λ n. g < n) (sym c.loop-port.invariant.same)
    (port-inside c.args.ports.now (length c.args.counts.now.items) c.loop-port.port-index
    c.port-item.result c.loop-port-test.true here c.requires.inside) in
    let read : c.index_mut.result.now ≡ slice_index_or c.loop-port.counts.items g 0 =
    c.index_mut.ensures.value ∙ same-item c.loop-port.counts.items g c.index_mut.result.now 0
    less in
    let room = up-room c.args.counts.now.items c.loop-port.counts.items c.args.ports.now
    c.loop-port.port-index c.port-item.result c.loop-port-test.true here (c.requires.room g)
    c.loop-port.invariant in
    omega (arith, read, room)
