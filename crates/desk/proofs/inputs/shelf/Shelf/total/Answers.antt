use Rattle.std.proofs.Common.{◌≤◌, List, sym, subst, arith}
use Rattle.desk.specs.declared.inputs.shelf.Shelved.{Shelved}
use Rattle.desk.specs.Shelves.{bytes_on}
use Rattle.desk.proofs.Shelving.{total_fits, total_more}
use Rattle.desk.proofs.inputs.shelf.Shelf.total.Goals as goal

pub overflow_add-total : goal.overflow_add-total
overflow_add-total c =
    let fits = total_fits c.as_slice-shelved-items.result.now c.loop-shelved.shelved-index c.shelved-item.result c.loop-shelved.total c.loop-shelved-test.true c.shelved-item.is c.loop-shelved.invariant in
    let most : bytes_on c.as_slice-shelved-items.result.now ≤ 134217728 = subst (λ (l : List Shelved). bytes_on l ≤ 134217728) (sym c.as_slice-shelved-items.ensures.value) c.self.invariant.together in
    omega (arith, fits, most)

pub loop-shelved-preserved : goal.loop-shelved-preserved
loop-shelved-preserved c =
    total_more c.as_slice-shelved-items.result.now c.loop-shelved.shelved-index c.shelved-item.result c.loop-shelved.total c.loop-shelved-test.true c.shelved-item.is c.loop-shelved.invariant
