use Rattle.std.proofs.Common.{◌∙◌, ◌<◌, suc, drop, ap, refl, arith}
use Rattle.desk.proofs.Shelving.{drop_one_more, some_kept}
use Rattle.desk.proofs.inputs.shelf.Shelf.make_room.Goals as goal

pub loop-total-init : goal.loop-total-init
loop-total-init c = record { total = c.total-total.ensures.total; rest = (0, refl) }

pub drop_oldest-freed-requires : goal.drop_oldest-freed-requires
drop_oldest-freed-requires c =
    let was = c.loop-total.invariant.total in
    let some : 0 < c.loop-total.total = omega arith in
    some_kept c.loop-total.self (omega (arith, was, some))

pub overflow_sub-total : goal.overflow_sub-total
overflow_sub-total c = let size = c.drop_oldest-freed.ensures.size in let was = c.loop-total.invariant.total in omega (arith, size, was)

pub loop-total-preserved : goal.loop-total-preserved
loop-total-preserved c =
    let size = c.drop_oldest-freed.ensures.size in let was = c.loop-total.invariant.total in record {
      total = omega (arith, size, was);
      rest = (suc c.loop-total.invariant.rest.0, c.drop_oldest-freed.ensures.rest ∙ ap (drop 1) c.loop-total.invariant.rest.1 ∙ drop_one_more c.loop-total.invariant.rest.0 c.args.self.now);
    }
