use Rattle.std.proofs.Common.{rules, ◌≡◌, ◌++◌, ◌∷◌, [], Some, arith, refl}
use Rattle.std.specs.Prelude.{◌==◌, remove}
use Rattle.std.specs.Vec.{vec_capacity}
use Rattle.std.proofs.lemmas.Bool.{eqb-true}
use Rattle.task_book.specs.declared.task.Held.{Held}
use Rattle.task_book.specs.Kept.{Kept, place_of}
use Rattle.task_book.proofs.Positions.{found, less_long}
use Rattle.task_book.proofs.Times.{book_cancelled, book_is, book_roomier}
use Rattle.task_book.proofs.book.Book.cancel.Goals as goal

pub push_reserved-requires : goal.push_reserved-requires
push_reserved-requires c =
    let i = c.self.inside in
    let held = i.held in
    let at = c.in-Some.at in
    let id = c.args.id in
    let is : place_of id held ≡ Some at = search rules in
    let f = found (λ (h : Held). h.id.0 == id.0) held at is in
    let less = less_long held at f.item f.is_there in
    let room = c.self.invariant.may_cancel in
    let long = i.cancelled.ok.0 in
    omega (arith, less, room, long)

pub invariant_of-self : goal.invariant_of-self
invariant_of-self c =
    let i = c.self.inside in
    let held = i.held in
    let at = c.in-Some.at in
    let id = c.args.id in
    let k : Kept = record { submitted = i.submitted.items; given = i.given.items; cancelled = i.cancelled.items; held = held } in
    let is : place_of id held ≡ Some at = search rules in
    let f = found (λ (h : Held). h.id.0 == id.0) held at is in
    let a = vec_capacity i.given in
    let b = vec_capacity c.push_reserved.new.self in
    book_is i.submitted.items i.submitted.items (i.cancelled.items ++ id ∷ []) c.push_reserved.new.self.items i.given.items i.given.items (remove held at) c.remove.new.self a b
    refl refl c.push_reserved.ensures.items c.remove.ensures.items
    (book_roomier (record { submitted = i.submitted.items; given = i.given.items; cancelled = i.cancelled.items ++ id ∷ []; held = remove held at }) a (vec_capacity i.cancelled) a b
    (omega arith) (let same = c.push_reserved.ensures.capacity in omega (arith, same)) (book_cancelled k id at f.item a (vec_capacity i.cancelled) c.self.invariant f.is_there (eqb-true f.item.id.0 id.0 f.passes)))
