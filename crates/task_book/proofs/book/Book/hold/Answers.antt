use Rattle.std.proofs.Common.{rules, ◌≡◌, ◌≤◌, ◌+◌, ◌++◌, ◌∷◌, [], arith, length, refl}
use Rattle.std.specs.Vec.{vec_capacity, vec_len}
use Rattle.task_book.specs.Kept.{Kept, next_id, waiting_as}
use Rattle.task_book.proofs.Times.{below_is, book_is, book_roomier, book_submitted, ids_below}
use Rattle.task_book.proofs.book.Book.hold.Goals as goal

pub invariant_of-self-2 : goal.invariant_of-self-2
invariant_of-self-2 c =
    let i = c.self.inside in
    let k : Kept = record { submitted = i.submitted.items; given = i.given.items; cancelled = i.cancelled.items; held = i.held } in
    let a = vec_capacity c.reserve.new.self in
    let b = vec_capacity c.reserve-2.new.self in
    let comes : c.push_reserved.new.self.items ≡ i.submitted.items ++ next_id k ∷ [] = search rules in
    let waits : c.push.new.self ≡ i.held ++ waiting_as (next_id k) c.args.task ∷ [] = search rules in
    let room_a : vec_len c.reserve.new.self + (length i.held + 1) ≤ a = search rules in
    let room_b : vec_len c.reserve-2.new.self + (length i.held + 1) ≤ b = search rules in
    let long_a = c.reserve.ensures.len in
    let long_b = c.reserve-2.ensures.len in
    let given = i.given.ok.0 in
    let cancelled = i.cancelled.ok.0 in
    book_is (i.submitted.items ++ next_id k ∷ []) c.push_reserved.new.self.items i.cancelled.items c.reserve-2.new.self.items i.given.items c.reserve.new.self.items (i.held ++ waiting_as (next_id k) c.args.task ∷ [])
    c.push.new.self a b comes c.reserve.ensures.items c.reserve-2.ensures.items waits
    (book_submitted k c.args.task (vec_capacity i.given) (vec_capacity i.cancelled) a b c.self.invariant c.requires (omega (arith, room_a, long_a, given)) (omega (arith, room_b, long_b, cancelled)))

pub invariant_of-self-then-is_err-3 : goal.invariant_of-self-then-is_err-3
invariant_of-self-then-is_err-3 c =
    let i = c.self.inside in
    let a = vec_capacity c.reserve.new.self in
    let b = vec_capacity c.reserve-2.new.self in
    let more_a = c.reserve.ensures.capacity in
    let more_b = c.reserve-2.ensures.capacity in
    book_is i.submitted.items c.reserve-3.new.self.items i.cancelled.items c.reserve-2.new.self.items i.given.items c.reserve.new.self.items i.held i.held a b
    c.reserve-3.ensures.items c.reserve.ensures.items c.reserve-2.ensures.items refl
    (book_roomier (record { submitted = i.submitted.items; given = i.given.items; cancelled = i.cancelled.items; held = i.held }) (vec_capacity i.given) (vec_capacity i.cancelled) a b more_a more_b c.self.invariant)

pub invariant_of-self-then-is_err-4 : goal.invariant_of-self-then-is_err-4
invariant_of-self-then-is_err-4 c =
    let i = c.self.inside in
    let a = vec_capacity c.reserve.new.self in
    let b = vec_capacity c.reserve-2.new.self in
    let more_a = c.reserve.ensures.capacity in
    let more_b = c.reserve-2.ensures.capacity in
    book_is i.submitted.items c.reserve-3.new.self.items i.cancelled.items c.reserve-2.new.self.items i.given.items c.reserve.new.self.items i.held c.push.new.self a b
    c.reserve-3.ensures.items c.reserve.ensures.items c.reserve-2.ensures.items (let same : c.push.new.self ≡ i.held = search rules in same)
    (book_roomier (record { submitted = i.submitted.items; given = i.given.items; cancelled = i.cancelled.items; held = i.held }) (vec_capacity i.given) (vec_capacity i.cancelled) a b more_a more_b c.self.invariant)

pub push-requires : goal.push-requires
push-requires c =
    let i = c.self.inside in
    let k : Kept = record { submitted = i.submitted.items; given = i.given.items; cancelled = i.cancelled.items; held = i.held } in
    below_is (length i.submitted.items) _ i.held (search rules) (ids_below k (vec_capacity i.given) (vec_capacity i.cancelled) c.self.invariant)
