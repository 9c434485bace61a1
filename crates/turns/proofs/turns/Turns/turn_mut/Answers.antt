use Rattle.std.proofs.Common.{rules, arith, refl, ap, ◌∙◌, length-append, length, ◌++◌, ◌-◌}
use Rattle.std.specs.Fn.{CalledWithState}
use Rattle.turns.specs.Turns.{Knows, positions}
use Rattle.turns.proofs.Positions.{length-span}
use Rattle.turns.proofs.Steps.{has_turn, starts_at, knows, turned}
use Rattle.turns.proofs.turns.Turns.turn_mut.Goals as goal

pub call_with-reply-requires : goal.call_with-reply-requires
call_with-reply-requires g c =
    let v = c.pass.inside.seat.me.0 in
    let key = c.self.inside.table.shared.key.value in
    let of = starts_at g.D.Growing.grows g.D.Growing.moves g.D.Growing.done _ _ v _ _ _ key c.pass.view_is c.requires.of c.self.view_is in
    let k : Knows g.D.Growing.grows c.args.pass.now c.take-held.result.0.value = knows g.D.Growing.grows g.D.Growing.moves g.D.Growing.done _ _ v _ key _ c.pass.view_is of c.take-held.ensures.seen c.take-held.ensures.grew in
    let may = c.requires.callable c.take-held.result.0.value k in
    may

pub overflow_sub-moves : goal.overflow_sub-moves
overflow_sub-moves g c =
    let v = c.pass.inside.seat.me.0 in
    let key = c.self.inside.table.shared.key.value in
    let of = starts_at g.D.Growing.grows g.D.Growing.moves g.D.Growing.done _ _ v _ _ _ key c.pass.view_is c.requires.of c.self.view_is in
    let k : Knows g.D.Growing.grows c.args.pass.now c.take-held.result.0.value = knows g.D.Growing.grows g.D.Growing.moves g.D.Growing.done _ _ v _ key _ c.pass.view_is of c.take-held.ensures.seen c.take-held.ensures.grew in
    let told : CalledWithState g.C.FnMut c.args.call.now c.take-held.result.0.value c.args.given c.call_with-reply.result c.call_with-reply.new.call c.call_with-reply.new.value = c.call_with-reply.ensures in
    let all = c.requires.counted c.take-held.result.0.value c.call_with-reply.new.value c.call_with-reply.result c.call_with-reply.new.call k told in
    let on : g.D.Growing.grows c.take-held.result.0.value c.call_with-reply.new.value = all.0 in
    let more = g.D.Growing.growth.more _ _ on in
    omega (arith, more, all.1, c.take-held.ensures.moves)

pub give-requires-clause-turn : goal.give-requires-clause-turn
give-requires-clause-turn g c =
    let v = c.pass.inside.seat.me.0 in
    let key = c.self.inside.table.shared.key.value in
    let of = starts_at g.D.Growing.grows g.D.Growing.moves g.D.Growing.done _ _ v _ _ _ key c.pass.view_is c.requires.of c.self.view_is in
    let k : Knows g.D.Growing.grows c.args.pass.now c.take-held.result.0.value = knows g.D.Growing.grows g.D.Growing.moves g.D.Growing.done _ _ v _ key _ c.pass.view_is of c.take-held.ensures.seen c.take-held.ensures.grew in
    let told : CalledWithState g.C.FnMut c.args.call.now c.take-held.result.0.value c.args.given c.call_with-reply.result c.call_with-reply.new.call c.call_with-reply.new.value = c.call_with-reply.ensures in
    let all = c.requires.counted c.take-held.result.0.value c.call_with-reply.new.value c.call_with-reply.result c.call_with-reply.new.call k told in
    let on : g.D.Growing.grows c.take-held.result.0.value c.call_with-reply.new.value = all.0 in
    has_turn g.D.Growing.grows g.D.Growing.moves g.D.Growing.done v c.take-held.new.seat.me.0 c.take-held.result.0.value c.call_with-reply.new.value (ap (λ m. m.0) c.take-held.ensures.view) on

pub give-requires-clause-counted : goal.give-requires-clause-counted
give-requires-clause-counted g c =
    let v = c.pass.inside.seat.me.0 in
    let key = c.self.inside.table.shared.key.value in
    let of = starts_at g.D.Growing.grows g.D.Growing.moves g.D.Growing.done _ _ v _ _ _ key c.pass.view_is c.requires.of c.self.view_is in
    let k : Knows g.D.Growing.grows c.args.pass.now c.take-held.result.0.value = knows g.D.Growing.grows g.D.Growing.moves g.D.Growing.done _ _ v _ key _ c.pass.view_is of c.take-held.ensures.seen c.take-held.ensures.grew in
    let told : CalledWithState g.C.FnMut c.args.call.now c.take-held.result.0.value c.args.given c.call_with-reply.result c.call_with-reply.new.call c.call_with-reply.new.value = c.call_with-reply.ensures in
    let all = c.requires.counted c.take-held.result.0.value c.call_with-reply.new.value c.call_with-reply.result c.call_with-reply.new.call k told in
    let on : g.D.Growing.grows c.take-held.result.0.value c.call_with-reply.new.value = all.0 in
    let more = g.D.Growing.growth.more _ _ on in
    omega (arith, more, all.1, c.take-held.ensures.moves, c.add.ensures.total, c.take-held.ensures.counted)

pub give-requires-clause-counts : goal.give-requires-clause-counts
give-requires-clause-counts g c =
    let v = c.pass.inside.seat.me.0 in
    let key = c.self.inside.table.shared.key.value in
    let of = starts_at g.D.Growing.grows g.D.Growing.moves g.D.Growing.done _ _ v _ _ _ key c.pass.view_is c.requires.of c.self.view_is in
    let k : Knows g.D.Growing.grows c.args.pass.now c.take-held.result.0.value = knows g.D.Growing.grows g.D.Growing.moves g.D.Growing.done _ _ v _ key _ c.pass.view_is of c.take-held.ensures.seen c.take-held.ensures.grew in
    let told : CalledWithState g.C.FnMut c.args.call.now c.take-held.result.0.value c.args.given c.call_with-reply.result c.call_with-reply.new.call c.call_with-reply.new.value = c.call_with-reply.ensures in
    let all = c.requires.counted c.take-held.result.0.value c.call_with-reply.new.value c.call_with-reply.result c.call_with-reply.new.call k told in
    (all.1, omega (arith, all.1, all.2), all.3)

pub invariant_of-pass : goal.invariant_of-pass
invariant_of-pass g c =
    let v = c.pass.inside.seat.me.0 in
    let key = c.self.inside.table.shared.key.value in
    let of = starts_at g.D.Growing.grows g.D.Growing.moves g.D.Growing.done _ _ v _ _ _ key c.pass.view_is c.requires.of c.self.view_is in
    let k : Knows g.D.Growing.grows c.args.pass.now c.take-held.result.0.value = knows g.D.Growing.grows g.D.Growing.moves g.D.Growing.done _ _ v _ key _ c.pass.view_is of c.take-held.ensures.seen c.take-held.ensures.grew in
    let told : CalledWithState g.C.FnMut c.args.call.now c.take-held.result.0.value c.args.given c.call_with-reply.result c.call_with-reply.new.call c.call_with-reply.new.value = c.call_with-reply.ensures in
    let all = c.requires.counted c.take-held.result.0.value c.call_with-reply.new.value c.call_with-reply.result c.call_with-reply.new.call k told in
    let found = c.take-held.result.0.value in
    let after = c.call_with-reply.new.value in
    let taken = ap (λ m. m.0) c.take-held.ensures.view in
    let gave = c.give.ensures.view found (ap (λ w. w.turn) taken) in
    let mine = ap (λ m. m.0.mine) gave ∙ ap (λ w. w.mine ++ positions (g.D.Growing.moves found) (g.D.Growing.moves after)) taken in
    let many = ap length mine ∙ length-append v.mine (positions (g.D.Growing.moves found) (g.D.Growing.moves after)) in
    let spans = length-span (g.D.Growing.moves found) (g.D.Growing.moves after - g.D.Growing.moves found) in (
      ap (λ m. m.1) gave,
      omega (arith, many, spans, c.add.ensures.amount, c.pass.invariant.1, all.1, c.take-held.ensures.moves),
      omega (arith, c.add.ensures.parts, c.pass.invariant.2),
    )

pub returns : goal.returns
returns g c =
    let v = c.pass.inside.seat.me.0 in
    let key = c.self.inside.table.shared.key.value in
    let of = starts_at g.D.Growing.grows g.D.Growing.moves g.D.Growing.done _ _ v _ _ _ key c.pass.view_is c.requires.of c.self.view_is in
    let k : Knows g.D.Growing.grows c.args.pass.now c.take-held.result.0.value = knows g.D.Growing.grows g.D.Growing.moves g.D.Growing.done _ _ v _ key _ c.pass.view_is of c.take-held.ensures.seen c.take-held.ensures.grew in
    let told : CalledWithState g.C.FnMut c.args.call.now c.take-held.result.0.value c.args.given c.call_with-reply.result c.call_with-reply.new.call c.call_with-reply.new.value = c.call_with-reply.ensures in
    let all = c.requires.counted c.take-held.result.0.value c.call_with-reply.new.value c.call_with-reply.result c.call_with-reply.new.call k told in
    let on : g.D.Growing.grows c.take-held.result.0.value c.call_with-reply.new.value = all.0 in
    let was = ap (λ m. m.0.turn) c.take-held.ensures.view in
    let is = ap (λ m. m.0) (c.give.ensures.view c.take-held.result.0.value was) in
    record {
      turned = (
        c.take-held.result.0.value,
        c.call_with-reply.new.value,
        c.call_with-reply.result,
        turned g.D.Growing.grows g.D.Growing.moves g.D.Growing.done c.args.pass.now _ _ v c.take-held.new.seat.me.0 c.give.new.seat.me.0 c.pass.inside.share.parts c.add.new.share.parts
            c.take-held.result.0.value c.call_with-reply.new.value c.pass.view_is k on (ap (λ m. m.0) c.take-held.ensures.view) is (search rules) c.add.ensures.parts,
        told,
        refl,
      );
    }
