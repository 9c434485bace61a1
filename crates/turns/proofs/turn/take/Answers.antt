use Rattle.std.proofs.Common.{rules, ap, ◌∙◌, arith}
use Rattle.turns.proofs.Steps.{takes_as, takes_out, took_value, took_later, took_count}
use Rattle.turns.proofs.turn.take.Goals as goal

pub compare_exchange-requires : goal.compare_exchange-requires
compare_exchange-requires g c =
    let i = c.loop.invariant in
    (search rules, search rules, takes_as g.D.Growing.grows g.D.Growing.moves g.D.Growing.done (λ h. h.value) (λ h. h.book.total) g.D.Growing.growth c.args.table.now.shared.key.value _ _ _ _ (ap (λ m. m.1) i.2 ∙ c.requires.idle.0) (ap (λ m. m.0.start) i.2 ∙ c.requires.idle.1) (search rules))

pub exchange-requires : goal.exchange-requires
exchange-requires g c = (search rules, takes_out g.D.Growing.grows g.D.Growing.moves g.D.Growing.done (λ h. h.value) (λ h. h.book.total) g.D.Growing.growth c.args.table.now.shared.key.value c.peek-found.result c.args.table.now.shared.table_id.slots c.loop.seat.me _ c.compare_exchange.result c.if-compare_exchange-found.true c.compare_exchange.ensures.2)

pub returns-then-compare_exchange-found-clause-seen : goal.returns-then-compare_exchange-found-clause-seen
returns-then-compare_exchange-found-clause-seen g c d is =
    let i = c.loop.invariant in
    took_later g.D.Growing.grows g.D.Growing.moves g.D.Growing.done (λ h. h.value) (λ h. h.book.total) g.D.Growing.growth c.args.table.now.shared.key.value c.peek-found.result c.args.table.now.shared.table_id.slots c.loop.seat.me c.compare_exchange.new.seat.me c.compare_exchange.result c.exchange.result c.unwrap.result d c.if-compare_exchange-found.true c.compare_exchange.ensures.2
    c.exchange.ensures.2 c.unwrap.ensures (ap (λ m. m.0.seen) i.2 ∙ is)

pub returns-then-compare_exchange-found-clause-grew : goal.returns-then-compare_exchange-found-clause-grew
returns-then-compare_exchange-found-clause-grew g c =
    let i = c.loop.invariant in
    took_value g.D.Growing.grows g.D.Growing.moves g.D.Growing.done (λ h. h.value) (λ h. h.book.total) g.D.Growing.growth c.args.table.now.shared.key.value c.peek-found.result c.args.table.now.shared.table_id.slots c.loop.seat.me c.compare_exchange.new.seat.me c.compare_exchange.result c.exchange.result c.unwrap.result _ c.if-compare_exchange-found.true c.compare_exchange.ensures.2
    c.exchange.ensures.2 c.unwrap.ensures (ap (λ m. m.0.start) i.2 ∙ c.requires.idle.1)

pub returns-then-compare_exchange-found-clause-moves : goal.returns-then-compare_exchange-found-clause-moves
returns-then-compare_exchange-found-clause-moves g c =
    let twice = took_count g.D.Growing.grows g.D.Growing.moves g.D.Growing.done (λ h. h.value) (λ h. h.book.total) g.D.Growing.growth c.args.table.now.shared.key.value c.peek-found.result c.args.table.now.shared.table_id.slots c.loop.seat.me c.compare_exchange.new.seat.me c.compare_exchange.result c.exchange.result c.unwrap.result c.if-compare_exchange-found.true c.compare_exchange.ensures.2
    c.exchange.ensures.2 c.unwrap.ensures in
    omega (arith, twice)
