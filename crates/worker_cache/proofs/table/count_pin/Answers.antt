use Rattle.worker_cache.proofs.Tables.{more_pins, as_many_pins}
use Rattle.worker_cache.proofs.table.count_pin.Goals as goal

pub returns-then-held-lt18446744073709551615 : goal.returns-then-held-lt18446744073709551615
returns-then-held-lt18446744073709551615 c = more_pins c.args.held.now c.if-held-lt18446744073709551615.true

pub returns-else-held-lt18446744073709551615 : goal.returns-else-held-lt18446744073709551615
returns-else-held-lt18446744073709551615 c = as_many_pins c.args.held.now c.if-held-lt18446744073709551615.false
