use Rattle.std.proofs.Common.{◌≡◌, ◌-◌}
use Rattle.byte_fields.specs.Reading.{up_from, up_to_at}
use Rattle.byte_fields.proofs.reading.u32_up_to.Given as goal

abbrev pub invariant-loop-seen : goal.invariant-loop-seen
invariant-loop-seen l = up_from l.most (4 - l.seen) l.seen l.bytes ≡ up_to_at l.most l.bytes
