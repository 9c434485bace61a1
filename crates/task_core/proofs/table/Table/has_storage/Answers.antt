use Rattle.std.proofs.Common.{◌≡◌, ◌∙◌, ap, arith}
use Rattle.storage_limit.specs.Holdings.{Holdings}
use Rattle.task_core.specs.Known.{reserved_sum, stored_sum}
use Rattle.task_core.specs.States.{known_in}
use Rattle.task_core.proofs.Accounting.{room-known}
use Rattle.task_core.proofs.table.Table.has_storage.Goals as goal

pub has_room-requires : goal.has_room-requires
has_room-requires c =
    let stored : c.account.result.now.stored ≡ stored_sum (known_in c.args.self.now) = ap (λ (H : Holdings). H.stored) c.account.ensures.holds in
    let reserved : c.account.result.now.reserved ≡ reserved_sum (known_in c.args.self.now) = ap (λ (H : Holdings). H.reserved) c.account.ensures.holds in
    omega (arith, stored, reserved, c.account.ensures.stored, c.account.ensures.reserved, c.bound.ensures.small)

pub returns : goal.returns
returns c = c.has_room.ensures ∙ room-known c.account.result.now (known_in c.args.self.now) c.args.rule.0 c.bound.result c.account.ensures.holds c.bound.ensures.bound
