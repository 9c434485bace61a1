use Rattle.std.proofs.Common.{◌≡◌, ap, arith, ◌∙◌}
use Rattle.flow_types.specs.Serial.{serial_order}
use Rattle.safe_storage.specs.Counters.{numbers_of, told}
use Rattle.safe_walks.specs.Walk.{blank, greatest}
use Rattle.safe_storage.proofs.Alike.{blank-alike, walk-alike}
use Rattle.safe_storage.proofs.Orders.{greatest-all}
use Rattle.safe_storage.proofs.need.peak.Goals as goal

pub returns : goal.returns
returns c =
    let is : numbers_of c.as_slice.result.now ≡ serial_order c.args.plan.now =
    ap numbers_of c.as_slice.ensures ∙ c.in_ok-order.ensures in
    greatest-all c.args.plan.now (told c.in_ok-stand.stand) (numbers_of c.as_slice.result.now)
    c.begin.new.self c.pass_rest.result is c.begin.ensures.walk c.begin.ensures.over
    (c.pass_rest.ensures.exact (omega (arith, c.pass_rest.type_inv)))
    ∙ ap greatest (walk-alike c.args.plan.now (told c.in_ok-stand.stand) blank
    (blank-alike c.args.plan.now c.in_ok-stand.stand c.in_ok-stand.ensures.phases
    c.in_ok-stand.ensures.bytes))
