use Rattle.std.proofs.Common.{sym, ◌∙◌}
use Rattle.resource_pack.specs.Packing.{is_load}
use Rattle.resource_pack.proofs.Places.{place-found, none-passes}
use Rattle.resource_pack.proofs.load.place_of.Goals as goal

pub returns-then-is : goal.returns-then-is
returns-then-is c =
    place-found (is_load (record { needs = c.args.needs; bytes = c.args.bytes })) c.args.loads.now c.loop-at.at c.index-loads-at.result c.loop-at-test.true c.index-loads-at.is c.loop-at.invariant
    (sym c.is.ensures ∙ c.if-is.true)

pub returns : goal.returns
returns c = none-passes (is_load (record { needs = c.args.needs; bytes = c.args.bytes })) c.args.loads.now c.loop-at.at c.loop-at-test.false c.loop-at.invariant
