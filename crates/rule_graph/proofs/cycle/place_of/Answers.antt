use Rattle.rule_graph.proofs.Places.{places_more, place_found, place_none}
use Rattle.rule_graph.proofs.cycle.place_of.Goals as goal

pub returns-then-rules-place-clause-place : goal.returns-then-rules-place-clause-place
returns-then-rules-place-clause-place c =
    place_found c.args.rules.now c.places.place c.args.rule.0 (record { 0 = 0 }) c.places-test.true c.if-rules-place.true c.places.invariant

pub places-preserved : goal.places-preserved
places-preserved c = places_more c.args.rules.now c.places.place c.args.rule.0 (record { 0 = 0 }) c.places-test.true c.if-rules-place.false c.places.invariant

pub returns-clause-place : goal.returns-clause-place
returns-clause-place c = place_none c.args.rules.now c.places.place c.args.rule.0 c.places.auto.place-end c.places-test.false c.places.invariant
