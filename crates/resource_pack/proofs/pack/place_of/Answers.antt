use Rattle.std.proofs.Common.{sym, ◌∙◌}
use Rattle.std.proofs.lemmas.Bool.{eq-eqb}
use Rattle.resource_pack.specs.Packing.{is_link}
use Rattle.resource_pack.proofs.Places.{place-found, none-passes}
use Rattle.resource_pack.proofs.pack.place_of.Goals as goal

pub returns-then-link : goal.returns-then-link
returns-then-link c =
    place-found (is_link c.args.link.0) c.args.links.now c.loop-at.at c.index-links-at.result c.loop-at-test.true c.index-links-at.is c.loop-at.invariant
    (eq-eqb c.index-links-at.result.link c.args.link.0 (sym c.link.ensures ∙ c.if-link.true))

pub returns : goal.returns
returns c = none-passes (is_link c.args.link.0) c.args.links.now c.loop-at.at c.loop-at-test.false c.loop-at.invariant
