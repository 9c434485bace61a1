-- Places in templates.
use Rattle.std.specs.Prelude.{ℕ, List}
use Rattle.jx_meaning.specs.Texts as of
use Rattle.jx_functions.specs.declared.templates.Spot.{Spot}
use Rattle.jx_functions.specs.declared.templates.Spot.TheVariants.{Outside, Opened, Naming, Closed}

-- a place, where these bytes of a name were read
abbrev pub spot_of : Spot → List ℕ → of.Spot
spot_of Outside name = of.outside
spot_of Opened name = of.opened
spot_of Naming name = of.naming name
spot_of Closed name = of.closed
