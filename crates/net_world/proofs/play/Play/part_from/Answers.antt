use Rattle.std.proofs.Common.{refl}
use Rattle.net_world.proofs.PeerShows.{lead_left_shown}
use Rattle.net_world.proofs.play.Play.part_from.Goals as goal

pub returns-in-Lead : goal.returns-in-Lead
returns-in-Lead c P O w shown = lead_left_shown P O w c.args.self.now _ c.args.peer c.args.parting c.in-Lead.is shown (record { table = refl; records = refl; contents = refl; lines = refl; up = refl }) c.cut_under.ensures refl
