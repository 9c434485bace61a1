use Rattle.net_world.proofs.CollectShows.{collected_by}
use Rattle.net_world.proofs.play.Play.log_drop.Goals as goal

pub returns : goal.returns
returns c P O w shown =
    let did = c.in_ok-drop_wanted.ensures P O w shown in
    collected_by P O w c.drop_wanted.new.self c.in_ok-drop_wanted.field-0 did.0 did.1
