use Rattle.std.proofs.Common.{refl}
use Rattle.std.proofs.lemmas.Result.{on_ok_weaker}
use Rattle.net_world.proofs.PeerShows.{told_shown}
use Rattle.net_world.proofs.play.Play.carry_out.Goals as goal

pub returns-in-Tells : goal.returns-in-Tells
returns-in-Tells c = on_ok_weaker c.send_to.result (λ more P O w shown.
    told_shown P O w c.args.self.now _ c.args.peer c.args.doing c.in-Tells.to c.in-Tells.sent c.in-Tells.is shown (record { table = refl; records = refl; contents = refl; lines = refl; up = refl }) refl more)
    c.send_to.ensures
