use Rattle.std.proofs.Common.{refl}
use Rattle.std.proofs.lemmas.Result.{on_ok_weaker}
use Rattle.net_world.proofs.CollectShows.{both_on_ok, unlinked_shown}
use Rattle.net_world.proofs.play.Play.unlink.Goals as goal

pub returns : goal.returns
returns c = on_ok_weaker c.unlink_on_lines.result (λ did P O w shown.
    unlinked_shown P O w c.args.self.now _ c.args.file shown did.0 did.1 refl refl refl refl refl)
    (both_on_ok _ _ c.unlink_on_lines.result c.unlink_on_lines.ensures.lines c.unlink_on_lines.ensures.sent)
