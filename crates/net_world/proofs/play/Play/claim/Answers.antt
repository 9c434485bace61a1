use Rattle.std.proofs.lemmas.Result.{on_ok_weaker}
use Rattle.net_world.proofs.ClaimShows.{claim_sent}
use Rattle.net_world.proofs.play.Play.claim.Goals as goal

pub returns-in-Some : goal.returns-in-Some
returns-in-Some c = on_ok_weaker c.send_out.result (λ sends P O w shown.
    claim_sent P O w _ c.send_out.new.self c.args.link.0 _ c.in-Some.attempt c.in-Some.is (c.in_ok-attempt.ensures P O w shown) (λ v was new. sends P O v was new))
    c.send_out.ensures
