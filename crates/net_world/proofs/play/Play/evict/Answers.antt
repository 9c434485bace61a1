use Rattle.std.proofs.lemmas.Result.{on_ok_weaker}
use Rattle.net_world.proofs.play.Play.evict.Goals as goal

pub returns : goal.returns
returns c = on_ok_weaker c.go.result (λ turns P O w shown. turns P O _ (c.in_ok-part.ensures P O w shown)) c.go.ensures
