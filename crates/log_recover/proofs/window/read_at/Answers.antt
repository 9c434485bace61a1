use Rattle.log_recover.proofs.Quiets.{quiet_call}
use Rattle.log_recover.proofs.window.read_at.Goals as goal

pub returns-clause-quiet : goal.returns-clause-quiet
returns-clause-quiet g c told =
    quiet_call g.S.Site.files g.S.Site.may_leave g.S.Site.moment g.S.Site.images_since c.args.site.now c.read.new.self
    (λ image left. (g.met.S.Site g.world.𝓛 g.world.𝓜 g.world.𝓡 ((λ s x. x), (λ x. x), (λ x. x), λ x. x)).only_now told c.args.site.now image left)
    (c.read.ensures.files told) (c.read.ensures.crash told) (c.read.ensures.time told)
