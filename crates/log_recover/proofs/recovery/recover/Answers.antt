use Rattle.outside.proofs.Moments.{weakened}
use Rattle.log_recover.specs.Recovery.{IsKept}
use Rattle.log_recover.proofs.Unique.{recovers_these, kept_at}
use Rattle.log_recover.proofs.recovery.recover.Goals as goal

pub returns-clause-exact : goal.returns-clause-exact
returns-clause-exact g c told records spells =
    recovers_these (g.S.Site.files c.args.site.now c.args.name) c.open_log.result records (c.open_log.ensures.answer told) spells

pub returns-clause-kept : goal.returns-clause-kept
returns-clause-kept g c told records spelled =
    let now = (g.met.S.Site g.world.𝓛 g.world.𝓜 g.world.𝓡 ((λ s x. x), (λ x. x), (λ x. x), λ x. x)).reads_image told c.args.site.now c.args.name in
    weakened g.S.Site.moment g.S.Site.images_since c.args.site.now c.open_log.new.site _ (IsKept c.args.name records (g.S.Site.may_leave c.args.site.now))
    (c.open_log.ensures.any_moment told)
    (λ image step. kept_at c.args.name (g.S.Site.files c.args.site.now c.args.name) (g.S.Site.may_leave c.args.site.now) records now spelled image step)
