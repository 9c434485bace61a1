use Rattle.outside.specs.Disk.{IsImage}
use Rattle.outside.proofs.Moments.{started}
use Rattle.log_recover.proofs.Quiets.{still_call}
use Rattle.log_recover.proofs.settle.settle.Goals as goal

pub returns-in_err-sync-clause-any_moment : goal.returns-in_err-sync-clause-any_moment
returns-in_err-sync-clause-any_moment g c told =
    let start = started g.S.Site.moment g.S.Site.images_since c.args.site.now (IsImage (g.S.Site.may_leave c.args.site.now))
    (λ image left. (g.met.S.Site g.world.𝓛 g.world.𝓜 g.world.𝓡 ((λ s x. x), (λ x. x), (λ x. x), λ x. x)).only_now told c.args.site.now image left) in
    still_call g.S.Site.files g.S.Site.may_leave g.S.Site.moment g.S.Site.images_since c.args.site.now c.args.site.now c.sync.new.self start (λ name file left. left)
    (c.sync.ensures.crash told).within (c.sync.ensures.time told)

pub returns-clause-any_moment : goal.returns-clause-any_moment
returns-clause-any_moment g c told =
    let start = started g.S.Site.moment g.S.Site.images_since c.args.site.now (IsImage (g.S.Site.may_leave c.args.site.now))
    (λ image left. (g.met.S.Site g.world.𝓛 g.world.𝓜 g.world.𝓡 ((λ s x. x), (λ x. x), (λ x. x), λ x. x)).only_now told c.args.site.now image left) in
    let synced = still_call g.S.Site.files g.S.Site.may_leave g.S.Site.moment g.S.Site.images_since c.args.site.now c.args.site.now c.sync.new.self start (λ name file left. left)
    (c.sync.ensures.crash told).within (c.sync.ensures.time told) in
    still_call g.S.Site.files g.S.Site.may_leave g.S.Site.moment g.S.Site.images_since c.args.site.now c.sync.new.self c.size.new.self synced
    (c.sync.ensures.crash told).within (c.size.ensures.crash told) (c.size.ensures.time told)
