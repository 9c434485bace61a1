use Rattle.desk.proofs.Quiets.{one_call, then_calls}
use Rattle.desk.proofs.sources.sync_size.Goals as goal

pub returns-in_err-sync-clause-any_moment : goal.returns-in_err-sync-clause-any_moment
returns-in_err-sync-clause-any_moment g c told =
    one_call g.S.Site.may_leave g.S.Site.moment g.S.Site.images_since c.args.site.now c.sync.new.self (λ image. (g.met.S.Site g.world.𝓛 g.world.𝓜 g.world.𝓡 ((λ s x. x), (λ x. x), (λ x. x), λ x. x)).only_now told c.args.site.now image) (c.sync.ensures.crash told).within (c.sync.ensures.time told)

pub returns-clause-any_moment : goal.returns-clause-any_moment
returns-clause-any_moment g c told =
    let synced = one_call g.S.Site.may_leave g.S.Site.moment g.S.Site.images_since c.args.site.now c.sync.new.self (λ image. (g.met.S.Site g.world.𝓛 g.world.𝓜 g.world.𝓡 ((λ s x. x), (λ x. x), (λ x. x), λ x. x)).only_now told c.args.site.now image) (c.sync.ensures.crash told).within (c.sync.ensures.time told) in
    let sized = one_call g.S.Site.may_leave g.S.Site.moment g.S.Site.images_since c.sync.new.self c.size.new.self (λ image. (g.met.S.Site g.world.𝓛 g.world.𝓜 g.world.𝓡 ((λ s x. x), (λ x. x), (λ x. x), λ x. x)).only_now told c.sync.new.self image) (c.size.ensures.crash told) (c.size.ensures.time told) in
    then_calls g.S.Site.may_leave g.S.Site.moment g.S.Site.images_since c.args.site.now c.sync.new.self c.size.new.self synced (c.sync.ensures.crash told).within sized
