use Rattle.std.proofs.Common.{◌≢◌}
use Rattle.file_store.proofs.Beside.{first_call, next_call}
use Rattle.file_store.proofs.put.overwrite.Goals as goal

pub returns-in_err-write-clause-any_moment : goal.returns-in_err-write-clause-any_moment
returns-in_err-write-clause-any_moment g c told =
    first_call g.S.Site.may_leave g.S.Site.moment g.S.Site.images_since (λ m. m ≢ c.args.name.now) c.args.site.now c.write.new.self
    ((g.met.S.Site g.world.𝓛 g.world.𝓜 g.world.𝓡 ((λ s x. x), (λ x. x), (λ x. x), λ x. x)).only_now told c.args.site.now)
    (λ m file ne. (c.write.ensures.crash told).others m file ne) (c.write.ensures.time told)

pub returns-clause-any_moment : goal.returns-clause-any_moment
returns-clause-any_moment g c told =
    next_call g.S.Site.may_leave g.S.Site.moment g.S.Site.images_since (λ m. m ≢ c.args.name.now) c.args.site.now c.write.new.self c.cut.new.self
    (first_call g.S.Site.may_leave g.S.Site.moment g.S.Site.images_since (λ m. m ≢ c.args.name.now) c.args.site.now c.write.new.self
    ((g.met.S.Site g.world.𝓛 g.world.𝓜 g.world.𝓡 ((λ s x. x), (λ x. x), (λ x. x), λ x. x)).only_now told c.args.site.now)
    (λ m file ne. (c.write.ensures.crash told).others m file ne) (c.write.ensures.time told))
    (λ m file ne. (c.write.ensures.crash told).others m file ne)
    (λ m file ne. (c.cut.ensures.crash told).others m file ne) (c.cut.ensures.time told)
