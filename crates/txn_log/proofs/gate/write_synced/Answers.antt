use Rattle.std.proofs.Common.{length}
use Rattle.outside.specs.Disk.{IsTorn, IsStepped}
use Rattle.outside.proofs.Moments.{started, goes_on, torn_same}
use Rattle.txn_log.proofs.gate.write_synced.Goals as goal

-- the write alone
pub returns-in_err-write-clause-any_moment : goal.returns-in_err-write-clause-any_moment
returns-in_err-write-clause-any_moment g c told =
    let P = IsStepped c.args.name.now (IsTorn c.args.at (length c.args.bytes.now)) (g.S.Site.may_leave c.args.site.now) in
    let torn = c.write.ensures.crash told in
    let at_start = started g.S.Site.moment g.S.Site.images_since c.args.site.now P (λ image left.
    let now = (g.met.S.Site g.world.𝓛 g.world.𝓜 g.world.𝓡 ((λ s x. x), (λ x. x), (λ x. x), λ x. x)).only_now told c.args.site.now image left in
    record { here = (image c.args.name.now, now c.args.name.now, torn_same _ _ (image c.args.name.now)); others = λ m ne. now m }) in
    goes_on g.S.Site.moment g.S.Site.images_since c.args.site.now c.args.site.now c.write.new.self P _ at_start (c.write.ensures.time told)
    (λ image now. record { here = torn.here _ (now c.args.name.now); others = λ m ne. torn.others m _ ne (now m) })

-- the sync too
pub returns-in_err-sync-clause-any_moment : goal.returns-in_err-sync-clause-any_moment
returns-in_err-sync-clause-any_moment g c told =
    let P = IsStepped c.args.name.now (IsTorn c.args.at (length c.args.bytes.now)) (g.S.Site.may_leave c.args.site.now) in
    let torn = c.write.ensures.crash told in
    let at_start = started g.S.Site.moment g.S.Site.images_since c.args.site.now P (λ image left.
    let now = (g.met.S.Site g.world.𝓛 g.world.𝓜 g.world.𝓡 ((λ s x. x), (λ x. x), (λ x. x), λ x. x)).only_now told c.args.site.now image left in
    record { here = (image c.args.name.now, now c.args.name.now, torn_same _ _ (image c.args.name.now)); others = λ m ne. now m }) in
    let behind = goes_on g.S.Site.moment g.S.Site.images_since c.args.site.now c.args.site.now c.write.new.self P _ at_start (c.write.ensures.time told)
    (λ image now. record { here = torn.here _ (now c.args.name.now); others = λ m ne. torn.others m _ ne (now m) }) in
    goes_on g.S.Site.moment g.S.Site.images_since c.args.site.now c.write.new.self c.sync.new.self P _ behind (c.sync.ensures.time told)
    (λ image now. let was = (c.sync.ensures.crash told).within in
    record { here = torn.here _ (was _ _ (now c.args.name.now)); others = λ m ne. torn.others m _ ne (was _ _ (now m)) })

pub returns-clause-any_moment : goal.returns-clause-any_moment
returns-clause-any_moment g c told =
    let P = IsStepped c.args.name.now (IsTorn c.args.at (length c.args.bytes.now)) (g.S.Site.may_leave c.args.site.now) in
    let torn = c.write.ensures.crash told in
    let at_start = started g.S.Site.moment g.S.Site.images_since c.args.site.now P (λ image left.
    let now = (g.met.S.Site g.world.𝓛 g.world.𝓜 g.world.𝓡 ((λ s x. x), (λ x. x), (λ x. x), λ x. x)).only_now told c.args.site.now image left in
    record { here = (image c.args.name.now, now c.args.name.now, torn_same _ _ (image c.args.name.now)); others = λ m ne. now m }) in
    let behind = goes_on g.S.Site.moment g.S.Site.images_since c.args.site.now c.args.site.now c.write.new.self P _ at_start (c.write.ensures.time told)
    (λ image now. record { here = torn.here _ (now c.args.name.now); others = λ m ne. torn.others m _ ne (now m) }) in
    goes_on g.S.Site.moment g.S.Site.images_since c.args.site.now c.write.new.self c.sync.new.self P _ behind (c.sync.ensures.time told)
    (λ image now. let was = (c.sync.ensures.crash told).within in
    record { here = torn.here _ (was _ _ (now c.args.name.now)); others = λ m ne. torn.others m _ ne (was _ _ (now m)) })
