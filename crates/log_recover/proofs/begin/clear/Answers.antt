use Rattle.outside.proofs.Moments.{started, goes_on}
use Rattle.log_recover.specs.Recovery.{IsUnbegunAt}
use Rattle.log_recover.proofs.Begins.{unbegun_cut}
use Rattle.log_recover.proofs.begin.clear.Goals as goal

pub returns-clause-short : goal.returns-clause-short
returns-clause-short g c told file left =
    let before = (c.cut.ensures.crash told).here file left in
    unbegun_cut before.0 file (c.requires.short told before.0 before.1) before.2

pub returns-clause-any_moment : goal.returns-clause-any_moment
returns-clause-any_moment g c told =
    let P = IsUnbegunAt c.args.name.now (g.S.Site.may_leave c.args.site.now) in
    let start = started g.S.Site.moment g.S.Site.images_since c.args.site.now P (λ image left.
    let now = (g.met.S.Site g.world.𝓛 g.world.𝓜 g.world.𝓡 ((λ s x. x), (λ x. x), (λ x. x), λ x. x)).only_now told c.args.site.now image left in
    record { log = c.requires.short told _ (now c.args.name.now); others = λ m ne. now m }) in
    goes_on g.S.Site.moment g.S.Site.images_since c.args.site.now c.args.site.now c.cut.new.self P _ start (c.cut.ensures.time told) (λ image now.
    let before = (c.cut.ensures.crash told).here _ (now c.args.name.now) in
    record {
      log = unbegun_cut before.0 (image c.args.name.now) (c.requires.short told before.0 before.1) before.2;
      others = λ m ne. (c.cut.ensures.crash told).others m _ ne (now m);
    })
