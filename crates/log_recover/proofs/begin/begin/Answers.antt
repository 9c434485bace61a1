use Rattle.std.proofs.Common.{◌∙◌}
use Rattle.outside.proofs.Moments.{weakened}
use Rattle.log_recover.specs.Recovery.{IsUnbegunAt}
use Rattle.log_recover.proofs.Begins.{unbegun_torn, begun_log, both_ok}
use Rattle.log_recover.proofs.begin.begin.Goals as goal

pub returns-clause-begun : goal.returns-clause-begun
returns-clause-begun g c =
    both_ok c.write_synced.result (λ done durable told file left. begun_log (g.S.Site.files c.args.site.now c.args.name.now) file (c.requires.empty told) (durable told file left ∙ done told))
    c.write_synced.ensures.done c.write_synced.ensures.durable

pub returns-clause-any_moment : goal.returns-clause-any_moment
returns-clause-any_moment g c told =
    weakened g.S.Site.moment g.S.Site.images_since c.args.site.now c.write_synced.new.site _ (IsUnbegunAt c.args.name.now (g.S.Site.may_leave c.args.site.now))
    (c.write_synced.ensures.any_moment told)
    (λ image step. record { log = unbegun_torn step.here.0 (image c.args.name.now) (c.requires.short told step.here.0 step.here.1) step.here.2; others = step.others })
