use Rattle.std.proofs.Common.{◌≢◌, ◌<◌, ◌∙◌, inl, ℕ, ap, subst, sym}
use Rattle.outside.specs.Disk.{IsImage, LeavesOnly}
use Rattle.outside.proofs.Moments.{weakened}
use Rattle.desk.specs.Begins.{KeepsOpening}
use Rattle.desk.specs.Kept.{Fits, StaysBeside}
use Rattle.desk.specs.Readiness.{ReadyState}
use Rattle.desk.proofs.Others.{by_within, then_stays}
use Rattle.desk.proofs.Readying.{opened_beside, opened_moments, opened_reads}
use Rattle.flow_run.proofs.Declined.{refused_declines, unheard_declines, unopened_declines}
use Rattle.flow_run.proofs.opening.open.Goals as goal

pub returns-in-Err-clause-declined : goal.returns-in-Err-clause-declined
returns-in-Err-clause-declined g c =
    refused_declines g.S.Site.count c.args.plan c.args.options c.args.history g.S.Site.tells (g.S.Site.files c.args.site) c.args.site c.in-Err.field-0.site c.in-Err.field-0.history c.in-Err.ensures.reply.0
    (g.H.Hall.count c.args.hall.now) (g.H.Hall.count c.args.hall.now) c.in-Err.field-0.why c.in-Err.ensures.reply.1

pub returns-in-Err-clause-any_moment : goal.returns-in-Err-clause-any_moment
returns-in-Err-clause-any_moment g c told kept =
    weakened g.S.Site.moment g.S.Site.images_since c.args.site c.in-Err.field-0.site (IsImage (g.S.Site.may_leave c.args.site))
    (KeepsOpening (Fits g.T.Terms.trust g.F.Commands.gives g.T.Terms.sources) c.args.plan c.args.options c.args.log.name c.args.history c.args.moment g.S.Site.tells (g.S.Site.files c.args.site))
    (c.in-Err.ensures.any_moment told) (λ image now. inl (c.requires.kept told kept image now))

pub returns-in-Err-listen-clause-declined : goal.returns-in-Err-listen-clause-declined
returns-in-Err-listen-clause-declined g c =
    unheard_declines g.S.Site.count c.args.plan c.args.options c.args.history g.S.Site.tells (g.S.Site.files c.args.site) c.args.site c.into_parts-site.result.0 c.into_parts-site.result.1
    (c.into_parts-site.ensures.records ∙ ap (λ (r : ReadyState g.row.S.Denot). r.history) c.in-Ok.ensures.reply.3) (g.H.Hall.count c.args.hall.now) (g.H.Hall.count c.listen.new.hall)
    c.in-Ok.ensures.reply.0 c.in-Ok.ensures.reply.1 c.in-Err-listen.fault c.in-Err-listen.ensures.asked c.in-Err-listen.ensures.cause.failed

pub returns-in-Err-listen-clause-any_moment : goal.returns-in-Err-listen-clause-any_moment
returns-in-Err-listen-clause-any_moment g c told kept =
    subst (λ (s : g.row.S.Denot). LeavesOnly g.S.Site.moment g.S.Site.images_since c.args.site s (KeepsOpening (Fits g.T.Terms.trust g.F.Commands.gives g.T.Terms.sources) c.args.plan c.args.options c.args.log.name c.args.history c.args.moment g.S.Site.tells (g.S.Site.files c.args.site))) (sym c.into_parts-site.ensures.site)
    (weakened g.S.Site.moment g.S.Site.images_since c.args.site c.in-Ok.ready.site (IsImage (g.S.Site.may_leave c.args.site))
    (KeepsOpening (Fits g.T.Terms.trust g.F.Commands.gives g.T.Terms.sources) c.args.plan c.args.options c.args.log.name c.args.history c.args.moment g.S.Site.tells (g.S.Site.files c.args.site))
    (c.in-Ok.ensures.any_moment told) (λ image now. inl (c.requires.kept told kept image now)))

pub returns-in-Err-listen-clause-others : goal.returns-in-Err-listen-clause-others
returns-in-Err-listen-clause-others g c told =
    subst (λ (s : g.row.S.Denot). StaysBeside g.S.Site.may_leave g.S.Site.moment g.S.Site.images_since (λ m. m ≢ c.args.log.name) c.args.site s) (sym c.into_parts-site.ensures.site)
    (by_within g.S.Site.may_leave g.S.Site.moment g.S.Site.images_since (λ m. m ≢ c.args.log.name) c.args.site c.in-Ok.ready.site (c.in-Ok.ensures.within told) (c.in-Ok.ensures.any_moment told))

pub returns-in-Ok-open-clause-any_moment : goal.returns-in-Ok-open-clause-any_moment
returns-in-Ok-open-clause-any_moment g c told kept =
    opened_moments g.S.Site.count c.args.plan c.args.options c.args.log.name c.args.history c.args.moment g.S.Site.tells (g.S.Site.files c.args.site) c.args.site c.in-Ok.ready c.in-Ok.ensures.reply
    (Fits g.T.Terms.trust g.F.Commands.gives g.T.Terms.sources) g.S.Site.may_leave g.S.Site.moment g.S.Site.images_since c.in-Ok-open.desk.site
    (c.requires.kept told kept) (c.in-Ok.ensures.any_moment told) (c.in-Ok-open.ensures.any_moment told kept)

pub returns-in-Ok-open-clause-others : goal.returns-in-Ok-open-clause-others
returns-in-Ok-open-clause-others g c told =
    then_stays g.S.Site.may_leave g.S.Site.moment g.S.Site.images_since (λ m. m ≢ c.args.log.name) c.args.site c.in-Ok.ready.site c.in-Ok-open.desk.site
    (by_within g.S.Site.may_leave g.S.Site.moment g.S.Site.images_since (λ m. m ≢ c.args.log.name) c.args.site c.in-Ok.ready.site (c.in-Ok.ensures.within told) (c.in-Ok.ensures.any_moment told))
    (opened_beside g.S.Site.count c.args.plan c.args.options c.args.log.name c.args.history c.args.moment g.S.Site.tells (g.S.Site.files c.args.site) c.args.site c.in-Ok.ready c.in-Ok.ensures.reply
    g.S.Site.may_leave g.S.Site.moment g.S.Site.images_since c.in-Ok-open.desk.site (c.in-Ok-open.ensures.others told))

pub returns-in-Ok-open-clause-reads : goal.returns-in-Ok-open-clause-reads
returns-in-Ok-open-clause-reads g c told m apart =
    opened_reads g.S.Site.count c.args.plan c.args.options c.args.log.name c.args.history c.args.moment g.S.Site.tells (g.S.Site.files c.args.site) c.args.site c.in-Ok.ready c.in-Ok.ensures.reply
    g.S.Site.files c.in-Ok-open.desk.site (c.in-Ok-open.ensures.reads told) m apart ∙ c.in-Ok.ensures.reads told m (λ cut. absurd cut)

pub returns-in-Err-open-clause-any_moment : goal.returns-in-Err-open-clause-any_moment
returns-in-Err-open-clause-any_moment g c told kept =
    opened_moments g.S.Site.count c.args.plan c.args.options c.args.log.name c.args.history c.args.moment g.S.Site.tells (g.S.Site.files c.args.site) c.args.site c.in-Ok.ready c.in-Ok.ensures.reply
    (Fits g.T.Terms.trust g.F.Commands.gives g.T.Terms.sources) g.S.Site.may_leave g.S.Site.moment g.S.Site.images_since c.in-Err-open.field-0.site
    (c.requires.kept told kept) (c.in-Ok.ensures.any_moment told) (c.in-Err-open.ensures.any_moment told kept)

pub returns-in-Err-open-clause-others : goal.returns-in-Err-open-clause-others
returns-in-Err-open-clause-others g c told =
    then_stays g.S.Site.may_leave g.S.Site.moment g.S.Site.images_since (λ m. m ≢ c.args.log.name) c.args.site c.in-Ok.ready.site c.in-Err-open.field-0.site
    (by_within g.S.Site.may_leave g.S.Site.moment g.S.Site.images_since (λ m. m ≢ c.args.log.name) c.args.site c.in-Ok.ready.site (c.in-Ok.ensures.within told) (c.in-Ok.ensures.any_moment told))
    (opened_beside g.S.Site.count c.args.plan c.args.options c.args.log.name c.args.history c.args.moment g.S.Site.tells (g.S.Site.files c.args.site) c.args.site c.in-Ok.ready c.in-Ok.ensures.reply
    g.S.Site.may_leave g.S.Site.moment g.S.Site.images_since c.in-Err-open.field-0.site (c.in-Err-open.ensures.others told))

pub returns-in-Err-open-clause-reads : goal.returns-in-Err-open-clause-reads
returns-in-Err-open-clause-reads g c told m apart =
    opened_reads g.S.Site.count c.args.plan c.args.options c.args.log.name c.args.history c.args.moment g.S.Site.tells (g.S.Site.files c.args.site) c.args.site c.in-Ok.ready c.in-Ok.ensures.reply
    g.S.Site.files c.in-Err-open.field-0.site (c.in-Err-open.ensures.reads told) m apart.0 ∙ c.in-Ok.ensures.reads told m (λ cut. absurd cut)

pub returns-in-Err-open-clause-declined : goal.returns-in-Err-open-clause-declined
returns-in-Err-open-clause-declined g c =
    unopened_declines g.S.Site.count c.args.plan c.args.options c.args.history g.S.Site.tells (g.S.Site.files c.args.site) c.args.site c.in-Err-open.field-0.site c.in-Err-open.field-0.history
    (c.in-Err-open.ensures.reply.0 ∙ ap (λ (r : ReadyState g.row.S.Denot). r.history) c.in-Ok.ensures.reply.3) (g.H.Hall.count c.args.hall.now) (g.H.Hall.count c.listen.new.hall)
    c.in-Ok.ensures.reply.0 c.in-Ok.ensures.reply.1 c.opening_fault.result
    (λ failed. subst (λ (n : ℕ). n < g.S.Site.count c.in-Err-open.field-0.site) (ap (λ (r : ReadyState g.row.S.Denot). r.faults) c.in-Ok.ensures.reply.3)
    (c.opening_fault.ensures c.in-Ok.ready.faults (g.S.Site.count c.in-Err-open.field-0.site) c.in-Err-open.ensures.reply.1 failed))
