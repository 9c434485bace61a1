use Rattle.std.proofs.Common.{◌≢◌, subst}
use Rattle.desk.specs.Begins.{site_in}
use Rattle.desk.specs.Kept.{ReadsStay, StaysBeside}
use Rattle.desk.specs.Readiness.{ReadyState}
use Rattle.desk.proofs.ready.Ready.open.Goals as goal

pub returns-clause-others : goal.returns-clause-others
returns-clause-others g c told =
    subst (λ (v : ReadyState g.row.S.Denot). StaysBeside g.S.Site.may_leave g.S.Site.moment g.S.Site.images_since (λ m. m ≢ v.log) v.site (site_in c.begin.result)) c.self.view_is (c.begin.ensures.others told)

pub returns-clause-reads : goal.returns-clause-reads
returns-clause-reads g c told = subst (λ (v : ReadyState g.row.S.Denot). ReadsStay g.S.Site.files (λ m. m ≢ v.log) v.site (site_in c.begin.result)) c.self.view_is (c.begin.ensures.reads told)
