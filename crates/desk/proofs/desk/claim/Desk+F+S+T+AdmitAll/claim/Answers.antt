use Rattle.std.proofs.Common.{subst}
use Rattle.outside.specs.Disk.{LeavesOnly}
use Rattle.desk.specs.Claims.{ClaimsAs, KeepsChoice}
use Rattle.desk.specs.Kept.{Fits}
use Rattle.task_core.proofs.Permits.{claim-all}
use Rattle.desk.proofs.desk.claim.Desk+F+S+T+AdmitAll.claim.Goals as goal

pub returns-clause-reply : goal.returns-clause-reply
returns-clause-reply g c =
    let d = c.args.self.now in
    subst (λ choice. ClaimsAs g.S.Site.count d choice c.args.link c.args.moment c.claim_by.result c.claim_by.new.self) (claim-all d.plan d.options d.moves d.stop c.args.link.0) c.claim_by.ensures.reply

pub returns-clause-any_moment : goal.returns-clause-any_moment
returns-clause-any_moment g c told kept fine =
    let d = c.args.self.now in
    subst (λ choice. LeavesOnly g.S.Site.moment g.S.Site.images_since d.site c.claim_by.new.self.site (KeepsChoice (Fits g.T.Terms.trust g.F.Commands.gives g.T.Terms.sources) d choice c.args.link c.args.moment))
    (claim-all d.plan d.options d.moves d.stop c.args.link.0) (c.claim_by.ensures.any_moment told kept fine)
