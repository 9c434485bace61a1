use Rattle.std.proofs.Common.{Err, None, arith, subst}
use Rattle.run_history.specs.Links.{records_of}
use Rattle.desk.specs.declared.answers.ClaimRefused.{ClaimRefused}
use Rattle.desk.specs.Claims.{ClaimsBy}
use Rattle.local_run.specs.Underway.{IsSurePool}
use Rattle.local_run.proofs.Alone.{log_alone}
use Rattle.local_run.proofs.AwayBegun.{claim_told, claims_away}
use Rattle.local_run.proofs.GivenBegun.{broken_on, wanting_on}
use Rattle.local_run.proofs.Sparing.{claims_spares}
use Rattle.local_run.proofs.away.claim_away.Goals as goal

pub returns-in-Ok-clause-underway : goal.returns-in-Ok-clause-underway
returns-in-Ok-clause-underway g c away front back first held waiting heard are u =
    let d = c.args.desk.now in
    let after = c.claim_by.new.self in
    claims_away g.T.Terms.trust g.F.Commands.gives g.F.Commands.may_fail g.T.Terms.sources g.S.Site.tells g.T.Terms.kept (IsSurePool g.B.Terms.fits) g.S.Site.files g.S.Site.may_leave g.S.Site.moment g.S.Site.images_since away g.A.Admission.admitted g.S.Site.count first d after held waiting heard c.in-Ok.claim c.args.link c.args.moment front back c.works-works.ensures.opened c.works-works.ensures.legal c.requires.lives
    (λ zero. (let some = c.requires.beyond in let wrong : ⊥ = omega (arith, some, zero) in wrong)) (λ told. log_alone g.S.Site.files g.S.Site.may_leave g.S.Site.moment g.S.Site.images_since d.plan d.log (records_of d.moves) d.site after.site (c.claim_by.ensures.others told) (c.claim_by.ensures.reads told)) are c.in-Ok.ensures.reply u

pub returns-in-Err-Broken-clause-underway : goal.returns-in-Err-Broken-clause-underway
returns-in-Err-Broken-clause-underway g c away front back first held waiting heard are u =
    let d = c.args.desk.now in
    let after = c.claim_by.new.self in
    broken_on g.T.Terms.trust g.F.Commands.gives g.F.Commands.may_fail g.T.Terms.sources g.S.Site.tells g.T.Terms.kept (IsSurePool g.B.Terms.fits) g.S.Site.files g.S.Site.may_leave g.S.Site.moment g.S.Site.images_since away g.A.Admission.admitted g.S.Site.count first d after held waiting None heard None c.args.link c.args.moment _ _ (λ told. log_alone g.S.Site.files g.S.Site.may_leave g.S.Site.moment g.S.Site.images_since d.plan d.log (records_of d.moves) d.site after.site (c.claim_by.ensures.others told) (c.claim_by.ensures.reads told))
    (subst (λ (w : ClaimRefused). ClaimsBy g.A.Admission.admitted g.S.Site.count d c.args.link c.args.moment (Err w) after) c.in-Err-Broken.field-0-is c.in-Err-Broken.ensures.reply) u

pub returns-in-Err-Memory-clause-underway : goal.returns-in-Err-Memory-clause-underway
returns-in-Err-Memory-clause-underway g c away front back first held waiting heard are u =
    let d = c.args.desk.now in
    let after = c.claim_by.new.self in
    wanting_on g.T.Terms.trust g.F.Commands.gives g.F.Commands.may_fail g.T.Terms.sources g.S.Site.tells g.T.Terms.kept (IsSurePool g.B.Terms.fits) g.S.Site.files g.S.Site.may_leave g.S.Site.moment g.S.Site.images_since away g.A.Admission.admitted g.S.Site.count first d after held waiting None heard None c.args.link c.args.moment (λ told. log_alone g.S.Site.files g.S.Site.may_leave g.S.Site.moment g.S.Site.images_since d.plan d.log (records_of d.moves) d.site after.site (c.claim_by.ensures.others told) (c.claim_by.ensures.reads told))
    (subst (λ (w : ClaimRefused). ClaimsBy g.A.Admission.admitted g.S.Site.count d c.args.link c.args.moment (Err w) after) c.in-Err-Memory.field-0-is c.in-Err-Memory.ensures.reply) u

pub returns-in-Ok-clause-told : goal.returns-in-Ok-clause-told
returns-in-Ok-clause-told g c =
    claim_told g.A.Admission.admitted g.S.Site.count c.args.desk.now c.claim_by.new.self c.in-Ok.claim c.args.link c.args.moment c.works-works.ensures.opened c.works-works.ensures.legal c.requires.lives c.in-Ok.ensures.reply

pub returns-in-Ok-clause-spares : goal.returns-in-Ok-clause-spares
returns-in-Ok-clause-spares g c = claims_spares g.S.Site.count c.args.desk.now c.claim_by.new.self g.A.Admission.admitted c.args.link c.args.moment c.in-Ok.claim c.in-Ok.ensures.reply
