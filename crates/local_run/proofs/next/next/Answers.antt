use Rattle.std.proofs.Common.{◌≡◌, true, Err, List, None, Ok, Option, refl, subst, sym, ap, arith, length}
use Rattle.flow_types.specs.declared.numbers.LinkNo.{LinkNo}
use Rattle.flow_types.specs.declared.plan.Plan.{Plan}
use Rattle.run_history.specs.declared.moves.Move.{Move}
use Rattle.run_history.specs.declared.options.Options.{Options}
use Rattle.run_history.specs.Links.{may_run_on, records_of}
use Rattle.desk.specs.declared.answers.Claim.{Claim}
use Rattle.desk.specs.declared.answers.Claim.TheVariants as claims
use Rattle.desk.specs.declared.answers.ClaimRefused.{ClaimRefused}
use Rattle.desk.specs.Claims.{ClaimsBy}
use Rattle.desk.specs.State.{DeskState}
use Rattle.local_run.specs.declared.halt.Halt.{Halt}
use Rattle.local_run.specs.Losses.{SparesAll}
use Rattle.local_run.specs.Underway.{HeldState, IsSurePool}
use Rattle.local_run.proofs.Alone.{log_alone}
use Rattle.local_run.proofs.Claimed.{taken_longer}
use Rattle.local_run.proofs.ClaimsBegun.{begun, claims_on}
use Rattle.local_run.proofs.GivenBegun.{broken_on, wanting_on}
use Rattle.local_run.proofs.StandsBegun.{Under}
use Rattle.local_run.proofs.Sparing.{claims_spares, same_spares, spares_then}
use Rattle.local_run.proofs.next.next.Goals as goal

pub begin-requires-clause-present : goal.begin-requires-clause-present
begin-requires-clause-present g c κs within =
    let d = c.args.desk.now in
    let after = c.claim_by.new.self in
    let reply = subst (λ (w : Claim). ClaimsBy g.A.Admission.admitted g.S.Site.count d (record { 0 = 0 }) c.now.result (Ok w) after) c.in-Ok-Taken.field-0-is c.in-Ok-Taken.ensures.reply in
    (begun g.A.Admission.admitted g.S.Site.count d after c.in-Ok-Taken.attempt (record { 0 = 0 }) c.now.result c.works-works.ensures.opened c.works-works.ensures.legal refl reply).present

pub begin-requires-clause-here : goal.begin-requires-clause-here
begin-requires-clause-here g c κs within =
    let reply = subst (λ (w : Claim). ClaimsBy g.A.Admission.admitted g.S.Site.count c.args.desk.now (record { 0 = 0 }) c.now.result (Ok w) c.claim_by.new.self) c.in-Ok-Taken.field-0-is c.in-Ok-Taken.ensures.reply in
    ap (λ (k : LinkNo). k.0) reply.2.2

pub begin-requires-clause-placed : goal.begin-requires-clause-placed
begin-requires-clause-placed g c κs within =
    let d = c.args.desk.now in
    let after = c.claim_by.new.self in
    let reply = subst (λ (w : Claim). ClaimsBy g.A.Admission.admitted g.S.Site.count d (record { 0 = 0 }) c.now.result (Ok w) after) c.in-Ok-Taken.field-0-is c.in-Ok-Taken.ensures.reply in
    let is = begun g.A.Admission.admitted g.S.Site.count d after c.in-Ok-Taken.attempt (record { 0 = 0 }) c.now.result c.works-works.ensures.opened c.works-works.ensures.legal refl reply in
    subst (λ (P : Plan). may_run_on P after.options c.in-Ok-Taken.attempt.rule.0 0 ≡ true) (sym is.plan)
    (subst (λ (O : Options). may_run_on d.plan O c.in-Ok-Taken.attempt.rule.0 0 ≡ true) (sym is.options)
    (subst (λ (l : LinkNo). may_run_on d.plan d.options c.in-Ok-Taken.attempt.rule.0 l.0 ≡ true) reply.2.2 is.placed))

pub begin-requires-clause-underway : goal.begin-requires-clause-underway
begin-requires-clause-underway g c κs within =
    let d = c.args.desk.now in
    let after = c.claim_by.new.self in
    let held = c.args.held.now.attempts in
    let waiting = c.args.pool.now.waiting in
    let heard = c.args.pool.now.heard in
    let reply = subst (λ (w : Claim). ClaimsBy g.A.Admission.admitted g.S.Site.count d (record { 0 = 0 }) c.now.result (Ok w) after) c.in-Ok-Taken.field-0-is c.in-Ok-Taken.ensures.reply in (
      c.requires.underway.0,
      c.requires.underway.1,
      claims_on g.T.Terms.trust g.F.Commands.gives g.F.Commands.may_fail g.T.Terms.sources g.S.Site.tells g.T.Terms.kept (IsSurePool g.B.Terms.fits) g.S.Site.files g.S.Site.may_leave g.S.Site.moment g.S.Site.images_since c.requires.underway.0 g.A.Admission.admitted g.S.Site.count c.requires.underway.1 d after held waiting heard c.in-Ok-Taken.attempt (record { 0 = 0 }) c.now.result c.works-works.ensures.opened c.works-works.ensures.legal refl
          (λ told. log_alone g.S.Site.files g.S.Site.may_leave g.S.Site.moment g.S.Site.images_since d.plan d.log (records_of d.moves) d.site after.site (c.claim_by.ensures.others told) (c.claim_by.ensures.reads told)) reply c.requires.underway.2,
    )

pub returns-in-Ok-Taken-clause-underway : goal.returns-in-Ok-Taken-clause-underway
returns-in-Ok-Taken-clause-underway g c away first u =
    let d = c.args.desk.now in
    let after = c.claim_by.new.self in
    let held = c.args.held.now.attempts in
    let waiting = c.args.pool.now.waiting in
    let heard = c.args.pool.now.heard in
    let reply = subst (λ (w : Claim). ClaimsBy g.A.Admission.admitted g.S.Site.count d (record { 0 = 0 }) c.now.result (Ok w) after) c.in-Ok-Taken.field-0-is c.in-Ok-Taken.ensures.reply in
    c.begin.ensures.underway away first
    (claims_on g.T.Terms.trust g.F.Commands.gives g.F.Commands.may_fail g.T.Terms.sources g.S.Site.tells g.T.Terms.kept (IsSurePool g.B.Terms.fits) g.S.Site.files g.S.Site.may_leave g.S.Site.moment g.S.Site.images_since away g.A.Admission.admitted g.S.Site.count first d after held waiting heard c.in-Ok-Taken.attempt (record { 0 = 0 }) c.now.result c.works-works.ensures.opened c.works-works.ensures.legal refl
    (λ told. log_alone g.S.Site.files g.S.Site.may_leave g.S.Site.moment g.S.Site.images_since d.plan d.log (records_of d.moves) d.site after.site (c.claim_by.ensures.others told) (c.claim_by.ensures.reads told)) reply u)

pub returns-in-Ok-clause-underway : goal.returns-in-Ok-clause-underway
returns-in-Ok-clause-underway g c away first u =
    let d = c.args.desk.now in
    let after = c.claim_by.new.self in
    let held = c.args.held.now.attempts in
    let waiting = c.args.pool.now.waiting in
    let heard = c.args.pool.now.heard in
    let reply = subst (λ (w : Claim). ClaimsBy g.A.Admission.admitted g.S.Site.count d (record { 0 = 0 }) c.now.result (Ok w) after) c.in-Ok-Nothing.field-0-is c.in-Ok-Nothing.ensures.reply in
    let stood = subst (λ (b : DeskState g.row.S.Denot). Under g.T.Terms.trust g.F.Commands.gives g.F.Commands.may_fail g.T.Terms.sources g.S.Site.tells g.T.Terms.kept (IsSurePool g.B.Terms.fits) g.S.Site.files g.S.Site.may_leave g.S.Site.moment g.S.Site.images_since away first b held waiting None heard None) (sym reply.2) u in
    subst (λ (halt : Option Halt). Under g.T.Terms.trust g.F.Commands.gives g.F.Commands.may_fail g.T.Terms.sources g.S.Site.tells g.T.Terms.kept (IsSurePool g.B.Terms.fits) g.S.Site.files g.S.Site.may_leave g.S.Site.moment g.S.Site.images_since away first c.make_way.new.desk held waiting None heard halt) (sym c.requires.going) (c.in-Ok.ensures.underway away first held waiting heard stood)

pub returns-in-Err-clause-underway : goal.returns-in-Err-clause-underway
returns-in-Err-clause-underway g c away first u =
    let d = c.args.desk.now in
    let after = c.claim_by.new.self in
    let held = c.args.held.now.attempts in
    let waiting = c.args.pool.now.waiting in
    let heard = c.args.pool.now.heard in
    let reply = subst (λ (w : Claim). ClaimsBy g.A.Admission.admitted g.S.Site.count d (record { 0 = 0 }) c.now.result (Ok w) after) c.in-Ok-Nothing.field-0-is c.in-Ok-Nothing.ensures.reply in
    let stood = subst (λ (b : DeskState g.row.S.Denot). Under g.T.Terms.trust g.F.Commands.gives g.F.Commands.may_fail g.T.Terms.sources g.S.Site.tells g.T.Terms.kept (IsSurePool g.B.Terms.fits) g.S.Site.files g.S.Site.may_leave g.S.Site.moment g.S.Site.images_since away first b held waiting None heard None) (sym reply.2) u in
    subst (λ (h : HeldState). Under g.T.Terms.trust g.F.Commands.gives g.F.Commands.may_fail g.T.Terms.sources g.S.Site.tells g.T.Terms.kept (IsSurePool g.B.Terms.fits) g.S.Site.files g.S.Site.may_leave g.S.Site.moment g.S.Site.images_since away first c.make_way.new.desk h.attempts waiting None heard h.halt) (sym c.stop.ensures) (c.in-Err.ensures.underway away first held waiting heard stood)

pub returns-in-Err-Broken-clause-underway : goal.returns-in-Err-Broken-clause-underway
returns-in-Err-Broken-clause-underway g c away first u =
    let d = c.args.desk.now in
    let after = c.claim_by.new.self in
    let held = c.args.held.now.attempts in
    let waiting = c.args.pool.now.waiting in
    let heard = c.args.pool.now.heard in
    let reply = subst (λ (why : ClaimRefused). ClaimsBy g.A.Admission.admitted g.S.Site.count d (record { 0 = 0 }) c.now.result (Err why) after) c.in-Err-Broken.field-0-is c.in-Err-Broken.ensures.reply in
    subst (λ (h : HeldState). Under g.T.Terms.trust g.F.Commands.gives g.F.Commands.may_fail g.T.Terms.sources g.S.Site.tells g.T.Terms.kept (IsSurePool g.B.Terms.fits) g.S.Site.files g.S.Site.may_leave g.S.Site.moment g.S.Site.images_since away first after h.attempts waiting None heard h.halt) (sym c.stop-in-Err-Broken.ensures)
    (broken_on g.T.Terms.trust g.F.Commands.gives g.F.Commands.may_fail g.T.Terms.sources g.S.Site.tells g.T.Terms.kept (IsSurePool g.B.Terms.fits) g.S.Site.files g.S.Site.may_leave g.S.Site.moment g.S.Site.images_since away g.A.Admission.admitted g.S.Site.count first d after held waiting None heard None (record { 0 = 0 }) c.now.result c.in-Err-Broken.field-0-0 c.in-Err-Broken.field-0-1
    (λ told. log_alone g.S.Site.files g.S.Site.may_leave g.S.Site.moment g.S.Site.images_since d.plan d.log (records_of d.moves) d.site after.site (c.claim_by.ensures.others told) (c.claim_by.ensures.reads told)) reply u)

pub returns-in-Err-Memory-clause-underway : goal.returns-in-Err-Memory-clause-underway
returns-in-Err-Memory-clause-underway g c away first u =
    let d = c.args.desk.now in
    let after = c.claim_by.new.self in
    let held = c.args.held.now.attempts in
    let waiting = c.args.pool.now.waiting in
    let heard = c.args.pool.now.heard in
    let reply = subst (λ (why : ClaimRefused). ClaimsBy g.A.Admission.admitted g.S.Site.count d (record { 0 = 0 }) c.now.result (Err why) after) c.in-Err-Memory.field-0-is c.in-Err-Memory.ensures.reply in
    subst (λ (h : HeldState). Under g.T.Terms.trust g.F.Commands.gives g.F.Commands.may_fail g.T.Terms.sources g.S.Site.tells g.T.Terms.kept (IsSurePool g.B.Terms.fits) g.S.Site.files g.S.Site.may_leave g.S.Site.moment g.S.Site.images_since away first after h.attempts waiting None heard h.halt) (sym c.stop-in-Err-Memory.ensures)
    (wanting_on g.T.Terms.trust g.F.Commands.gives g.F.Commands.may_fail g.T.Terms.sources g.S.Site.tells g.T.Terms.kept (IsSurePool g.B.Terms.fits) g.S.Site.files g.S.Site.may_leave g.S.Site.moment g.S.Site.images_since away g.A.Admission.admitted g.S.Site.count first d after held waiting None heard None (record { 0 = 0 }) c.now.result
    (λ told. log_alone g.S.Site.files g.S.Site.may_leave g.S.Site.moment g.S.Site.images_since d.plan d.log (records_of d.moves) d.site after.site (c.claim_by.ensures.others told) (c.claim_by.ensures.reads told)) reply u)

pub returns-in-Ok-Taken-clause-grew : goal.returns-in-Ok-Taken-clause-grew
returns-in-Ok-Taken-clause-grew g c did going =
    let d = c.args.desk.now in
    let after = c.claim_by.new.self in
    let reply = subst (λ (w : Claim). ClaimsBy g.A.Admission.admitted g.S.Site.count d (record { 0 = 0 }) c.now.result (Ok w) after) c.in-Ok-Taken.field-0-is c.in-Ok-Taken.ensures.reply in
    let more = taken_longer g.A.Admission.admitted g.S.Site.count d after c.in-Ok-Taken.attempt (record { 0 = 0 }) c.now.result reply in
    let same = ap (λ (M : List Move). length (records_of M)) (c.begin.ensures.stays going) in
    omega (arith, more, same)

pub returns-in-Ok-clause-grew : goal.returns-in-Ok-clause-grew
returns-in-Ok-clause-grew g c did going =
    let d = c.args.desk.now in
    let after = c.claim_by.new.self in
    let reply = subst (λ (w : Claim). ClaimsBy g.A.Admission.admitted g.S.Site.count d (record { 0 = 0 }) c.now.result (Ok w) after) c.in-Ok-Nothing.field-0-is c.in-Ok-Nothing.ensures.reply in
    let same = ap (λ (b : DeskState g.row.S.Denot). length (records_of b.moves)) reply.2 in
    let more = c.in-Ok.ensures.grew did in
    omega (arith, more, same)

pub returns-in-Ok-Taken-clause-spares : goal.returns-in-Ok-Taken-clause-spares
returns-in-Ok-Taken-clause-spares g c going =
    let d = c.args.desk.now in
    let after = c.claim_by.new.self in
    let reply = subst (λ (w : Claim). ClaimsBy g.A.Admission.admitted g.S.Site.count d (record { 0 = 0 }) c.now.result (Ok w) after) c.in-Ok-Taken.field-0-is c.in-Ok-Taken.ensures.reply in
    spares_then d.moves after.moves c.begin.new.desk.moves (claims_spares g.S.Site.count d after g.A.Admission.admitted (record { 0 = 0 }) c.now.result (claims.Taken c.in-Ok-Taken.attempt) reply)
    (same_spares after.moves c.begin.new.desk.moves (c.begin.ensures.stays going))

pub returns-in-Ok-clause-spares : goal.returns-in-Ok-clause-spares
returns-in-Ok-clause-spares g c going =
    let d = c.args.desk.now in
    let after = c.claim_by.new.self in
    let reply = subst (λ (w : Claim). ClaimsBy g.A.Admission.admitted g.S.Site.count d (record { 0 = 0 }) c.now.result (Ok w) after) c.in-Ok-Nothing.field-0-is c.in-Ok-Nothing.ensures.reply in
    subst (λ (b : DeskState g.row.S.Denot). SparesAll b.moves c.make_way.new.desk.moves) reply.2 c.in-Ok.ensures.spares
