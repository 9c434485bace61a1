use Rattle.std.proofs.Common.{◌≡◌, None, Option, rules, subst}
use Rattle.local_run.specs.declared.halt.Halt.{Halt}
use Rattle.local_run.specs.Underway.{IsSurePool}
use Rattle.local_run.proofs.StandsBegun.{Under}
use Rattle.local_run.proofs.serving.go_on.Goals as goal

pub next-requires-clause-underway : goal.next-requires-clause-underway
next-requires-clause-underway g c κs within =
    let going : c.args.held.now.halt ≡ None = search rules in
    let away = c.requires.underway.0 in
    let first = c.requires.underway.1 in
    (away, first, subst (λ (halt : Option Halt). Under g.T.Terms.trust g.F.Commands.gives g.F.Commands.may_fail g.T.Terms.sources g.S.Site.tells g.T.Terms.kept (IsSurePool g.B.Terms.fits) g.S.Site.files g.S.Site.may_leave g.S.Site.moment g.S.Site.images_since away first c.args.desk.now c.args.held.now.attempts c.args.pool.now.waiting None c.args.pool.now.heard halt) going c.requires.underway.2)

pub returns-clause-underway : goal.returns-clause-underway
returns-clause-underway g c away first u =
    let going : c.args.held.now.halt ≡ None = search rules in
    c.next.ensures.underway away first (subst (λ (halt : Option Halt). Under g.T.Terms.trust g.F.Commands.gives g.F.Commands.may_fail g.T.Terms.sources g.S.Site.tells g.T.Terms.kept (IsSurePool g.B.Terms.fits) g.S.Site.files g.S.Site.may_leave g.S.Site.moment g.S.Site.images_since away first c.args.desk.now c.args.held.now.attempts c.args.pool.now.waiting None c.args.pool.now.heard halt) going u)
