use Rattle.std.proofs.Common.{[], ◌∷◌, ◌++◌, Option, Some, None, subst, sym}
use Rattle.flow_types.specs.declared.job.Job.{Job}
use Rattle.flow_types.specs.declared.job.Start.{Start}
use Rattle.worker_pool.specs.Pools.{PoolState}
use Rattle.desk.specs.declared.attempt.Attempt.{Attempt}
use Rattle.local_run.specs.declared.halt.Halt.{Halt}
use Rattle.local_run.specs.Jobs.{halt_by}
use Rattle.local_run.specs.Underway.{HeldState, IsSurePool, MayStop}
use Rattle.local_run.proofs.GivenBegun.{job_at, reads_on, refused_on, refused_stops}
use Rattle.local_run.proofs.StandsBegun.{Under, holds_on, may_first, may_want}
use Rattle.local_run.proofs.next.begin.Goals as goal

pub returns-in-Err-clause-underway : goal.returns-in-Err-clause-underway
returns-in-Err-clause-underway g c away first u =
    let d = c.args.desk.now in
    let mid = c.job_for.new.desk in
    let held = c.args.held.now.attempts in
    let waiting = c.args.pool.now.waiting in
    let heard = c.args.pool.now.heard in
    let why = c.in-Err.why in
    let stops : MayStop g.S.Site.tells g.T.Terms.kept (IsSurePool g.B.Terms.fits) g.S.Site.files mid heard (halt_by why) =
    refused_stops g.T.Terms.trust g.F.Commands.gives g.F.Commands.may_fail g.T.Terms.sources g.S.Site.tells g.T.Terms.kept (IsSurePool g.B.Terms.fits) g.S.Site.files g.S.Site.may_leave g.S.Site.moment g.S.Site.images_since away Job d mid heard why c.requires.fine c.in-Err.ensures.reply c.in-Err.ensures.damage c.in-Err.ensures.whole in
    let stopped = refused_on g.T.Terms.trust g.F.Commands.gives g.F.Commands.may_fail g.T.Terms.sources g.S.Site.tells g.T.Terms.kept (IsSurePool g.B.Terms.fits) g.S.Site.files g.S.Site.may_leave g.S.Site.moment g.S.Site.images_since away Job first d mid held waiting (Some c.args.attempt) heard why c.requires.fine c.in-Err.ensures.reply c.job_for.ensures.others stops u in
    subst (λ (h : HeldState). Under g.T.Terms.trust g.F.Commands.gives g.F.Commands.may_fail g.T.Terms.sources g.S.Site.tells g.T.Terms.kept (IsSurePool g.B.Terms.fits) g.S.Site.files g.S.Site.may_leave g.S.Site.moment g.S.Site.images_since away first c.give_up-halt.new.desk h.attempts waiting None heard h.halt) (sym c.stop.ensures)
    (c.give_up-halt.ensures.underway away first held waiting heard (Some (halt_by why)) stopped (λ fine. subst (λ (w : Halt). MayStop g.S.Site.tells g.T.Terms.kept (IsSurePool g.B.Terms.fits) g.S.Site.files mid heard w) (sym c.halt_by.ensures) stops))

pub returns-in-Ok-hold-clause-underway : goal.returns-in-Ok-hold-clause-underway
returns-in-Ok-hold-clause-underway g c away first u =
    let d = c.args.desk.now in
    let mid = c.job_for.new.desk in
    let held = c.args.held.now.attempts in
    let waiting = c.args.pool.now.waiting in
    let heard = c.args.pool.now.heard in
    let a = c.args.attempt in
    let start : Start = record { attempt = c.number-number.result; job = c.in-Ok.job } in
    let job = job_at g.T.Terms.trust g.S.Site.tells g.T.Terms.kept g.F.Commands.gives g.T.Terms.sources d mid a.rule.0 c.in-Ok.job c.in-Ok.ensures.reply c.requires.base c.in-Ok.ensures.wants c.in-Ok.ensures.due in
    let read = reads_on g.T.Terms.trust g.F.Commands.gives g.F.Commands.may_fail g.T.Terms.sources g.S.Site.tells g.T.Terms.kept (IsSurePool g.B.Terms.fits) g.S.Site.files g.S.Site.may_leave g.S.Site.moment g.S.Site.images_since away first d mid held waiting (Some a) heard c.requires.fine c.in-Ok.ensures.reply c.job_for.ensures.others u in
    subst (λ (p : PoolState). Under g.T.Terms.trust g.F.Commands.gives g.F.Commands.may_fail g.T.Terms.sources g.S.Site.tells g.T.Terms.kept (IsSurePool g.B.Terms.fits) g.S.Site.files g.S.Site.may_leave g.S.Site.moment g.S.Site.images_since away first mid c.hold.new.self.attempts p.waiting None p.heard c.hold.new.self.halt) (sym c.give.ensures)
    (subst (λ (h : HeldState). Under g.T.Terms.trust g.F.Commands.gives g.F.Commands.may_fail g.T.Terms.sources g.S.Site.tells g.T.Terms.kept (IsSurePool g.B.Terms.fits) g.S.Site.files g.S.Site.may_leave g.S.Site.moment g.S.Site.images_since away first mid h.attempts (waiting ++ (start ∷ [])) None heard h.halt) (sym c.in-Ok-hold.ensures.held)
    (subst (λ (halt : Option Halt). Under g.T.Terms.trust g.F.Commands.gives g.F.Commands.may_fail g.T.Terms.sources g.S.Site.tells g.T.Terms.kept (IsSurePool g.B.Terms.fits) g.S.Site.files g.S.Site.may_leave g.S.Site.moment g.S.Site.images_since away first mid (held ++ (a ∷ [])) (waiting ++ (start ∷ [])) None heard halt) (sym c.requires.going)
    (holds_on g.T.Terms.trust g.F.Commands.gives g.F.Commands.may_fail g.T.Terms.sources g.S.Site.tells g.T.Terms.kept (IsSurePool g.B.Terms.fits) g.S.Site.files g.S.Site.may_leave g.S.Site.moment g.S.Site.images_since away first mid held waiting a heard None start c.requires.here (may_first g.T.Terms.trust g.F.Commands.gives g.F.Commands.may_fail g.T.Terms.sources g.S.Site.tells g.T.Terms.kept (IsSurePool g.B.Terms.fits) g.S.Site.files g.S.Site.may_leave g.S.Site.moment g.S.Site.images_since away first d held waiting (Some a) heard None a.rule.0 u c.requires.placed) (sym c.number-number.ensures) job read)))

pub returns-in-Err-hold-clause-underway : goal.returns-in-Err-hold-clause-underway
returns-in-Err-hold-clause-underway g c away first u =
    let d = c.args.desk.now in
    let mid = c.job_for.new.desk in
    let held = c.args.held.now.attempts in
    let waiting = c.args.pool.now.waiting in
    let heard = c.args.pool.now.heard in
    let a = c.args.attempt in
    let back = c.in-Err-hold.ensures.back in
    let gone = c.give_up-halt-in-Err-hold in
    let read = reads_on g.T.Terms.trust g.F.Commands.gives g.F.Commands.may_fail g.T.Terms.sources g.S.Site.tells g.T.Terms.kept (IsSurePool g.B.Terms.fits) g.S.Site.files g.S.Site.may_leave g.S.Site.moment g.S.Site.images_since away first d mid held waiting (Some a) heard c.requires.fine c.in-Ok.ensures.reply c.job_for.ensures.others u in
    subst (λ (h : HeldState). Under g.T.Terms.trust g.F.Commands.gives g.F.Commands.may_fail g.T.Terms.sources g.S.Site.tells g.T.Terms.kept (IsSurePool g.B.Terms.fits) g.S.Site.files g.S.Site.may_leave g.S.Site.moment g.S.Site.images_since away first gone.new.desk h.attempts waiting None heard h.halt) (sym c.stop-in-Err-hold.ensures)
    (subst (λ (h : HeldState). Under g.T.Terms.trust g.F.Commands.gives g.F.Commands.may_fail g.T.Terms.sources g.S.Site.tells g.T.Terms.kept (IsSurePool g.B.Terms.fits) g.S.Site.files g.S.Site.may_leave g.S.Site.moment g.S.Site.images_since away first gone.new.desk h.attempts waiting None heard (Some gone.result)) (sym back.1)
    (gone.ensures.underway away first held waiting heard None (subst (λ (b : Attempt). Under g.T.Terms.trust g.F.Commands.gives g.F.Commands.may_fail g.T.Terms.sources g.S.Site.tells g.T.Terms.kept (IsSurePool g.B.Terms.fits) g.S.Site.files g.S.Site.may_leave g.S.Site.moment g.S.Site.images_since away first mid held waiting (Some b) heard None) (sym back.0) read)
    (λ fine. may_want g.S.Site.tells g.T.Terms.kept (IsSurePool g.B.Terms.fits) g.S.Site.files first mid heard)))
