use Rattle.std.proofs.Common.{sym, ap, ◌∙◌}
use Rattle.foreman_core.specs.Foremen.{fits_among}
use Rattle.foreman_core.proofs.Drafts.{first_at, none_at, none_more}
use Rattle.foreman_core.proofs.draft.place_for.Goals as goal

pub returns-then-branch-clause-place : goal.returns-then-branch-clause-place
returns-then-branch-clause-place c =
    let p = fits_among c.args.cache.now.rows c.args.attempts.now c.args.task.now in
    first_at p c.args.links.now c.loop-at.at c.index-links-at.result c.loop-at-test.true c.loop-at.invariant
    (ap p (sym c.index-links-at.is) ∙ sym c.in_ok-fits.ensures ∙ c.if-branch.true)

pub loop-at-preserved : goal.loop-at-preserved
loop-at-preserved c =
    let p = fits_among c.args.cache.now.rows c.args.attempts.now c.args.task.now in
    none_more p c.args.links.now c.loop-at.at c.index-links-at.result c.loop-at-test.true c.index-links-at.is
    (sym c.in_ok-fits.ensures ∙ c.if-branch.false) c.loop-at.invariant

pub returns-clause-place : goal.returns-clause-place
returns-clause-place c =
    none_at (fits_among c.args.cache.now.rows c.args.attempts.now c.args.task.now) c.args.links.now c.loop-at.at c.loop-at-test.false c.loop-at.invariant
