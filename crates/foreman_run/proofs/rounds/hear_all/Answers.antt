use Rattle.std.proofs.Common.{◌∙◌}
use Rattle.foreman_run.proofs.rounds.hear_all.Goals as goal

pub hear_some-requires-clause-works : goal.hear_some-requires-clause-works
hear_some-requires-clause-works g c κs within =
    let w = c.requires.works.1 in
    (c.requires.works.0, record { trusted = w.trusted; untrusted = w.untrusted; cap = w.cap; book = w.book; works = c.loop-at.invariant.goes w.trusted w.cap w.book c.requires.works.0 w.works })

pub loop-at-preserved : goal.loop-at-preserved
loop-at-preserved g c = record {
  goes = λ trusted cap book ear works. c.in-Ok.ensures.goes trusted cap book ear (c.loop-at.invariant.goes trusted cap book ear works);
  many = c.in-Ok.ensures.many ∙ c.loop-at.invariant.many;
}

pub returns-in-Err-clause-goes : goal.returns-in-Err-clause-goes
returns-in-Err-clause-goes g c = λ trusted cap book ear works. c.in-Err.ensures.goes trusted cap book ear (c.loop-at.invariant.goes trusted cap book ear works)
