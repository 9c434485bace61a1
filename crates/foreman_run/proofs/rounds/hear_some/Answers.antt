use Rattle.foreman_run.proofs.rounds.hear_some.Goals as goal

pub hear_at-requires-clause-works : goal.hear_at-requires-clause-works
hear_at-requires-clause-works g c κs within =
    let w = c.requires.works.1 in
    (c.requires.works.0, record { trusted = w.trusted; untrusted = w.untrusted; cap = w.cap; book = w.book; works = c.loop.invariant.goes w.trusted w.cap w.book c.requires.works.0 w.works })

pub returns-in-Err-clause-goes : goal.returns-in-Err-clause-goes
returns-in-Err-clause-goes g c = λ trusted cap book ear works. c.in-Err.ensures.goes trusted cap book ear (c.loop.invariant.goes trusted cap book ear works)
