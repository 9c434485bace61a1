use Rattle.foreman_run.proofs.parent.attend_some.Goals as goal

pub attend-requires-clause-works : goal.attend-requires-clause-works
attend-requires-clause-works g c κs within =
    let w = c.requires.works in
    record { trusted = w.trusted; untrusted = w.untrusted; cap = w.cap; book = w.book; works = c.loop.invariant.goes w.trusted w.cap w.book w.works }

pub returns-in-Err-clause-goes : goal.returns-in-Err-clause-goes
returns-in-Err-clause-goes g c = λ trusted cap book works. c.in-Err.ensures.goes trusted cap book (c.loop.invariant.goes trusted cap book works)
