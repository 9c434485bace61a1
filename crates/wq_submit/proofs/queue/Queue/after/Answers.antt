use Rattle.wq_submit.proofs.queue.Queue.after.Goals as goal

pub returns-in-Some-clause-goes : goal.returns-in-Some-clause-goes
returns-in-Some-clause-goes g c = (c.in-Some.ensures.given, c.give.ensures.ways, c.give.ensures.files)

pub returns-in-Some-clause-late : goal.returns-in-Some-clause-late
returns-in-Some-clause-late g c is = absurd (let wrong : ⊥ = cc in wrong)
