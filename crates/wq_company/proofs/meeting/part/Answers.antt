use Rattle.std.proofs.Common.{◌∙◌}
use Rattle.wq_company.proofs.meeting.part.Goals as goal

pub loop-preserved : goal.loop-preserved
loop-preserved g c = record {
  listens = λ is. c.back.ensures.listens (c.loop.invariant.listens is);
  honest = λ is. c.back.ensures.honest (c.loop.invariant.honest is);
  faults = c.back.ensures.faults ∙ c.loop.invariant.faults;
  idles = c.back.ensures.idles ∙ c.loop.invariant.idles;
  run = λ held are. c.take_gone.ensures.run held (c.loop.invariant.run held are);
  live = c.take_gone.ensures.live ∙ c.loop.invariant.live;
  manned = λ least is. c.back.ensures.manned least (c.loop.invariant.manned least is);
  staffed = λ least is. c.back.ensures.staffed least (c.loop.invariant.staffed least is);
  next = c.take_gone.ensures.next ∙ c.loop.invariant.next;
  links = λ fair. c.take_gone.ensures.links (c.loop.invariant.links fair);
  served = λ files held tells all. c.take_gone.ensures.served files held tells (c.loop.invariant.served files held tells all);
}

pub returns-in_default-clause-served : goal.returns-in_default-clause-served
returns-in_default-clause-served g c files held tells all = c.take_gone.ensures.served files held tells (c.loop.invariant.served files held tells all)

pub returns-in_default-clause-run : goal.returns-in_default-clause-run
returns-in_default-clause-run g c held are = c.take_gone.ensures.run held (c.loop.invariant.run held are)

pub returns-in_default-clause-live : goal.returns-in_default-clause-live
returns-in_default-clause-live g c = c.take_gone.ensures.live ∙ c.loop.invariant.live
