use Rattle.std.proofs.Common.{◌∙◌, refl}
use Rattle.wq_seats.proofs.Going.{goes_same, goes_then}
use Rattle.wq_company.proofs.Placing.{stay_same, stay_then}
use Rattle.wq_company.proofs.company.tell_seats.Goals as goal

pub loop-at-init : goal.loop-at-init
loop-at-init g c = record {
  many = refl;
  goes = goes_same c.args.book.now;
  ends = λ a o t end. end;
  served = λ next tells all. all;
  honest = λ fair. fair;
  run = λ are. are;
  calm = λ next least served sure. stay_same g.L.Link.sure g.L.Link.offers least c.args.seats.now.items sure;
}

pub loop-at-preserved : goal.loop-at-preserved
loop-at-preserved g c = record {
  many = c.tell_at.ensures.many ∙ c.loop-at.invariant.many;
  goes = goes_then c.args.book.now c.loop-at.book c.tell_at.new.book c.loop-at.invariant.goes c.tell_at.ensures.goes;
  ends = λ a o t end. c.loop-at.invariant.ends a o t (c.tell_at.ensures.ends a o t end);
  served = λ next tells all. c.tell_at.ensures.served next tells (c.loop-at.invariant.served next tells all);
  honest = λ fair. c.tell_at.ensures.honest (c.loop-at.invariant.honest fair);
  run = λ are. c.tell_at.ensures.run (c.loop-at.invariant.run are);
  calm = λ next least served sure. let was = c.loop-at.invariant.calm next least served sure in
      stay_then g.L.Link.sure g.L.Link.offers least c.args.seats.now.items c.loop-at.seats.items c.tell_at.new.seats.items was (c.in-Ok.ensures.calm next least (λ tells. c.loop-at.invariant.served next tells (served tells)) was.surely);
}

pub returns-in-Err-clause-goes : goal.returns-in-Err-clause-goes
returns-in-Err-clause-goes g c = goes_then c.args.book.now c.loop-at.book c.tell_at.new.book c.loop-at.invariant.goes c.tell_at.ensures.goes

pub returns-in-Err-clause-ends : goal.returns-in-Err-clause-ends
returns-in-Err-clause-ends g c a o t end = c.loop-at.invariant.ends a o t (c.tell_at.ensures.ends a o t end)

pub returns-in-Err-clause-served : goal.returns-in-Err-clause-served
returns-in-Err-clause-served g c next tells all = c.tell_at.ensures.served next tells (c.loop-at.invariant.served next tells all)

pub returns-in-Err-clause-honest : goal.returns-in-Err-clause-honest
returns-in-Err-clause-honest g c fair = c.tell_at.ensures.honest (c.loop-at.invariant.honest fair)

pub returns-in-Err-clause-run : goal.returns-in-Err-clause-run
returns-in-Err-clause-run g c are = c.tell_at.ensures.run (c.loop-at.invariant.run are)
