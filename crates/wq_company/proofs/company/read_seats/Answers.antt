use Rattle.std.proofs.Common.{◌≡◌, ◌+◌, ◌∙◌, List, false, inl, refl, ap, sym, subst, arith}
use Rattle.wq_company.specs.Companies.{AreRun}
use Rattle.wq_seats.specs.Turns.{IsQuiet, was_idle, IsReady}
use Rattle.wq_seats.proofs.Going.{goes_same, goes_then}
use Rattle.wq_company.proofs.Reading.{all_taken, both_first, both_second, read_honest, read_quiet, read_many, read_right, read_served, read_shows}
use Rattle.wq_seats.proofs.Showing.{right_then}
use Rattle.wq_company.proofs.Showing.{shows_front}
use Rattle.wq_seats.specs.Seats.{SeatState}
use Rattle.wq_company.proofs.Placing.{ready_next, rest_after, run_set, stay_same, stay_then}
use Rattle.wq_company.proofs.company.read_seats.Goals as goal

pub loop-at-init : goal.loop-at-init
loop-at-init g c = record {
  many = refl;
  goes = goes_same c.args.book.now;
  served = λ files next tells all. all;
  shows = λ files next tells all a o task end. inl end;
  right = λ files next tells fair all a o task end. inl end;
  honest = λ fair. fair;
  run = λ are. are;
  calm = λ files next least served sure. stay_same g.L.Link.sure g.L.Link.offers least c.args.seats.now.items sure;
  rest = λ k less. refl;
  ready = λ files next least served sure idle. (tt, refl);
  quiet = λ is. tt;
}

pub loop-at-preserved : goal.loop-at-preserved
loop-at-preserved g c = record {
  many = read_many g.L.Link.tells g.F.Commands.gives g.F.Commands.may_fail g.L.Link.history g.L.Link.honest g.L.Link.idle_count c.loop-at.at c.loop-at.book.held c.read_at.new.book.held c.loop-at.seats.items c.read_at.new.seats.items (was_idle c.read_at.result) c.read_at.ensures.reads ∙ c.loop-at.invariant.many;
  goes = goes_then c.args.book.now c.loop-at.book c.read_at.new.book c.loop-at.invariant.goes c.read_at.ensures.goes;
  served = λ files next tells all. read_served g.L.Link.tells g.F.Commands.gives g.F.Commands.may_fail g.L.Link.history g.L.Link.honest g.L.Link.idle_count c.loop-at.at c.loop-at.book.held c.read_at.new.book.held c.loop-at.seats.items c.read_at.new.seats.items (was_idle c.read_at.result) c.read_at.ensures.reads
      c.read_at.ensures.goes.runs files next tells (c.loop-at.invariant.served files next tells all);
  shows = λ files next tells all. read_shows g.L.Link.tells g.F.Commands.gives g.F.Commands.may_fail g.L.Link.history g.L.Link.honest g.L.Link.idle_count c.loop-at.at c.args.book.now.held c.loop-at.book.held c.read_at.new.book.held c.loop-at.seats.items c.read_at.new.seats.items (was_idle c.read_at.result)
      c.read_at.ensures.reads files next tells (c.loop-at.invariant.served files next tells all) (c.loop-at.invariant.shows files next tells all);
  right = λ files next tells fair all. right_then g.F.Commands.gives g.F.Commands.may_fail files c.args.book.now.held c.loop-at.book.held c.read_at.new.book.held (c.loop-at.invariant.right files next tells fair all)
      (read_right g.L.Link.tells g.F.Commands.gives g.F.Commands.may_fail g.L.Link.history g.L.Link.honest g.L.Link.idle_count c.loop-at.at c.loop-at.book.held c.read_at.new.book.held c.loop-at.seats.items c.read_at.new.seats.items (was_idle c.read_at.result) c.read_at.ensures.reads files next tells
      (c.loop-at.invariant.honest fair) (c.loop-at.invariant.served files next tells all));
  honest = λ fair. read_honest g.L.Link.tells g.F.Commands.gives g.F.Commands.may_fail g.L.Link.history g.L.Link.honest g.L.Link.idle_count c.loop-at.at c.loop-at.book.held c.read_at.new.book.held c.loop-at.seats.items c.read_at.new.seats.items (was_idle c.read_at.result) c.read_at.ensures.reads
      (c.loop-at.invariant.honest fair);
  run = λ are. let r = c.read_at.ensures.reads in
      subst (λ (xs : List (SeatState g.row.L.Denot)). AreRun c.read_at.new.book.held xs) (sym r.set) (run_set c.loop-at.book.held c.read_at.new.book.held c.loop-at.seats.items c.loop-at.at r.was r.is r.there r.runs (c.loop-at.invariant.run are));
  calm = λ files next least served sure. let was = c.loop-at.invariant.calm files next least served sure in
      stay_then g.L.Link.sure g.L.Link.offers least c.args.seats.now.items c.loop-at.seats.items c.read_at.new.seats.items was (c.in-Ok.ensures.calm files next least (λ tells. c.loop-at.invariant.served files next tells (served tells)) was.surely);
  rest = let r = c.read_at.ensures.reads in rest_after c.args.seats.now.items c.loop-at.seats.items c.read_at.new.seats.items c.loop-at.at r.is r.set c.loop-at.invariant.rest;
  ready = λ files next least served sure idle.
      let both = sym c.with-look.ensures ∙ idle in
      let was = c.loop-at.invariant.ready files next least served sure (both_first c.loop-at.look.was_idle c.in-Ok.found.was_idle both) in
      let stays = c.loop-at.invariant.calm files next least served sure in
      let now = c.read_at.ensures.ready files next least (λ tells. c.loop-at.invariant.served files next tells (served tells)) stays.surely (ap was_idle c.in-Ok.is ∙ both_second c.loop-at.look.was_idle c.in-Ok.found.was_idle both) in
      (ready_next least c.args.seats.now.items c.loop-at.seats.items c.loop-at.at (c.loop-at.invariant.rest c.loop-at.at (omega arith)) was.0 now.0, now.1 ∙ was.1);
  quiet = λ is. let both = sym c.with-look.ensures ∙ is in
      read_quiet g.L.Link.tells g.F.Commands.gives g.F.Commands.may_fail g.L.Link.history g.L.Link.honest g.L.Link.idle_count c.loop-at.at c.loop-at.book.held c.read_at.new.book.held c.loop-at.seats.items c.read_at.new.seats.items (was_idle c.read_at.result) c.read_at.ensures.reads
      (ap was_idle c.in-Ok.is ∙ both_second c.loop-at.look.was_idle c.in-Ok.found.was_idle both) (c.loop-at.invariant.quiet (both_first c.loop-at.look.was_idle c.in-Ok.found.was_idle both));
}

pub returns-in-Err-clause-served : goal.returns-in-Err-clause-served
returns-in-Err-clause-served g c files next tells all = read_served g.L.Link.tells g.F.Commands.gives g.F.Commands.may_fail g.L.Link.history g.L.Link.honest g.L.Link.idle_count c.loop-at.at c.loop-at.book.held c.read_at.new.book.held c.loop-at.seats.items c.read_at.new.seats.items (was_idle c.read_at.result) c.read_at.ensures.reads c.read_at.ensures.goes.runs files next tells (c.loop-at.invariant.served files next tells all)

pub returns-in-Err-clause-shows : goal.returns-in-Err-clause-shows
returns-in-Err-clause-shows g c files next tells all =
    shows_front g.L.Link.history c.args.book.now.held c.read_at.new.book.held c.read_at.new.seats.items (c.loop-at.at + 1)
    (read_shows g.L.Link.tells g.F.Commands.gives g.F.Commands.may_fail g.L.Link.history g.L.Link.honest g.L.Link.idle_count c.loop-at.at c.args.book.now.held c.loop-at.book.held c.read_at.new.book.held c.loop-at.seats.items c.read_at.new.seats.items (was_idle c.read_at.result) c.read_at.ensures.reads files next tells (c.loop-at.invariant.served files next tells all) (c.loop-at.invariant.shows files next tells all))

pub returns-in-Err-clause-right : goal.returns-in-Err-clause-right
returns-in-Err-clause-right g c files next tells fair all =
    right_then g.F.Commands.gives g.F.Commands.may_fail files c.args.book.now.held c.loop-at.book.held c.read_at.new.book.held (c.loop-at.invariant.right files next tells fair all)
    (read_right g.L.Link.tells g.F.Commands.gives g.F.Commands.may_fail g.L.Link.history g.L.Link.honest g.L.Link.idle_count c.loop-at.at c.loop-at.book.held c.read_at.new.book.held c.loop-at.seats.items c.read_at.new.seats.items (was_idle c.read_at.result) c.read_at.ensures.reads files next tells (c.loop-at.invariant.honest fair) (c.loop-at.invariant.served files next tells all))

pub returns-in-Err-clause-honest : goal.returns-in-Err-clause-honest
returns-in-Err-clause-honest g c fair = read_honest g.L.Link.tells g.F.Commands.gives g.F.Commands.may_fail g.L.Link.history g.L.Link.honest g.L.Link.idle_count c.loop-at.at c.loop-at.book.held c.read_at.new.book.held c.loop-at.seats.items c.read_at.new.seats.items (was_idle c.read_at.result) c.read_at.ensures.reads (c.loop-at.invariant.honest fair)

pub returns-clause-shows : goal.returns-clause-shows
returns-clause-shows g c files next tells all = shows_front g.L.Link.history c.args.book.now.held c.loop-at.book.held c.loop-at.seats.items c.loop-at.at (c.loop-at.invariant.shows files next tells all)

pub returns-clause-quiet : goal.returns-clause-quiet
returns-clause-quiet g c is = all_taken (IsQuiet g.L.Link.idle_count) c.loop-at.seats.items c.loop-at.at (omega (arith, c.loop-at-test.false, c.len-at-end.ensures, c.loop-at.invariant.many)) (c.loop-at.invariant.quiet is)

pub returns-in-Err-clause-run : goal.returns-in-Err-clause-run
returns-in-Err-clause-run g c are = let r = c.read_at.ensures.reads in
    subst (λ (xs : List (SeatState g.row.L.Denot)). AreRun c.read_at.new.book.held xs) (sym r.set) (run_set c.loop-at.book.held c.read_at.new.book.held c.loop-at.seats.items c.loop-at.at r.was r.is r.there r.runs (c.loop-at.invariant.run are))

pub returns-clause-ready : goal.returns-clause-ready
returns-clause-ready g c files next least served sure idle =
    let is = c.loop-at.invariant.ready files next least served sure idle in
    (all_taken (λ (s : SeatState g.row.L.Denot). s.gone ≡ false → IsReady least s) c.args.seats.now.items c.loop-at.at (omega (arith, c.loop-at-test.false, c.len-at-end.ensures, c.loop-at.invariant.many)) is.0, is.1)
