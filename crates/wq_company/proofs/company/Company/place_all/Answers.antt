use Rattle.std.proofs.Common.{rules, ◌≡◌, ◌<◌, ◌+◌, ◌∙◌, List, ap, arith, false, length, refl, subst, sym, true≢false}
use Rattle.task_book.specs.declared.task.Held.{Held}
use Rattle.task_book.specs.Lines.{NoneBefore, is_waiting}
use Rattle.task_book.specs.Kept.{Kept}
use Rattle.task_book.specs.Stages.{EndsOn}
use Rattle.wq_seats.specs.Works.{IsSameWork}
use Rattle.wq_company.specs.Companies.{RunBefore, AreReady, AreRun, AreServed, live_of}
use Rattle.wq_seats.specs.Seats.{SeatState}
use Rattle.wq_company.proofs.Beginning.{none_next, none_up_to}
use Rattle.wq_company.proofs.Knowing.{Known, Within, held_long, known_on}
use Rattle.wq_company.proofs.Placing.{stay_same, stay_then}
use Rattle.wq_seats.proofs.Going.{work_same, work_then}
use Rattle.wq_company.proofs.company.Company.place_all.Goals as goal

pub loop-at-init : goal.loop-at-init
loop-at-init g c = record {
  work = subst (λ (k : Kept). IsSameWork c.args.book.now k) (sym c.first_waiting-from.ensures.same) (work_same c.args.book.now);
  ends = subst (λ (k : Kept). EndsOn c.args.book.now.held k.held) (sym c.first_waiting-from.ensures.same) (λ a o t end. end);
  before = subst (λ (k : Kept). RunBefore c.args.self.now.next c.args.book.now.held → RunBefore c.args.self.now.next k.held) (sym c.first_waiting-from.ensures.same) (λ before. before);
  served = λ tells before all. subst
      (λ (k : Kept). AreServed g.F.Commands.gives g.F.Commands.may_fail g.L.Link.history c.args.files.now k.held c.args.self.now.next c.args.self.now.seats) (sym c.first_waiting-from.ensures.same) all;
  honest = λ fair. fair;
  run = λ before are. subst (λ (k : Kept). AreRun k.held c.args.self.now.seats) (sym c.first_waiting-from.ensures.same) are;
  calm = λ most before known served sure. stay_same g.L.Link.sure g.L.Link.offers most c.args.self.now.seats sure;
  placed = λ most before known within served sure some ready. (subst (λ (k : Kept). NoneBefore is_waiting c.first_waiting-from.result k.held) (sym c.first_waiting-from.ensures.same) c.first_waiting-from.ensures.none, refl);
}

pub loop-at-preserved : goal.loop-at-preserved
loop-at-preserved g c = record {
  work = work_then c.args.book.now c.loop-at.book c.place_at.new.book c.loop-at.invariant.work c.place_at.ensures.work;
  ends = λ a o t end. c.loop-at.invariant.ends a o t (c.place_at.ensures.ends a o t end);
  before = λ before. c.place_at.ensures.before (c.loop-at.invariant.before before);
  served = λ tells before all. c.place_at.ensures.served tells (c.loop-at.invariant.before before) (c.loop-at.invariant.served tells before all);
  honest = λ fair. c.place_at.ensures.honest (c.loop-at.invariant.honest fair);
  run = λ before are. c.place_at.ensures.run (c.loop-at.invariant.before before) (c.loop-at.invariant.run before are);
  calm = λ most before known served sure.
      let was = c.loop-at.invariant.calm most before known served sure in
      stay_then g.L.Link.sure g.L.Link.offers most c.args.self.now.seats c.loop-at.self.seats c.place_at.new.self.seats was
      (c.in-Ok-true.ensures.calm most (c.loop-at.invariant.before before) (known_on (Known c.args.files.now) c.args.book.now c.loop-at.book c.loop-at.invariant.work known)
      (λ tells. c.loop-at.invariant.served tells before (served tells)) was.surely);
  placed = λ most before known within served sure some ready.
      let was = c.loop-at.invariant.calm most before known served sure in
      let same = c.in-Ok-true.ensures.placed most (c.loop-at.invariant.before before) (known_on (Known c.args.files.now) c.args.book.now c.loop-at.book c.loop-at.invariant.work known)
      (known_on (Within most) c.args.book.now c.loop-at.book c.loop-at.invariant.work within) (λ tells. c.loop-at.invariant.served tells before (served tells)) was.surely some ready in
      let first = c.loop-at.invariant.placed most before known within served sure
      (subst (λ (xs : List (SeatState g.row.L.Denot)). 0 < length (live_of xs)) same.seats_are some) (subst (λ (xs : List (SeatState g.row.L.Denot)). AreReady most xs) same.seats_are ready) in
      let on = same.on first.1 in
      (subst (λ (hs : List Held). NoneBefore is_waiting (c.loop-at.at + 1) hs) (sym same.held) (none_next c.loop-at.book.held c.loop-at.at on.2 first.0), on.0);
}

pub returns-in-Err-clause-work : goal.returns-in-Err-clause-work
returns-in-Err-clause-work g c = work_then c.args.book.now c.loop-at.book c.place_at.new.book c.loop-at.invariant.work c.place_at.ensures.work

pub returns-in-Err-clause-ends : goal.returns-in-Err-clause-ends
returns-in-Err-clause-ends g c a o t end = c.loop-at.invariant.ends a o t (c.place_at.ensures.ends a o t end)

pub returns-in-Err-clause-before : goal.returns-in-Err-clause-before
returns-in-Err-clause-before g c before = c.place_at.ensures.before (c.loop-at.invariant.before before)

pub returns-in-Err-clause-served : goal.returns-in-Err-clause-served
returns-in-Err-clause-served g c tells before all = c.place_at.ensures.served tells (c.loop-at.invariant.before before) (c.loop-at.invariant.served tells before all)

pub returns-in-Err-clause-honest : goal.returns-in-Err-clause-honest
returns-in-Err-clause-honest g c fair = c.place_at.ensures.honest (c.loop-at.invariant.honest fair)

pub returns-in-Ok-false-clause-work : goal.returns-in-Ok-false-clause-work
returns-in-Ok-false-clause-work g c = work_then c.args.book.now c.loop-at.book c.place_at.new.book c.loop-at.invariant.work c.place_at.ensures.work

pub returns-in-Ok-false-clause-ends : goal.returns-in-Ok-false-clause-ends
returns-in-Ok-false-clause-ends g c a o t end = c.loop-at.invariant.ends a o t (c.place_at.ensures.ends a o t end)

pub returns-in-Ok-false-clause-before : goal.returns-in-Ok-false-clause-before
returns-in-Ok-false-clause-before g c before = c.place_at.ensures.before (c.loop-at.invariant.before before)

pub returns-in-Ok-false-clause-served : goal.returns-in-Ok-false-clause-served
returns-in-Ok-false-clause-served g c tells before all = c.place_at.ensures.served tells (c.loop-at.invariant.before before) (c.loop-at.invariant.served tells before all)

pub returns-in-Ok-false-clause-honest : goal.returns-in-Ok-false-clause-honest
returns-in-Ok-false-clause-honest g c fair = c.place_at.ensures.honest (c.loop-at.invariant.honest fair)

pub returns-in-Ok-false-clause-run : goal.returns-in-Ok-false-clause-run
returns-in-Ok-false-clause-run g c before are = c.place_at.ensures.run (c.loop-at.invariant.before before) (c.loop-at.invariant.run before are)

pub returns-in-Ok-false-clause-calm : goal.returns-in-Ok-false-clause-calm
returns-in-Ok-false-clause-calm g c most before known served sure =
    let was = c.loop-at.invariant.calm most before known served sure in
    stay_then g.L.Link.sure g.L.Link.offers most c.args.self.now.seats c.loop-at.self.seats c.place_at.new.self.seats was
    (c.in-Ok-false.ensures.calm most (c.loop-at.invariant.before before) (known_on (Known c.args.files.now) c.args.book.now c.loop-at.book c.loop-at.invariant.work known)
    (λ tells. c.loop-at.invariant.served tells before (served tells)) was.surely)

pub returns-in-Ok-false-clause-placed : goal.returns-in-Ok-false-clause-placed
returns-in-Ok-false-clause-placed g c most before known within served sure some ready =
    let was = c.loop-at.invariant.calm most before known served sure in
    let same = c.in-Ok-false.ensures.placed most (c.loop-at.invariant.before before) (known_on (Known c.args.files.now) c.args.book.now c.loop-at.book c.loop-at.invariant.work known)
    (known_on (Within most) c.args.book.now c.loop-at.book c.loop-at.invariant.work within) (λ tells. c.loop-at.invariant.served tells before (served tells)) was.surely some ready in
    let first = c.loop-at.invariant.placed most before known within served sure
    (subst (λ (xs : List (SeatState g.row.L.Denot)). 0 < length (live_of xs)) same.seats_are some) (subst (λ (xs : List (SeatState g.row.L.Denot)). AreReady most xs) same.seats_are ready) in
    let stops : c.in-Ok-false.field-0 ≡ false = search rules in
    absurd (true≢false (sym (same.on first.1).1 ∙ stops))

pub returns-in-Err-clause-run : goal.returns-in-Err-clause-run
returns-in-Err-clause-run g c before are = c.place_at.ensures.run (c.loop-at.invariant.before before) (c.loop-at.invariant.run before are)

pub returns-clause-placed : goal.returns-clause-placed
returns-clause-placed g c most before known within served sure some ready =
    let long = held_long c.args.book.now c.loop-at.book c.loop-at.invariant.work in
    let first = ap (λ (k : Kept). length k.held) c.first_waiting-from.ensures.same in
    none_up_to c.loop-at.book.held c.loop-at.at (omega (arith, c.loop-at-test.false, c.count-at-end.ensures.count, long, first)) (c.loop-at.invariant.placed most before known within served sure some ready).0
