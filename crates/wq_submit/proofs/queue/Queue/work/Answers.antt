use Rattle.std.proofs.Common.{rules, ◌≡◌, ◌<◌, ◌∙◌, ℕ, arith, length, map, sym, subst, true}
use Rattle.std.specs.List.{AllByRecursion}
use Rattle.wq_company.specs.Companies.{AreSureOf, AreWithin, RunBefore, StaySure, live_of, ways_of}
use Rattle.wq_submit.specs.Queues.{QueueState}
use Rattle.wq_seats.specs.Works.{work_of}
use Rattle.wq_seats.specs.Shown.{EndsRight, ShowsEnds}
use Rattle.wq_seats.proofs.Going.{work_then}
use Rattle.wq_company.proofs.Knowing.{Known, Within, known_on}
use Rattle.wq_company.proofs.Serving.{before_on, quiet_live}
use Rattle.wq_company.proofs.Showing.{shows_after}
use Rattle.wq_submit.proofs.Waiting.{right_after}
use Rattle.std.specs.Prelude.{OnOk}
use Rattle.peers.proofs.Serving.{at_ok}
use Rattle.task_book.specs.Kept.{Kept, is_end}
use Rattle.task_book.specs.Lines.{NoneBefore, is_waiting}
use Rattle.wq_company.proofs.Beginning.{all_ended}
use Rattle.wq_company.proofs.Placing.{as_many, live_sure, sure_live, ready_none}
use Rattle.wq_submit.proofs.Staffing.{ok_of}
use Rattle.wq_submit.proofs.queue.Queue.work.Goals as goal

pub invariant_of-self-2 : goal.invariant_of-self-2
invariant_of-self-2 g c =
    let i = c.self.inside in
    let told = c.tell_all.new.book.held in
    let on = before_on i.company.next i.book.held told c.tell_all.ensures.goes.runs c.self.invariant.0 in
    let before = subst (λ (n : ℕ). RunBefore n told) (sym c.tell_all.ensures.next) on in
    let placed = c.place_all.ensures.before before in
    let read = before_on c.place_all.new.self.next c.place_all.new.book.held c.read_all.new.book.held c.read_all.ensures.goes.runs placed in (
      subst (λ (n : ℕ). RunBefore n c.read_all.new.book.held) (sym c.read_all.ensures.next) read,
      known_on (Known i.files) i.book c.read_all.new.book
          (work_then i.book c.place_all.new.book c.read_all.new.book (work_then i.book c.tell_all.new.book c.place_all.new.book c.tell_all.ensures.goes.work c.place_all.ensures.work) c.read_all.ensures.goes.work) c.self.invariant.1,
      λ tells. c.read_all.ensures.served i.files tells (c.place_all.ensures.served tells before (c.tell_all.ensures.served tells (c.self.invariant.2 tells))),
      c.read_all.ensures.run (c.place_all.ensures.run before (c.tell_all.ensures.run c.self.invariant.3)),
    )

pub returns-clause-shows : goal.returns-clause-shows
returns-clause-shows g c tells =
    let i = c.self.inside in
    let told = c.tell_all.new.book.held in
    let on = before_on i.company.next i.book.held told c.tell_all.ensures.goes.runs c.self.invariant.0 in
    let before = subst (λ (n : ℕ). RunBefore n told) (sym c.tell_all.ensures.next) on in
    let placed = c.place_all.ensures.served tells before (c.tell_all.ensures.served tells (c.self.invariant.2 tells)) in
    let ways = ways_of c.read_all.new.self.seats in
    subst (λ (q : QueueState g.row.H-Way.Denot). ShowsEnds g.H.Way.Link.history q.kept.held c.read_all.new.book.held ways) c.self.view_is
    (shows_after g.H.Way.Link.history i.book.held c.place_all.new.book.held c.read_all.new.book.held ways
    (λ a o t end. c.tell_all.ensures.ends a o t (c.place_all.ensures.ends a o t end)) (c.read_all.ensures.shows i.files tells placed))

pub returns-clause-right : goal.returns-clause-right
returns-clause-right g c tells fair =
    let i = c.self.inside in
    let told = c.tell_all.new.book.held in
    let on = before_on i.company.next i.book.held told c.tell_all.ensures.goes.runs c.self.invariant.0 in
    let before = subst (λ (n : ℕ). RunBefore n told) (sym c.tell_all.ensures.next) on in
    let placed = c.place_all.ensures.served tells before (c.tell_all.ensures.served tells (c.self.invariant.2 tells)) in
    let was = subst (λ (q : QueueState g.row.H-Way.Denot). AllByRecursion g.H.Way.Link.honest q.ways) (sym c.self.view_is) fair in
    let links = c.place_all.ensures.honest (c.tell_all.ensures.honest was) in
    subst (λ (q : QueueState g.row.H-Way.Denot). EndsRight g.F.Commands.gives g.F.Commands.may_fail q.files q.kept.held c.read_all.new.book.held) c.self.view_is
    (right_after g.F.Commands.gives g.F.Commands.may_fail i.files i.book.held c.place_all.new.book.held c.read_all.new.book.held
    (λ a o t end. c.tell_all.ensures.ends a o t (c.place_all.ensures.ends a o t end)) (c.read_all.ensures.right i.files tells links placed))

pub returns-clause-idle : goal.returns-clause-idle
returns-clause-idle g c idle = quiet_live g.H.Way.Link.idle_count c.read_all.new.self.seats (c.read_all.ensures.quiet idle)

pub returns-clause-staffed : goal.returns-clause-staffed
returns-clause-staffed g c least links =
    let i = c.self.inside in
    let seats = i.company.seats in
    let told = c.tell_all.new.self.seats in
    let placed = c.place_all.new.self.seats in
    let on = before_on i.company.next i.book.held c.tell_all.new.book.held c.tell_all.ensures.goes.runs c.self.invariant.0 in
    let before = subst (λ (n : ℕ). RunBefore n c.tell_all.new.book.held) (sym c.tell_all.ensures.next) on in
    let known = known_on (Known i.files) i.book c.tell_all.new.book c.tell_all.ensures.goes.work c.self.invariant.1 in
    let sure = sure_live g.H.Way.Link.sure g.H.Way.Link.offers least seats (subst (λ (q : QueueState g.row.H-Way.Denot). AreSureOf g.H.Way.Link.sure g.H.Way.Link.offers least q.live) (sym c.self.view_is) links) in
    let one = ok_of (StaySure g.H.Way.Link.sure g.H.Way.Link.offers least seats told) c.tell_all.result (search rules) (c.tell_all.ensures.calm least c.self.invariant.2 sure) in
    let served = λ (tells : g.H.Way.Link.tells). c.tell_all.ensures.served tells (c.self.invariant.2 tells) in
    let two = ok_of (StaySure g.H.Way.Link.sure g.H.Way.Link.offers least told placed) c.place_all.result (search rules) (c.place_all.ensures.calm least before known served one.surely) in
    let served_on = λ (tells : g.H.Way.Link.tells). c.place_all.ensures.served tells before (served tells) in
    let read = c.read_all.new.self.seats in
    subst (λ (q : QueueState g.row.H-Way.Denot). OnOk c.read_all.result (AreSureOf g.H.Way.Link.sure g.H.Way.Link.offers least (live_of read) × (length (live_of read) ≡ length q.live))) c.self.view_is
    (at_ok (StaySure g.H.Way.Link.sure g.H.Way.Link.offers least placed read) (AreSureOf g.H.Way.Link.sure g.H.Way.Link.offers least (live_of read) × (length (live_of read) ≡ length (live_of seats))) c.read_all.result
    (λ three. (live_sure g.H.Way.Link.sure g.H.Way.Link.offers least read three.surely, as_many seats read (three.gone ∙ two.gone ∙ one.gone)))
    (c.read_all.ensures.calm i.files least served_on two.surely))

pub returns-clause-manned : goal.returns-clause-manned
returns-clause-manned g c least links tasks some idle =
    let i = c.self.inside in
    let seats = i.company.seats in
    let told = c.tell_all.new.self.seats in
    let placed = c.place_all.new.self.seats in
    let on = before_on i.company.next i.book.held c.tell_all.new.book.held c.tell_all.ensures.goes.runs c.self.invariant.0 in
    let before = subst (λ (n : ℕ). RunBefore n c.tell_all.new.book.held) (sym c.tell_all.ensures.next) on in
    let known = known_on (Known i.files) i.book c.tell_all.new.book c.tell_all.ensures.goes.work c.self.invariant.1 in
    let sure = sure_live g.H.Way.Link.sure g.H.Way.Link.offers least seats (subst (λ (q : QueueState g.row.H-Way.Denot). AreSureOf g.H.Way.Link.sure g.H.Way.Link.offers least q.live) (sym c.self.view_is) links) in
    let one = ok_of (StaySure g.H.Way.Link.sure g.H.Way.Link.offers least seats told) c.tell_all.result (search rules) (c.tell_all.ensures.calm least c.self.invariant.2 sure) in
    let served = λ (tells : g.H.Way.Link.tells). c.tell_all.ensures.served tells (c.self.invariant.2 tells) in
    let two = ok_of (StaySure g.H.Way.Link.sure g.H.Way.Link.offers least told placed) c.place_all.result (search rules) (c.place_all.ensures.calm least before known served one.surely) in
    let served_on = λ (tells : g.H.Way.Link.tells). c.place_all.ensures.served tells before (served tells) in
    let within = known_on (Within least) i.book c.tell_all.new.book c.tell_all.ensures.goes.work (subst (λ (q : QueueState g.row.H-Way.Denot). AreWithin least (map work_of q.kept.held)) (sym c.self.view_is) tasks) in
    let there = subst (λ (q : QueueState g.row.H-Way.Denot). 0 < length q.live) (sym c.self.view_is) some in
    let many = as_many seats placed (two.gone ∙ one.gone) in
    let ready = c.read_all.ensures.ready i.files least served_on two.surely idle in
    let none = ok_of (NoneBefore is_waiting (length c.place_all.new.book.held) c.place_all.new.book.held) c.place_all.result (search rules)
    (c.place_all.ensures.placed least before known within served one.surely (omega (arith, there, many)) ready.0) in
    let run = c.place_all.ensures.run before (c.tell_all.ensures.run c.self.invariant.3) in
    subst (λ (k : Kept). AllByRecursion (λ h. is_end h.stage ≡ true) k.held) (sym ready.1)
    (all_ended c.place_all.new.book.held none (λ id a runs. ready_none least placed id a ready.0 (run id a runs)))
