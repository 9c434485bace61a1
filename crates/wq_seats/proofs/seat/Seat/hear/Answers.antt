use Rattle.std.proofs.Common.{◌≡◌, ◌∙◌, Result, Ok, ap, refl, sym, subst}
use Rattle.task_book.specs.Kept.{Kept}
use Rattle.peers.specs.declared.leave.Leave.{Leave}
use Rattle.peers.specs.declared.told.Told.{Told}
use Rattle.peers.specs.Hears.{Hears}
use Rattle.peers.specs.States.{PeerState}
use Rattle.wq_frames.specs.Frames.{front, part}
use Rattle.wq_seats.specs.Shown.{EndsRight}
use Rattle.wq_seats.specs.Works.{GoesOnAs}
use Rattle.wq_seats.specs.Tellings.{told_again, told_book, told_runs, told_stated}
use Rattle.wq_seats.specs.Seats.{IsAtWork, SeatState}
use Rattle.wq_seats.proofs.Hearing.{peer_is, told_goes, told_right, told_shows, told_works}
use Rattle.wq_seats.proofs.Settling.{calm_leave}
use Rattle.wq_seats.proofs.Showing.{shows_is}
use Rattle.wq_seats.proofs.Speaking.{works_is}
use Rattle.wq_seats.proofs.seat.Seat.hear.Goals as goal

pub returns-in-Ok-clause-goes : goal.returns-in-Ok-clause-goes
returns-in-Ok-clause-goes g c = subst (λ (k : Kept). GoesOnAs c.args.book.now k) (sym c.heed.ensures.book) (told_goes g.F.Commands.gives g.F.Commands.may_fail g.L.Link.history c.args.book.now c.self.inside.runs.items c.in-Ok.told)

pub returns-in-Ok-clause-works : goal.returns-in-Ok-clause-works
returns-in-Ok-clause-works g c files next tells w =
    let i = c.self.inside in
    let s : SeatState g.row.L.Denot = record { peer = i.peer; stated = i.stated; runs = i.runs.items; again = i.again; health = i.health; gone = i.gone } in
    let k = c.args.book.now in
    let was = subst (λ (x : SeatState g.row.L.Denot). IsAtWork g.F.Commands.gives g.F.Commands.may_fail g.L.Link.history files k.held next x) (sym c.self.view_is) w in
    let now : SeatState g.row.L.Denot = record {
      peer = c.hear.new.self;
      stated = told_stated c.in-Ok.told s.stated;
      runs = told_runs c.in-Ok.told s.runs;
      again = told_again c.in-Ok.told s.again;
      health = c.heed.new.self.health;
      gone = s.gone;
    } in
    works_is g.F.Commands.gives g.F.Commands.may_fail g.L.Link.history files (told_book s.runs c.in-Ok.told k).held c.heed.new.book.held next now c.heed.new.self (ap (λ (x : Kept). x.held) c.heed.ensures.book) c.heed.ensures.only
    (told_works g.F.Commands.gives g.F.Commands.may_fail g.L.Link.history files k next s now c.in-Ok.told (λ said heard serves. c.in-Ok.ensures.serves said heard tells serves) (c.in-Ok.ensures.hears, c.hear.ensures.way) refl refl refl c.heed.ensures.rested was)

pub returns-in-Ok-clause-shows : goal.returns-in-Ok-clause-shows
returns-in-Ok-clause-shows g c files next tells w =
    let i = c.self.inside in
    let s : SeatState g.row.L.Denot = record { peer = i.peer; stated = i.stated; runs = i.runs.items; again = i.again; health = i.health; gone = i.gone } in
    let k = c.args.book.now in
    let was = subst (λ (x : SeatState g.row.L.Denot). IsAtWork g.F.Commands.gives g.F.Commands.may_fail g.L.Link.history files k.held next x) (sym c.self.view_is) w in
    let now = told_shows g.F.Commands.gives g.F.Commands.may_fail g.L.Link.history files k s.runs next s c.hear.new.self c.in-Ok.told c.what_is_said_went_out.ensures
    (λ said heard serves. c.in-Ok.ensures.serves said heard tells serves) was in
    shows_is g.L.Link.history k.held (told_book s.runs c.in-Ok.told k).held c.heed.new.book.held c.hear.new.self.way c.heed.new.self.peer.way (ap (λ (x : Kept). x.held) c.heed.ensures.book)
    (ap (λ (q : PeerState g.row.L.Denot). q.way) c.heed.ensures.peer) now

pub returns-in-Ok-clause-right : goal.returns-in-Ok-clause-right
returns-in-Ok-clause-right g c files next tells honest w =
    let i = c.self.inside in
    let s : SeatState g.row.L.Denot = record { peer = i.peer; stated = i.stated; runs = i.runs.items; again = i.again; health = i.health; gone = i.gone } in
    let k = c.args.book.now in
    let was = subst (λ (x : SeatState g.row.L.Denot). IsAtWork g.F.Commands.gives g.F.Commands.may_fail g.L.Link.history files k.held next x) (sym c.self.view_is) w in
    let way = subst (λ (x : SeatState g.row.L.Denot). g.L.Link.honest x.peer.way) (sym c.self.view_is) honest in
    let here = subst g.L.Link.honest (sym c.hear.ensures.way) way in
    let now = told_right g.F.Commands.gives g.F.Commands.may_fail g.L.Link.history files k s.runs next s c.hear.new.self c.in-Ok.told (c.honest_links_were_honest.ensures c.hear.new.self.way here).1
    (λ said heard serves. c.in-Ok.ensures.serves said heard tells serves) was in
    subst (λ (x : Kept). EndsRight g.F.Commands.gives g.F.Commands.may_fail files k.held x.held) (sym c.heed.ensures.book) now

pub returns-in-Err-clause-calm : goal.returns-in-Err-clause-calm
returns-in-Err-clause-calm g c files next tells w sure =
    let i = c.self.inside in
    let s : SeatState g.row.L.Denot = record { peer = i.peer; stated = i.stated; runs = i.runs.items; again = i.again; health = i.health; gone = i.gone } in
    let was = subst (λ (x : SeatState g.row.L.Denot). IsAtWork g.F.Commands.gives g.F.Commands.may_fail g.L.Link.history files c.args.book.now.held next x) (sym c.self.view_is) w in
    let here = subst (λ (x : SeatState g.row.L.Denot). g.L.Link.sure x.peer.way) (sym c.self.view_is) sure in
    calm_leave c.in-Err.leave (c.in-Err.ensures.sure was.said was.heard tells was.spoken.serves (c.sure_links_are_orderly.ensures i.peer.way here).1)

pub returns-in-Ok-clause-silent : goal.returns-in-Ok-clause-silent
returns-in-Ok-clause-silent g c files next tells w is =
    let i = c.self.inside in
    let s : SeatState g.row.L.Denot = record { peer = i.peer; stated = i.stated; runs = i.runs.items; again = i.again; health = i.health; gone = i.gone } in
    let was = subst (λ (x : SeatState g.row.L.Denot). IsAtWork g.F.Commands.gives g.F.Commands.may_fail g.L.Link.history files c.args.book.now.held next x) (sym c.self.view_is) w in
    let still = c.heed.ensures.silent is in
    let nothing = subst (λ (t : Told). let r : Result Told Leave = Ok t in Hears i.peer.feed i.peer.session r c.hear.new.self.feed c.hear.new.self.session) still.0 (c.in-Ok.ensures.hears was.spoken.serves.going) in
    record {
      peer_is = still.1 ∙ ap (λ (p : PeerState g.row.L.Denot). record s { peer = p }) (peer_is c.hear.new.self i.peer c.hear.ensures.way nothing.1 nothing.2) ∙ c.self.view_is;
      kept_is = still.2;
      part_of = subst (λ (x : SeatState g.row.L.Denot). front x.peer.feed.rest ≡ part) c.self.view_is nothing.0;
    }
