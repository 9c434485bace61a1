use Rattle.std.proofs.Common.{rules, ◌≡◌, ◌∙◌, ◌<◌, is_some, ap, subst, sym}
use Rattle.peers.specs.States.{GoesOn}
use Rattle.wq_seats.specs.Turns.{IsReady}
use Rattle.wq_seats.specs.Shown.{ShowsOn}
use Rattle.wq_seats.specs.Seats.{IsAtWork, KeepsRuns, SeatState}
use Rattle.wq_seats.proofs.Hearing.{where_ok}
use Rattle.wq_seats.proofs.Keeping.{keeps_from, sure_on}
use Rattle.wq_seats.proofs.Settling.{idle_if, is_well, ready, ready_before}
use Rattle.wq_seats.proofs.seat.Seat.read.Goals as goal

pub returns-in-Ok-Silence-clause-works : goal.returns-in-Ok-Silence-clause-works
returns-in-Ok-Silence-clause-works g c files next tells w =
    where_ok c.settled.result (subst (λ (s : SeatState g.row.L.Denot). IsAtWork g.F.Commands.gives g.F.Commands.may_fail g.L.Link.history files c.hear_all.new.book.held next s) (sym c.settled.ensures.same)
    (c.in-Ok-Silence.ensures.works files next tells (c.in-Ok.ensures.works files c.args.book.now.held next tells w)))

pub returns-in-Ok-Silence-clause-shows : goal.returns-in-Ok-Silence-clause-shows
returns-in-Ok-Silence-clause-shows g c files next tells w =
    subst (λ (x : g.row.L.Denot). ShowsOn g.L.Link.history c.args.book.now.held c.hear_all.new.book.held x) (sym (ap (λ (s : SeatState g.row.L.Denot). s.peer.way) c.settled.ensures.same ∙ c.hear_all.ensures.way)) (c.hear_all.ensures.shows files next tells (c.in-Ok.ensures.works files c.args.book.now.held next tells w))

pub returns-in-Ok-Silence-clause-right : goal.returns-in-Ok-Silence-clause-right
returns-in-Ok-Silence-clause-right g c files next tells honest w = c.hear_all.ensures.right files next tells (c.attend.ensures.on.honestly honest) (c.in-Ok.ensures.works files c.args.book.now.held next tells w)

pub returns-in-Ok-Silence-clause-on : goal.returns-in-Ok-Silence-clause-on
returns-in-Ok-Silence-clause-on g c =
    subst (λ (x : g.row.L.Denot). GoesOn g.L.Link.honest g.L.Link.sure g.L.Link.offers c.args.self.now.peer.way x) (sym (ap (λ (s : SeatState g.row.L.Denot). s.peer.way) c.settled.ensures.same ∙ c.hear_all.ensures.way)) c.attend.ensures.on

pub returns-in-Ok-Silence-clause-keeps : goal.returns-in-Ok-Silence-clause-keeps
returns-in-Ok-Silence-clause-keeps g c =
    subst (λ (s : SeatState g.row.L.Denot). KeepsRuns c.args.book.now.held c.hear_all.new.book.held c.args.self.now s) (sym c.settled.ensures.same)
    (keeps_from c.args.book.now.held c.hear_all.new.book.held c.args.self.now c.attend.new.self c.hear_all.new.self (ap (λ (s : SeatState g.row.L.Denot). s.gone) c.attend.ensures.only) (ap (λ (s : SeatState g.row.L.Denot). s.runs) c.attend.ensures.only) c.hear_all.ensures.keeps)

pub returns-in-Ok-Silence-clause-idle : goal.returns-in-Ok-Silence-clause-idle
returns-in-Ok-Silence-clause-idle g c =
    idle_if c.settled.result c.in-Ok.look (0 < g.L.Link.idle_count c.settled.new.self.peer.way) c.settled.ensures.look
    (λ idle. subst (λ (x : g.row.L.Denot). 0 < g.L.Link.idle_count x) (sym (ap (λ (s : SeatState g.row.L.Denot). s.peer.way) c.settled.ensures.same ∙ c.hear_all.ensures.way)) (c.in-Ok.ensures.idle idle))

pub returns-in-Ok-Silence-clause-calm : goal.returns-in-Ok-Silence-clause-calm
returns-in-Ok-Silence-clause-calm g c files next least tells w sure =
    let before = c.args.self.now in
    let mid = c.attend.new.self in
    let w1 = c.in-Ok.ensures.works files c.args.book.now.held next tells w in
    let sure1 = sure_on g.L.Link.honest g.L.Link.sure g.L.Link.offers least before.peer.way mid.peer.way c.attend.ensures.on sure in
    let law = c.sure_links_are_orderly.ensures mid.peer.way sure1.surely in
    let silent = c.in-Ok-Silence.ensures.silent files next tells w1 (search rules) in
    c.settled.ensures.calm (λ idle.
    let is = ready g.F.Commands.gives g.F.Commands.may_fail g.L.Link.history files c.args.book.now.held next least mid w1 (record { honest = (c.honest_links_were_honest.ensures mid.peer.way law.0).1; orderly = law.1; owes = c.in-Ok.ensures.owes tells sure.surely idle; offers = c.offers_were_stated.ensures mid.peer.way least sure1.offering; part_of = silent.part_of }) in
    (ap (λ (s : SeatState g.row.L.Denot). s.runs) silent.peer_is ∙ is.idle, ap (λ (s : SeatState g.row.L.Denot). is_some s.stated) silent.peer_is ∙ ap is_some is.stated))

pub returns-in-Ok-Silence-clause-ready : goal.returns-in-Ok-Silence-clause-ready
returns-in-Ok-Silence-clause-ready g c files next least tells w sure =
    let before = c.args.self.now in
    let mid = c.attend.new.self in
    let w1 = c.in-Ok.ensures.works files c.args.book.now.held next tells w in
    let sure1 = sure_on g.L.Link.honest g.L.Link.sure g.L.Link.offers least before.peer.way mid.peer.way c.attend.ensures.on sure in
    let law = c.sure_links_are_orderly.ensures mid.peer.way sure1.surely in
    let silent = c.in-Ok-Silence.ensures.silent files next tells w1 (search rules) in
    idle_if c.settled.result c.in-Ok.look (IsReady least before × (c.hear_all.new.book ≡ c.args.book.now)) c.settled.ensures.look
    (λ idle.
    let is = ready g.F.Commands.gives g.F.Commands.may_fail g.L.Link.history files c.args.book.now.held next least mid w1 (record { honest = (c.honest_links_were_honest.ensures mid.peer.way law.0).1; orderly = law.1; owes = c.in-Ok.ensures.owes tells sure.surely idle; offers = c.offers_were_stated.ensures mid.peer.way least sure1.offering; part_of = silent.part_of }) in
    let well = is_well g.F.Commands.gives g.F.Commands.may_fail g.L.Link.history files c.args.book.now.held next before w (c.sure_links_are_orderly.ensures before.peer.way sure.surely).1 in
    (ready_before least before mid (sym (ap (λ (s : SeatState g.row.L.Denot). s.runs) c.attend.ensures.only)) (sym (ap (λ (s : SeatState g.row.L.Denot). s.stated) c.attend.ensures.only)) (w.well well).1 is, silent.kept_is))

pub returns-in-Ok-Nothing-clause-works : goal.returns-in-Ok-Nothing-clause-works
returns-in-Ok-Nothing-clause-works g c files next tells w =
    subst (λ (s : SeatState g.row.L.Denot). IsAtWork g.F.Commands.gives g.F.Commands.may_fail g.L.Link.history files c.hear_all.new.book.held next s) (sym c.came.ensures.same)
    (c.in-Ok-Nothing.ensures.works files next tells (c.in-Ok.ensures.works files c.args.book.now.held next tells w))

pub returns-in-Ok-Nothing-clause-shows : goal.returns-in-Ok-Nothing-clause-shows
returns-in-Ok-Nothing-clause-shows g c files next tells w =
    subst (λ (x : g.row.L.Denot). ShowsOn g.L.Link.history c.args.book.now.held c.hear_all.new.book.held x) (sym (ap (λ (s : SeatState g.row.L.Denot). s.peer.way) c.came.ensures.same ∙ c.hear_all.ensures.way)) (c.hear_all.ensures.shows files next tells (c.in-Ok.ensures.works files c.args.book.now.held next tells w))

pub returns-in-Ok-Nothing-clause-right : goal.returns-in-Ok-Nothing-clause-right
returns-in-Ok-Nothing-clause-right g c files next tells honest w = c.hear_all.ensures.right files next tells (c.attend.ensures.on.honestly honest) (c.in-Ok.ensures.works files c.args.book.now.held next tells w)

pub returns-in-Ok-Nothing-clause-on : goal.returns-in-Ok-Nothing-clause-on
returns-in-Ok-Nothing-clause-on g c =
    subst (λ (x : g.row.L.Denot). GoesOn g.L.Link.honest g.L.Link.sure g.L.Link.offers c.args.self.now.peer.way x) (sym (ap (λ (s : SeatState g.row.L.Denot). s.peer.way) c.came.ensures.same ∙ c.hear_all.ensures.way)) c.attend.ensures.on

pub returns-in-Ok-Nothing-clause-keeps : goal.returns-in-Ok-Nothing-clause-keeps
returns-in-Ok-Nothing-clause-keeps g c =
    subst (λ (s : SeatState g.row.L.Denot). KeepsRuns c.args.book.now.held c.hear_all.new.book.held c.args.self.now s) (sym c.came.ensures.same)
    (keeps_from c.args.book.now.held c.hear_all.new.book.held c.args.self.now c.attend.new.self c.hear_all.new.self (ap (λ (s : SeatState g.row.L.Denot). s.gone) c.attend.ensures.only) (ap (λ (s : SeatState g.row.L.Denot). s.runs) c.attend.ensures.only) c.hear_all.ensures.keeps)

pub returns-in-Ok-More-clause-works : goal.returns-in-Ok-More-clause-works
returns-in-Ok-More-clause-works g c files next tells w =
    subst (λ (s : SeatState g.row.L.Denot). IsAtWork g.F.Commands.gives g.F.Commands.may_fail g.L.Link.history files c.hear_all.new.book.held next s) (sym c.filled.ensures.same)
    (c.in-Ok-More.ensures.works files next tells (c.in-Ok.ensures.works files c.args.book.now.held next tells w))

pub returns-in-Ok-More-clause-shows : goal.returns-in-Ok-More-clause-shows
returns-in-Ok-More-clause-shows g c files next tells w =
    subst (λ (x : g.row.L.Denot). ShowsOn g.L.Link.history c.args.book.now.held c.hear_all.new.book.held x) (sym (ap (λ (s : SeatState g.row.L.Denot). s.peer.way) c.filled.ensures.same ∙ c.hear_all.ensures.way)) (c.hear_all.ensures.shows files next tells (c.in-Ok.ensures.works files c.args.book.now.held next tells w))

pub returns-in-Ok-More-clause-right : goal.returns-in-Ok-More-clause-right
returns-in-Ok-More-clause-right g c files next tells honest w = c.hear_all.ensures.right files next tells (c.attend.ensures.on.honestly honest) (c.in-Ok.ensures.works files c.args.book.now.held next tells w)

pub returns-in-Ok-More-clause-on : goal.returns-in-Ok-More-clause-on
returns-in-Ok-More-clause-on g c =
    subst (λ (x : g.row.L.Denot). GoesOn g.L.Link.honest g.L.Link.sure g.L.Link.offers c.args.self.now.peer.way x) (sym (ap (λ (s : SeatState g.row.L.Denot). s.peer.way) c.filled.ensures.same ∙ c.hear_all.ensures.way)) c.attend.ensures.on

pub returns-in-Ok-More-clause-keeps : goal.returns-in-Ok-More-clause-keeps
returns-in-Ok-More-clause-keeps g c =
    subst (λ (s : SeatState g.row.L.Denot). KeepsRuns c.args.book.now.held c.hear_all.new.book.held c.args.self.now s) (sym c.filled.ensures.same)
    (keeps_from c.args.book.now.held c.hear_all.new.book.held c.args.self.now c.attend.new.self c.hear_all.new.self (ap (λ (s : SeatState g.row.L.Denot). s.gone) c.attend.ensures.only) (ap (λ (s : SeatState g.row.L.Denot). s.runs) c.attend.ensures.only) c.hear_all.ensures.keeps)

pub returns-in-Err-clause-calm : goal.returns-in-Err-clause-calm
returns-in-Err-clause-calm g c files next least tells w sure = c.in-Err.ensures.calm files c.args.book.now.held next tells w sure.surely

pub returns-in-Err-hear_all-clause-shows : goal.returns-in-Err-hear_all-clause-shows
returns-in-Err-hear_all-clause-shows g c files next tells w =
    subst (λ (x : g.row.L.Denot). ShowsOn g.L.Link.history c.args.book.now.held c.hear_all.new.book.held x) (sym c.hear_all.ensures.way) (c.hear_all.ensures.shows files next tells (c.in-Ok.ensures.works files c.args.book.now.held next tells w))

pub returns-in-Err-hear_all-clause-right : goal.returns-in-Err-hear_all-clause-right
returns-in-Err-hear_all-clause-right g c files next tells honest w = c.hear_all.ensures.right files next tells (c.attend.ensures.on.honestly honest) (c.in-Ok.ensures.works files c.args.book.now.held next tells w)

pub returns-in-Err-hear_all-clause-keeps : goal.returns-in-Err-hear_all-clause-keeps
returns-in-Err-hear_all-clause-keeps g c =
    keeps_from c.args.book.now.held c.hear_all.new.book.held c.args.self.now c.attend.new.self c.hear_all.new.self (ap (λ (s : SeatState g.row.L.Denot). s.gone) c.attend.ensures.only) (ap (λ (s : SeatState g.row.L.Denot). s.runs) c.attend.ensures.only) c.hear_all.ensures.keeps

pub returns-in-Err-hear_all-clause-calm : goal.returns-in-Err-hear_all-clause-calm
returns-in-Err-hear_all-clause-calm g c files next least tells w sure =
    c.in-Err-hear_all.ensures.calm files next tells (c.in-Ok.ensures.works files c.args.book.now.held next tells w) (c.attend.ensures.on.surely sure.surely)
