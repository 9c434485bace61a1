use Rattle.std.proofs.Common.{rules, ◌≡◌, ◌∙◌, ◌∷◌, ◌++◌, ◌<◌, [], List, ap, refl, sym, subst, true}
use Rattle.flow_types.specs.declared.numbers.FileNo.{FileNo}
use Rattle.std.specs.List.{AllByRecursion}
use Rattle.link_session.specs.Sessions.{is_open}
use Rattle.wq_seats.specs.declared.run.Run.{Run}
use Rattle.wq_seats.specs.Seats.{HasRun, IsAtWork, SeatState}
use Rattle.wq_seats.proofs.Calls.{opened_by}
use Rattle.wq_seats.proofs.Counting.{has_last, has_more}
use Rattle.wq_seats.proofs.Lacking.{lacking_there}
use Rattle.wq_seats.proofs.Speaking.{not_open}
use Rattle.wq_seats.proofs.seat.Seat.open.Goals as goal

pub returns-then-has-clause-calm : goal.returns-then-has-clause-calm
returns-then-has-clause-calm g c files held next tells is w =
    let i = c.self.inside in
    let s : SeatState g.row.L.Denot = record { peer = i.peer; stated = i.stated; runs = i.runs.items; again = i.again; health = i.health; gone = i.gone } in
    let was = subst (λ (x : SeatState g.row.L.Denot). IsAtWork g.F.Commands.gives g.F.Commands.may_fail g.L.Link.history files held next x) (sym c.self.view_is) w in
    let now : is_open c.args.task.now.attempt i.peer.session.attempts ≡ true = sym c.has.ensures.open ∙ c.if-has.true in
    absurd (not_open g.F.Commands.gives g.F.Commands.may_fail g.L.Link.history files held next s c.args.task.now.attempt is was now)

pub returns-clause-asks : goal.returns-clause-asks
returns-clause-asks g c files held next tells is w =
    let i = c.self.inside in
    let s : SeatState g.row.L.Denot = record { peer = i.peer; stated = i.stated; runs = i.runs.items; again = i.again; health = i.health; gone = i.gone } in
    let task = c.args.task.now in
    let run : Run = record { id = c.args.id; attempt = task.attempt; needs = task.needs; bytes = c.args.bytes } in
    let was = subst (λ (x : SeatState g.row.L.Denot). IsAtWork g.F.Commands.gives g.F.Commands.may_fail g.L.Link.history files held next x) (sym c.self.view_is) w in
    let runs : c.hold.new.self.runs ≡ i.runs.items ++ run ∷ [] = c.hold.ensures.held (search rules) in
    let now : c.hold.new.self ≡ record s { peer = c.open.new.self; runs = i.runs.items ++ run ∷ [] } =
    c.hold.ensures.only ∙ ap (λ (rs : List Run). record s { peer = c.open.new.self; runs = rs }) runs in
    opened_by g.F.Commands.gives g.F.Commands.may_fail g.L.Link.history files held next s c.hold.new.self c.open.new.self task run c.in-Ok.wanted is refl c.in-Ok.ensures.ok c.in-Ok.ensures.files now
    (λ said heard serves new. c.in-Ok.ensures.serves said heard tells serves new) was

pub returns-clause-run : goal.returns-clause-run
returns-clause-run g c =
    let i = c.self.inside in
    let task = c.args.task.now in
    let run : Run = record { id = c.args.id; attempt = task.attempt; needs = task.needs; bytes = c.args.bytes } in
    let held : c.hold.new.self.runs ≡ i.runs.items ++ run ∷ [] = c.hold.ensures.held (search rules) in
    subst (HasRun c.args.id task.attempt) (sym held) (has_last i.runs.items run)

pub returns-clause-keeps : goal.returns-clause-keeps
returns-clause-keeps g c other attempt has =
    let i = c.self.inside in
    let task = c.args.task.now in
    let run : Run = record { id = c.args.id; attempt = task.attempt; needs = task.needs; bytes = c.args.bytes } in
    let held : c.hold.new.self.runs ≡ i.runs.items ++ run ∷ [] = c.hold.ensures.held (search rules) in
    subst (HasRun other attempt) (sym held) (has_more other attempt i.runs.items (run ∷ []) (subst (λ (x : SeatState g.row.L.Denot). HasRun other attempt x.runs) (sym c.self.view_is) has))

pub returns-clause-known : goal.returns-clause-known
returns-clause-known g c n known =
    subst (λ (fs : List FileNo). AllByRecursion (λ (file : FileNo). file.0 < n) fs) (sym c.in-Ok.ensures.files) (lacking_there n c.self.inside.peer.session.known c.args.task.now.run c.args.task.now.inputs known)
