use Rattle.std.proofs.Common.{◌≡◌, ◌∙◌, false, refl, sym, true≢false}
use Rattle.wq_seats.proofs.Keeping.{keeps_then, sure_on}
use Rattle.wq_seats.proofs.service.read_seat.Goals as goal

pub returns-then-is_gone-clause-ready : goal.returns-then-is_gone-clause-ready
returns-then-is_gone-clause-ready g c files next least served sure idle = ((λ lives. absurd (true≢false (sym c.if-is_gone.true ∙ c.is_gone.ensures ∙ lives))), refl)

pub returns-in-Ok-clause-calm : goal.returns-in-Ok-clause-calm
returns-in-Ok-clause-calm g c files next least served sure =
    let before = c.args.seat.now in
    let lives : before.gone ≡ false = sym c.is_gone.ensures ∙ c.if-is_gone.false in
    let link = sure lives in
    let tells = (c.honest_links_were_honest.ensures before.peer.way (c.sure_links_are_orderly.ensures before.peer.way link.surely).0).0 in
    record { surely = λ here. sure_on g.L.Link.honest g.L.Link.sure g.L.Link.offers least before.peer.way c.read.new.self.peer.way c.read.ensures.on link; gone = c.read.ensures.gone }

pub returns-in-Ok-clause-ready : goal.returns-in-Ok-clause-ready
returns-in-Ok-clause-ready g c files next least served sure idle =
    let before = c.args.seat.now in
    let lives : before.gone ≡ false = sym c.is_gone.ensures ∙ c.if-is_gone.false in
    let link = sure lives in
    let tells = (c.honest_links_were_honest.ensures before.peer.way (c.sure_links_are_orderly.ensures before.peer.way link.surely).0).0 in
    let is = c.in-Ok.ensures.ready files next least tells (served tells lives) link idle in
    ((λ here. is.0), is.1)

pub returns-in-Ok-left_for-clause-keeps : goal.returns-in-Ok-left_for-clause-keeps
returns-in-Ok-left_for-clause-keeps g c =
    keeps_then c.args.book.now.held c.read.new.book.held c.leave.new.book.held c.args.seat.now c.read.new.self c.leave.new.self c.read.ensures.keeps c.leave.ensures.keeps

pub returns-in-Ok-left_for-clause-calm : goal.returns-in-Ok-left_for-clause-calm
returns-in-Ok-left_for-clause-calm g c files next least served sure =
    let before = c.args.seat.now in
    let lives : before.gone ≡ false = sym c.is_gone.ensures ∙ c.if-is_gone.false in
    let link = sure lives in
    let tells = (c.honest_links_were_honest.ensures before.peer.way (c.sure_links_are_orderly.ensures before.peer.way link.surely).0).0 in
    absurd (c.in-Ok-left_for.ensures (c.in-Err.ensures.calm files next least tells (served tells lives) link))

pub returns-in-Ok-left_for-clause-ready : goal.returns-in-Ok-left_for-clause-ready
returns-in-Ok-left_for-clause-ready g c files next least served sure idle = absurd (true≢false (sym idle))

pub returns-in-Err-left_for-clause-keeps : goal.returns-in-Err-left_for-clause-keeps
returns-in-Err-left_for-clause-keeps g c =
    keeps_then c.args.book.now.held c.read.new.book.held c.leave.new.book.held c.args.seat.now c.read.new.self c.leave.new.self c.read.ensures.keeps c.leave.ensures.keeps

pub returns-in-Err-left_for-clause-ready : goal.returns-in-Err-left_for-clause-ready
returns-in-Err-left_for-clause-ready g c files next least served sure idle = absurd (true≢false (sym idle))
