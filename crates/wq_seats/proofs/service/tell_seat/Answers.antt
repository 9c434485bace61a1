use Rattle.std.proofs.Common.{◌≡◌, ◌∙◌, false, sym}
use Rattle.peers.specs.declared.leave.Leave.TheVariants as leaves
use Rattle.peers.proofs.Serving.{at_ok}
use Rattle.wq_seats.specs.Turns.{StaysSureAt}
use Rattle.wq_seats.proofs.Keeping.{keeps_then, sure_on}
use Rattle.wq_seats.proofs.service.tell_seat.Goals as goal

pub returns-in-Ok-clause-calm : goal.returns-in-Ok-clause-calm
returns-in-Ok-clause-calm g c next least served sure =
    let before = c.args.seat.now in
    let lives : before.gone ≡ false = sym c.is_gone.ensures ∙ c.if-is_gone.false in
    let link = sure lives in
    let tells = (c.honest_links_were_honest.ensures before.peer.way (c.sure_links_are_orderly.ensures before.peer.way link.surely).0).0 in
    record { surely = λ here. sure_on g.L.Link.honest g.L.Link.sure g.L.Link.offers least before.peer.way c.tell.new.self.peer.way c.tell.ensures.on link; gone = c.tell.ensures.gone }

pub returns-in-Err-clause-keeps : goal.returns-in-Err-clause-keeps
returns-in-Err-clause-keeps g c =
    keeps_then c.args.book.now.held c.args.book.now.held c.leave.new.book.held c.args.seat.now c.tell.new.self c.leave.new.self c.tell.ensures.keeps c.leave.ensures.keeps

pub returns-in-Err-clause-calm : goal.returns-in-Err-clause-calm
returns-in-Err-clause-calm g c next least served sure =
    let before = c.args.seat.now in
    let lives : before.gone ≡ false = sym c.is_gone.ensures ∙ c.if-is_gone.false in
    let link = sure lives in
    let tells = (c.honest_links_were_honest.ensures before.peer.way (c.sure_links_are_orderly.ensures before.peer.way link.surely).0).0 in
    at_ok (c.in-Err.leave ≡ leaves.Memory → ⊥) (StaysSureAt g.L.Link.sure g.L.Link.offers least before c.leave.new.self) c.left_for.result
    (λ never. absurd (never (c.in-Err.ensures.calm next tells (served tells lives) link.surely))) c.left_for.ensures
