use Rattle.std.proofs.Common.{Err, List, None, [], ap, subst, sym, ◌++◌, ◌∙◌, ◌∷◌, Ok}
use Rattle.flow_types.specs.declared.numbers.LinkNo.{LinkNo}
use Rattle.run_history.specs.declared.moves.Move.{Move}
use Rattle.links.specs.Passings.{received_in}
use Rattle.message_forms.specs.Streams.{Carries}
use Rattle.desk.specs.State.{DeskState}
use Rattle.local_run.specs.Links.{link_moves}
use Rattle.flow_types.specs.declared.messages.Message.TheVariants as messages
use Rattle.run_history.specs.declared.moves.Move.TheVariants as moves
use Rattle.local_run.specs.Underway.{IsSurePool}
use Rattle.wq_run.specs.Earned.{HasEarned, refused_lost}
use Rattle.wq_run.specs.Seats.{CompanyState, IsGuest, SeatState}
use Rattle.wq_run.proofs.Earned.{joins_more}
use Rattle.wq_run.proofs.Companies.{man_as, marked_hand, met_then, seated}
use Rattle.wq_run.proofs.Visits.{joins_none}
use Rattle.wq_run.proofs.Fares.{joins_none_spare, joins_one, joins_so}
use Rattle.wq_run.proofs.Duties.{due_guest, due_marked, due_seated, due_then}
use Rattle.wq_run.proofs.Leaving.{refused_earned, refused_kept, refused_links, refused_still}
use Rattle.wq_run.specs.Calm.{IsSureOf, IsSureGuest}
use Rattle.wq_run.proofs.Calm.{joins_well, sure_new}
use Rattle.wq_run.proofs.Calmly.{calm_moved, links_seated}
use Rattle.peers.specs.States.{PeerState}
use Rattle.wq_run.specs.Dues.{HasHeard, IsFull, IsIllLink}
use Rattle.wq_run.proofs.company.guests.seat_guest.Goals as goal

pub new-requires-clause-meant : goal.new-requires-clause-meant
new-requires-clause-meant g c κs within = c.requires.guest.so

pub returns-in-Ok-clause-manned : goal.returns-in-Ok-clause-manned
returns-in-Ok-clause-manned g c held first waiting heard m =
    seated c.args.desk.now c.join.new.desk c.args.offer.total c.args.offer.largest c.args.offer.cache c.in-Ok.link c.args.company.now.seats c.take_seat.new.company.seats c.new.result c.in-Ok.ensures.reply
    (λ attempts halt away since starts tally under. c.in-Ok.ensures.underway away since attempts starts None tally halt under)
    (ap (λ s. s.link) c.new.ensures) (ap (λ s. s.attempts) c.new.ensures) (subst (IsGuest _) (sym (ap (λ s. s.peer) c.new.ensures)) c.requires.guest) c.take_seat.ensures.seats held first waiting heard m

pub returns-in-Err-clause-manned : goal.returns-in-Err-clause-manned
returns-in-Err-clause-manned g c held first waiting heard m =
    man_as (c.hand_back.ensures.seats ∙ ap (λ (x : CompanyState g.row.H-Way.Denot). x.seats) c.refuses.ensures.refused)
    (joins_none g.T.Terms.trust g.F.Commands.gives g.F.Commands.may_fail g.T.Terms.sources g.S.Site.tells g.T.Terms.kept (IsSurePool g.B.Terms.fits) g.S.Site.files g.S.Site.may_leave g.S.Site.moment g.S.Site.images_since c.args.desk.now c.join.new.desk held c.args.offer.total c.args.offer.largest c.args.offer.cache (Err c.in-Err.why) c.args.company.now.seats c.in-Err.ensures.reply
    (λ away since starts tally under. c.in-Err.ensures.underway away since held.attempts starts None tally held.halt under) first waiting heard m)

pub returns-in-Err-clause-met : goal.returns-in-Err-clause-met
returns-in-Err-clause-met g c =
    met_then (marked_hand None c.args.company.now c.refuses.new.self (refused_lost c.in-Err.why c.args.company.now.lost) (refused_kept c.in-Err.why c.args.company.now.lost) c.refuses.ensures.refused) c.hand_back.ensures.met

pub returns-in-Ok-clause-due : goal.returns-in-Ok-clause-due
returns-in-Ok-clause-due g c limit halt tells =
    let link = ap (λ (s : SeatState g.row.H-Way.Denot). s.link) c.new.ensures in
    let peer = ap (λ (s : SeatState g.row.H-Way.Denot). s.peer) c.new.ensures in
    due_seated _ _ c.new.result c.args.offer.total c.args.offer.largest c.args.offer.cache (λ before. joins_so _ c.args.desk.now c.join.new.desk c.args.offer.total c.args.offer.largest c.args.offer.cache c.in-Ok.link c.in-Ok.ensures.reply) (joins_one c.args.desk.now c.join.new.desk c.args.offer.total c.args.offer.largest c.args.offer.cache c.in-Ok.link c.in-Ok.ensures.reply)
    (subst (λ (p : PeerState g.row.H-Way.Denot). HasHeard g.H.Way.Link.history p 1) (sym peer) (c.requires.offered tells))
    (ap (λ (b : DeskState g.row.S.Denot). b.moves) c.in-Ok.ensures.reply.2 ∙ ap (λ (l : LinkNo). c.args.desk.now.moves ++ (moves.Joined l c.args.offer.total c.args.offer.largest c.args.offer.cache ∷ [])) (sym link))
    (ap (λ (l : LinkNo). l.0) link ∙ c.in-Ok.ensures.reply.1)
    (subst (λ (p : PeerState g.row.H-Way.Denot). Carries (received_in (g.H.Way.Link.history p.way)) (messages.Hello c.args.offer.total c.args.offer.largest c.args.offer.cache)) (sym peer) (c.requires.came tells))
    c.take_seat.ensures.seated c.take_seat.ensures.met

pub returns-in-Err-clause-due : goal.returns-in-Err-clause-due
returns-in-Err-clause-due g c limit halt tells =
    let marked = ap (λ (x : CompanyState g.row.H-Way.Denot). x.lost) c.refuses.ensures.refused in
    let still = refused_still c.args.desk.now c.join.new.desk c.args.offer.total c.args.offer.largest c.args.offer.cache c.in-Err.why c.in-Err.ensures.reply in
    due_then _ _ (due_marked _ _ c.args.company.now c.refuses.new.self (refused_lost c.in-Err.why c.args.company.now.lost) (refused_kept c.in-Err.why c.args.company.now.lost) c.refuses.ensures.refused)
    (due_guest _ _ c.into_way.result (joins_none_spare c.args.desk.now c.join.new.desk c.args.offer.total c.args.offer.largest c.args.offer.cache c.in-Err.why c.in-Err.ensures.reply) (ap link_moves still) c.hand_back.ensures.seats c.hand_back.ensures.back
    (λ kept.
    let ill = IsIllLink g.F.Commands.gives g.F.Commands.may_fail g.H.Way.Link.history g.H.Way.Link.count g.H.Way.Link.idle_count g.H.Way.Link.is_closed limit in
    subst (λ (M : List Move). HasEarned ill M None c.into_way.result) (sym still)
    (refused_earned ill c.args.desk.now c.join.new.desk c.args.offer.total c.args.offer.largest c.args.offer.cache c.in-Err.why c.into_way.result c.args.company.now.lost c.in-Err.ensures.reply (sym marked ∙ (c.hand_back.ensures.met.counted kept).0))) c.hand_back.ensures.met)

pub returns-in-Ok-clause-calm : goal.returns-in-Ok-clause-calm
returns-in-Ok-clause-calm g c asked halt tells =
    let are = ap (λ (b : DeskState g.row.S.Denot). b.moves) c.in-Ok.ensures.reply.2 in
    calm_moved (joins_well c.args.desk.now c.join.new.desk c.args.offer.total c.args.offer.largest c.args.offer.cache (Ok c.in-Ok.link) c.in-Ok.ensures.reply) c.take_seat.ensures.met
    (λ now both. c.take_seat.ensures.calm asked c.args.desk.now.moves c.join.new.desk.moves (joins_more c.args.desk.now.moves c.in-Ok.link c.args.offer.total c.args.offer.largest c.args.offer.cache c.join.new.desk.moves are) now.kept
    (sure_new g.F.Commands.gives g.F.Commands.may_fail g.H.Way.Link.history (IsSureOf g.H.Way.Link.sure g.H.Way.Link.offers asked) c.new.result (subst (IsSureGuest g.F.Commands.gives g.F.Commands.may_fail g.H.Way.Link.history g.H.Way.Link.idle_count (IsSureOf g.H.Way.Link.sure g.H.Way.Link.offers asked)) (sym (ap (λ s. s.peer) c.new.ensures)) both.0)) both.1)

pub returns-in-Err-clause-calm : goal.returns-in-Err-clause-calm
returns-in-Err-clause-calm g c asked halt tells =
    let marked = ap (λ (x : CompanyState g.row.H-Way.Denot). x.lost) c.refuses.ensures.refused in
    let still = refused_still c.args.desk.now c.join.new.desk c.args.offer.total c.args.offer.largest c.args.offer.cache c.in-Err.why c.in-Err.ensures.reply in
    calm_moved (joins_well c.args.desk.now c.join.new.desk c.args.offer.total c.args.offer.largest c.args.offer.cache (Err c.in-Err.why) c.in-Err.ensures.reply)
    (met_then (marked_hand None c.args.company.now c.refuses.new.self (refused_lost c.in-Err.why c.args.company.now.lost) (refused_kept c.in-Err.why c.args.company.now.lost) c.refuses.ensures.refused) c.hand_back.ensures.met)
    (λ now both. links_seated g.F.Commands.gives g.F.Commands.may_fail g.H.Way.Link.history g.H.Way.Link.idle_count (IsSureOf g.H.Way.Link.sure g.H.Way.Link.offers asked) c.args.company.now c.hand_back.new.company
    (λ is. record { surely = c.hand_back.ensures.sure is.surely; offering = λ a so. c.hand_back.ensures.staffed a.least (is.offering a so) })
    (c.hand_back.ensures.seats ∙ ap (λ (x : CompanyState g.row.H-Way.Denot). x.seats) c.refuses.ensures.refused) (c.hand_back.ensures.guests ∙ ap (λ (x : CompanyState g.row.H-Way.Denot). x.guests) c.refuses.ensures.refused) still
    (refused_links c.args.desk.now.moves c.into_way.result
    (refused_earned (λ (link : LinkNo) (x : g.row.H-Way.Denot). ⊥) c.args.desk.now c.join.new.desk c.args.offer.total c.args.offer.largest c.args.offer.cache c.in-Err.why c.into_way.result c.args.company.now.lost c.in-Err.ensures.reply (sym marked ∙ (c.hand_back.ensures.met.counted now.kept).0))
    (λ full. now.room (subst IsFull (sym still) full))) both.1)
