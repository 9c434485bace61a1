use Rattle.std.proofs.Common.{None, Some, [], ap, inl, inr, refl, subst, sym, ◌++◌, ◌∙◌, ◌∷◌, ◌≡◌, ◌⊎◌, append_assoc, List}
use Rattle.flow_types.specs.declared.numbers.LinkNo.{LinkNo}
use Rattle.desk.specs.State.{DeskState}
use Rattle.local_run.specs.Underway.{IsSurePool}
use Rattle.wq_run.specs.Seats.{IsUnseated, Manned, Meets, inside_of, with_hand}
use Rattle.wq_run.proofs.Companies.{leave_asks, parted_left, parted_still}
use Rattle.run_history.specs.declared.moves.Move.TheVariants as moves
use Rattle.local_run.specs.Links.{link_moves}
use Rattle.peers.specs.States.{PeerState}
use Rattle.local_run.specs.Losses.{SparesAll}
use Rattle.wq_run.proofs.Fares.{leaves_linked, leaves_spare, spares_same}
use Rattle.wq_run.proofs.Duly.{fine_before}
use Rattle.wq_run.proofs.Duties.{due_part}
use Rattle.run_history.specs.declared.moves.Move.{Move}
use Rattle.wq_run.proofs.company.parting.part.Goals as goal
use Rattle.wq_run.proofs.company.parting.part.Goals.{then-works, else-works}

pub leave-requires-clause-lives : goal.leave-requires-clause-lives
leave-requires-clause-lives g c κs within = (leave_asks c.args.desk.now c.abandon.new.desk c.args.held.now c.abandon.new.held c.args.company.now.seats c.args.seat c.abandon.new.self c.link-link.result c.requires.parting c.abandon.ensures.stays c.abandon.ensures.none c.abandon.ensures.keeps (c.link-link.ensures ∙ c.abandon.ensures.stays.link)).lives

pub leave-requires-clause-none : goal.leave-requires-clause-none
leave-requires-clause-none g c κs within = (leave_asks c.args.desk.now c.abandon.new.desk c.args.held.now c.abandon.new.held c.args.company.now.seats c.args.seat c.abandon.new.self c.link-link.result c.requires.parting c.abandon.ensures.stays c.abandon.ensures.none c.abandon.ensures.keeps (c.link-link.ensures ∙ c.abandon.ensures.stays.link)).none

pub returns-clause-manned : goal.returns-clause-manned
returns-clause-manned g c before behind first waiting heard are parts =
    elim c.if-works.branch [
      | then-works w ↦ subst (λ (d : DeskState g.row.S.Denot). Manned g.T.Terms.trust g.F.Commands.gives g.F.Commands.may_fail g.T.Terms.sources g.S.Site.tells g.T.Terms.kept (IsSurePool g.B.Terms.fits) g.S.Site.files g.S.Site.may_leave g.S.Site.moment g.S.Site.images_since first d c.abandon.new.held waiting heard c.hand_back.new.company.seats) (sym w.desk-is)
          (parted_left c.abandon.ensures.stays c.abandon.ensures.none c.abandon.ensures.keeps (c.link-link.ensures ∙ c.abandon.ensures.stays.link) w.leave.ensures.reply
          (λ away under. w.leave.ensures.underway away first c.abandon.new.held.attempts waiting None heard c.abandon.new.held.halt under) (c.hand_back.ensures.seats ∙ are) parts)
      | else-works w ↦ subst (λ (d : DeskState g.row.S.Denot). Manned g.T.Terms.trust g.F.Commands.gives g.F.Commands.may_fail g.T.Terms.sources g.S.Site.tells g.T.Terms.kept (IsSurePool g.B.Terms.fits) g.S.Site.files g.S.Site.may_leave g.S.Site.moment g.S.Site.images_since first d c.abandon.new.held waiting heard c.hand_back.new.company.seats) (sym w.desk-is)
          (parted_still c.abandon.ensures.stays c.abandon.ensures.none c.abandon.ensures.keeps (c.hand_back.ensures.seats ∙ are) parts)
    ]

pub returns-clause-met : goal.returns-clause-met
returns-clause-met g c =
    subst (λ (l : LinkNo). Meets (g.H.Hall.count c.args.hall.now) (g.H.Hall.count c.hand_back.new.hall) (g.H.Hall.got c.args.hall.now) (g.H.Hall.got c.hand_back.new.hall) (g.H.Hall.given c.args.hall.now) (g.H.Hall.given c.hand_back.new.hall) (g.H.Hall.idle_count c.args.hall.now) (g.H.Hall.idle_count c.hand_back.new.hall)
    (with_hand (Some l) (inside_of c.args.company.now)) (inside_of c.hand_back.new.company) c.args.company.now.failed c.hand_back.new.company.failed c.args.company.now.lost c.hand_back.new.company.lost) (c.link-link.ensures ∙ c.abandon.ensures.stays.link) c.hand_back.ensures.met

pub returns-clause-due : goal.returns-clause-due
returns-clause-due g c limit tells before behind are cause =
    let link = c.link-link.ensures ∙ c.abandon.ensures.stays.link in
    let left : SparesAll c.abandon.new.desk.moves c.if-works.desk.moves = elim c.if-works.branch [
      | then-works w ↦ subst (λ (d : DeskState g.row.S.Denot). SparesAll c.abandon.new.desk.moves d.moves) (sym w.desk-is) (leaves_spare c.abandon.new.desk w.leave.new.desk c.link-link.result w.leave.ensures.reply)
      | else-works w ↦ subst (λ (d : DeskState g.row.S.Denot). SparesAll c.abandon.new.desk.moves d.moves) (sym w.desk-is) (spares_same _ _ refl)
    ] in
    let gone : (link_moves c.if-works.desk.moves ≡ link_moves c.abandon.new.desk.moves) ⊎ (link_moves c.if-works.desk.moves ≡ link_moves c.abandon.new.desk.moves ++ (moves.Left c.args.seat.link ∷ [])) = elim c.if-works.branch [
      | then-works w ↦ inr (ap (λ (d : DeskState g.row.S.Denot). link_moves d.moves) w.desk-is ∙ leaves_linked c.abandon.new.desk w.leave.new.desk c.link-link.result w.leave.ensures.reply ∙ ap (λ (l : LinkNo). link_moves c.abandon.new.desk.moves ++ (moves.Left l ∷ [])) link)
      | else-works w ↦ inl (ap (λ (d : DeskState g.row.S.Denot). link_moves d.moves) w.desk-is)
    ] in
    let others : IsUnseated c.args.seat.link.0 (before ++ behind) = subst (IsUnseated c.args.seat.link.0) (sym c.requires.parting.are ∙ are) c.requires.parting.parts.apart in
    let way : c.into_way-way.result ≡ c.args.seat.peer.way = c.into_way-way.ensures ∙ ap (λ (p : PeerState g.row.H-Way.Denot). p.way) (c.into_peer.ensures ∙ c.abandon.ensures.peer) in
    due_part _ _ before c.args.seat behind refl (c.hand_back.ensures.seats ∙ are) c.abandon.ensures.gives_up left gone others
    (λ fine. fine_before c.args.company.now.failed c.hand_back.new.company.failed c.hand_back.ensures.met.stays fine)
    (λ kept. (
      (c.hand_back.ensures.met.counted kept).0,
      subst (λ (l : LinkNo). g.H.Hall.got c.hand_back.new.hall ≡ g.H.Hall.got c.args.hall.now ++ ((Some l, c.args.seat.peer.way) ∷ [])) link
          (subst (λ (x : g.row.H-Way.Denot). g.H.Hall.got c.hand_back.new.hall ≡ g.H.Hall.got c.args.hall.now ++ ((Some c.link-link.result, x) ∷ [])) way (c.hand_back.ensures.back kept)),
    ))
    cause

pub returns-clause-grows : goal.returns-clause-grows
returns-clause-grows g c none =
    let left : SparesAll c.abandon.new.desk.moves c.if-works.desk.moves = elim c.if-works.branch [
      | then-works w ↦ subst (λ (d : DeskState g.row.S.Denot). SparesAll c.abandon.new.desk.moves d.moves) (sym w.desk-is) (leaves_spare c.abandon.new.desk w.leave.new.desk c.link-link.result w.leave.ensures.reply)
      | else-works w ↦ subst (λ (d : DeskState g.row.S.Denot). SparesAll c.abandon.new.desk.moves d.moves) (sym w.desk-is) (spares_same _ _ refl)
    ] in
    let gives = c.abandon.ensures.gives_up in
    let adds = gives.loses none in
    (gives.going none, (adds.more ++ left.more, left.are ∙ ap (λ (N : List Move). N ++ left.more) adds.are ∙ append_assoc c.args.desk.now.moves adds.more left.more))
