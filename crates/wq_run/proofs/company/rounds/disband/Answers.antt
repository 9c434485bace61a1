use Rattle.std.proofs.Common.{List, None, Some, [], ap, arith, false, length, length-append, refl, rules, subst, sym, ◌++◌, ◌∙◌, ◌∷◌, ◌≡◌}
use Rattle.std.proofs.lemmas.List.{append-nil}
use Rattle.flow_types.specs.declared.numbers.LinkNo.{LinkNo}
use Rattle.wq_run.specs.Seats.{CompanyState, SeatState, gathered, one_under, seats_under}
use Rattle.wq_run.proofs.Companies.{gathered_less, met_then, still_met}
use Rattle.wq_run.proofs.Services.{met_none}
use Rattle.wq_run.proofs.Counting.{seated_split}
use Rattle.peers.specs.States.{PeerState, PassesOn}
use Rattle.wq_run.proofs.Hands.{HandsOn, hands_last, hands_none, hands_whole}
use Rattle.wq_run.specs.Dues.{IsIllLink, KeepsDue}
use Rattle.wq_run.proofs.Fares.{fares_still}
use Rattle.wq_run.proofs.Duly.{due_from, due_handed, due_met, due_none, due_seat, due_then, fine_before}
use Rattle.wq_run.proofs.Heards.{heard_fed}
use Rattle.wq_run.proofs.company.rounds.disband.Goals as goal

pub into_peer-requires-after_bounds : goal.into_peer-requires-after_bounds
into_peer-requires-after_bounds g c κs within =
    let are : c.loop-seat.company.seats ≡ c.pop.new.self.items ++ (c.in-Some.seat ∷ []) = search rules in
    let less = gathered_less c.pop.new.self.items c.in-Some.seat (ap gathered (sym are) ∙ c.loop-seat.invariant.none) in
    c.farewell.ensures.attempts ∙ less.1

pub loop-seat-preserved : goal.loop-seat-preserved
loop-seat-preserved g c =
    let are : c.loop-seat.company.seats ≡ c.pop.new.self.items ++ (c.in-Some.seat ∷ []) = search rules in
    let less = gathered_less c.pop.new.self.items c.in-Some.seat (ap gathered (sym are) ∙ c.loop-seat.invariant.none) in
    let many = ap length are in
    let both = length-append c.pop.new.self.items (c.in-Some.seat ∷ []) in
    let guests : length c.loop-seat.company.guests ≡ length c.company.inside.guests.items = search rules in
    let failed : c.company.inside.failed ≡ c.loop-seat.company.failed = search rules in
    let lost : c.company.inside.lost ≡ c.loop-seat.company.lost = search rules in
    let newest : c.company.inside.newest ≡ c.loop-seat.company.newest = search rules in
    let same_guests : c.company.inside.guests.items ≡ c.loop-seat.company.guests = search rules in
    record {
      failed = c.hand_back.ensures.failed ∙ failed ∙ c.loop-seat.invariant.failed;
      listens = λ is. c.hand_back.ensures.listens (c.loop-seat.invariant.listens is);
      due = λ limit moves tells.
          let was = c.loop-seat.company in
          let mid : CompanyState g.row.H-Way.Denot = record was { seats = c.pop.new.self.items ++ (c.farewell.new.self ∷ []) } in
          let one : KeepsDue (IsIllLink g.F.Commands.gives g.F.Commands.may_fail g.H.Way.Link.history g.H.Way.Link.count g.H.Way.Link.idle_count g.H.Way.Link.is_closed limit) g.H.Way.Link.history moves moves None None was mid (g.H.Hall.got c.loop-seat.hall) (g.H.Hall.got c.loop-seat.hall) =
          due_seat _ _ c.pop.new.self.items c.in-Some.seat c.farewell.new.self [] tt are refl refl refl (fares_still {A = Unit {0}} c.farewell.ensures.link (c.farewell.ensures.comes tells) refl refl tt (heard_fed g.H.Way.Link.history c.in-Some.seat.peer c.farewell.new.self.peer (c.farewell.ensures.comes tells) c.farewell.ensures.feed)) in
          let way : c.into_way.result ≡ c.farewell.new.self.peer.way = c.into_way.ensures ∙ ap (λ (p : PeerState g.row.H-Way.Denot). p.way) c.into_peer.ensures in
          due_then _ _ (c.loop-seat.invariant.due limit moves tells) (due_then _ _ one
          (due_handed _ _ c.pop.new.self.items c.farewell.new.self [] refl (c.hand_back.ensures.seats ∙ sym (append-nil c.pop.new.self.items))
          (λ fine. sym failed ∙ fine_before c.company.inside.failed c.hand_back.new.company.failed c.hand_back.ensures.met.stays fine)
          (λ kept. (
            sym lost ∙ (c.hand_back.ensures.met.counted kept).0,
            subst (λ (l : LinkNo). g.H.Hall.got c.hand_back.new.hall ≡ g.H.Hall.got c.loop-seat.hall ++ ((Some l, c.farewell.new.self.peer.way) ∷ [])) c.link-link.ensures
                (subst (λ (x : g.row.H-Way.Denot). g.H.Hall.got c.hand_back.new.hall ≡ g.H.Hall.got c.loop-seat.hall ++ ((Some c.link-link.result, x) ∷ [])) way (c.hand_back.ensures.back kept)),
          ))));
      none = ap gathered c.hand_back.ensures.seats ∙ less.0;
      guests = c.hand_back.ensures.guests ∙ same_guests ∙ c.loop-seat.invariant.guests;
      hands = λ tells kept.
          let was : c.loop-seat.company.lost ≡ false = sym lost ∙ (c.hand_back.ensures.met.counted kept).0 in
          let way : c.into_way.result ≡ c.farewell.new.self.peer.way = c.into_way.ensures ∙ ap (λ (p : PeerState g.row.H-Way.Denot). p.way) c.into_peer.ensures in
          subst (λ (xs : List (SeatState g.row.H-Way.Denot)). HandsOn g.H.Way.Link.history c.args.company.now.seats xs (g.H.Hall.got c.args.hall.now) (g.H.Hall.got c.hand_back.new.hall)) (sym c.hand_back.ensures.seats)
          (hands_last g.H.Way.Link.history c.args.company.now.seats c.loop-seat.company.seats c.pop.new.self.items c.in-Some.seat c.link-link.result c.into_way.result (g.H.Hall.got c.args.hall.now) (g.H.Hall.got c.loop-seat.hall) (g.H.Hall.got c.hand_back.new.hall)
          (c.loop-seat.invariant.hands tells was) are (c.link-link.ensures ∙ c.farewell.ensures.link)
          (subst (λ (x : g.row.H-Way.Denot). PassesOn (g.H.Way.Link.history c.in-Some.seat.peer.way) (g.H.Way.Link.history x)) (sym way) (c.farewell.ensures.comes tells)) (c.hand_back.ensures.back kept));
      met = met_then c.loop-seat.invariant.met (met_then (still_met (record {
        links = omega (arith, many, both, guests);
        fewer = λ k.
            let old = ap (seats_under k) are in
            let split = seated_split k c.pop.new.self.items [] c.in-Some.seat in
            let none = ap (seats_under k) (append-nil c.pop.new.self.items) in
            let hand = ap (λ (l : LinkNo). one_under k (Some l)) (c.link-link.ensures ∙ c.farewell.ensures.link) in
            omega (arith, old, split, none, hand);
        newest = newest;
      }) failed lost) c.hand_back.ensures.met);
    }

pub loop-peer-preserved : goal.loop-peer-preserved
loop-peer-preserved g c =
    let are : c.loop-peer.company.guests ≡ c.pop-in-loop-peer.new.self.items ++ (c.in-Some-pop.peer ∷ []) = search rules in
    let many = ap length are in
    let both = length-append c.pop-in-loop-peer.new.self.items (c.in-Some-pop.peer ∷ []) in
    let same : c.company-in-loop-peer.inside.seats.items ≡ c.loop-peer.company.seats = search rules in
    let seats = ap length same in
    let failed : c.company-in-loop-peer.inside.failed ≡ c.loop-peer.company.failed = search rules in
    let lost : c.company-in-loop-peer.inside.lost ≡ c.loop-peer.company.lost = search rules in
    let newest : c.company-in-loop-peer.inside.newest ≡ c.loop-peer.company.newest = search rules in
    record {
      seats = c.hand_back-in-Some-pop.ensures.seats ∙ same ∙ c.loop-peer.invariant.seats;
      met = met_then c.loop-peer.invariant.met (met_then (still_met (record { links = omega (arith, many, both, seats); fewer = λ k. let e = ap (seats_under k) same in omega (arith, e); newest = newest }) failed lost) c.hand_back-in-Some-pop.ensures.met);
      failed = c.hand_back-in-Some-pop.ensures.failed ∙ failed ∙ c.loop-peer.invariant.failed;
      listens = λ is. c.hand_back-in-Some-pop.ensures.listens (c.loop-peer.invariant.listens is);
      hands = λ tells none kept.
          let was = c.loop-peer.invariant.hands tells none (sym lost ∙ (c.hand_back-in-Some-pop.ensures.met.counted kept).0) in
          let some = ap length (sym are ∙ was.1) in
          let wrong : ⊥ = omega (arith, some, both) in
          absurd wrong;
      due = λ limit moves tells. due_then _ _ (c.loop-peer.invariant.due limit moves tells) (due_from _ _ {other = record { seats = c.company-in-loop-peer.inside.seats.items; guests = c.pop-in-loop-peer.new.self.items; failed = c.company-in-loop-peer.inside.failed; lost = c.company-in-loop-peer.inside.lost; newest = c.company-in-loop-peer.inside.newest }} same failed lost (due_met _ _ c.hand_back-in-Some-pop.ensures.seats c.hand_back-in-Some-pop.ensures.met));
    }

pub returns-clause-met : goal.returns-clause-met
returns-clause-met g c =
    let are : c.loop-peer.company.guests ≡ c.pop-in-loop-peer.new.self.items ++ [] = search rules in
    let many = ap length are in
    let both = length-append c.pop-in-loop-peer.new.self.items [] in
    let same : c.company-in-loop-peer.inside.seats.items ≡ c.loop-peer.company.seats = search rules in
    let seats = ap length same in
    let failed : c.company-in-loop-peer.inside.failed ≡ c.loop-peer.company.failed = search rules in
    let lost : c.company-in-loop-peer.inside.lost ≡ c.loop-peer.company.lost = search rules in
    let newest : c.company-in-loop-peer.inside.newest ≡ c.loop-peer.company.newest = search rules in
    met_then c.loop-peer.invariant.met (still_met (record { links = omega (arith, many, both, seats); fewer = λ k. let e = ap (seats_under k) same in omega (arith, e); newest = newest }) failed lost)

pub returns-clause-due : goal.returns-clause-due
returns-clause-due g c limit moves tells =
    let are : c.loop-peer.company.guests ≡ c.pop-in-loop-peer.new.self.items ++ [] = search rules in
    let many = ap length are in
    let both = length-append c.pop-in-loop-peer.new.self.items [] in
    let same : c.company-in-loop-peer.inside.seats.items ≡ c.loop-peer.company.seats = search rules in
    let seats = ap length same in
    let failed : c.company-in-loop-peer.inside.failed ≡ c.loop-peer.company.failed = search rules in
    let lost : c.company-in-loop-peer.inside.lost ≡ c.loop-peer.company.lost = search rules in
    let newest : c.company-in-loop-peer.inside.newest ≡ c.loop-peer.company.newest = search rules in
    due_then _ _ (c.loop-peer.invariant.due limit moves tells) (due_from _ _ same failed lost (due_none _ _))

pub loop-seat-init : goal.loop-seat-init
loop-seat-init g c = record {
  none = c.requires.none;
  failed = refl;
  listens = λ is. is;
  guests = refl;
  due = λ limit moves tells. due_none _ _;
  hands = λ tells kept. hands_none g.H.Way.Link.history c.args.company.now.seats (g.H.Hall.got c.args.hall.now);
  met = met_none;
}

pub returns-clause-hands : goal.returns-clause-hands
returns-clause-hands g c tells none kept =
    let lost : c.company-in-loop-peer.inside.lost ≡ c.loop-peer.company.lost = search rules in
    (c.loop-peer.invariant.hands tells none (sym lost ∙ kept)).0

pub loop-peer-init : goal.loop-peer-init
loop-peer-init g c =
    let are : c.loop-seat.company.seats ≡ c.pop.new.self.items ++ [] = search rules in
    let none : c.pop.new.self.items ≡ [] = search rules in
    let behind : c.loop-seat.company.seats ≡ c.pop.new.self.items = are ∙ append-nil c.pop.new.self.items in
    let many = ap length behind in
    let same : c.company.inside.guests.items ≡ c.loop-seat.company.guests = search rules in
    let guests = ap length same in
    let failed : c.company.inside.failed ≡ c.loop-seat.company.failed = search rules in
    let lost : c.company.inside.lost ≡ c.loop-seat.company.lost = search rules in
    let newest : c.company.inside.newest ≡ c.loop-seat.company.newest = search rules in
    record {
      seats = none;
      hands = λ tells alone kept. (
        hands_whole g.H.Way.Link.history c.args.company.now.seats c.loop-seat.company.seats (g.H.Hall.got c.args.hall.now) (g.H.Hall.got c.loop-seat.hall) (behind ∙ none) (c.loop-seat.invariant.hands tells (sym lost ∙ kept)),
        same ∙ c.loop-seat.invariant.guests ∙ alone,
      );
      failed = failed ∙ c.loop-seat.invariant.failed;
      listens = c.loop-seat.invariant.listens;
      due = λ limit moves tells. due_then _ _ (c.loop-seat.invariant.due limit moves tells) (due_from _ _ (sym behind) failed lost (due_none _ _));
      met = met_then c.loop-seat.invariant.met (still_met (record { links = omega (arith, many, guests); fewer = λ k. let e = ap (seats_under k) behind in omega (arith, e); newest = newest }) failed lost);
    }
