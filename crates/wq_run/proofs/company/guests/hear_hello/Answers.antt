use Rattle.std.proofs.Common.{Err, None, Ok, Option, Result, [], inl, refl, rules, subst, sym, ◌≡◌}
use Rattle.std.specs.Prelude.{IfErr, IfOk, IfSome, OnOk}
use Rattle.flow_types.specs.declared.messages.Message.TheVariants as messages
use Rattle.links.specs.Passings.{received_in}
use Rattle.message_forms.specs.Streams.{Carries}
use Rattle.wq_run.specs.declared.seat.pulse.Offer.{Offer}
use Rattle.wq_run.specs.Dues.{HasHeard, IsIllLink}
use Rattle.wq_run.specs.Earned.{LeavesGuest}
use Rattle.wq_run.specs.Seats.{IsGuest}
use Rattle.peers.specs.declared.leave.Leave.{Leave}
use Rattle.peers.specs.declared.told.Told.{Told}
use Rattle.peers.specs.Hears.{Hears, ServesOn}
use Rattle.wq_run.specs.Trusted.{IsAwaited, IsFair, IsHeard, IsMeant}
use Rattle.wq_run.specs.Calm.{IsSureOf, IsSureGuest, StaysOr}
use Rattle.wq_run.proofs.Calm.{calm_leave, guest_heard, stays_err, stays_ok}
use Rattle.wq_run.proofs.Heards.{greeted_one}
use Rattle.wq_run.proofs.Leaving.{came_hello, guest_answered, guest_closed, guest_joins, guest_misspeaks, guest_silent, still_part, told_other}
use Rattle.wq_run.proofs.Trusts.{guest_of, listened_guest, told_guest, waits_guest}
use Rattle.wq_run.proofs.company.guests.hear_hello.Goals as goal
use Rattle.wq_run.proofs.company.guests.hear_hello.Goals.{in-Nothing+else-idles-ge-MOST_IDLES, in-Joined, in_default}

pub returns-in-Err-clause-leaves : goal.returns-in-Err-clause-leaves
returns-in-Err-clause-leaves g c limit tells = guest_closed g.F.Commands.gives g.F.Commands.may_fail g.L.Link.history g.L.Link.count g.L.Link.idle_count g.L.Link.is_closed limit (g.L.Link.count c.args.peer.now.way) c.listen.new.peer.way (let r : Result (Unit {0}) Leave = Err c.in-Err.leave in r) c.in-Err.ensures.leaves

pub returns-then-idles-ge-MOST_IDLES-clause-leaves : goal.returns-then-idles-ge-MOST_IDLES-clause-leaves
returns-then-idles-ge-MOST_IDLES-clause-leaves g c limit tells =
    let guest = listened_guest g.F.Commands.gives g.F.Commands.may_fail g.L.Link.history (IsFair g.T.Trust.holds g.L.Link.tells g.L.Link.honest) (IsHeard g.T.Trust.holds g.L.Link.tells) c.args.peer.now c.listen.new.peer c.listen.ensures.session c.listen.ensures.going c.in-Ok.ensures.stranger c.requires.guest in
    let hears = subst (λ (x : Told). let r : Result Told Leave = Ok x in c.listen.new.peer.feed.stop ≡ None → Hears c.listen.new.peer.feed c.listen.new.peer.session r c.hear.new.self.feed c.hear.new.self.session) c.in-Nothing.is c.in-Ok-hear.ensures.hears in
    let waits = waits_guest g.F.Commands.gives g.F.Commands.may_fail g.L.Link.history (IsFair g.T.Trust.holds g.L.Link.tells g.L.Link.honest) (IsHeard g.T.Trust.holds g.L.Link.tells) c.listen.new.peer c.hear.new.self hears
    (λ said heard honest serves. subst (λ (x : Told). let r : Result Told Leave = Ok x in ServesOn g.F.Commands.gives g.F.Commands.may_fail (g.L.Link.history c.hear.new.self.way) said heard r c.hear.new.self.feed c.hear.new.self.session) c.in-Nothing.is (c.in-Ok-hear.ensures.serves said heard honest.0 serves)) (λ honest. subst (IsFair g.T.Trust.holds g.L.Link.tells g.L.Link.honest) (sym c.hear.ensures.way) honest) guest in
    guest_silent g.F.Commands.gives g.F.Commands.may_fail g.L.Link.history g.L.Link.count g.L.Link.idle_count g.L.Link.is_closed limit (IsFair g.T.Trust.holds g.L.Link.tells g.L.Link.honest) c.hear.new.self (waits.so (inl tells)) (still_part g.F.Commands.gives g.F.Commands.may_fail g.L.Link.history g.L.Link.count g.L.Link.idle_count g.L.Link.is_closed limit c.listen.new.peer c.hear.new.self (hears guest.going)) (search rules)

pub returns-in-Err-hear-clause-leaves : goal.returns-in-Err-hear-clause-leaves
returns-in-Err-hear-clause-leaves g c limit tells =
    let was = (listened_guest g.F.Commands.gives g.F.Commands.may_fail g.L.Link.history (IsFair g.T.Trust.holds g.L.Link.tells g.L.Link.honest) (IsHeard g.T.Trust.holds g.L.Link.tells) c.args.peer.now c.listen.new.peer c.listen.ensures.session c.listen.ensures.going c.in-Ok.ensures.stranger c.requires.guest).so (inl tells) in
    guest_misspeaks g.F.Commands.gives g.F.Commands.may_fail g.L.Link.history g.L.Link.count g.L.Link.idle_count g.L.Link.is_closed limit (g.L.Link.history c.hear.new.self.way) c.hear.new.self.way c.hear.new.self.feed c.hear.new.self.session c.in-Err-hear.leave refl (c.in-Err-hear.ensures.serves [] [] tells was.serves)

pub returns-after-told-clause-guest : goal.returns-after-told-clause-guest
returns-after-told-clause-guest g c =
    let guest = listened_guest g.F.Commands.gives g.F.Commands.may_fail g.L.Link.history (IsFair g.T.Trust.holds g.L.Link.tells g.L.Link.honest) (IsHeard g.T.Trust.holds g.L.Link.tells) c.args.peer.now c.listen.new.peer c.listen.ensures.session c.listen.ensures.going c.in-Ok.ensures.stranger c.requires.guest in
    elim c.match-told.branch [
      | in-Nothing+else-idles-ge-MOST_IDLES w ↦
          let hears = subst (λ (x : Told). let r : Result Told Leave = Ok x in c.listen.new.peer.feed.stop ≡ None → Hears c.listen.new.peer.feed c.listen.new.peer.session r c.hear.new.self.feed c.hear.new.self.session) w.in-Nothing.is c.in-Ok-hear.ensures.hears in
          let waits = waits_guest g.F.Commands.gives g.F.Commands.may_fail g.L.Link.history (IsFair g.T.Trust.holds g.L.Link.tells g.L.Link.honest) (IsHeard g.T.Trust.holds g.L.Link.tells) c.listen.new.peer c.hear.new.self hears
          (λ said heard honest serves. subst (λ (x : Told). let r : Result Told Leave = Ok x in ServesOn g.F.Commands.gives g.F.Commands.may_fail (g.L.Link.history c.hear.new.self.way) said heard r c.hear.new.self.feed c.hear.new.self.session) w.in-Nothing.is (c.in-Ok-hear.ensures.serves said heard honest.0 serves)) (λ honest. subst (IsFair g.T.Trust.holds g.L.Link.tells g.L.Link.honest) (sym c.hear.ensures.way) honest) guest in
          subst (λ (r : Result (Option Offer) Leave). OnOk r (IsGuest (IsMeant (IsHeard g.T.Trust.holds g.L.Link.tells) g.F.Commands.gives g.F.Commands.may_fail g.L.Link.history (IsFair g.T.Trust.holds g.L.Link.tells g.L.Link.honest)) c.hear.new.self)) (sym w.result-is) (guest_of g.F.Commands.gives g.F.Commands.may_fail g.L.Link.history (IsFair g.T.Trust.holds g.L.Link.tells g.L.Link.honest) (IsHeard g.T.Trust.holds g.L.Link.tells) c.hear.new.self waits)
      | in-Joined w ↦
          subst (λ (r : Result (Option Offer) Leave). OnOk r (IsGuest (IsMeant (IsHeard g.T.Trust.holds g.L.Link.tells) g.F.Commands.gives g.F.Commands.may_fail g.L.Link.history (IsFair g.T.Trust.holds g.L.Link.tells g.L.Link.honest)) c.hear.new.self)) (sym w.result-is) (told_guest g.F.Commands.gives g.F.Commands.may_fail g.L.Link.history (IsFair g.T.Trust.holds g.L.Link.tells g.L.Link.honest) (IsHeard g.T.Trust.holds g.L.Link.tells) c.listen.new.peer c.hear.new.self c.in-Ok-hear.told c.in-Ok-hear.ensures.hears
          (λ said heard honest serves. c.in-Ok-hear.ensures.serves said heard honest.0 serves) (λ honest. subst (IsFair g.T.Trust.holds g.L.Link.tells g.L.Link.honest) (sym c.hear.ensures.way) honest) (guest_of g.F.Commands.gives g.F.Commands.may_fail g.L.Link.history (IsFair g.T.Trust.holds g.L.Link.tells g.L.Link.honest) (IsHeard g.T.Trust.holds g.L.Link.tells) c.listen.new.peer guest))
      | in_default w ↦
          subst (λ (r : Result (Option Offer) Leave). OnOk r (IsGuest (IsMeant (IsHeard g.T.Trust.holds g.L.Link.tells) g.F.Commands.gives g.F.Commands.may_fail g.L.Link.history (IsFair g.T.Trust.holds g.L.Link.tells g.L.Link.honest)) c.hear.new.self)) (sym w.result-is) tt
    ]

pub returns-after-told-clause-waits : goal.returns-after-told-clause-waits
returns-after-told-clause-waits g c =
    let guest = listened_guest g.F.Commands.gives g.F.Commands.may_fail g.L.Link.history (IsFair g.T.Trust.holds g.L.Link.tells g.L.Link.honest) (IsHeard g.T.Trust.holds g.L.Link.tells) c.args.peer.now c.listen.new.peer c.listen.ensures.session c.listen.ensures.going c.in-Ok.ensures.stranger c.requires.guest in
    elim c.match-told.branch [
      | in-Nothing+else-idles-ge-MOST_IDLES w ↦
          let hears = subst (λ (x : Told). let r : Result Told Leave = Ok x in c.listen.new.peer.feed.stop ≡ None → Hears c.listen.new.peer.feed c.listen.new.peer.session r c.hear.new.self.feed c.hear.new.self.session) w.in-Nothing.is c.in-Ok-hear.ensures.hears in
          let waits = waits_guest g.F.Commands.gives g.F.Commands.may_fail g.L.Link.history (IsFair g.T.Trust.holds g.L.Link.tells g.L.Link.honest) (IsHeard g.T.Trust.holds g.L.Link.tells) c.listen.new.peer c.hear.new.self hears
          (λ said heard honest serves. subst (λ (x : Told). let r : Result Told Leave = Ok x in ServesOn g.F.Commands.gives g.F.Commands.may_fail (g.L.Link.history c.hear.new.self.way) said heard r c.hear.new.self.feed c.hear.new.self.session) w.in-Nothing.is (c.in-Ok-hear.ensures.serves said heard honest.0 serves)) (λ honest. subst (IsFair g.T.Trust.holds g.L.Link.tells g.L.Link.honest) (sym c.hear.ensures.way) honest) guest in
          subst (λ (r : Result (Option Offer) Leave). IfOk r (λ offer. offer ≡ None → IsGuest (IsAwaited (IsHeard g.T.Trust.holds g.L.Link.tells) g.F.Commands.gives g.F.Commands.may_fail g.L.Link.history (IsFair g.T.Trust.holds g.L.Link.tells g.L.Link.honest)) c.hear.new.self)) (sym w.result-is) (λ none. waits)
      | in-Joined w ↦
          subst (λ (r : Result (Option Offer) Leave). IfOk r (λ offer. offer ≡ None → IsGuest (IsAwaited (IsHeard g.T.Trust.holds g.L.Link.tells) g.F.Commands.gives g.F.Commands.may_fail g.L.Link.history (IsFair g.T.Trust.holds g.L.Link.tells g.L.Link.honest)) c.hear.new.self)) (sym w.result-is) (λ none. search rules)
      | in_default w ↦
          subst (λ (r : Result (Option Offer) Leave). IfOk r (λ offer. offer ≡ None → IsGuest (IsAwaited (IsHeard g.T.Trust.holds g.L.Link.tells) g.F.Commands.gives g.F.Commands.may_fail g.L.Link.history (IsFair g.T.Trust.holds g.L.Link.tells g.L.Link.honest)) c.hear.new.self)) (sym w.result-is) tt
    ]

pub returns-after-told-clause-offers : goal.returns-after-told-clause-offers
returns-after-told-clause-offers g c =
    let guest = listened_guest g.F.Commands.gives g.F.Commands.may_fail g.L.Link.history (IsFair g.T.Trust.holds g.L.Link.tells g.L.Link.honest) (IsHeard g.T.Trust.holds g.L.Link.tells) c.args.peer.now c.listen.new.peer c.listen.ensures.session c.listen.ensures.going c.in-Ok.ensures.stranger c.requires.guest in
    elim c.match-told.branch [
      | in-Nothing+else-idles-ge-MOST_IDLES w ↦
          subst (λ (r : Result (Option Offer) Leave). IfOk r (λ offer. IfSome offer (λ o. g.L.Link.tells → Carries (received_in (g.L.Link.history c.hear.new.self.way)) (messages.Hello o.total o.largest o.cache)))) (sym w.result-is) tt
      | in-Joined w ↦
          subst (λ (r : Result (Option Offer) Leave). IfOk r (λ offer. IfSome offer (λ o. g.L.Link.tells → Carries (received_in (g.L.Link.history c.hear.new.self.way)) (messages.Hello o.total o.largest o.cache)))) (sym w.result-is) (λ tells. came_hello g.F.Commands.gives g.F.Commands.may_fail g.L.Link.history g.L.Link.count g.L.Link.idle_count g.L.Link.is_closed 0 (g.L.Link.history c.hear.new.self.way) c.hear.new.self.feed c.hear.new.self.session w.in-Joined.total w.in-Joined.largest w.in-Joined.cache
          (subst (λ (x : Told). let r : Result Told Leave = Ok x in ServesOn g.F.Commands.gives g.F.Commands.may_fail (g.L.Link.history c.hear.new.self.way) [] [] r c.hear.new.self.feed c.hear.new.self.session) w.in-Joined.is (c.in-Ok-hear.ensures.serves [] [] tells (guest.so (inl tells)).serves)))
      | in_default w ↦
          subst (λ (r : Result (Option Offer) Leave). IfOk r (λ offer. IfSome offer (λ o. g.L.Link.tells → Carries (received_in (g.L.Link.history c.hear.new.self.way)) (messages.Hello o.total o.largest o.cache)))) (sym w.result-is) tt
    ]

pub returns-after-told-clause-offered : goal.returns-after-told-clause-offered
returns-after-told-clause-offered g c =
    let guest = listened_guest g.F.Commands.gives g.F.Commands.may_fail g.L.Link.history (IsFair g.T.Trust.holds g.L.Link.tells g.L.Link.honest) (IsHeard g.T.Trust.holds g.L.Link.tells) c.args.peer.now c.listen.new.peer c.listen.ensures.session c.listen.ensures.going c.in-Ok.ensures.stranger c.requires.guest in
    elim c.match-told.branch [
      | in-Nothing+else-idles-ge-MOST_IDLES w ↦
          subst (λ (r : Result (Option Offer) Leave). IfOk r (λ offer. IfSome offer (λ _. g.L.Link.tells → HasHeard g.L.Link.history c.hear.new.self 1))) (sym w.result-is) tt
      | in-Joined w ↦
          subst (λ (r : Result (Option Offer) Leave). IfOk r (λ offer. IfSome offer (λ _. g.L.Link.tells → HasHeard g.L.Link.history c.hear.new.self 1))) (sym w.result-is) (λ tells. greeted_one g.F.Commands.gives g.F.Commands.may_fail g.L.Link.history c.hear.new.self [] [] w.in-Joined.total w.in-Joined.largest w.in-Joined.cache
          (subst (λ (x : Told). let r : Result Told Leave = Ok x in ServesOn g.F.Commands.gives g.F.Commands.may_fail (g.L.Link.history c.hear.new.self.way) [] [] r c.hear.new.self.feed c.hear.new.self.session) w.in-Joined.is (c.in-Ok-hear.ensures.serves [] [] tells (guest.so (inl tells)).serves)))
      | in_default w ↦
          subst (λ (r : Result (Option Offer) Leave). IfOk r (λ offer. IfSome offer (λ _. g.L.Link.tells → HasHeard g.L.Link.history c.hear.new.self 1))) (sym w.result-is) tt
    ]

pub returns-after-told-clause-leaves : goal.returns-after-told-clause-leaves
returns-after-told-clause-leaves g c limit tells =
    let guest = listened_guest g.F.Commands.gives g.F.Commands.may_fail g.L.Link.history (IsFair g.T.Trust.holds g.L.Link.tells g.L.Link.honest) (IsHeard g.T.Trust.holds g.L.Link.tells) c.args.peer.now c.listen.new.peer c.listen.ensures.session c.listen.ensures.going c.in-Ok.ensures.stranger c.requires.guest in
    elim c.match-told.branch [
      | in-Nothing+else-idles-ge-MOST_IDLES w ↦
          subst (λ (r : Result (Option Offer) Leave). IfErr r (LeavesGuest (IsIllLink g.F.Commands.gives g.F.Commands.may_fail g.L.Link.history g.L.Link.count g.L.Link.idle_count g.L.Link.is_closed limit) c.hear.new.self.way)) (sym w.result-is) tt
      | in-Joined w ↦
          subst (λ (r : Result (Option Offer) Leave). IfErr r (LeavesGuest (IsIllLink g.F.Commands.gives g.F.Commands.may_fail g.L.Link.history g.L.Link.count g.L.Link.idle_count g.L.Link.is_closed limit) c.hear.new.self.way)) (sym w.result-is) tt
      | in_default w ↦
          subst (λ (r : Result (Option Offer) Leave). IfErr r (LeavesGuest (IsIllLink g.F.Commands.gives g.F.Commands.may_fail g.L.Link.history g.L.Link.count g.L.Link.idle_count g.L.Link.is_closed limit) c.hear.new.self.way)) (sym w.result-is) (
          absurd (told_other c.in-Ok-hear.told (λ is. w.in_default.not-Nothing is) (λ total largest cache is. w.in_default.not-Joined total largest cache is)
          (λ some. guest_joins g.F.Commands.gives g.F.Commands.may_fail g.L.Link.history g.L.Link.count g.L.Link.idle_count g.L.Link.is_closed limit (IsFair g.T.Trust.holds g.L.Link.tells g.L.Link.honest) c.listen.new.peer c.hear.new.self c.in-Ok-hear.told (guest.so (inl tells)) (c.in-Ok-hear.ensures.hears guest.going) some)))
    ]

pub returns-in-Err-clause-calm : goal.returns-in-Err-clause-calm
returns-in-Err-clause-calm g c asked tells was = stays_err c.in-Err.leave (c.in-Err.ensures.calm asked tells was)

pub returns-then-idles-ge-MOST_IDLES-clause-calm : goal.returns-then-idles-ge-MOST_IDLES-clause-calm
returns-then-idles-ge-MOST_IDLES-clause-calm g c asked tells was =
    let heard = guest_heard g.F.Commands.gives g.F.Commands.may_fail g.L.Link.history (IsSureOf g.L.Link.sure g.L.Link.offers asked) c.listen.new.peer c.hear.new.self c.in-Ok-hear.told c.tasks_come_behind_their_inputs.ensures.heard c.hear.ensures.way c.in-Ok-hear.ensures.hears (λ said heard serves. c.in-Ok-hear.ensures.serves said heard tells serves) (c.in-Ok.ensures.calm asked tells was).stays in
    let guest = listened_guest g.F.Commands.gives g.F.Commands.may_fail g.L.Link.history (IsFair g.T.Trust.holds g.L.Link.tells g.L.Link.honest) (IsHeard g.T.Trust.holds g.L.Link.tells) c.args.peer.now c.listen.new.peer c.listen.ensures.session c.listen.ensures.going c.in-Ok.ensures.stranger c.requires.guest in
    let hears = subst (λ (x : Told). let r : Result Told Leave = Ok x in c.listen.new.peer.feed.stop ≡ None → Hears c.listen.new.peer.feed c.listen.new.peer.session r c.hear.new.self.feed c.hear.new.self.session) c.in-Nothing.is c.in-Ok-hear.ensures.hears in
    let waits = waits_guest g.F.Commands.gives g.F.Commands.may_fail g.L.Link.history (IsFair g.T.Trust.holds g.L.Link.tells g.L.Link.honest) (IsHeard g.T.Trust.holds g.L.Link.tells) c.listen.new.peer c.hear.new.self hears
    (λ said heard honest serves. subst (λ (x : Told). let r : Result Told Leave = Ok x in ServesOn g.F.Commands.gives g.F.Commands.may_fail (g.L.Link.history c.hear.new.self.way) said heard r c.hear.new.self.feed c.hear.new.self.session) c.in-Nothing.is (c.in-Ok-hear.ensures.serves said heard honest.0 serves)) (λ honest. subst (IsFair g.T.Trust.holds g.L.Link.tells g.L.Link.honest) (sym c.hear.ensures.way) honest) guest in
    absurd (guest_answered g.F.Commands.gives g.F.Commands.may_fail g.L.Link.history g.L.Link.count g.L.Link.idle_count g.L.Link.is_closed 0 (IsFair g.T.Trust.holds g.L.Link.tells g.L.Link.honest) c.hear.new.self (waits.so (inl tells)) (still_part g.F.Commands.gives g.F.Commands.may_fail g.L.Link.history g.L.Link.count g.L.Link.idle_count g.L.Link.is_closed 0 c.listen.new.peer c.hear.new.self (hears guest.going)) (search rules) heard.owes)

pub returns-in-Err-hear-clause-calm : goal.returns-in-Err-hear-clause-calm
returns-in-Err-hear-clause-calm g c asked tells was =
    let is = (c.in-Ok.ensures.calm asked tells was).stays in
    calm_leave c.in-Err-hear.leave (c.in-Err-hear.ensures.sure [] is.heard tells is.tended.serves (c.sure_links_are_orderly.ensures c.listen.new.peer.way is.tended.surely.surely).1)

pub returns-after-told-clause-calm : goal.returns-after-told-clause-calm
returns-after-told-clause-calm g c asked tells was =
    let guest = listened_guest g.F.Commands.gives g.F.Commands.may_fail g.L.Link.history (IsFair g.T.Trust.holds g.L.Link.tells g.L.Link.honest) (IsHeard g.T.Trust.holds g.L.Link.tells) c.args.peer.now c.listen.new.peer c.listen.ensures.session c.listen.ensures.going c.in-Ok.ensures.stranger c.requires.guest in
    let heard = guest_heard g.F.Commands.gives g.F.Commands.may_fail g.L.Link.history (IsSureOf g.L.Link.sure g.L.Link.offers asked) c.listen.new.peer c.hear.new.self c.in-Ok-hear.told c.tasks_come_behind_their_inputs.ensures.heard c.hear.ensures.way c.in-Ok-hear.ensures.hears (λ said heard serves. c.in-Ok-hear.ensures.serves said heard tells serves) (c.in-Ok.ensures.calm asked tells was).stays in
    elim c.match-told.branch [
      | in-Nothing+else-idles-ge-MOST_IDLES w ↦
          subst (λ (r : Result (Option Offer) Leave). StaysOr (IsSureGuest g.F.Commands.gives g.F.Commands.may_fail g.L.Link.history g.L.Link.idle_count (IsSureOf g.L.Link.sure g.L.Link.offers asked) c.hear.new.self) ⊥ r) (sym w.result-is) (stays_ok heard)
      | in-Joined w ↦
          subst (λ (r : Result (Option Offer) Leave). StaysOr (IsSureGuest g.F.Commands.gives g.F.Commands.may_fail g.L.Link.history g.L.Link.idle_count (IsSureOf g.L.Link.sure g.L.Link.offers asked) c.hear.new.self) ⊥ r) (sym w.result-is) (stays_ok heard)
      | in_default w ↦
          subst (λ (r : Result (Option Offer) Leave). StaysOr (IsSureGuest g.F.Commands.gives g.F.Commands.may_fail g.L.Link.history g.L.Link.idle_count (IsSureOf g.L.Link.sure g.L.Link.offers asked) c.hear.new.self) ⊥ r) (sym w.result-is) (
          absurd (told_other c.in-Ok-hear.told (λ is. w.in_default.not-Nothing is) (λ total largest cache is. w.in_default.not-Joined total largest cache is)
          (λ some. guest_joins g.F.Commands.gives g.F.Commands.may_fail g.L.Link.history g.L.Link.count g.L.Link.idle_count g.L.Link.is_closed 0 (IsFair g.T.Trust.holds g.L.Link.tells g.L.Link.honest) c.listen.new.peer c.hear.new.self c.in-Ok-hear.told (guest.so (inl tells)) (c.in-Ok-hear.ensures.hears guest.going) some)))
    ]
