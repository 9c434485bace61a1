use Rattle.std.proofs.Common.{None, Ok, Result, ap, inr, refl, subst, sym, true≢false, ◌∙◌, ◌≡◌}
use Rattle.std.specs.List.{AllByRecursion}
use Rattle.flow_types.specs.declared.job.Outcome.TheVariants as outcomes
use Rattle.flow_types.specs.Serial.{serial}
use Rattle.run_history.specs.Links.{records_of}
use Rattle.peers.specs.declared.leave.Leave.{Leave}
use Rattle.peers.specs.declared.told.Told.{Told}
use Rattle.peers.specs.declared.told.Told.TheVariants as tell
use Rattle.peers.specs.Hears.{Hears}
use Rattle.local_run.specs.Underway.{HeldState, IsHeld, IsSurePool}
use Rattle.wq_run.specs.Seats.{MayEndAs}
use Rattle.wq_run.specs.Trusted.{IsFair, TellsDue}
use Rattle.wq_run.proofs.Asks.{keeps_want}
use Rattle.wq_run.proofs.Closes.{inside, placed}
use Rattle.wq_run.proofs.Places.{ends_held, may_end_as}
use Rattle.wq_run.proofs.Shares.{keeps_then, leaves_then}
use Rattle.wq_run.proofs.Steps.{after_then, at_then, heard_keeps, heard_of}
use Rattle.wq_run.proofs.Trusts.{due_by, ends_unrun}
use Rattle.local_run.specs.declared.halt.Halt.TheVariants as halts
use Rattle.wq_frames.specs.Frames.{front}
use Rattle.wq_frames.specs.Streams.{Stream}
use Rattle.wq_run.specs.Dues.{HearsOffer, Shows}
use Rattle.wq_run.proofs.Fares.{fares_behind, fares_err, fares_ok, fares_still, fares_stopped, fares_stopped_same, halted_never, misspeaks_leaves, never_false, same_way, spares_same}
use Rattle.peers.specs.States.{PeerState}
use Rattle.wq_run.proofs.Calm.{IsCalmTold, calm_leave, fares_halted, stays_as, stays_ok, well_same}
use Rattle.wq_run.proofs.seat.Seat.hear.Goals as goal

pub close-requires-clause-at : goal.close-requires-clause-at
close-requires-clause-at g c κs within = at_then g.T.Terms.trust g.F.Commands.gives g.F.Commands.may_fail g.T.Terms.sources g.S.Site.tells g.T.Terms.kept (IsSurePool g.B.Terms.fits) g.S.Site.files g.S.Site.may_leave g.S.Site.moment g.S.Site.images_since c.args.desk.now c.args.desk.now c.args.held.now c.args.held.now c.args.self.now c.next.new.self c.requires.at (heard_keeps g.T.Terms.trust g.F.Commands.gives g.F.Commands.may_fail g.T.Terms.sources g.S.Site.tells g.T.Terms.kept (IsSurePool g.B.Terms.fits) g.S.Site.files g.S.Site.may_leave g.S.Site.moment g.S.Site.images_since c.args.desk.now c.args.held.now c.args.self.now c.next.new.self (tell.Finish c.in-Ok-Finish.attempt c.in-Ok-Finish.outs) c.next.ensures.link c.next.ensures.attempts (subst (λ (x : Told). let r : Result Told Leave = Ok x in c.args.self.now.peer.feed.stop ≡ None → Hears c.args.self.now.peer.feed c.args.self.now.peer.session r c.next.new.self.peer.feed c.next.new.self.peer.session) c.in-Ok-Finish.field-0-is c.in-Ok-Finish.ensures.hears))

pub close-requires-clause-there : goal.close-requires-clause-there
close-requires-clause-there g c κs within =
    subst (IsHeld c.in-Ok-Finish.attempt) (sym c.next.ensures.attempts) (ends_held c.args.desk.now.plan c.args.self.now.attempts c.in-Ok-Finish.attempt (outcomes.Success c.in-Ok-Finish.outs) (heard_of g.T.Terms.trust g.F.Commands.gives g.F.Commands.may_fail g.T.Terms.sources g.S.Site.tells g.T.Terms.kept (IsSurePool g.B.Terms.fits) g.S.Site.files g.S.Site.may_leave g.S.Site.moment g.S.Site.images_since c.args.desk.now c.args.self.now c.next.new.self (tell.Finish c.in-Ok-Finish.attempt c.in-Ok-Finish.outs) c.requires.at.at.seat.going c.requires.at.at.seat.opens (subst (λ (x : Told). let r : Result Told Leave = Ok x in c.args.self.now.peer.feed.stop ≡ None → Hears c.args.self.now.peer.feed c.args.self.now.peer.session r c.next.new.self.peer.feed c.next.new.self.peer.session) c.in-Ok-Finish.field-0-is c.in-Ok-Finish.ensures.hears)).so)

pub close-requires-clause-fits : goal.close-requires-clause-fits
close-requires-clause-fits g c κs within =
    let is = c.requires.at in
    subst (AllByRecursion (MayEndAs c.args.desk.now.plan c.in-Ok-Finish.attempt (outcomes.Success c.in-Ok-Finish.outs))) (sym c.next.ensures.attempts) (may_end_as c.args.desk.now.plan c.requires.valid c.args.self.now.attempts c.in-Ok-Finish.attempt (outcomes.Success c.in-Ok-Finish.outs)
    (inside g.T.Terms.trust g.F.Commands.gives g.F.Commands.may_fail g.T.Terms.sources g.S.Site.tells g.T.Terms.kept (IsSurePool g.B.Terms.fits) g.S.Site.files g.S.Site.may_leave g.S.Site.moment g.S.Site.images_since is.front is.back is.first c.args.desk.now c.args.held.now is.waiting is.heard c.args.self.now (placed g.T.Terms.trust g.F.Commands.gives g.F.Commands.may_fail g.T.Terms.sources g.S.Site.tells g.T.Terms.kept (IsSurePool g.B.Terms.fits) g.S.Site.files g.S.Site.may_leave g.S.Site.moment g.S.Site.images_since is.front is.back is.first c.args.desk.now c.args.held.now is.waiting is.heard c.args.self.now is.at)) (heard_of g.T.Terms.trust g.F.Commands.gives g.F.Commands.may_fail g.T.Terms.sources g.S.Site.tells g.T.Terms.kept (IsSurePool g.B.Terms.fits) g.S.Site.files g.S.Site.may_leave g.S.Site.moment g.S.Site.images_since c.args.desk.now c.args.self.now c.next.new.self (tell.Finish c.in-Ok-Finish.attempt c.in-Ok-Finish.outs) c.requires.at.at.seat.going c.requires.at.at.seat.opens (subst (λ (x : Told). let r : Result Told Leave = Ok x in c.args.self.now.peer.feed.stop ≡ None → Hears c.args.self.now.peer.feed c.args.self.now.peer.session r c.next.new.self.peer.feed c.next.new.self.peer.session) c.in-Ok-Finish.field-0-is c.in-Ok-Finish.ensures.hears)).so)

pub close-requires-clause-gone : goal.close-requires-clause-gone
close-requires-clause-gone g c κs within = (heard_of g.T.Terms.trust g.F.Commands.gives g.F.Commands.may_fail g.T.Terms.sources g.S.Site.tells g.T.Terms.kept (IsSurePool g.B.Terms.fits) g.S.Site.files g.S.Site.may_leave g.S.Site.moment g.S.Site.images_since c.args.desk.now c.args.self.now c.next.new.self (tell.Finish c.in-Ok-Finish.attempt c.in-Ok-Finish.outs) c.requires.at.at.seat.going c.requires.at.at.seat.opens (subst (λ (x : Told). let r : Result Told Leave = Ok x in c.args.self.now.peer.feed.stop ≡ None → Hears c.args.self.now.peer.feed c.args.self.now.peer.session r c.next.new.self.peer.feed c.next.new.self.peer.session) c.in-Ok-Finish.field-0-is c.in-Ok-Finish.ensures.hears)).gone

pub returns-in-Ok-Finish : goal.returns-in-Ok-Finish
returns-in-Ok-Finish g c = record {
  keeps = keeps_then g.T.Terms.trust g.F.Commands.gives g.F.Commands.may_fail g.T.Terms.sources g.S.Site.tells g.T.Terms.kept (IsSurePool g.B.Terms.fits) g.S.Site.files g.S.Site.may_leave g.S.Site.moment g.S.Site.images_since c.args.desk.now c.args.desk.now c.close.new.desk c.args.held.now c.args.held.now c.close.new.held c.args.self.now c.next.new.self c.close.new.self (heard_keeps g.T.Terms.trust g.F.Commands.gives g.F.Commands.may_fail g.T.Terms.sources g.S.Site.tells g.T.Terms.kept (IsSurePool g.B.Terms.fits) g.S.Site.files g.S.Site.may_leave g.S.Site.moment g.S.Site.images_since c.args.desk.now c.args.held.now c.args.self.now c.next.new.self (tell.Finish c.in-Ok-Finish.attempt c.in-Ok-Finish.outs) c.next.ensures.link c.next.ensures.attempts (subst (λ (x : Told). let r : Result Told Leave = Ok x in c.args.self.now.peer.feed.stop ≡ None → Hears c.args.self.now.peer.feed c.args.self.now.peer.session r c.next.new.self.peer.feed c.next.new.self.peer.session) c.in-Ok-Finish.field-0-is c.in-Ok-Finish.ensures.hears)) c.close.ensures.keeps;
  fares = λ limit tells. fares_ok (fares_behind c.next.ensures.link (same_way g.L.Link.history c.args.self.now c.next.new.self c.next.ensures.way) (spares_same c.args.desk.now.moves c.args.desk.now.moves refl) refl (c.in-Ok-Finish.ensures.heard tells) (c.close.ensures.fares limit tells));
  rests = λ not. absurd (true≢false not);
  calm = λ asked tells was none. (let now = c.close.ensures.calm asked c.in-Ok-Finish.outs refl (c.in-Ok-Finish.ensures.calm asked tells was).1 none in (now.0, stays_ok (now.1.stays, ap (λ (p : PeerState g.row.L.Denot). p.way) c.close.ensures.peer ∙ c.next.ensures.way)));
}

pub close-requires-in-Ok-Fail-clause-at : goal.close-requires-in-Ok-Fail-clause-at
close-requires-in-Ok-Fail-clause-at g c κs within = at_then g.T.Terms.trust g.F.Commands.gives g.F.Commands.may_fail g.T.Terms.sources g.S.Site.tells g.T.Terms.kept (IsSurePool g.B.Terms.fits) g.S.Site.files g.S.Site.may_leave g.S.Site.moment g.S.Site.images_since c.args.desk.now c.args.desk.now c.args.held.now c.args.held.now c.args.self.now c.next.new.self c.requires.at (heard_keeps g.T.Terms.trust g.F.Commands.gives g.F.Commands.may_fail g.T.Terms.sources g.S.Site.tells g.T.Terms.kept (IsSurePool g.B.Terms.fits) g.S.Site.files g.S.Site.may_leave g.S.Site.moment g.S.Site.images_since c.args.desk.now c.args.held.now c.args.self.now c.next.new.self (tell.Fail c.in-Ok-Fail.attempt c.in-Ok-Fail.why) c.next.ensures.link c.next.ensures.attempts (subst (λ (x : Told). let r : Result Told Leave = Ok x in c.args.self.now.peer.feed.stop ≡ None → Hears c.args.self.now.peer.feed c.args.self.now.peer.session r c.next.new.self.peer.feed c.next.new.self.peer.session) c.in-Ok-Fail.field-0-is c.in-Ok-Fail.ensures.hears))

pub close-requires-in-Ok-Fail-clause-there : goal.close-requires-in-Ok-Fail-clause-there
close-requires-in-Ok-Fail-clause-there g c κs within =
    subst (IsHeld c.in-Ok-Fail.attempt) (sym c.next.ensures.attempts) (ends_held c.args.desk.now.plan c.args.self.now.attempts c.in-Ok-Fail.attempt (outcomes.Failed c.in-Ok-Fail.why) (heard_of g.T.Terms.trust g.F.Commands.gives g.F.Commands.may_fail g.T.Terms.sources g.S.Site.tells g.T.Terms.kept (IsSurePool g.B.Terms.fits) g.S.Site.files g.S.Site.may_leave g.S.Site.moment g.S.Site.images_since c.args.desk.now c.args.self.now c.next.new.self (tell.Fail c.in-Ok-Fail.attempt c.in-Ok-Fail.why) c.requires.at.at.seat.going c.requires.at.at.seat.opens (subst (λ (x : Told). let r : Result Told Leave = Ok x in c.args.self.now.peer.feed.stop ≡ None → Hears c.args.self.now.peer.feed c.args.self.now.peer.session r c.next.new.self.peer.feed c.next.new.self.peer.session) c.in-Ok-Fail.field-0-is c.in-Ok-Fail.ensures.hears)).so)

pub close-requires-in-Ok-Fail-clause-fits : goal.close-requires-in-Ok-Fail-clause-fits
close-requires-in-Ok-Fail-clause-fits g c κs within =
    let is = c.requires.at in
    subst (AllByRecursion (MayEndAs c.args.desk.now.plan c.in-Ok-Fail.attempt (outcomes.Failed c.in-Ok-Fail.why))) (sym c.next.ensures.attempts) (may_end_as c.args.desk.now.plan c.requires.valid c.args.self.now.attempts c.in-Ok-Fail.attempt (outcomes.Failed c.in-Ok-Fail.why)
    (inside g.T.Terms.trust g.F.Commands.gives g.F.Commands.may_fail g.T.Terms.sources g.S.Site.tells g.T.Terms.kept (IsSurePool g.B.Terms.fits) g.S.Site.files g.S.Site.may_leave g.S.Site.moment g.S.Site.images_since is.front is.back is.first c.args.desk.now c.args.held.now is.waiting is.heard c.args.self.now (placed g.T.Terms.trust g.F.Commands.gives g.F.Commands.may_fail g.T.Terms.sources g.S.Site.tells g.T.Terms.kept (IsSurePool g.B.Terms.fits) g.S.Site.files g.S.Site.may_leave g.S.Site.moment g.S.Site.images_since is.front is.back is.first c.args.desk.now c.args.held.now is.waiting is.heard c.args.self.now is.at)) (heard_of g.T.Terms.trust g.F.Commands.gives g.F.Commands.may_fail g.T.Terms.sources g.S.Site.tells g.T.Terms.kept (IsSurePool g.B.Terms.fits) g.S.Site.files g.S.Site.may_leave g.S.Site.moment g.S.Site.images_since c.args.desk.now c.args.self.now c.next.new.self (tell.Fail c.in-Ok-Fail.attempt c.in-Ok-Fail.why) c.requires.at.at.seat.going c.requires.at.at.seat.opens (subst (λ (x : Told). let r : Result Told Leave = Ok x in c.args.self.now.peer.feed.stop ≡ None → Hears c.args.self.now.peer.feed c.args.self.now.peer.session r c.next.new.self.peer.feed c.next.new.self.peer.session) c.in-Ok-Fail.field-0-is c.in-Ok-Fail.ensures.hears)).so)

pub close-requires-in-Ok-Fail-clause-gone : goal.close-requires-in-Ok-Fail-clause-gone
close-requires-in-Ok-Fail-clause-gone g c κs within = (heard_of g.T.Terms.trust g.F.Commands.gives g.F.Commands.may_fail g.T.Terms.sources g.S.Site.tells g.T.Terms.kept (IsSurePool g.B.Terms.fits) g.S.Site.files g.S.Site.may_leave g.S.Site.moment g.S.Site.images_since c.args.desk.now c.args.self.now c.next.new.self (tell.Fail c.in-Ok-Fail.attempt c.in-Ok-Fail.why) c.requires.at.at.seat.going c.requires.at.at.seat.opens (subst (λ (x : Told). let r : Result Told Leave = Ok x in c.args.self.now.peer.feed.stop ≡ None → Hears c.args.self.now.peer.feed c.args.self.now.peer.session r c.next.new.self.peer.feed c.next.new.self.peer.session) c.in-Ok-Fail.field-0-is c.in-Ok-Fail.ensures.hears)).gone

pub returns-in-Ok-Fail : goal.returns-in-Ok-Fail
returns-in-Ok-Fail g c = record {
  keeps = keeps_then g.T.Terms.trust g.F.Commands.gives g.F.Commands.may_fail g.T.Terms.sources g.S.Site.tells g.T.Terms.kept (IsSurePool g.B.Terms.fits) g.S.Site.files g.S.Site.may_leave g.S.Site.moment g.S.Site.images_since c.args.desk.now c.args.desk.now c.close-in-Ok-Fail.new.desk c.args.held.now c.args.held.now c.close-in-Ok-Fail.new.held c.args.self.now c.next.new.self c.close-in-Ok-Fail.new.self (heard_keeps g.T.Terms.trust g.F.Commands.gives g.F.Commands.may_fail g.T.Terms.sources g.S.Site.tells g.T.Terms.kept (IsSurePool g.B.Terms.fits) g.S.Site.files g.S.Site.may_leave g.S.Site.moment g.S.Site.images_since c.args.desk.now c.args.held.now c.args.self.now c.next.new.self (tell.Fail c.in-Ok-Fail.attempt c.in-Ok-Fail.why) c.next.ensures.link c.next.ensures.attempts (subst (λ (x : Told). let r : Result Told Leave = Ok x in c.args.self.now.peer.feed.stop ≡ None → Hears c.args.self.now.peer.feed c.args.self.now.peer.session r c.next.new.self.peer.feed c.next.new.self.peer.session) c.in-Ok-Fail.field-0-is c.in-Ok-Fail.ensures.hears)) c.close-in-Ok-Fail.ensures.keeps;
  fares = λ limit tells. fares_ok (fares_behind c.next.ensures.link (same_way g.L.Link.history c.args.self.now c.next.new.self c.next.ensures.way) (spares_same c.args.desk.now.moves c.args.desk.now.moves refl) refl (c.in-Ok-Fail.ensures.heard tells) (c.close-in-Ok-Fail.ensures.fares limit tells));
  rests = λ not. absurd (true≢false not);
  calm = λ asked tells was none. absurd (subst IsCalmTold c.in-Ok-Fail.field-0-is (c.in-Ok-Fail.ensures.calm asked tells was).0);
}

pub close-requires-in-Ok-Lose-clause-at : goal.close-requires-in-Ok-Lose-clause-at
close-requires-in-Ok-Lose-clause-at g c κs within = at_then g.T.Terms.trust g.F.Commands.gives g.F.Commands.may_fail g.T.Terms.sources g.S.Site.tells g.T.Terms.kept (IsSurePool g.B.Terms.fits) g.S.Site.files g.S.Site.may_leave g.S.Site.moment g.S.Site.images_since c.args.desk.now c.args.desk.now c.args.held.now c.args.held.now c.args.self.now c.next.new.self c.requires.at (heard_keeps g.T.Terms.trust g.F.Commands.gives g.F.Commands.may_fail g.T.Terms.sources g.S.Site.tells g.T.Terms.kept (IsSurePool g.B.Terms.fits) g.S.Site.files g.S.Site.may_leave g.S.Site.moment g.S.Site.images_since c.args.desk.now c.args.held.now c.args.self.now c.next.new.self (tell.Lose c.in-Ok-Lose.attempt) c.next.ensures.link c.next.ensures.attempts (subst (λ (x : Told). let r : Result Told Leave = Ok x in c.args.self.now.peer.feed.stop ≡ None → Hears c.args.self.now.peer.feed c.args.self.now.peer.session r c.next.new.self.peer.feed c.next.new.self.peer.session) c.in-Ok-Lose.field-0-is c.in-Ok-Lose.ensures.hears))

pub close-requires-in-Ok-Lose-clause-there : goal.close-requires-in-Ok-Lose-clause-there
close-requires-in-Ok-Lose-clause-there g c κs within =
    subst (IsHeld c.in-Ok-Lose.attempt) (sym c.next.ensures.attempts) (ends_held c.args.desk.now.plan c.args.self.now.attempts c.in-Ok-Lose.attempt outcomes.NotRun (heard_of g.T.Terms.trust g.F.Commands.gives g.F.Commands.may_fail g.T.Terms.sources g.S.Site.tells g.T.Terms.kept (IsSurePool g.B.Terms.fits) g.S.Site.files g.S.Site.may_leave g.S.Site.moment g.S.Site.images_since c.args.desk.now c.args.self.now c.next.new.self (tell.Lose c.in-Ok-Lose.attempt) c.requires.at.at.seat.going c.requires.at.at.seat.opens (subst (λ (x : Told). let r : Result Told Leave = Ok x in c.args.self.now.peer.feed.stop ≡ None → Hears c.args.self.now.peer.feed c.args.self.now.peer.session r c.next.new.self.peer.feed c.next.new.self.peer.session) c.in-Ok-Lose.field-0-is c.in-Ok-Lose.ensures.hears)).so)

pub close-requires-in-Ok-Lose-clause-fits : goal.close-requires-in-Ok-Lose-clause-fits
close-requires-in-Ok-Lose-clause-fits g c κs within =
    let is = c.requires.at in
    subst (AllByRecursion (MayEndAs c.args.desk.now.plan c.in-Ok-Lose.attempt outcomes.NotRun)) (sym c.next.ensures.attempts) (may_end_as c.args.desk.now.plan c.requires.valid c.args.self.now.attempts c.in-Ok-Lose.attempt outcomes.NotRun
    (inside g.T.Terms.trust g.F.Commands.gives g.F.Commands.may_fail g.T.Terms.sources g.S.Site.tells g.T.Terms.kept (IsSurePool g.B.Terms.fits) g.S.Site.files g.S.Site.may_leave g.S.Site.moment g.S.Site.images_since is.front is.back is.first c.args.desk.now c.args.held.now is.waiting is.heard c.args.self.now (placed g.T.Terms.trust g.F.Commands.gives g.F.Commands.may_fail g.T.Terms.sources g.S.Site.tells g.T.Terms.kept (IsSurePool g.B.Terms.fits) g.S.Site.files g.S.Site.may_leave g.S.Site.moment g.S.Site.images_since is.front is.back is.first c.args.desk.now c.args.held.now is.waiting is.heard c.args.self.now is.at)) (heard_of g.T.Terms.trust g.F.Commands.gives g.F.Commands.may_fail g.T.Terms.sources g.S.Site.tells g.T.Terms.kept (IsSurePool g.B.Terms.fits) g.S.Site.files g.S.Site.may_leave g.S.Site.moment g.S.Site.images_since c.args.desk.now c.args.self.now c.next.new.self (tell.Lose c.in-Ok-Lose.attempt) c.requires.at.at.seat.going c.requires.at.at.seat.opens (subst (λ (x : Told). let r : Result Told Leave = Ok x in c.args.self.now.peer.feed.stop ≡ None → Hears c.args.self.now.peer.feed c.args.self.now.peer.session r c.next.new.self.peer.feed c.next.new.self.peer.session) c.in-Ok-Lose.field-0-is c.in-Ok-Lose.ensures.hears)).so)

pub close-requires-in-Ok-Lose-clause-gone : goal.close-requires-in-Ok-Lose-clause-gone
close-requires-in-Ok-Lose-clause-gone g c κs within = (heard_of g.T.Terms.trust g.F.Commands.gives g.F.Commands.may_fail g.T.Terms.sources g.S.Site.tells g.T.Terms.kept (IsSurePool g.B.Terms.fits) g.S.Site.files g.S.Site.may_leave g.S.Site.moment g.S.Site.images_since c.args.desk.now c.args.self.now c.next.new.self (tell.Lose c.in-Ok-Lose.attempt) c.requires.at.at.seat.going c.requires.at.at.seat.opens (subst (λ (x : Told). let r : Result Told Leave = Ok x in c.args.self.now.peer.feed.stop ≡ None → Hears c.args.self.now.peer.feed c.args.self.now.peer.session r c.next.new.self.peer.feed c.next.new.self.peer.session) c.in-Ok-Lose.field-0-is c.in-Ok-Lose.ensures.hears)).gone

pub returns-in-Ok-Lose : goal.returns-in-Ok-Lose
returns-in-Ok-Lose g c = record {
  keeps = keeps_then g.T.Terms.trust g.F.Commands.gives g.F.Commands.may_fail g.T.Terms.sources g.S.Site.tells g.T.Terms.kept (IsSurePool g.B.Terms.fits) g.S.Site.files g.S.Site.may_leave g.S.Site.moment g.S.Site.images_since c.args.desk.now c.args.desk.now c.close-in-Ok-Lose.new.desk c.args.held.now c.args.held.now c.close-in-Ok-Lose.new.held c.args.self.now c.next.new.self c.close-in-Ok-Lose.new.self (heard_keeps g.T.Terms.trust g.F.Commands.gives g.F.Commands.may_fail g.T.Terms.sources g.S.Site.tells g.T.Terms.kept (IsSurePool g.B.Terms.fits) g.S.Site.files g.S.Site.may_leave g.S.Site.moment g.S.Site.images_since c.args.desk.now c.args.held.now c.args.self.now c.next.new.self (tell.Lose c.in-Ok-Lose.attempt) c.next.ensures.link c.next.ensures.attempts (subst (λ (x : Told). let r : Result Told Leave = Ok x in c.args.self.now.peer.feed.stop ≡ None → Hears c.args.self.now.peer.feed c.args.self.now.peer.session r c.next.new.self.peer.feed c.next.new.self.peer.session) c.in-Ok-Lose.field-0-is c.in-Ok-Lose.ensures.hears)) c.close-in-Ok-Lose.ensures.keeps;
  fares = λ limit tells. fares_ok (fares_behind c.next.ensures.link (same_way g.L.Link.history c.args.self.now c.next.new.self c.next.ensures.way) (spares_same c.args.desk.now.moves c.args.desk.now.moves refl) refl (c.in-Ok-Lose.ensures.heard tells) (c.close-in-Ok-Lose.ensures.fares limit tells));
  rests = λ not. absurd (true≢false not);
  calm = λ asked tells was none. absurd (subst IsCalmTold c.in-Ok-Lose.field-0-is (c.in-Ok-Lose.ensures.calm asked tells was).0);
}

pub returns-in-Ok-Nothing : goal.returns-in-Ok-Nothing
returns-in-Ok-Nothing g c = record {
  keeps = heard_keeps g.T.Terms.trust g.F.Commands.gives g.F.Commands.may_fail g.T.Terms.sources g.S.Site.tells g.T.Terms.kept (IsSurePool g.B.Terms.fits) g.S.Site.files g.S.Site.may_leave g.S.Site.moment g.S.Site.images_since c.args.desk.now c.args.held.now c.args.self.now c.next.new.self tell.Nothing c.next.ensures.link c.next.ensures.attempts (subst (λ (x : Told). let r : Result Told Leave = Ok x in c.args.self.now.peer.feed.stop ≡ None → Hears c.args.self.now.peer.feed c.args.self.now.peer.session r c.next.new.self.peer.feed c.next.new.self.peer.session) c.in-Ok-Nothing.field-0-is c.in-Ok-Nothing.ensures.hears);
  fares = λ limit tells. fares_still c.next.ensures.link (same_way g.L.Link.history c.args.self.now c.next.new.self c.next.ensures.way) refl refl tt (c.in-Ok-Nothing.ensures.heard tells);
  rests = λ not none.
      let hears : Hears c.args.self.now.peer.feed c.args.self.now.peer.session (Ok tell.Nothing) c.next.new.self.peer.feed c.next.new.self.peer.session = subst (λ (x : Told). let r : Result Told Leave = Ok x in Hears c.args.self.now.peer.feed c.args.self.now.peer.session r c.next.new.self.peer.feed c.next.new.self.peer.session) c.in-Ok-Nothing.field-0-is (c.in-Ok-Nothing.ensures.hears c.requires.at.at.seat.going) in
      (ap (λ (x : Stream). front x.rest) hears.1 ∙ hears.0, λ heard. c.in-Ok-Nothing.ensures.spoken heard);
  calm = λ asked tells was none. (well_same _ _ refl, stays_ok ((c.in-Ok-Nothing.ensures.calm asked tells was).1, c.next.ensures.way));
}

pub returns-in-Ok-Stale : goal.returns-in-Ok-Stale
returns-in-Ok-Stale g c = record {
  keeps = heard_keeps g.T.Terms.trust g.F.Commands.gives g.F.Commands.may_fail g.T.Terms.sources g.S.Site.tells g.T.Terms.kept (IsSurePool g.B.Terms.fits) g.S.Site.files g.S.Site.may_leave g.S.Site.moment g.S.Site.images_since c.args.desk.now c.args.held.now c.args.self.now c.next.new.self (tell.Stale c.in-Ok-Stale.field-0-0) c.next.ensures.link c.next.ensures.attempts (subst (λ (x : Told). let r : Result Told Leave = Ok x in c.args.self.now.peer.feed.stop ≡ None → Hears c.args.self.now.peer.feed c.args.self.now.peer.session r c.next.new.self.peer.feed c.next.new.self.peer.session) c.in-Ok-Stale.field-0-is c.in-Ok-Stale.ensures.hears);
  fares = λ limit tells. fares_still c.next.ensures.link (same_way g.L.Link.history c.args.self.now c.next.new.self c.next.ensures.way) refl refl tt (c.in-Ok-Stale.ensures.heard tells);
  rests = λ not. absurd (true≢false not);
  calm = λ asked tells was none. (well_same _ _ refl, stays_ok ((c.in-Ok-Stale.ensures.calm asked tells was).1, c.next.ensures.way));
}

pub returns-in-Ok-Joined : goal.returns-in-Ok-Joined
returns-in-Ok-Joined g c =
    let keeps = heard_keeps g.T.Terms.trust g.F.Commands.gives g.F.Commands.may_fail g.T.Terms.sources g.S.Site.tells g.T.Terms.kept (IsSurePool g.B.Terms.fits) g.S.Site.files g.S.Site.may_leave g.S.Site.moment g.S.Site.images_since c.args.desk.now c.args.held.now c.args.self.now c.next.new.self (tell.Joined c.in-Ok-Joined.field-0-0 c.in-Ok-Joined.field-0-1 c.in-Ok-Joined.field-0-2) c.next.ensures.link c.next.ensures.attempts (subst (λ (x : Told). let r : Result Told Leave = Ok x in c.args.self.now.peer.feed.stop ≡ None → Hears c.args.self.now.peer.feed c.args.self.now.peer.session r c.next.new.self.peer.feed c.next.new.self.peer.session) c.in-Ok-Joined.field-0-is c.in-Ok-Joined.ensures.hears) in
    record {
      keeps = keeps_then g.T.Terms.trust g.F.Commands.gives g.F.Commands.may_fail g.T.Terms.sources g.S.Site.tells g.T.Terms.kept (IsSurePool g.B.Terms.fits) g.S.Site.files g.S.Site.may_leave g.S.Site.moment g.S.Site.images_since c.args.desk.now c.args.desk.now c.args.desk.now c.args.held.now c.args.held.now c.stop-in-Ok-Joined.new.self c.args.self.now c.next.new.self c.next.new.self keeps
          (keeps_want g.T.Terms.trust g.F.Commands.gives g.F.Commands.may_fail g.T.Terms.sources g.S.Site.tells g.T.Terms.kept (IsSurePool g.B.Terms.fits) g.S.Site.files g.S.Site.may_leave g.S.Site.moment g.S.Site.images_since c.args.desk.now c.args.held.now c.stop-in-Ok-Joined.new.self c.next.new.self c.stop-in-Ok-Joined.ensures
          (at_then g.T.Terms.trust g.F.Commands.gives g.F.Commands.may_fail g.T.Terms.sources g.S.Site.tells g.T.Terms.kept (IsSurePool g.B.Terms.fits) g.S.Site.files g.S.Site.may_leave g.S.Site.moment g.S.Site.images_since c.args.desk.now c.args.desk.now c.args.held.now c.args.held.now c.args.self.now c.next.new.self c.requires.at keeps));
      fares = λ limit tells. fares_stopped halts.Memory c.next.ensures.link (same_way g.L.Link.history c.args.self.now c.next.new.self c.next.ensures.way) (ap (λ (h : HeldState). h.halt) c.stop-in-Ok-Joined.ensures);
      rests = λ not. absurd (true≢false not);
      calm = λ asked tells was. fares_halted halts.Memory (ap (λ (h : HeldState). h.halt) c.stop-in-Ok-Joined.ensures);
    }

pub change-requires-clause-lives : goal.change-requires-clause-lives
change-requires-clause-lives g c κs within = (at_then g.T.Terms.trust g.F.Commands.gives g.F.Commands.may_fail g.T.Terms.sources g.S.Site.tells g.T.Terms.kept (IsSurePool g.B.Terms.fits) g.S.Site.files g.S.Site.may_leave g.S.Site.moment g.S.Site.images_since c.args.desk.now c.args.desk.now c.args.held.now c.args.held.now c.args.self.now c.next.new.self c.requires.at (heard_keeps g.T.Terms.trust g.F.Commands.gives g.F.Commands.may_fail g.T.Terms.sources g.S.Site.tells g.T.Terms.kept (IsSurePool g.B.Terms.fits) g.S.Site.files g.S.Site.may_leave g.S.Site.moment g.S.Site.images_since c.args.desk.now c.args.held.now c.args.self.now c.next.new.self (tell.Changed c.in-Ok-Changed.total c.in-Ok-Changed.largest c.in-Ok-Changed.cache) c.next.ensures.link c.next.ensures.attempts (subst (λ (x : Told). let r : Result Told Leave = Ok x in c.args.self.now.peer.feed.stop ≡ None → Hears c.args.self.now.peer.feed c.args.self.now.peer.session r c.next.new.self.peer.feed c.next.new.self.peer.session) c.in-Ok-Changed.field-0-is c.in-Ok-Changed.ensures.hears))).at.seat.placed.lives

pub returns-in-Ok-Changed : goal.returns-in-Ok-Changed
returns-in-Ok-Changed g c = record {
  keeps = after_then g.T.Terms.trust g.F.Commands.gives g.F.Commands.may_fail g.T.Terms.sources g.S.Site.tells g.T.Terms.kept (IsSurePool g.B.Terms.fits) g.S.Site.files g.S.Site.may_leave g.S.Site.moment g.S.Site.images_since c.args.desk.now c.args.desk.now c.change.new.desk c.args.held.now c.args.held.now c.args.held.now c.args.self.now c.next.new.self c.change.new.self c.change.result (heard_keeps g.T.Terms.trust g.F.Commands.gives g.F.Commands.may_fail g.T.Terms.sources g.S.Site.tells g.T.Terms.kept (IsSurePool g.B.Terms.fits) g.S.Site.files g.S.Site.may_leave g.S.Site.moment g.S.Site.images_since c.args.desk.now c.args.held.now c.args.self.now c.next.new.self (tell.Changed c.in-Ok-Changed.total c.in-Ok-Changed.largest c.in-Ok-Changed.cache) c.next.ensures.link c.next.ensures.attempts (subst (λ (x : Told). let r : Result Told Leave = Ok x in c.args.self.now.peer.feed.stop ≡ None → Hears c.args.self.now.peer.feed c.args.self.now.peer.session r c.next.new.self.peer.feed c.next.new.self.peer.session) c.in-Ok-Changed.field-0-is c.in-Ok-Changed.ensures.hears)) (c.change.ensures.keeps c.args.held.now);
  fares = λ limit tells. c.change.ensures.fares limit c.args.held.now.halt c.args.self.now tells (record {
    link = c.next.ensures.link;
    comes = same_way g.L.Link.history c.args.self.now c.next.new.self c.next.ensures.way;
    more = subst (λ (x : Told). HearsOffer g.L.Link.history c.args.self.now.peer c.next.new.self.peer x) c.in-Ok-Changed.field-0-is (c.in-Ok-Changed.ensures.offers tells);
  });
  rests = never_false c.change.result _ c.change.ensures.did;
  calm = λ asked tells was none. (let now = c.change.ensures.calm asked (c.in-Ok-Changed.ensures.calm asked tells was).1 in (now.0, stays_as c.change.result (λ is. (is.0, is.1 ∙ c.next.ensures.way)) now.1));
}

pub returns-in-Ok : goal.returns-in-Ok
returns-in-Ok g c = record {
  keeps = keeps_then g.T.Terms.trust g.F.Commands.gives g.F.Commands.may_fail g.T.Terms.sources g.S.Site.tells g.T.Terms.kept (IsSurePool g.B.Terms.fits) g.S.Site.files g.S.Site.may_leave g.S.Site.moment g.S.Site.images_since c.args.desk.now c.args.desk.now c.put_again.new.desk c.args.held.now c.args.held.now c.put_again.new.held c.args.self.now c.next.new.self c.put_again.new.self (heard_keeps g.T.Terms.trust g.F.Commands.gives g.F.Commands.may_fail g.T.Terms.sources g.S.Site.tells g.T.Terms.kept (IsSurePool g.B.Terms.fits) g.S.Site.files g.S.Site.may_leave g.S.Site.moment g.S.Site.images_since c.args.desk.now c.args.held.now c.args.self.now c.next.new.self (tell.PutAgain c.in-Ok-PutAgain.attempt c.in-Ok-PutAgain.files) c.next.ensures.link c.next.ensures.attempts (subst (λ (x : Told). let r : Result Told Leave = Ok x in c.args.self.now.peer.feed.stop ≡ None → Hears c.args.self.now.peer.feed c.args.self.now.peer.session r c.next.new.self.peer.feed c.next.new.self.peer.session) c.in-Ok-PutAgain.field-0-is c.in-Ok-PutAgain.ensures.hears)) c.in-Ok.ensures.keeps;
  fares = λ limit tells. fares_ok (fares_behind c.next.ensures.link (same_way g.L.Link.history c.args.self.now c.next.new.self c.next.ensures.way) (spares_same c.args.desk.now.moves c.args.desk.now.moves refl) refl (c.in-Ok-PutAgain.ensures.heard tells) (c.in-Ok.ensures.fares limit tells));
  rests = λ not. absurd (true≢false not);
  calm = λ asked tells was none. absurd (subst IsCalmTold c.in-Ok-PutAgain.field-0-is (c.in-Ok-PutAgain.ensures.calm asked tells was).0);
}

pub returns-in-Ok-PutAgain : goal.returns-in-Ok-PutAgain
returns-in-Ok-PutAgain g c = record {
  keeps = leaves_then g.T.Terms.trust g.F.Commands.gives g.F.Commands.may_fail g.T.Terms.sources g.S.Site.tells g.T.Terms.kept (IsSurePool g.B.Terms.fits) g.S.Site.files g.S.Site.may_leave g.S.Site.moment g.S.Site.images_since c.args.desk.now c.args.desk.now c.put_again.new.desk c.args.held.now c.args.held.now c.put_again.new.held c.args.self.now c.next.new.self c.put_again.new.self (heard_keeps g.T.Terms.trust g.F.Commands.gives g.F.Commands.may_fail g.T.Terms.sources g.S.Site.tells g.T.Terms.kept (IsSurePool g.B.Terms.fits) g.S.Site.files g.S.Site.may_leave g.S.Site.moment g.S.Site.images_since c.args.desk.now c.args.held.now c.args.self.now c.next.new.self (tell.PutAgain c.in-Ok-PutAgain.attempt c.in-Ok-PutAgain.files) c.next.ensures.link c.next.ensures.attempts (subst (λ (x : Told). let r : Result Told Leave = Ok x in c.args.self.now.peer.feed.stop ≡ None → Hears c.args.self.now.peer.feed c.args.self.now.peer.session r c.next.new.self.peer.feed c.next.new.self.peer.session) c.in-Ok-PutAgain.field-0-is c.in-Ok-PutAgain.ensures.hears)) c.in-Err-put_again.ensures.keeps;
  fares = λ limit tells. fares_err (fares_behind c.next.ensures.link (same_way g.L.Link.history c.args.self.now c.next.new.self c.next.ensures.way) (spares_same c.args.desk.now.moves c.args.desk.now.moves refl) refl (c.in-Ok-PutAgain.ensures.heard tells) (c.in-Err-put_again.ensures.fares limit tells));
  rests = tt;
  calm = λ asked tells was none. absurd (subst IsCalmTold c.in-Ok-PutAgain.field-0-is (c.in-Ok-PutAgain.ensures.calm asked tells was).0);
}

pub put_again-requires-clause-at : goal.put_again-requires-clause-at
put_again-requires-clause-at g c κs within = at_then g.T.Terms.trust g.F.Commands.gives g.F.Commands.may_fail g.T.Terms.sources g.S.Site.tells g.T.Terms.kept (IsSurePool g.B.Terms.fits) g.S.Site.files g.S.Site.may_leave g.S.Site.moment g.S.Site.images_since c.args.desk.now c.args.desk.now c.args.held.now c.args.held.now c.args.self.now c.next.new.self c.requires.at (heard_keeps g.T.Terms.trust g.F.Commands.gives g.F.Commands.may_fail g.T.Terms.sources g.S.Site.tells g.T.Terms.kept (IsSurePool g.B.Terms.fits) g.S.Site.files g.S.Site.may_leave g.S.Site.moment g.S.Site.images_since c.args.desk.now c.args.held.now c.args.self.now c.next.new.self (tell.PutAgain c.in-Ok-PutAgain.attempt c.in-Ok-PutAgain.files) c.next.ensures.link c.next.ensures.attempts (subst (λ (x : Told). let r : Result Told Leave = Ok x in c.args.self.now.peer.feed.stop ≡ None → Hears c.args.self.now.peer.feed c.args.self.now.peer.session r c.next.new.self.peer.feed c.next.new.self.peer.session) c.in-Ok-PutAgain.field-0-is c.in-Ok-PutAgain.ensures.hears))

pub close-requires-clause-honest : goal.close-requires-clause-honest
close-requires-clause-honest g c κs within =
    due_by g.F.Commands.may_fail c.args.desk.now.plan c.args.desk.now.options (records_of c.args.desk.now.moves) c.in-Ok-Finish.attempt (outcomes.Success c.in-Ok-Finish.outs) c.next.new.self.attempts c.requires.of
    (λ held. subst (λ (x : Told). TellsDue g.T.Trust.holds g.F.Commands.gives g.F.Commands.may_fail g.L.Link.history (IsFair g.T.Trust.holds g.L.Link.tells g.L.Link.honest) g.T.Trust.plan g.T.Trust.run g.T.Trust.due c.next.new.self x) c.in-Ok-Finish.field-0-is (c.in-Ok-Finish.ensures.due (inr held)) held)

pub close-requires-in-Ok-Fail-clause-honest : goal.close-requires-in-Ok-Fail-clause-honest
close-requires-in-Ok-Fail-clause-honest g c κs within =
    due_by g.F.Commands.may_fail c.args.desk.now.plan c.args.desk.now.options (records_of c.args.desk.now.moves) c.in-Ok-Fail.attempt (outcomes.Failed c.in-Ok-Fail.why) c.next.new.self.attempts c.requires.of
    (λ held. subst (λ (x : Told). TellsDue g.T.Trust.holds g.F.Commands.gives g.F.Commands.may_fail g.L.Link.history (IsFair g.T.Trust.holds g.L.Link.tells g.L.Link.honest) g.T.Trust.plan g.T.Trust.run g.T.Trust.due c.next.new.self x) c.in-Ok-Fail.field-0-is (c.in-Ok-Fail.ensures.due (inr held)) held)

pub close-requires-in-Ok-Lose-clause-honest : goal.close-requires-in-Ok-Lose-clause-honest
close-requires-in-Ok-Lose-clause-honest g c κs within trusted = ends_unrun c.args.desk.now.plan g.F.Commands.gives g.F.Commands.may_fail (serial c.args.desk.now.plan g.F.Commands.gives g.T.Terms.sources) c.in-Ok-Lose.attempt c.next.new.self.attempts

pub put_again-requires-clause-was : goal.put_again-requires-clause-was
put_again-requires-clause-was g c κs within held = subst (λ (x : Told). TellsDue g.T.Trust.holds g.F.Commands.gives g.F.Commands.may_fail g.L.Link.history (IsFair g.T.Trust.holds g.L.Link.tells g.L.Link.honest) g.T.Trust.plan g.T.Trust.run g.T.Trust.due c.next.new.self x) c.in-Ok-PutAgain.field-0-is (c.in-Ok-PutAgain.ensures.due held)

pub returns-then-not-is_ready : goal.returns-then-not-is_ready
returns-then-not-is_ready g c = record {
  keeps = keeps_want g.T.Terms.trust g.F.Commands.gives g.F.Commands.may_fail g.T.Terms.sources g.S.Site.tells g.T.Terms.kept (IsSurePool g.B.Terms.fits) g.S.Site.files g.S.Site.may_leave g.S.Site.moment g.S.Site.images_since c.args.desk.now c.args.held.now c.stop.new.self c.args.self.now c.stop.ensures c.requires.at;
  fares = λ limit tells. fares_stopped_same halts.Memory (ap (λ (h : HeldState). h.halt) c.stop.ensures);
  rests = λ not none. absurd (halted_never halts.Memory c.stop.new.self.halt (ap (λ (h : HeldState). h.halt) c.stop.ensures) none);
  calm = λ asked tells was. fares_halted halts.Memory (ap (λ (h : HeldState). h.halt) c.stop.ensures);
}

pub returns-clause-fares : goal.returns-clause-fares
returns-clause-fares g c limit tells = fares_still c.next.ensures.link (same_way g.L.Link.history c.args.self.now c.next.new.self c.next.ensures.way) refl refl (misspeaks_leaves g.F.Commands.gives g.F.Commands.may_fail g.L.Link.history g.L.Link.count g.L.Link.idle_count g.L.Link.is_closed limit c.args.desk.now.moves c.next.new.self c.in-Err.leave (c.in-Err.ensures.shows tells)) tt

pub close-requires-clause-back : goal.close-requires-clause-back
close-requires-clause-back g c κs within tells =
    subst (λ (x : Told). let r : Result Told Leave = Ok x in Shows (g.L.Link.history c.next.new.self.peer.way) r) c.in-Ok-Finish.field-0-is (c.in-Ok-Finish.ensures.shows tells)

pub close-requires-in-Ok-Fail-clause-back : goal.close-requires-in-Ok-Fail-clause-back
close-requires-in-Ok-Fail-clause-back g c κs within tells =
    subst (λ (x : Told). let r : Result Told Leave = Ok x in Shows (g.L.Link.history c.next.new.self.peer.way) r) c.in-Ok-Fail.field-0-is (c.in-Ok-Fail.ensures.shows tells)

pub close-requires-in-Ok-Lose-clause-back : goal.close-requires-in-Ok-Lose-clause-back
close-requires-in-Ok-Lose-clause-back g c κs within tells =
    subst (λ (x : Told). let r : Result Told Leave = Ok x in Shows (g.L.Link.history c.next.new.self.peer.way) r) c.in-Ok-Lose.field-0-is (c.in-Ok-Lose.ensures.shows tells)

pub change-requires-clause-came : goal.change-requires-clause-came
change-requires-clause-came g c κs within tells =
    subst (λ (x : Told). let r : Result Told Leave = Ok x in Shows (g.L.Link.history c.next.new.self.peer.way) r) c.in-Ok-Changed.field-0-is (c.in-Ok-Changed.ensures.shows tells)

pub returns-clause-calm : goal.returns-clause-calm
returns-clause-calm g c asked tells was none = (well_same _ _ refl, calm_leave c.in-Err.leave (c.in-Err.ensures.calm asked tells was).0)
