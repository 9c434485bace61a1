use Rattle.std.proofs.Common.{◌≡◌, ◌<◌, ◌∙◌, false, ap, refl, subst, sym, List, rules}
use Rattle.std.specs.List.{AllByRecursion}
use Rattle.flow_types.specs.declared.numbers.AttemptNo.{AttemptNo}
use Rattle.run_history.specs.Links.{records_of}
use Rattle.link_session.specs.Sessions.{is_open}
use Rattle.local_run.specs.Underway.{HeldState, IsSurePool}
use Rattle.wq_frames.specs.Streams.{Stream}
use Rattle.wq_run.specs.Trusted.{IsFair, IsOwn, MayAsk, MayOpen}
use Rattle.wq_run.proofs.Asks.{GoesBy, keeps_still, open_keeps, stops_want, suits_of}
use Rattle.wq_run.proofs.Closes.{inside, placed}
use Rattle.wq_run.proofs.Steps.{after_then, at_then}
use Rattle.wq_run.proofs.Trusts.{alone_at, own_all, own_by}
use Rattle.local_run.specs.declared.halt.Halt.TheVariants as halts
use Rattle.wq_run.proofs.Fares.{fares_behind, fares_stopped, fares_stopped_same, same_way, spares_same}
use Rattle.wq_run.proofs.Calm.{fares_halted}
use Rattle.wq_run.proofs.Heards.{heard_fed}
use Rattle.flow_types.specs.declared.numbers.FileNo.{FileNo}
use Rattle.peers.specs.Provides.{keys_of}
use Rattle.wq_run.specs.Calm.{IsSureOf, IsSureToAsk}
use Rattle.wq_run.proofs.seat.Seat.start.Goals as goal

pub task-requires-clause-inside : goal.task-requires-clause-inside
task-requires-clause-inside g c κs within =
    let is = c.requires.at in
    inside g.T.Terms.trust g.F.Commands.gives g.F.Commands.may_fail g.T.Terms.sources g.S.Site.tells g.T.Terms.kept (IsSurePool g.B.Terms.fits) g.S.Site.files g.S.Site.may_leave g.S.Site.moment g.S.Site.images_since is.front is.back is.first c.args.desk.now c.args.held.now is.waiting is.heard c.args.self.now (placed g.T.Terms.trust g.F.Commands.gives g.F.Commands.may_fail g.T.Terms.sources g.S.Site.tells g.T.Terms.kept (IsSurePool g.B.Terms.fits) g.S.Site.files g.S.Site.may_leave g.S.Site.moment g.S.Site.images_since is.front is.back is.first c.args.desk.now c.args.held.now is.waiting is.heard c.args.self.now is.at)

pub open-requires-clause-fresh : goal.open-requires-clause-fresh
open-requires-clause-fresh g c κs within =
    let of = c.in-Some.ensures.of in
    subst (λ (n : AttemptNo). is_open n c.args.self.now.peer.session.attempts ≡ false) (sym ((suits_of c.args.desk.now.plan (records_of c.args.desk.now.moves) of.1 c.in-Some.task of.5).1 ∙ of.4)) c.requires.fresh

pub provide-requires-clause-at : goal.provide-requires-clause-at
provide-requires-clause-at g c κs within =
    let of = c.in-Some.ensures.of in
    at_then g.T.Terms.trust g.F.Commands.gives g.F.Commands.may_fail g.T.Terms.sources g.S.Site.tells g.T.Terms.kept (IsSurePool g.B.Terms.fits) g.S.Site.files g.S.Site.may_leave g.S.Site.moment g.S.Site.images_since c.args.desk.now c.args.desk.now c.args.held.now c.args.held.now c.args.self.now c.open.new.self c.requires.at (open_keeps g.T.Terms.trust g.F.Commands.gives g.F.Commands.may_fail g.T.Terms.sources g.S.Site.tells g.T.Terms.kept (IsSurePool g.B.Terms.fits) g.S.Site.files g.S.Site.may_leave g.S.Site.moment g.S.Site.images_since c.args.desk.now c.args.held.now c.args.self.now c.open.new.self c.args.number of.0 of.1 of.2 c.in-Some.task of.3 of.4 of.5 c.open.ensures.link c.open.ensures.attempts (c.in-Ok.ensures.ok) c.open.ensures.feed)

pub returns-in-Ok : goal.returns-in-Ok
returns-in-Ok g c =
    let of = c.in-Some.ensures.of in
    record {
      keeps = after_then g.T.Terms.trust g.F.Commands.gives g.F.Commands.may_fail g.T.Terms.sources g.S.Site.tells g.T.Terms.kept (IsSurePool g.B.Terms.fits) g.S.Site.files g.S.Site.may_leave g.S.Site.moment g.S.Site.images_since c.args.desk.now c.args.desk.now c.provide.new.desk c.args.held.now c.args.held.now c.provide.new.held c.args.self.now c.open.new.self c.provide.new.self c.provide.result (open_keeps g.T.Terms.trust g.F.Commands.gives g.F.Commands.may_fail g.T.Terms.sources g.S.Site.tells g.T.Terms.kept (IsSurePool g.B.Terms.fits) g.S.Site.files g.S.Site.may_leave g.S.Site.moment g.S.Site.images_since c.args.desk.now c.args.held.now c.args.self.now c.open.new.self c.args.number of.0 of.1 of.2 c.in-Some.task of.3 of.4 of.5 c.open.ensures.link c.open.ensures.attempts (c.in-Ok.ensures.ok) c.open.ensures.feed) c.provide.ensures.keeps;
      fares = λ limit tells. fares_behind c.open.ensures.link (same_way g.L.Link.history c.args.self.now c.open.new.self c.open.ensures.way) (spares_same c.args.desk.now.moves c.args.desk.now.moves refl) refl (heard_fed g.L.Link.history c.args.self.now.peer c.open.new.self.peer (same_way g.L.Link.history c.args.self.now c.open.new.self c.open.ensures.way) c.open.ensures.feed) (c.provide.ensures.fares limit tells);
      calm = λ asked tells was newer.
          let files : c.as_slice.result.now ≡ c.in-Ok.files = search rules in
          c.provide.ensures.calm asked tells (subst (λ (xs : List FileNo). IsSureToAsk g.F.Commands.gives g.F.Commands.may_fail g.L.Link.history (IsSureOf g.L.Link.sure g.L.Link.offers asked) c.open.new.self c.in-Some.task (keys_of c.in-Some.task.run xs)) (sym files)
          (c.in-Ok.ensures.calm asked tells was (λ last same. subst (λ (n : AttemptNo). last.0 < n.0) (sym ((suits_of c.args.desk.now.plan (records_of c.args.desk.now.moves) of.1 c.in-Some.task of.5).1 ∙ of.4)) (newer last same))));
    }

pub returns-in-Err : goal.returns-in-Err
returns-in-Err g c = record {
  keeps = keeps_still g.T.Terms.trust g.F.Commands.gives g.F.Commands.may_fail g.T.Terms.sources g.S.Site.tells g.T.Terms.kept (IsSurePool g.B.Terms.fits) g.S.Site.files g.S.Site.may_leave g.S.Site.moment g.S.Site.images_since c.args.desk.now c.args.desk.now c.args.held.now c.stop-in-Err.new.self c.args.self.now c.open.new.self c.open.ensures.link c.open.ensures.attempts c.in-Err.ensures.err (λ was. ap (λ (x : Stream). x.stop) c.open.ensures.feed ∙ was)
      (subst (GoesBy g.T.Terms.trust g.F.Commands.gives g.F.Commands.may_fail g.T.Terms.sources g.S.Site.tells g.T.Terms.kept (IsSurePool g.B.Terms.fits) g.S.Site.files g.S.Site.may_leave g.S.Site.moment g.S.Site.images_since c.args.desk.now c.args.desk.now c.args.held.now) (sym c.stop-in-Err.ensures) (stops_want g.T.Terms.trust g.F.Commands.gives g.F.Commands.may_fail g.T.Terms.sources g.S.Site.tells g.T.Terms.kept (IsSurePool g.B.Terms.fits) g.S.Site.files g.S.Site.may_leave g.S.Site.moment g.S.Site.images_since c.args.desk.now c.args.held.now)) c.requires.at;
  fares = λ limit tells. fares_stopped halts.Memory c.open.ensures.link (same_way g.L.Link.history c.args.self.now c.open.new.self c.open.ensures.way) (ap (λ (h : HeldState). h.halt) c.stop-in-Err.ensures);
  calm = λ asked tells was newer. fares_halted halts.Memory (ap (λ (h : HeldState). h.halt) c.stop-in-Err.ensures);
}

pub returns-in_default : goal.returns-in_default
returns-in_default g c = record {
  keeps = keeps_still g.T.Terms.trust g.F.Commands.gives g.F.Commands.may_fail g.T.Terms.sources g.S.Site.tells g.T.Terms.kept (IsSurePool g.B.Terms.fits) g.S.Site.files g.S.Site.may_leave g.S.Site.moment g.S.Site.images_since c.args.desk.now c.args.desk.now c.args.held.now c.stop.new.self c.args.self.now c.args.self.now refl refl refl (λ was. was)
      (subst (GoesBy g.T.Terms.trust g.F.Commands.gives g.F.Commands.may_fail g.T.Terms.sources g.S.Site.tells g.T.Terms.kept (IsSurePool g.B.Terms.fits) g.S.Site.files g.S.Site.may_leave g.S.Site.moment g.S.Site.images_since c.args.desk.now c.args.desk.now c.args.held.now) (sym c.stop.ensures) (stops_want g.T.Terms.trust g.F.Commands.gives g.F.Commands.may_fail g.T.Terms.sources g.S.Site.tells g.T.Terms.kept (IsSurePool g.B.Terms.fits) g.S.Site.files g.S.Site.may_leave g.S.Site.moment g.S.Site.images_since c.args.desk.now c.args.held.now)) c.requires.at;
  fares = λ limit tells. fares_stopped_same halts.Memory (ap (λ (h : HeldState). h.halt) c.stop.ensures);
  calm = λ asked tells was newer. fares_halted halts.Memory (ap (λ (h : HeldState). h.halt) c.stop.ensures);
}

pub provide-requires-clause-asks : goal.provide-requires-clause-asks
provide-requires-clause-asks g c κs within held =
    let of = c.in-Some.ensures.of in
    let own = own_by c.args.desk.now.plan c.args.desk.now.options (records_of c.args.desk.now.moves) of.1 c.in-Some.task c.requires.of of.5 in
    let files : c.as_slice.result.now ≡ c.in-Ok.files = search rules in
    subst (λ (xs : List FileNo). MayAsk g.T.Trust.holds g.F.Commands.gives g.F.Commands.may_fail g.L.Link.history (IsFair g.T.Trust.holds g.L.Link.tells g.L.Link.honest) g.T.Trust.plan g.T.Trust.run g.T.Trust.due c.open.new.self c.in-Some.task (keys_of c.in-Some.task.run xs)) (sym files)
    (c.in-Ok.ensures.asks held (subst (MayOpen g.T.Trust.holds g.F.Commands.gives g.F.Commands.may_fail g.L.Link.history (IsFair g.T.Trust.holds g.L.Link.tells g.L.Link.honest) g.T.Trust.plan g.T.Trust.run g.T.Trust.due c.args.self.now) (sym ((suits_of c.args.desk.now.plan (records_of c.args.desk.now.moves) of.1 c.in-Some.task of.5).1 ∙ of.4)) (c.requires.opens held))
    (subst (AllByRecursion (IsOwn g.T.Trust.plan g.T.Trust.run c.in-Some.task)) (sym of.3) (own_all g.T.Trust.plan g.T.Trust.run of.0 of.1 of.2 c.in-Some.task (alone_at g.T.Terms.trust g.F.Commands.gives g.F.Commands.may_fail g.T.Terms.sources g.S.Site.tells g.T.Terms.kept (IsSurePool g.B.Terms.fits) g.S.Site.files g.S.Site.may_leave g.S.Site.moment g.S.Site.images_since g.T.Trust.holds g.T.Trust.plan g.T.Trust.options g.T.Trust.run g.T.Trust.due c.args.desk.now c.args.held.now c.args.self.now of.0 of.1 of.2 of.3 c.requires.at) own)))
