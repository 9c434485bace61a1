use Rattle.std.proofs.Common.{List, [], sym, ap, arith, drop, refl, subst, suc, ℕ, ◌+◌, ◌∙◌, ◌≡◌}
use Rattle.local_run.specs.Underway.{IsSurePool}
use Rattle.wq_frames.specs.Streams.{Stream}
use Rattle.wq_run.proofs.Asks.{keeps_same, keeps_still}
use Rattle.wq_run.proofs.Shares.{keeps_then, leaves_then}
use Rattle.wq_run.specs.Trusted.{IsFair, MayAsk}
use Rattle.wq_run.proofs.Steps.{after_kept, after_then, at_then, none_of}
use Rattle.wq_run.proofs.Trusts.{of_seat}
use Rattle.wq_run.proofs.Fares.{fares_same, fares_still, fares_then, send_leaves}
use Rattle.std.proofs.Math.Seq.{drop-cons}
use Rattle.flow_types.specs.declared.numbers.FileNo.{FileNo}
use Rattle.peers.specs.Provides.{keys_of}
use Rattle.wq_run.specs.Calm.{IsSureOf, IsSureToAsk}
use Rattle.wq_run.proofs.Calm.{none_left, stays_left, stays_wide, well_same, well_then, wide_leave}
use Rattle.wq_run.proofs.Heards.{heard_fed, ok_with}
use Rattle.wq_run.proofs.seat.Seat.provide.Goals as goal

pub put-requires-clause-at : goal.put-requires-clause-at
put-requires-clause-at g c κs within = at_then g.T.Terms.trust g.F.Commands.gives g.F.Commands.may_fail g.T.Terms.sources g.S.Site.tells g.T.Terms.kept (IsSurePool g.B.Terms.fits) g.S.Site.files g.S.Site.may_leave g.S.Site.moment g.S.Site.images_since c.args.desk.now c.loop-file.desk c.args.held.now c.loop-file.held c.args.self.now c.loop-file.self c.requires.at c.loop-file.invariant.keeps

pub returns-in-Err : goal.returns-in-Err
returns-in-Err g c = record {
  keeps = leaves_then g.T.Terms.trust g.F.Commands.gives g.F.Commands.may_fail g.T.Terms.sources g.S.Site.tells g.T.Terms.kept (IsSurePool g.B.Terms.fits) g.S.Site.files g.S.Site.may_leave g.S.Site.moment g.S.Site.images_since c.args.desk.now c.loop-file.desk c.put.new.desk c.args.held.now c.loop-file.held c.put.new.held c.args.self.now c.loop-file.self c.put.new.self c.loop-file.invariant.keeps c.in-Err.ensures.keeps;
  fares = λ limit tells. fares_then (c.loop-file.invariant.fares limit tells) (c.in-Err.ensures.fares limit tells);
  calm = λ asked tells was none.
      let mid = c.loop-file.invariant.calm asked tells was ((c.in-Err.ensures.fares 0 tells).going none) in
      let now = c.in-Err.ensures.wants mid.1.tended.surely.surely none in
      (well_then _ _ _ mid.0 now.0, stays_left (wide_leave _ c.in-Err.leave now.1));
}

pub loop-file-preserved : goal.loop-file-preserved
loop-file-preserved g c = record {
  keeps = keeps_then g.T.Terms.trust g.F.Commands.gives g.F.Commands.may_fail g.T.Terms.sources g.S.Site.tells g.T.Terms.kept (IsSurePool g.B.Terms.fits) g.S.Site.files g.S.Site.may_leave g.S.Site.moment g.S.Site.images_since c.args.desk.now c.loop-file.desk c.put.new.desk c.args.held.now c.loop-file.held c.put.new.held c.args.self.now c.loop-file.self c.put.new.self c.loop-file.invariant.keeps c.in-Ok.ensures.keeps;
  asks = λ none held.
      let tells = (c.requires.asks held).spoken.honestly.0 in
      let mid = c.loop-file.invariant.asks ((c.in-Ok.ensures.fares 0 tells).going none) held in
      let now = c.in-Ok.ensures.asks c.args.task (keys_of c.args.task.run (drop (suc c.loop-file.file-index) c.args.files.now)) none held (subst (λ (xs : List FileNo). MayAsk g.T.Trust.holds g.F.Commands.gives g.F.Commands.may_fail g.L.Link.history (IsFair g.T.Trust.holds g.L.Link.tells g.L.Link.honest) g.T.Trust.plan g.T.Trust.run g.T.Trust.due c.loop-file.self c.args.task (keys_of c.args.task.run xs)) (drop-cons c.args.files.now c.loop-file.file-index (record { 0 = 0 }) (omega arith)) mid) in
      let next : suc c.loop-file.file-index ≡ c.loop-file.file-index + 1 = omega arith in
      subst (λ (n : ℕ). MayAsk g.T.Trust.holds g.F.Commands.gives g.F.Commands.may_fail g.L.Link.history (IsFair g.T.Trust.holds g.L.Link.tells g.L.Link.honest) g.T.Trust.plan g.T.Trust.run g.T.Trust.due c.put.new.self c.args.task (keys_of c.args.task.run (drop n c.args.files.now))) next now;
  fares = λ limit tells. fares_then (c.loop-file.invariant.fares limit tells) (c.in-Ok.ensures.fares limit tells);
  calm = λ asked tells was none.
      let mid = c.loop-file.invariant.calm asked tells was ((c.in-Ok.ensures.fares 0 tells).going none) in
      let now = c.in-Ok.ensures.calm asked c.args.task (keys_of c.args.task.run (drop (suc c.loop-file.file-index) c.args.files.now)) tells (subst (λ (xs : List FileNo). IsSureToAsk g.F.Commands.gives g.F.Commands.may_fail g.L.Link.history (IsSureOf g.L.Link.sure g.L.Link.offers asked) c.loop-file.self c.args.task (keys_of c.args.task.run xs)) (drop-cons c.args.files.now c.loop-file.file-index (record { 0 = 0 }) (omega arith)) mid.1) none in
      let next : suc c.loop-file.file-index ≡ c.loop-file.file-index + 1 = omega arith in
      (well_then _ _ _ mid.0 now.0, subst (λ (n : ℕ). IsSureToAsk g.F.Commands.gives g.F.Commands.may_fail g.L.Link.history (IsSureOf g.L.Link.sure g.L.Link.offers asked) c.put.new.self c.args.task (keys_of c.args.task.run (drop n c.args.files.now))) next now.1.stays);
}

pub returns : goal.returns
returns g c = record {
  keeps = after_then g.T.Terms.trust g.F.Commands.gives g.F.Commands.may_fail g.T.Terms.sources g.S.Site.tells g.T.Terms.kept (IsSurePool g.B.Terms.fits) g.S.Site.files g.S.Site.may_leave g.S.Site.moment g.S.Site.images_since c.args.desk.now c.loop-file.desk c.loop-file.desk c.args.held.now c.loop-file.held c.loop-file.held c.args.self.now c.loop-file.self c.ask.new.self c.ask.result c.loop-file.invariant.keeps
      (after_kept g.T.Terms.trust g.F.Commands.gives g.F.Commands.may_fail g.T.Terms.sources g.S.Site.tells g.T.Terms.kept (IsSurePool g.B.Terms.fits) g.S.Site.files g.S.Site.may_leave g.S.Site.moment g.S.Site.images_since c.loop-file.desk c.loop-file.desk c.loop-file.held c.loop-file.held c.loop-file.self c.ask.new.self c.ask.result
      (keeps_still g.T.Terms.trust g.F.Commands.gives g.F.Commands.may_fail g.T.Terms.sources g.S.Site.tells g.T.Terms.kept (IsSurePool g.B.Terms.fits) g.S.Site.files g.S.Site.may_leave g.S.Site.moment g.S.Site.images_since c.loop-file.desk c.loop-file.desk c.loop-file.held c.loop-file.held c.loop-file.self c.ask.new.self c.ask.ensures.link c.ask.ensures.attempts c.ask.ensures.session (λ was. ap (λ (x : Stream). x.stop) c.ask.ensures.feed ∙ was) (λ away first waiting heard u. u)
      (at_then g.T.Terms.trust g.F.Commands.gives g.F.Commands.may_fail g.T.Terms.sources g.S.Site.tells g.T.Terms.kept (IsSurePool g.B.Terms.fits) g.S.Site.files g.S.Site.may_leave g.S.Site.moment g.S.Site.images_since c.args.desk.now c.loop-file.desk c.args.held.now c.loop-file.held c.args.self.now c.loop-file.self c.requires.at c.loop-file.invariant.keeps)));
  fares = λ limit tells. fares_then (c.loop-file.invariant.fares limit tells)
      (fares_still c.ask.ensures.link (c.ask.ensures.comes tells) refl refl
      (send_leaves g.F.Commands.gives g.F.Commands.may_fail g.L.Link.history g.L.Link.count g.L.Link.idle_count g.L.Link.is_closed limit c.loop-file.desk.moves (g.L.Link.count c.loop-file.self.peer.way) c.ask.new.self c.ask.result c.ask.ensures.cause)
      (ok_with c.ask.result _ (heard_fed g.L.Link.history c.loop-file.self.peer c.ask.new.self.peer (c.ask.ensures.comes tells) c.ask.ensures.feed)));
  calm = λ asked tells was none.
      let mid = c.loop-file.invariant.calm asked tells was none in
      let over : drop c.loop-file.file-index c.args.files.now ≡ [] = none_left c.args.files.now c.loop-file.file-index (omega arith) in
      (mid.0, stays_wide c.ask.result (c.ask.ensures.calm asked tells (subst (λ (xs : List FileNo). IsSureToAsk g.F.Commands.gives g.F.Commands.may_fail g.L.Link.history (IsSureOf g.L.Link.sure g.L.Link.offers asked) c.loop-file.self c.args.task (keys_of c.args.task.run xs)) over mid.1)));
}

pub put-requires-clause-of : goal.put-requires-clause-of
put-requires-clause-of g c κs within = of_seat g.T.Terms.trust g.F.Commands.gives g.F.Commands.may_fail g.T.Terms.sources g.S.Site.tells g.T.Terms.kept (IsSurePool g.B.Terms.fits) g.S.Site.files g.S.Site.may_leave g.S.Site.moment g.S.Site.images_since g.T.Trust.holds g.T.Trust.plan g.T.Trust.options g.T.Trust.run g.T.Trust.due c.args.desk.now c.loop-file.desk c.args.held.now c.loop-file.held c.args.self.now c.loop-file.self c.requires.at c.loop-file.invariant.keeps c.requires.of

pub loop-file-init : goal.loop-file-init
loop-file-init g c = record { keeps = keeps_same g.T.Terms.trust g.F.Commands.gives g.F.Commands.may_fail g.T.Terms.sources g.S.Site.tells g.T.Terms.kept (IsSurePool g.B.Terms.fits) g.S.Site.files g.S.Site.may_leave g.S.Site.moment g.S.Site.images_since c.args.desk.now c.args.held.now c.args.self.now; asks = λ none held. c.requires.asks held; fares = λ limit tells. fares_same; calm = λ asked tells was none. (well_same _ _ refl, was) }

pub ask-requires-clause-asks : goal.ask-requires-clause-asks
ask-requires-clause-asks g c κs within held =
    let over : drop c.loop-file.file-index c.args.files.now ≡ [] = none_left c.args.files.now c.loop-file.file-index (omega arith) in
    subst (λ (xs : List FileNo). MayAsk g.T.Trust.holds g.F.Commands.gives g.F.Commands.may_fail g.L.Link.history (IsFair g.T.Trust.holds g.L.Link.tells g.L.Link.honest) g.T.Trust.plan g.T.Trust.run g.T.Trust.due c.loop-file.self c.args.task (keys_of c.args.task.run xs)) over (c.loop-file.invariant.asks (none_of c.loop-file.held.halt (sym c.if-not-is_going.ensures)) held)
