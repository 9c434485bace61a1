use Rattle.std.proofs.Common.{Bool, Err, Result, inl, refl, rules, subst, sym, true≢false, ◌∙◌, ap}
use Rattle.flow_types.specs.Plans.{IsValid}
use Rattle.local_run.specs.declared.halt.Halt.TheVariants as halts
use Rattle.local_run.specs.Underway.{HeldState, IsSurePool}
use Rattle.wq_run.proofs.Asks.{keeps_still, keeps_want}
use Rattle.wq_run.proofs.Shares.{keeps_then, leaves_then, may_leave_it}
use Rattle.wq_run.proofs.Steps.{at_then, plan_kept}
use Rattle.wq_run.proofs.Trusts.{of_seat}
use Rattle.wq_run.proofs.Fares.{fares_ok, fares_still, fares_stopped_same, fares_then, listen_leaves}
use Rattle.peers.specs.declared.leave.Leave.{Leave}
use Rattle.wq_run.specs.declared.seat.hearing.Look.{Look}
use Rattle.links.specs.Honesty.{OwesNothing}
use Rattle.links.specs.Passings.{received_in, sent_in}
use Rattle.wq_run.proofs.Calm.{fares_halted, fares_quiet, stays_err, stays_ok, stays_wide, well_same, well_then}
use Rattle.wq_run.proofs.seat.Seat.serve.Goals as goal

pub returns-in-Err : goal.returns-in-Err
returns-in-Err g c = record {
  keeps = may_leave_it g.T.Terms.trust g.F.Commands.gives g.F.Commands.may_fail g.T.Terms.sources g.S.Site.tells g.T.Terms.kept (IsSurePool g.B.Terms.fits) g.S.Site.files g.S.Site.may_leave g.S.Site.moment g.S.Site.images_since c.args.desk.now c.args.desk.now c.args.held.now c.args.held.now c.args.self.now c.listen.new.self (keeps_still g.T.Terms.trust g.F.Commands.gives g.F.Commands.may_fail g.T.Terms.sources g.S.Site.tells g.T.Terms.kept (IsSurePool g.B.Terms.fits) g.S.Site.files g.S.Site.may_leave g.S.Site.moment g.S.Site.images_since c.args.desk.now c.args.desk.now c.args.held.now c.args.held.now c.args.self.now c.listen.new.self c.listen.ensures.link c.listen.ensures.attempts c.listen.ensures.session c.listen.ensures.going (λ away first waiting heard u. u) c.requires.at);
  fares = λ tells. fares_still c.listen.ensures.link (c.listen.ensures.comes tells) refl refl (listen_leaves g.F.Commands.gives g.F.Commands.may_fail g.L.Link.history g.L.Link.count g.L.Link.idle_count g.L.Link.is_closed c.args.limit c.args.desk.now.moves (g.L.Link.count c.args.self.now.peer.way) c.listen.new.self (let r : Result Look Leave = Err c.in-Err.leave in r) c.in-Err.ensures.leaves) tt;
  calm = λ asked tells was. fares_quiet refl (stays_wide (let r : Result Bool Leave = Err c.in-Err.leave in r) (stays_err c.in-Err.leave (c.in-Err.ensures.calm asked tells was)));
}

pub loop-init : goal.loop-init
loop-init g c = record {
  keeps = keeps_still g.T.Terms.trust g.F.Commands.gives g.F.Commands.may_fail g.T.Terms.sources g.S.Site.tells g.T.Terms.kept (IsSurePool g.B.Terms.fits) g.S.Site.files g.S.Site.may_leave g.S.Site.moment g.S.Site.images_since c.args.desk.now c.args.desk.now c.args.held.now c.args.held.now c.args.self.now c.listen.new.self c.listen.ensures.link c.listen.ensures.attempts c.listen.ensures.session c.listen.ensures.going (λ away first waiting heard u. u) c.requires.at;
  fares = λ tells. fares_still c.listen.ensures.link (c.listen.ensures.comes tells) refl refl tt (c.in-Ok.ensures.heard tells (c.is_ready.ensures (search rules) (inl tells)));
  calm = λ asked tells was none. (well_same _ _ refl, (c.in-Ok.ensures.calm asked tells was).stays, λ idle. c.in-Ok.ensures.owes tells was.tended.surely.surely idle);
}

pub hear-requires-clause-valid : goal.hear-requires-clause-valid
hear-requires-clause-valid g c κs within =
    subst IsValid (sym (plan_kept g.T.Terms.trust g.F.Commands.gives g.F.Commands.may_fail g.T.Terms.sources g.S.Site.tells g.T.Terms.kept (IsSurePool g.B.Terms.fits) g.S.Site.files g.S.Site.may_leave g.S.Site.moment g.S.Site.images_since c.args.desk.now c.loop.desk c.args.held.now c.loop.held c.args.self.now c.loop.self c.requires.at c.loop.invariant.keeps)) c.requires.valid

pub hear-requires-clause-of : goal.hear-requires-clause-of
hear-requires-clause-of g c κs within = of_seat g.T.Terms.trust g.F.Commands.gives g.F.Commands.may_fail g.T.Terms.sources g.S.Site.tells g.T.Terms.kept (IsSurePool g.B.Terms.fits) g.S.Site.files g.S.Site.may_leave g.S.Site.moment g.S.Site.images_since g.T.Trust.holds g.T.Trust.plan g.T.Trust.options g.T.Trust.run g.T.Trust.due c.args.desk.now c.loop.desk c.args.held.now c.loop.held c.args.self.now c.loop.self c.requires.at c.loop.invariant.keeps c.requires.of

pub hear-requires-clause-at : goal.hear-requires-clause-at
hear-requires-clause-at g c κs within = at_then g.T.Terms.trust g.F.Commands.gives g.F.Commands.may_fail g.T.Terms.sources g.S.Site.tells g.T.Terms.kept (IsSurePool g.B.Terms.fits) g.S.Site.files g.S.Site.may_leave g.S.Site.moment g.S.Site.images_since c.args.desk.now c.loop.desk c.args.held.now c.loop.held c.args.self.now c.loop.self c.requires.at c.loop.invariant.keeps

pub loop-preserved : goal.loop-preserved
loop-preserved g c = record {
  keeps = keeps_then g.T.Terms.trust g.F.Commands.gives g.F.Commands.may_fail g.T.Terms.sources g.S.Site.tells g.T.Terms.kept (IsSurePool g.B.Terms.fits) g.S.Site.files g.S.Site.may_leave g.S.Site.moment g.S.Site.images_since c.args.desk.now c.loop.desk c.hear.new.desk c.args.held.now c.loop.held c.hear.new.held c.args.self.now c.loop.self c.hear.new.self c.loop.invariant.keeps c.in-Ok-true.ensures.keeps;
  fares = λ tells. fares_ok (fares_then (c.loop.invariant.fares tells) (c.in-Ok-true.ensures.fares c.args.limit tells));
  calm = λ asked tells was none. (let mid = c.loop.invariant.calm asked tells was ((c.hear.ensures.fares c.args.limit tells).going none) in let now = c.in-Ok-true.ensures.calm asked tells mid.1 none in (well_then _ _ _ mid.0 now.0, now.1.stays.0, λ idle. subst (λ (w : g.row.L.Denot). OwesNothing (sent_in (g.L.Link.history w)) (received_in (g.L.Link.history w))) (sym now.1.stays.1) (mid.2 idle)));
}

pub returns-in-Err-hear : goal.returns-in-Err-hear
returns-in-Err-hear g c = record {
  keeps = leaves_then g.T.Terms.trust g.F.Commands.gives g.F.Commands.may_fail g.T.Terms.sources g.S.Site.tells g.T.Terms.kept (IsSurePool g.B.Terms.fits) g.S.Site.files g.S.Site.may_leave g.S.Site.moment g.S.Site.images_since c.args.desk.now c.loop.desk c.hear.new.desk c.args.held.now c.loop.held c.hear.new.held c.args.self.now c.loop.self c.hear.new.self c.loop.invariant.keeps c.in-Err-hear.ensures.keeps;
  fares = λ tells. fares_then (c.loop.invariant.fares tells) (c.in-Err-hear.ensures.fares c.args.limit tells);
  calm = λ asked tells was none. (let mid = c.loop.invariant.calm asked tells was ((c.hear.ensures.fares c.args.limit tells).going none) in let now = c.in-Err-hear.ensures.calm asked tells mid.1 none in (well_then _ _ _ mid.0 now.0, stays_err c.in-Err-hear.leave now.1));
}

pub returns-in-Ok-false : goal.returns-in-Ok-false
returns-in-Ok-false g c = record {
  keeps = keeps_then g.T.Terms.trust g.F.Commands.gives g.F.Commands.may_fail g.T.Terms.sources g.S.Site.tells g.T.Terms.kept (IsSurePool g.B.Terms.fits) g.S.Site.files g.S.Site.may_leave g.S.Site.moment g.S.Site.images_since c.args.desk.now c.loop.desk c.hear.new.desk c.args.held.now c.loop.held c.hear.new.held c.args.self.now c.loop.self c.hear.new.self c.loop.invariant.keeps c.in-Ok-false.ensures.keeps;
  fares = λ tells. fares_ok (fares_then (c.loop.invariant.fares tells) (c.in-Ok-false.ensures.fares c.args.limit tells));
  calm = λ asked tells was none. (let mid = c.loop.invariant.calm asked tells was ((c.hear.ensures.fares c.args.limit tells).going none) in let now = c.in-Ok-false.ensures.calm asked tells mid.1 none in (well_then _ _ _ mid.0 now.0, stays_ok now.1.stays.0));
}

pub returns-then-len-attempts : goal.returns-then-len-attempts
returns-then-len-attempts g c = record {
  keeps = keeps_then g.T.Terms.trust g.F.Commands.gives g.F.Commands.may_fail g.T.Terms.sources g.S.Site.tells g.T.Terms.kept (IsSurePool g.B.Terms.fits) g.S.Site.files g.S.Site.may_leave g.S.Site.moment g.S.Site.images_since c.args.desk.now c.loop.desk c.hear.new.desk c.args.held.now c.loop.held c.hear.new.held c.args.self.now c.loop.self c.hear.new.self c.loop.invariant.keeps c.in-Ok-true.ensures.keeps;
  fares = λ tells. fares_ok (fares_then (c.loop.invariant.fares tells) (c.in-Ok-true.ensures.fares c.args.limit tells));
  calm = λ asked tells was none. (let mid = c.loop.invariant.calm asked tells was ((c.hear.ensures.fares c.args.limit tells).going none) in let now = c.in-Ok-true.ensures.calm asked tells mid.1 none in (well_then _ _ _ mid.0 now.0, stays_ok now.1.stays.0));
}

pub returns-then-is_silent : goal.returns-then-is_silent
returns-then-is_silent g c = record {
  keeps = may_leave_it g.T.Terms.trust g.F.Commands.gives g.F.Commands.may_fail g.T.Terms.sources g.S.Site.tells g.T.Terms.kept (IsSurePool g.B.Terms.fits) g.S.Site.files g.S.Site.may_leave g.S.Site.moment g.S.Site.images_since c.args.desk.now c.hear.new.desk c.args.held.now c.hear.new.held c.args.self.now c.hear.new.self
      (keeps_then g.T.Terms.trust g.F.Commands.gives g.F.Commands.may_fail g.T.Terms.sources g.S.Site.tells g.T.Terms.kept (IsSurePool g.B.Terms.fits) g.S.Site.files g.S.Site.may_leave g.S.Site.moment g.S.Site.images_since c.args.desk.now c.loop.desk c.hear.new.desk c.args.held.now c.loop.held c.hear.new.held c.args.self.now c.loop.self c.hear.new.self c.loop.invariant.keeps c.in-Ok-false.ensures.keeps);
  fares = λ tells.
      let fares = fares_then (c.loop.invariant.fares tells) (c.in-Ok-false.ensures.fares c.args.limit tells) in
      record {
        link = fares.link;
        comes = fares.comes;
        going = fares.going;
        loses = fares.loses;
        leaves = λ none. (let rests = c.in-Ok-false.ensures.rests c.in-Ok-false.field-0-test none in inl (c.is_silent.ensures.ill c.if-is_silent.true tells rests.0 (rests.1 (inl tells))));
        counts = λ none n was. let is = fares.counts none n was in record { now = is.now; came = is.came; heard = tt; enough = is.enough };
        states = fares.states;
      };
  calm = λ asked tells was none. (let mid = c.loop.invariant.calm asked tells was ((c.hear.ensures.fares c.args.limit tells).going none) in let now = c.in-Ok-false.ensures.calm asked tells mid.1 none in
      let rests = c.in-Ok-false.ensures.rests c.in-Ok-false.field-0-test none in
      absurd (true≢false (sym c.if-is_silent.true ∙ c.is_silent.ensures.calm asked tells now.1.stays.0 rests.0 (λ idle. subst (λ (w : g.row.L.Denot). OwesNothing (sent_in (g.L.Link.history w)) (received_in (g.L.Link.history w))) (sym now.1.stays.1) (mid.2 idle)))));
}

pub returns-then-not-is_ready : goal.returns-then-not-is_ready
returns-then-not-is_ready g c = record {
  keeps = keeps_want g.T.Terms.trust g.F.Commands.gives g.F.Commands.may_fail g.T.Terms.sources g.S.Site.tells g.T.Terms.kept (IsSurePool g.B.Terms.fits) g.S.Site.files g.S.Site.may_leave g.S.Site.moment g.S.Site.images_since c.args.desk.now c.args.held.now c.stop.new.self c.args.self.now c.stop.ensures c.requires.at;
  fares = λ tells. fares_stopped_same halts.Memory (ap (λ (h : HeldState). h.halt) c.stop.ensures);
  calm = λ asked tells was. fares_halted halts.Memory (ap (λ (h : HeldState). h.halt) c.stop.ensures);
}

pub returns-clause-fares : goal.returns-clause-fares
returns-clause-fares g c tells = fares_ok (c.loop.invariant.fares tells)

pub returns-clause-calm : goal.returns-clause-calm
returns-clause-calm g c asked tells was none = (let mid = c.loop.invariant.calm asked tells was none in (mid.0, stays_ok mid.1))
