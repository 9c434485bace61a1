use Rattle.std.proofs.Common.{true, false, is_none, ◌≡◌, ◌∙◌, None, ap, refl, rules, subst, sym}
use Rattle.flow_types.specs.Plans.{IsValid}
use Rattle.local_run.specs.Underway.{IsSurePool, HeldState}
use Rattle.local_run.proofs.StandsBegun.{Under, wants_on}
use Rattle.wq_run.proofs.Services.{met_none, met_then}
use Rattle.wq_run.proofs.Shares.{manned_on}
use Rattle.wq_run.proofs.Trusts.{of_goes}
use Rattle.local_run.specs.declared.halt.Halt.TheVariants as halts
use Rattle.wq_run.proofs.Duties.{due_halted, due_none, due_then}
use Rattle.wq_run.proofs.Calmly.{calm_halted, calm_none, calm_stopped, calm_then}
use Rattle.wq_run.proofs.serving.serve.Goals as goal
use Rattle.wq_run.proofs.serving.serve.Goals.{then-not-is_going-via-then-not-is_going, then-not-is_going-via-else-not-is_going+then-not-is_going-2}

pub loop-init : goal.loop-init
loop-init g c = record {
  served = λ first m. m;
  line = refl;
  listens = c.requires.listens;
  met = met_none;
  due = λ tells. due_none _ _;
  calm = λ asked tells is. calm_none;
  stays = λ P stands. stands;
}

pub returns-in_default-clause-served : goal.returns-in_default-clause-served
returns-in_default-clause-served g c first m =
    let n = c.loop.invariant.served first m in
    manned_on g.T.Terms.trust g.F.Commands.gives g.F.Commands.may_fail g.T.Terms.sources g.S.Site.tells g.T.Terms.kept (IsSurePool g.B.Terms.fits) g.S.Site.files g.S.Site.may_leave g.S.Site.moment g.S.Site.images_since first c.loop.desk c.loop.desk c.loop.held c.stop.new.self c.loop.pool.waiting c.loop.pool.waiting c.loop.pool.heard c.loop.pool.heard c.loop.company.seats n
    (subst (λ (h : HeldState). Under g.T.Terms.trust g.F.Commands.gives g.F.Commands.may_fail g.T.Terms.sources g.S.Site.tells g.T.Terms.kept (IsSurePool g.B.Terms.fits) g.S.Site.files g.S.Site.may_leave g.S.Site.moment g.S.Site.images_since n.away first c.loop.desk h.attempts c.loop.pool.waiting None c.loop.pool.heard h.halt) (sym c.stop.ensures)
    (wants_on g.T.Terms.trust g.F.Commands.gives g.F.Commands.may_fail g.T.Terms.sources g.S.Site.tells g.T.Terms.kept (IsSurePool g.B.Terms.fits) g.S.Site.files g.S.Site.may_leave g.S.Site.moment g.S.Site.images_since n.away first c.loop.desk c.loop.held.attempts c.loop.pool.waiting None c.loop.pool.heard c.loop.held.halt n.under))

pub wind_down-requires-clause-valid : goal.wind_down-requires-clause-valid
wind_down-requires-clause-valid g c κs within =
    let m = c.requires.served.manned in
    let n = c.loop.invariant.served c.requires.served.first m in
    subst IsValid (sym (n.under.goes.plan ∙ sym m.under.goes.plan)) c.requires.valid

pub wind_down-requires-clause-stands : goal.wind_down-requires-clause-stands
wind_down-requires-clause-stands g c κs within =
    let m = c.requires.served.manned in
    let n = c.loop.invariant.served c.requires.served.first m in
    subst (g.A.Admission.stands_for c.loop.admission) (sym (n.under.goes.plan ∙ sym m.under.goes.plan)) (c.loop.invariant.stays c.args.desk.now.plan c.requires.stands)

pub wind_down-requires-clause-of : goal.wind_down-requires-clause-of
wind_down-requires-clause-of g c κs within =
    let m = c.requires.served.manned in
    let n = c.loop.invariant.served c.requires.served.first m in
    of_goes g.T.Terms.trust g.F.Commands.gives g.F.Commands.may_fail g.T.Terms.sources g.S.Site.tells g.T.Terms.kept (IsSurePool g.B.Terms.fits) g.S.Site.files g.S.Site.may_leave g.S.Site.moment g.S.Site.images_since g.T.Trust.holds g.T.Trust.plan g.T.Trust.options g.T.Trust.run g.T.Trust.due m.away.links n.away.links c.requires.served.first c.args.desk.now c.loop.desk m.under.goes n.under.goes c.requires.of

pub wind_down-requires-clause-served : goal.wind_down-requires-clause-served
wind_down-requires-clause-served g c κs within =
    let m = c.requires.served.manned in
    let n = c.loop.invariant.served c.requires.served.first m in
    record { first = c.requires.served.first; manned = n }

pub turn-is_busy-requires-clause-valid : goal.turn-is_busy-requires-clause-valid
turn-is_busy-requires-clause-valid g c κs within =
    let m = c.requires.served.manned in
    let n = c.loop.invariant.served c.requires.served.first m in
    subst IsValid (sym (n.under.goes.plan ∙ sym m.under.goes.plan)) c.requires.valid

pub turn-is_busy-requires-clause-stands : goal.turn-is_busy-requires-clause-stands
turn-is_busy-requires-clause-stands g c κs within =
    let m = c.requires.served.manned in
    let n = c.loop.invariant.served c.requires.served.first m in
    subst (g.A.Admission.stands_for c.loop.admission) (sym (n.under.goes.plan ∙ sym m.under.goes.plan)) (c.loop.invariant.stays c.args.desk.now.plan c.requires.stands)

pub turn-is_busy-requires-clause-of : goal.turn-is_busy-requires-clause-of
turn-is_busy-requires-clause-of g c κs within =
    let m = c.requires.served.manned in
    let n = c.loop.invariant.served c.requires.served.first m in
    of_goes g.T.Terms.trust g.F.Commands.gives g.F.Commands.may_fail g.T.Terms.sources g.S.Site.tells g.T.Terms.kept (IsSurePool g.B.Terms.fits) g.S.Site.files g.S.Site.may_leave g.S.Site.moment g.S.Site.images_since g.T.Trust.holds g.T.Trust.plan g.T.Trust.options g.T.Trust.run g.T.Trust.due m.away.links n.away.links c.requires.served.first c.args.desk.now c.loop.desk m.under.goes n.under.goes c.requires.of

pub turn-is_busy-requires-clause-served : goal.turn-is_busy-requires-clause-served
turn-is_busy-requires-clause-served g c κs within =
    let m = c.requires.served.manned in
    let n = c.loop.invariant.served c.requires.served.first m in
    record { first = c.requires.served.first; manned = n }

pub loop-preserved-then-not-is_going : goal.loop-preserved-then-not-is_going
loop-preserved-then-not-is_going g c = record {
  served = λ first m. c.wind_down.ensures.served first (c.loop.invariant.served first m);
  line = c.wind_down.ensures.line ∙ c.loop.invariant.line;
  listens = c.wind_down.ensures.listens;
  met = met_then c.loop.invariant.met c.wind_down.ensures.met;
  due = λ tells. due_then _ _ (c.loop.invariant.due tells) (c.wind_down.ensures.due c.args.limit tells (λ none fine kept. elim c.then-not-is_going.branch [
    | then-not-is_going-via-then-not-is_going w ↦
        (let going : c.is_going.result ≡ true = c.is_going.ensures ∙ ap is_none none in search rules)
    | then-not-is_going-via-else-not-is_going+then-not-is_going-2 w ↦ w.is_going-else-not-is_going.ensures.stands (search rules) fine kept
  ]));
  calm = λ asked tells is.
      let stops : c.loop.held.halt ≡ None → c.loop.company.failed ≡ false → c.loop.company.lost ≡ false → ⊥ = λ none fine kept. elim c.then-not-is_going.branch [
        | then-not-is_going-via-then-not-is_going w ↦
            (let going : c.is_going.result ≡ true = c.is_going.ensures ∙ ap is_none none in search rules)
        | then-not-is_going-via-else-not-is_going+then-not-is_going-2 w ↦ w.is_going-else-not-is_going.ensures.stands (search rules) fine kept
      ] in
      calm_then (c.loop.invariant.calm asked tells is) (calm_stopped _ _ (c.wind_down.ensures.due c.args.limit tells stops).due stops);
  stays = λ P stands. c.wind_down.ensures.stays P (c.loop.invariant.stays P stands);
}

pub returns-then-wind_down : goal.returns-then-wind_down
returns-then-wind_down g c = record {
  served = λ first m. c.wind_down.ensures.served first (c.loop.invariant.served first m);
  line = c.wind_down.ensures.line ∙ c.loop.invariant.line;
  listens = c.wind_down.ensures.listens;
  met = met_then c.loop.invariant.met c.wind_down.ensures.met;
  heard = λ unwanting. c.wind_down.ensures.over (search rules);
  due = λ tells. due_then _ _ (c.loop.invariant.due tells) (c.wind_down.ensures.due c.args.limit tells (λ none fine kept. elim c.then-not-is_going.branch [
    | then-not-is_going-via-then-not-is_going w ↦
        (let going : c.is_going.result ≡ true = c.is_going.ensures ∙ ap is_none none in search rules)
    | then-not-is_going-via-else-not-is_going+then-not-is_going-2 w ↦ w.is_going-else-not-is_going.ensures.stands (search rules) fine kept
  ]));
  calm = λ asked tells is.
      let stops : c.loop.held.halt ≡ None → c.loop.company.failed ≡ false → c.loop.company.lost ≡ false → ⊥ = λ none fine kept. elim c.then-not-is_going.branch [
        | then-not-is_going-via-then-not-is_going w ↦
            (let going : c.is_going.result ≡ true = c.is_going.ensures ∙ ap is_none none in search rules)
        | then-not-is_going-via-else-not-is_going+then-not-is_going-2 w ↦ w.is_going-else-not-is_going.ensures.stands (search rules) fine kept
      ] in
      calm_then (c.loop.invariant.calm asked tells is) (calm_stopped _ _ (c.wind_down.ensures.due c.args.limit tells stops).due stops);
  stays = λ P stands. c.wind_down.ensures.stays P (c.loop.invariant.stays P stands);
}

pub loop-preserved : goal.loop-preserved
loop-preserved g c = record {
  served = λ first m. c.turn-is_busy.ensures.served first (c.loop.invariant.served first m);
  line = c.turn-is_busy.ensures.line ∙ c.loop.invariant.line;
  listens = c.turn-is_busy.ensures.listens;
  met = met_then c.loop.invariant.met c.turn-is_busy.ensures.met;
  due = λ tells. due_then _ _ (c.loop.invariant.due tells) (c.turn-is_busy.ensures.due tells);
  calm = λ asked tells is. calm_then (c.loop.invariant.calm asked tells is) (c.turn-is_busy.ensures.calm asked tells is);
  stays = λ P stands. c.turn-is_busy.ensures.stays P (c.loop.invariant.stays P stands);
}

pub returns-then-is_idle-clause-served : goal.returns-then-is_idle-clause-served
returns-then-is_idle-clause-served g c first m = c.turn-is_busy.ensures.served first (c.loop.invariant.served first m)

pub returns-then-is_idle-clause-met : goal.returns-then-is_idle-clause-met
returns-then-is_idle-clause-met g c = met_then c.loop.invariant.met c.turn-is_busy.ensures.met

pub returns-then-is_idle-clause-due : goal.returns-then-is_idle-clause-due
returns-then-is_idle-clause-due g c tells = due_then _ _ (c.loop.invariant.due tells) (c.turn-is_busy.ensures.due tells)

pub returns-in_default-clause-due : goal.returns-in_default-clause-due
returns-in_default-clause-due g c tells = due_then _ _ (c.loop.invariant.due tells) (due_halted _ _ halts.Memory (ap (λ (h : HeldState). h.halt) c.stop.ensures))

pub returns-then-is_idle-clause-calm : goal.returns-then-is_idle-clause-calm
returns-then-is_idle-clause-calm g c asked tells is = calm_then (c.loop.invariant.calm asked tells is) (c.turn-is_busy.ensures.calm asked tells is)

pub returns-in_default-clause-calm : goal.returns-in_default-clause-calm
returns-in_default-clause-calm g c asked tells is = calm_then (c.loop.invariant.calm asked tells is) (calm_halted halts.Memory (ap (λ (h : HeldState). h.halt) c.stop.ensures))
