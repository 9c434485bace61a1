use Rattle.std.proofs.Common.{◌≡◌, ◌∙◌, ◌<◌, ◌∷◌, ◌++◌, [], None, Ok, Result, ap, refl, subst, sym, true}
use Rattle.std.proofs.lemmas.List.{append_assoc}
use Rattle.flow_types.specs.declared.numbers.LinkNo.{LinkNo}
use Rattle.run_history.specs.Links.{is_live}
use Rattle.desk.specs.declared.answers.Claim.{Claim}
use Rattle.flow_types.specs.Plans.{IsValid}
use Rattle.local_run.specs.declared.halt.Halt.{Halt}
use Rattle.local_run.specs.Beyond.{IsClaimed, claimed_by}
use Rattle.local_run.specs.Underway.{HeldState, IsSurePool, halt_after}
use Rattle.wq_run.specs.Seats.{seat_with}
use Rattle.wq_run.proofs.Asks.{begin_at, begin_fresh, begin_keeps, keeps_still}
use Rattle.wq_run.proofs.Shares.{keeps_then, leaves_then}
use Rattle.wq_run.proofs.Steps.{begins_by, rests_by}
use Rattle.wq_run.proofs.Trusts.{of_goes}
use Rattle.wq_run.proofs.Earned.{unlinked_by}
use Rattle.wq_run.proofs.Fares.{fares_behind, fares_err, fares_ok, fares_spared_same, fares_stopped_same, same_way}
use Rattle.wq_run.proofs.Calm.{claims_well, fares_after, fares_halted, stays_err, stays_ok}
use Rattle.wq_run.proofs.seat.Seat.claim.Goals as goal

pub claim_away-requires-clause-beyond : goal.claim_away-requires-clause-beyond
claim_away-requires-clause-beyond g c κs within = subst (λ (k : LinkNo). 0 < k.0) (sym c.link.ensures) c.requires.at.at.seat.placed.beyond

pub claim_away-requires-clause-lives : goal.claim_away-requires-clause-lives
claim_away-requires-clause-lives g c κs within = subst (λ (k : LinkNo). is_live c.args.desk.now.options c.args.desk.now.moves k.0 ≡ true) (sym c.link.ensures) c.requires.at.at.seat.placed.lives

pub hand_out-requires-clause-valid : goal.hand_out-requires-clause-valid
hand_out-requires-clause-valid g c κs within =
    let is = c.requires.at in
    let next = (begins_by g.T.Terms.trust g.F.Commands.gives g.F.Commands.may_fail g.T.Terms.sources g.S.Site.tells g.T.Terms.kept (IsSurePool g.B.Terms.fits) g.S.Site.files g.S.Site.may_leave g.S.Site.moment g.S.Site.images_since c.args.desk.now c.claim_away.new.desk c.args.held.now c.in-Ok-Taken.attempt c.claim_away.result c.requires.going (c.in-Ok-Taken.is ∙ ap (λ (x : Claim). let r : Result Claim Halt = Ok x in r) c.in-Ok-Taken.field-0-is) (λ away front back first xs waiting heard are u. c.claim_away.ensures.underway away front back first xs waiting heard are u)) is.at.away (is.front ++ c.args.self.now.attempts) is.back is.first is.waiting is.heard (is.at.are ∙ sym (append_assoc is.front c.args.self.now.attempts is.back)) is.at.under in
    subst IsValid (sym (next.goes.plan ∙ sym is.at.under.goes.plan)) c.requires.valid

pub hand_out-requires-clause-of : goal.hand_out-requires-clause-of
hand_out-requires-clause-of g c κs within =
    let is = c.requires.at in
    let next = (begins_by g.T.Terms.trust g.F.Commands.gives g.F.Commands.may_fail g.T.Terms.sources g.S.Site.tells g.T.Terms.kept (IsSurePool g.B.Terms.fits) g.S.Site.files g.S.Site.may_leave g.S.Site.moment g.S.Site.images_since c.args.desk.now c.claim_away.new.desk c.args.held.now c.in-Ok-Taken.attempt c.claim_away.result c.requires.going (c.in-Ok-Taken.is ∙ ap (λ (x : Claim). let r : Result Claim Halt = Ok x in r) c.in-Ok-Taken.field-0-is) (λ away front back first xs waiting heard are u. c.claim_away.ensures.underway away front back first xs waiting heard are u)) is.at.away (is.front ++ c.args.self.now.attempts) is.back is.first is.waiting is.heard (is.at.are ∙ sym (append_assoc is.front c.args.self.now.attempts is.back)) is.at.under in
    of_goes g.T.Terms.trust g.F.Commands.gives g.F.Commands.may_fail g.T.Terms.sources g.S.Site.tells g.T.Terms.kept (IsSurePool g.B.Terms.fits) g.S.Site.files g.S.Site.may_leave g.S.Site.moment g.S.Site.images_since g.T.Trust.holds g.T.Trust.plan g.T.Trust.options g.T.Trust.run g.T.Trust.due is.at.away.links is.at.away.links is.first c.args.desk.now c.claim_away.new.desk is.at.under.goes next.goes c.requires.of

pub hand_out-requires-clause-fresh : goal.hand_out-requires-clause-fresh
hand_out-requires-clause-fresh g c κs within =
    begin_fresh g.T.Terms.trust g.F.Commands.gives g.F.Commands.may_fail g.T.Terms.sources g.S.Site.tells g.T.Terms.kept (IsSurePool g.B.Terms.fits) g.S.Site.files g.S.Site.may_leave g.S.Site.moment g.S.Site.images_since c.args.desk.now c.claim_away.new.desk c.args.held.now c.args.self.now c.in-Ok-Taken.attempt ((subst (IsClaimed g.A.Admission.admitted c.claim_away.new.desk c.link.result) c.in-Ok-Taken.field-0-is c.in-Ok-Taken.ensures.told.1).0 ∙ c.link.ensures) (begins_by g.T.Terms.trust g.F.Commands.gives g.F.Commands.may_fail g.T.Terms.sources g.S.Site.tells g.T.Terms.kept (IsSurePool g.B.Terms.fits) g.S.Site.files g.S.Site.may_leave g.S.Site.moment g.S.Site.images_since c.args.desk.now c.claim_away.new.desk c.args.held.now c.in-Ok-Taken.attempt c.claim_away.result c.requires.going (c.in-Ok-Taken.is ∙ ap (λ (x : Claim). let r : Result Claim Halt = Ok x in r) c.in-Ok-Taken.field-0-is) (λ away front back first xs waiting heard are u. c.claim_away.ensures.underway away front back first xs waiting heard are u)) c.requires.at

pub hand_out-requires-clause-at : goal.hand_out-requires-clause-at
hand_out-requires-clause-at g c κs within =
    begin_at g.T.Terms.trust g.F.Commands.gives g.F.Commands.may_fail g.T.Terms.sources g.S.Site.tells g.T.Terms.kept (IsSurePool g.B.Terms.fits) g.S.Site.files g.S.Site.may_leave g.S.Site.moment g.S.Site.images_since c.args.desk.now c.claim_away.new.desk c.args.held.now c.args.self.now c.in-Ok-Taken.attempt ((subst (IsClaimed g.A.Admission.admitted c.claim_away.new.desk c.link.result) c.in-Ok-Taken.field-0-is c.in-Ok-Taken.ensures.told.1).0 ∙ c.link.ensures) (begins_by g.T.Terms.trust g.F.Commands.gives g.F.Commands.may_fail g.T.Terms.sources g.S.Site.tells g.T.Terms.kept (IsSurePool g.B.Terms.fits) g.S.Site.files g.S.Site.may_leave g.S.Site.moment g.S.Site.images_since c.args.desk.now c.claim_away.new.desk c.args.held.now c.in-Ok-Taken.attempt c.claim_away.result c.requires.going (c.in-Ok-Taken.is ∙ ap (λ (x : Claim). let r : Result Claim Halt = Ok x in r) c.in-Ok-Taken.field-0-is) (λ away front back first xs waiting heard are u. c.claim_away.ensures.underway away front back first xs waiting heard are u)) c.requires.at

pub returns-in-Ok : goal.returns-in-Ok
returns-in-Ok g c =
    let begins = (begins_by g.T.Terms.trust g.F.Commands.gives g.F.Commands.may_fail g.T.Terms.sources g.S.Site.tells g.T.Terms.kept (IsSurePool g.B.Terms.fits) g.S.Site.files g.S.Site.may_leave g.S.Site.moment g.S.Site.images_since c.args.desk.now c.claim_away.new.desk c.args.held.now c.in-Ok-Taken.attempt c.claim_away.result c.requires.going (c.in-Ok-Taken.is ∙ ap (λ (x : Claim). let r : Result Claim Halt = Ok x in r) c.in-Ok-Taken.field-0-is) (λ away front back first xs waiting heard are u. c.claim_away.ensures.underway away front back first xs waiting heard are u)) in
    let is = c.requires.at in
    let unlinked = (unlinked_by g.T.Terms.trust g.F.Commands.gives g.F.Commands.may_fail g.T.Terms.sources g.S.Site.tells g.S.Site.files g.S.Site.may_leave g.S.Site.moment g.S.Site.images_since is.at.away.links is.first c.args.desk.now c.claim_away.new.desk is.at.under.goes
    (begins is.at.away (is.front ++ c.args.self.now.attempts) is.back is.first is.waiting is.heard (is.at.are ∙ sym (append_assoc is.front c.args.self.now.attempts is.back)) is.at.under).goes) in
    record {
      keeps = keeps_then g.T.Terms.trust g.F.Commands.gives g.F.Commands.may_fail g.T.Terms.sources g.S.Site.tells g.T.Terms.kept (IsSurePool g.B.Terms.fits) g.S.Site.files g.S.Site.may_leave g.S.Site.moment g.S.Site.images_since c.args.desk.now c.claim_away.new.desk c.hand_out.new.desk c.args.held.now c.args.held.now c.hand_out.new.held c.args.self.now (seat_with c.args.self.now (c.args.self.now.attempts ++ (c.in-Ok-Taken.attempt ∷ []))) c.hand_out.new.self
          (begin_keeps g.T.Terms.trust g.F.Commands.gives g.F.Commands.may_fail g.T.Terms.sources g.S.Site.tells g.T.Terms.kept (IsSurePool g.B.Terms.fits) g.S.Site.files g.S.Site.may_leave g.S.Site.moment g.S.Site.images_since c.args.desk.now c.claim_away.new.desk c.args.held.now c.args.self.now c.in-Ok-Taken.attempt ((subst (IsClaimed g.A.Admission.admitted c.claim_away.new.desk c.link.result) c.in-Ok-Taken.field-0-is c.in-Ok-Taken.ensures.told.1).0 ∙ c.link.ensures) begins c.requires.at)
          c.in-Ok.ensures.keeps;
      fares = λ limit tells. fares_ok (fares_behind refl (same_way g.L.Link.history c.args.self.now c.args.self.now refl) c.in-Ok-Taken.ensures.spares unlinked (λ n was. was) (c.in-Ok.ensures.fares limit tells));
      calm = λ asked tells was. fares_after (claims_well g.T.Terms.trust g.F.Commands.gives g.F.Commands.may_fail g.T.Terms.sources g.S.Site.tells g.T.Terms.kept (IsSurePool g.B.Terms.fits) g.S.Site.files g.S.Site.may_leave g.S.Site.moment g.S.Site.images_since c.args.desk.now c.claim_away.new.desk c.args.held.now c.args.self.now c.claim_away.result c.requires.going (ap (λ (x : Result Claim Halt). halt_after x None) c.in-Ok-Taken.is) c.in-Ok-Taken.ensures.spares (λ away front back first xs waiting heard are u. c.claim_away.ensures.underway away front back first xs waiting heard are u) c.requires.at) (λ none. (let now = c.in-Ok.ensures.calm asked tells was none in (now.0, stays_ok now.1.stays)));
      stays = c.claim_away.ensures.stays;
    }

pub returns-in-Err-hand_out : goal.returns-in-Err-hand_out
returns-in-Err-hand_out g c =
    let begins = (begins_by g.T.Terms.trust g.F.Commands.gives g.F.Commands.may_fail g.T.Terms.sources g.S.Site.tells g.T.Terms.kept (IsSurePool g.B.Terms.fits) g.S.Site.files g.S.Site.may_leave g.S.Site.moment g.S.Site.images_since c.args.desk.now c.claim_away.new.desk c.args.held.now c.in-Ok-Taken.attempt c.claim_away.result c.requires.going (c.in-Ok-Taken.is ∙ ap (λ (x : Claim). let r : Result Claim Halt = Ok x in r) c.in-Ok-Taken.field-0-is) (λ away front back first xs waiting heard are u. c.claim_away.ensures.underway away front back first xs waiting heard are u)) in
    let is = c.requires.at in
    let unlinked = (unlinked_by g.T.Terms.trust g.F.Commands.gives g.F.Commands.may_fail g.T.Terms.sources g.S.Site.tells g.S.Site.files g.S.Site.may_leave g.S.Site.moment g.S.Site.images_since is.at.away.links is.first c.args.desk.now c.claim_away.new.desk is.at.under.goes
    (begins is.at.away (is.front ++ c.args.self.now.attempts) is.back is.first is.waiting is.heard (is.at.are ∙ sym (append_assoc is.front c.args.self.now.attempts is.back)) is.at.under).goes) in
    record {
      keeps = leaves_then g.T.Terms.trust g.F.Commands.gives g.F.Commands.may_fail g.T.Terms.sources g.S.Site.tells g.T.Terms.kept (IsSurePool g.B.Terms.fits) g.S.Site.files g.S.Site.may_leave g.S.Site.moment g.S.Site.images_since c.args.desk.now c.claim_away.new.desk c.hand_out.new.desk c.args.held.now c.args.held.now c.hand_out.new.held c.args.self.now (seat_with c.args.self.now (c.args.self.now.attempts ++ (c.in-Ok-Taken.attempt ∷ []))) c.hand_out.new.self
          (begin_keeps g.T.Terms.trust g.F.Commands.gives g.F.Commands.may_fail g.T.Terms.sources g.S.Site.tells g.T.Terms.kept (IsSurePool g.B.Terms.fits) g.S.Site.files g.S.Site.may_leave g.S.Site.moment g.S.Site.images_since c.args.desk.now c.claim_away.new.desk c.args.held.now c.args.self.now c.in-Ok-Taken.attempt ((subst (IsClaimed g.A.Admission.admitted c.claim_away.new.desk c.link.result) c.in-Ok-Taken.field-0-is c.in-Ok-Taken.ensures.told.1).0 ∙ c.link.ensures) begins c.requires.at)
          c.in-Err-hand_out.ensures.keeps;
      fares = λ limit tells. fares_err (fares_behind refl (same_way g.L.Link.history c.args.self.now c.args.self.now refl) c.in-Ok-Taken.ensures.spares unlinked (λ n was. was) (c.in-Err-hand_out.ensures.fares limit tells));
      calm = λ asked tells was. fares_after (claims_well g.T.Terms.trust g.F.Commands.gives g.F.Commands.may_fail g.T.Terms.sources g.S.Site.tells g.T.Terms.kept (IsSurePool g.B.Terms.fits) g.S.Site.files g.S.Site.may_leave g.S.Site.moment g.S.Site.images_since c.args.desk.now c.claim_away.new.desk c.args.held.now c.args.self.now c.claim_away.result c.requires.going (ap (λ (x : Result Claim Halt). halt_after x None) c.in-Ok-Taken.is) c.in-Ok-Taken.ensures.spares (λ away front back first xs waiting heard are u. c.claim_away.ensures.underway away front back first xs waiting heard are u) c.requires.at) (λ none. (let now = c.in-Err-hand_out.ensures.calm asked tells was none in (now.0, stays_err c.in-Err-hand_out.leave now.1)));
      stays = c.claim_away.ensures.stays;
    }

pub returns-in-Ok-Nothing : goal.returns-in-Ok-Nothing
returns-in-Ok-Nothing g c = record {
  keeps = keeps_still g.T.Terms.trust g.F.Commands.gives g.F.Commands.may_fail g.T.Terms.sources g.S.Site.tells g.T.Terms.kept (IsSurePool g.B.Terms.fits) g.S.Site.files g.S.Site.may_leave g.S.Site.moment g.S.Site.images_since c.args.desk.now c.claim_away.new.desk c.args.held.now c.args.held.now c.args.self.now c.args.self.now refl refl refl (λ was. was)
      (rests_by g.T.Terms.trust g.F.Commands.gives g.F.Commands.may_fail g.T.Terms.sources g.S.Site.tells g.T.Terms.kept (IsSurePool g.B.Terms.fits) g.S.Site.files g.S.Site.may_leave g.S.Site.moment g.S.Site.images_since c.args.desk.now c.claim_away.new.desk c.args.held.now c.args.held.now c.claim_away.result c.requires.going
      (λ front back away. ap (λ (x : Result Claim Halt). claimed_by x front back away) (c.in-Ok-Nothing.is ∙ ap (λ (x : Claim). let r : Result Claim Halt = Ok x in r) c.in-Ok-Nothing.field-0-is)) refl
      (c.requires.going ∙ sym (ap (λ (x : Result Claim Halt). halt_after x None) c.in-Ok-Nothing.is)) (λ away front back first xs waiting heard are u. c.claim_away.ensures.underway away front back first xs waiting heard are u)) c.requires.at;
  fares = λ limit tells.
      let is = c.requires.at in
      fares_spared_same c.in-Ok-Nothing.ensures.spares
      (unlinked_by g.T.Terms.trust g.F.Commands.gives g.F.Commands.may_fail g.T.Terms.sources g.S.Site.tells g.S.Site.files g.S.Site.may_leave g.S.Site.moment g.S.Site.images_since is.at.away.links is.first c.args.desk.now c.claim_away.new.desk is.at.under.goes
      ((rests_by g.T.Terms.trust g.F.Commands.gives g.F.Commands.may_fail g.T.Terms.sources g.S.Site.tells g.T.Terms.kept (IsSurePool g.B.Terms.fits) g.S.Site.files g.S.Site.may_leave g.S.Site.moment g.S.Site.images_since c.args.desk.now c.claim_away.new.desk c.args.held.now c.args.held.now c.claim_away.result c.requires.going
      (λ front back away. ap (λ (x : Result Claim Halt). claimed_by x front back away) (c.in-Ok-Nothing.is ∙ ap (λ (x : Claim). let r : Result Claim Halt = Ok x in r) c.in-Ok-Nothing.field-0-is)) refl
      (c.requires.going ∙ sym (ap (λ (x : Result Claim Halt). halt_after x None) c.in-Ok-Nothing.is)) (λ away front back first xs waiting heard are u. c.claim_away.ensures.underway away front back first xs waiting heard are u)) is.at.away is.first is.waiting is.heard is.at.under).goes);
  calm = λ asked tells was none. (claims_well g.T.Terms.trust g.F.Commands.gives g.F.Commands.may_fail g.T.Terms.sources g.S.Site.tells g.T.Terms.kept (IsSurePool g.B.Terms.fits) g.S.Site.files g.S.Site.may_leave g.S.Site.moment g.S.Site.images_since c.args.desk.now c.claim_away.new.desk c.args.held.now c.args.self.now c.claim_away.result c.requires.going (ap (λ (x : Result Claim Halt). halt_after x None) c.in-Ok-Nothing.is) c.in-Ok-Nothing.ensures.spares (λ away front back first xs waiting heard are u. c.claim_away.ensures.underway away front back first xs waiting heard are u) c.requires.at, stays_ok was);
  stays = c.claim_away.ensures.stays;
}

pub returns-in-Err : goal.returns-in-Err
returns-in-Err g c = record {
  keeps = keeps_still g.T.Terms.trust g.F.Commands.gives g.F.Commands.may_fail g.T.Terms.sources g.S.Site.tells g.T.Terms.kept (IsSurePool g.B.Terms.fits) g.S.Site.files g.S.Site.may_leave g.S.Site.moment g.S.Site.images_since c.args.desk.now c.claim_away.new.desk c.args.held.now c.stop.new.self c.args.self.now c.args.self.now refl refl refl (λ was. was)
      (rests_by g.T.Terms.trust g.F.Commands.gives g.F.Commands.may_fail g.T.Terms.sources g.S.Site.tells g.T.Terms.kept (IsSurePool g.B.Terms.fits) g.S.Site.files g.S.Site.may_leave g.S.Site.moment g.S.Site.images_since c.args.desk.now c.claim_away.new.desk c.args.held.now c.stop.new.self c.claim_away.result c.requires.going
      (λ front back away. ap (λ (x : Result Claim Halt). claimed_by x front back away) c.in-Err.is) (ap (λ (h : HeldState). h.attempts) c.stop.ensures)
      (ap (λ (h : HeldState). h.halt) c.stop.ensures ∙ sym (ap (λ (x : Result Claim Halt). halt_after x None) c.in-Err.is)) (λ away front back first xs waiting heard are u. c.claim_away.ensures.underway away front back first xs waiting heard are u)) c.requires.at;
  fares = λ limit tells. fares_stopped_same c.in-Err.why (ap (λ (h : HeldState). h.halt) c.stop.ensures);
  calm = λ asked tells was. fares_halted c.in-Err.why (ap (λ (h : HeldState). h.halt) c.stop.ensures);
  stays = c.claim_away.ensures.stays;
}
