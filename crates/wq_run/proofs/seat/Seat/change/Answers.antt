use Rattle.std.proofs.Common.{Err, None, Result, inr, refl, rules, ◌≢◌}
use Rattle.run_history.specs.declared.links.JoinRefused.{JoinRefused}
use Rattle.run_history.specs.declared.links.JoinRefused.TheVariants as refused
use Rattle.local_run.specs.Underway.{IsSurePool}
use Rattle.wq_run.proofs.Steps.{changes_keep}
use Rattle.wq_run.proofs.Fares.{changes_full, fares_changed}
use Rattle.wq_run.proofs.Calm.{changes_well, stays_ok, stays_left, well_same}
use Rattle.wq_run.proofs.seat.Seat.change.Goals as goal

pub returns-then-not-has_news : goal.returns-then-not-has_news
returns-then-not-has_news g c = record {
  keeps = λ held. record { keeps = λ front back first waiting heard at. at; stays = record { live = λ k is. is; link = refl } };
  did = refl;
  fares = λ limit halt before tells offers. (let none : Result (Unit {0}) JoinRefused = Err refused.Memory in fares_changed c.args.self.now c.args.self.now c.args.desk.now c.args.desk.now c.args.self.now.link c.args.total c.args.largest c.args.cache none _ refl refl offers refl (c.requires.came tells) tt);
  calm = λ asked was. (well_same _ _ refl, stays_ok (was, refl));
}

pub returns-in-Ok : goal.returns-in-Ok
returns-in-Ok g c = record {
  keeps = λ held.
      (changes_keep g.T.Terms.trust g.F.Commands.gives g.F.Commands.may_fail g.T.Terms.sources g.S.Site.tells g.T.Terms.kept (IsSurePool g.B.Terms.fits) g.S.Site.files g.S.Site.may_leave g.S.Site.moment g.S.Site.images_since c.args.desk.now c.change.new.desk held c.args.self.now c.link.result c.args.total c.args.largest c.args.cache c.change.result c.change.ensures.reply
      (λ away first waiting heard u. c.change.ensures.underway away first held.attempts waiting None heard held.halt u));
  did = refl;
  fares = λ limit halt before tells offers. fares_changed c.args.self.now c.args.self.now c.args.desk.now c.change.new.desk c.link.result c.args.total c.args.largest c.args.cache c.change.result _ refl c.change.ensures.reply offers c.link.ensures (c.requires.came tells) tt;
  calm = λ asked was. (changes_well c.args.desk.now c.change.new.desk c.link.result c.args.total c.args.largest c.args.cache c.change.result c.change.ensures.reply, stays_ok (was, refl));
}

pub returns-in-Err-Memory-clause-fares : goal.returns-in-Err-Memory-clause-fares
returns-in-Err-Memory-clause-fares g c limit halt before tells offers = fares_changed c.args.self.now c.args.self.now c.args.desk.now c.change.new.desk c.link.result c.args.total c.args.largest c.args.cache c.change.result _ refl c.change.ensures.reply offers c.link.ensures (c.requires.came tells) tt

pub returns-in-Err-clause-fares : goal.returns-in-Err-clause-fares
returns-in-Err-clause-fares g c limit halt before tells offers =
    let other : c.in-Err.field-0 ≢ refused.Memory = search rules in
    fares_changed c.args.self.now c.args.self.now c.args.desk.now c.change.new.desk c.link.result c.args.total c.args.largest c.args.cache c.change.result _ refl c.change.ensures.reply offers c.link.ensures (c.requires.came tells)
    (inr (changes_full c.args.desk.now c.change.new.desk c.link.result c.args.total c.args.largest c.args.cache c.in-Err.field-0 c.in-Err.ensures.reply other))

pub returns-in-Err-Memory-clause-calm : goal.returns-in-Err-Memory-clause-calm
returns-in-Err-Memory-clause-calm g c asked was = (changes_well c.args.desk.now c.change.new.desk c.link.result c.args.total c.args.largest c.args.cache c.change.result c.change.ensures.reply, stays_left tt)

pub returns-in-Err-clause-calm : goal.returns-in-Err-clause-calm
returns-in-Err-clause-calm g c asked was =
    let other : c.in-Err.field-0 ≢ refused.Memory = search rules in
    (changes_well c.args.desk.now c.change.new.desk c.link.result c.args.total c.args.largest c.args.cache c.change.result c.change.ensures.reply, stays_left (changes_full c.args.desk.now c.change.new.desk c.link.result c.args.total c.args.largest c.args.cache c.in-Err.field-0 c.in-Err.ensures.reply other))
