use Rattle.std.proofs.Common.{rules, ◌≡◌, ◌∙◌, ◌++◌, ◌∷◌, [], ap, arith, length, length-append, sym}
use Rattle.wq_run.specs.Seats.{seats_under}
use Rattle.wq_run.proofs.Companies.{is_then, man_as, met_then, still_met, valid_then}
use Rattle.wq_run.proofs.Duly.{fine_before}
use Rattle.wq_run.proofs.Duties.{due_from, due_none, due_stopped, due_then, stopped_on}
use Rattle.wq_run.proofs.company.rounds.dismiss.Goals as goal

pub dismiss_last-requires-clause-valid : goal.dismiss_last-requires-clause-valid
dismiss_last-requires-clause-valid g c κs within = valid_then c.requires.manned c.loop.invariant.manned c.requires.valid

pub dismiss_last-requires-clause-manned : goal.dismiss_last-requires-clause-manned
dismiss_last-requires-clause-manned g c κs within = is_then c.requires.manned c.loop.invariant.manned

pub loop-preserved : goal.loop-preserved
loop-preserved g c = record {
  manned = λ first waiting heard m. c.dismiss_last.ensures.manned first waiting heard (c.loop.invariant.manned first waiting heard m);
  listens = λ is. c.dismiss_last.ensures.listens (c.loop.invariant.listens is);
  met = met_then c.loop.invariant.met c.dismiss_last.ensures.met;
  due = λ limit tells stopped. due_then _ _ (c.loop.invariant.due limit tells stopped) (c.dismiss_last.ensures.due limit tells (stopped_on _ _ (c.loop.invariant.due limit tells stopped) stopped));
}

pub loop-peer-init : goal.loop-peer-init
loop-peer-init g c = record {
  manned = λ first waiting heard m. c.dismiss_last.ensures.manned first waiting heard (c.loop.invariant.manned first waiting heard m);
  seats = c.dismiss_last.ensures.none c.loop-test.false;
  listens = λ is. c.dismiss_last.ensures.listens (c.loop.invariant.listens is);
  met = met_then c.loop.invariant.met c.dismiss_last.ensures.met;
  due = λ limit tells stopped. due_then _ _ (c.loop.invariant.due limit tells stopped) (c.dismiss_last.ensures.due limit tells (stopped_on _ _ (c.loop.invariant.due limit tells stopped) stopped));
}

pub loop-peer-preserved : goal.loop-peer-preserved
loop-peer-preserved g c =
    let are : c.loop-peer.company.guests ≡ c.pop.new.self.items ++ (c.in-Some.peer ∷ []) = search rules in
    let many = ap length are in
    let both = length-append c.pop.new.self.items (c.in-Some.peer ∷ []) in
    let same : c.company.inside.seats.items ≡ c.loop-peer.company.seats = search rules in
    let seats = ap length same in
    let failed : c.company.inside.failed ≡ c.loop-peer.company.failed = search rules in
    let lost : c.company.inside.lost ≡ c.loop-peer.company.lost = search rules in
    let newest : c.company.inside.newest ≡ c.loop-peer.company.newest = search rules in
    record {
      manned = λ first waiting heard m. man_as (c.hand_back.ensures.seats ∙ same) (c.loop-peer.invariant.manned first waiting heard m);
      seats = c.hand_back.ensures.seats ∙ same ∙ c.loop-peer.invariant.seats;
      listens = λ is. c.hand_back.ensures.listens (c.loop-peer.invariant.listens is);
      met = met_then c.loop-peer.invariant.met (met_then (still_met (record { links = omega (arith, many, both, seats); fewer = λ k. let e = ap (seats_under k) same in omega (arith, e); newest = newest }) failed lost) c.hand_back.ensures.met);
      due = λ limit tells stopped. due_then _ _ (c.loop-peer.invariant.due limit tells stopped) (due_stopped _ _ (λ none fine kept. stopped_on _ _ (c.loop-peer.invariant.due limit tells stopped) stopped none
          (sym failed ∙ fine_before c.company.inside.failed c.hand_back.new.company.failed c.hand_back.ensures.met.stays fine) (sym lost ∙ (c.hand_back.ensures.met.counted kept).0)));
    }

pub returns-clause-manned : goal.returns-clause-manned
returns-clause-manned g c first waiting heard m =
    let same : c.company.inside.seats.items ≡ c.loop-peer.company.seats = search rules in
    man_as same (c.loop-peer.invariant.manned first waiting heard m)

pub returns-clause-met : goal.returns-clause-met
returns-clause-met g c =
    let are : c.loop-peer.company.guests ≡ c.pop.new.self.items ++ [] = search rules in
    let many = ap length are in
    let both = length-append c.pop.new.self.items [] in
    let same : c.company.inside.seats.items ≡ c.loop-peer.company.seats = search rules in
    let seats = ap length same in
    let failed : c.company.inside.failed ≡ c.loop-peer.company.failed = search rules in
    let lost : c.company.inside.lost ≡ c.loop-peer.company.lost = search rules in
    let newest : c.company.inside.newest ≡ c.loop-peer.company.newest = search rules in
    met_then c.loop-peer.invariant.met (still_met (record { links = omega (arith, many, both, seats); fewer = λ k. let e = ap (seats_under k) same in omega (arith, e); newest = newest }) failed lost)

pub returns-clause-due : goal.returns-clause-due
returns-clause-due g c limit tells stopped =
    let are : c.loop-peer.company.guests ≡ c.pop.new.self.items ++ [] = search rules in
    let many = ap length are in
    let both = length-append c.pop.new.self.items [] in
    let same : c.company.inside.seats.items ≡ c.loop-peer.company.seats = search rules in
    let seats = ap length same in
    let failed : c.company.inside.failed ≡ c.loop-peer.company.failed = search rules in
    let lost : c.company.inside.lost ≡ c.loop-peer.company.lost = search rules in
    let newest : c.company.inside.newest ≡ c.loop-peer.company.newest = search rules in
    due_then _ _ (c.loop-peer.invariant.due limit tells stopped) (due_from _ _ same failed lost (due_none _ _))
