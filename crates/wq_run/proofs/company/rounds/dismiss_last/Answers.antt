use Rattle.std.proofs.Common.{Some, [], ap, arith, length, length-append, rules, sym, ◌++◌, ◌∙◌, ◌∷◌, ◌≡◌}
use Rattle.std.proofs.lemmas.List.{append-nil}
use Rattle.flow_types.specs.declared.numbers.LinkNo.{LinkNo}
use Rattle.wq_run.specs.Seats.{one_under, seats_under}
use Rattle.wq_run.proofs.Companies.{last_is, last_parts, met_then, still_met}
use Rattle.wq_run.proofs.Counting.{seated_split}
use Rattle.wq_run.proofs.Duties.{due_from, due_last, due_none}
use Rattle.wq_run.proofs.company.rounds.dismiss_last.Goals as goal

pub part-requires-clause-parting : goal.part-requires-clause-parting
part-requires-clause-parting g c κs within =
    let are : c.args.company.now.seats ≡ c.pop.new.self.items ++ (c.in-Some.seat ∷ []) = search rules in
    last_is c.args.company.now.seats c.pop.new.self.items c.in-Some.seat c.farewell.new.self are c.farewell.ensures.link c.farewell.ensures.attempts c.requires.manned

pub returns-in-Some-clause-manned : goal.returns-in-Some-clause-manned
returns-in-Some-clause-manned g c first waiting heard m =
    let are : c.args.company.now.seats ≡ c.pop.new.self.items ++ (c.in-Some.seat ∷ []) = search rules in
    c.part.ensures.manned c.pop.new.self.items [] first waiting heard (sym (append-nil c.pop.new.self.items))
    (last_parts c.args.company.now.seats c.pop.new.self.items c.in-Some.seat c.farewell.new.self are c.farewell.ensures.link c.farewell.ensures.attempts m)

pub returns-in-Some-clause-met : goal.returns-in-Some-clause-met
returns-in-Some-clause-met g c =
    let are : c.args.company.now.seats ≡ c.pop.new.self.items ++ (c.in-Some.seat ∷ []) = search rules in
    let many = ap length are in
    let both = length-append c.pop.new.self.items (c.in-Some.seat ∷ []) in
    let guests : length c.args.company.now.guests ≡ length c.company.inside.guests.items = search rules in
    let failed : c.company.inside.failed ≡ c.args.company.now.failed = search rules in
    let lost : c.company.inside.lost ≡ c.args.company.now.lost = search rules in
    let newest : c.company.inside.newest ≡ c.args.company.now.newest = search rules in
    met_then (still_met (record {
      links = omega (arith, many, both, guests);
      fewer = λ k.
          let old = ap (seats_under k) are in
          let split = seated_split k c.pop.new.self.items [] c.in-Some.seat in
          let none = ap (seats_under k) (append-nil c.pop.new.self.items) in
          let hand = ap (λ (l : LinkNo). one_under k (Some l)) c.farewell.ensures.link in
          omega (arith, old, split, none, hand);
      newest = newest;
    }) failed lost) c.part.ensures.met

pub returns-in-None-clause-met : goal.returns-in-None-clause-met
returns-in-None-clause-met g c =
    let are : c.args.company.now.seats ≡ c.pop.new.self.items ++ [] = search rules in
    let many = ap length are in
    let both = length-append c.pop.new.self.items [] in
    let guests : length c.args.company.now.guests ≡ length c.company.inside.guests.items = search rules in
    let failed : c.company.inside.failed ≡ c.args.company.now.failed = search rules in
    let lost : c.company.inside.lost ≡ c.args.company.now.lost = search rules in
    let newest : c.company.inside.newest ≡ c.args.company.now.newest = search rules in
    still_met (record {
      links = omega (arith, many, both, guests);
      fewer = λ k. let old = ap (seats_under k) are in let none = ap (seats_under k) (append-nil c.pop.new.self.items) in omega (arith, old, none);
      newest = newest;
    }) failed lost

pub returns-in-Some-clause-due : goal.returns-in-Some-clause-due
returns-in-Some-clause-due g c limit tells stopped =
    let are : c.args.company.now.seats ≡ c.pop.new.self.items ++ (c.in-Some.seat ∷ []) = search rules in
    let failed : c.company.inside.failed ≡ c.args.company.now.failed = search rules in
    let lost : c.company.inside.lost ≡ c.args.company.now.lost = search rules in
    let apart = c.part.ensures.due limit tells c.pop.new.self.items [] (sym (append-nil c.pop.new.self.items)) (λ none fine kept. absurd (stopped none (sym failed ∙ fine) (sym lost ∙ kept))) in
    due_last _ _ (length c.pop.new.self.items) (λ none fine kept. stopped none (sym failed ∙ fine) (sym lost ∙ kept)) apart

pub returns-in-None-clause-due : goal.returns-in-None-clause-due
returns-in-None-clause-due g c limit tells stopped =
    let are : c.args.company.now.seats ≡ c.pop.new.self.items ++ [] = search rules in
    let failed : c.company.inside.failed ≡ c.args.company.now.failed = search rules in
    let lost : c.company.inside.lost ≡ c.args.company.now.lost = search rules in
    due_from _ _ (sym (are ∙ append-nil c.pop.new.self.items)) failed lost (due_none _ _)
