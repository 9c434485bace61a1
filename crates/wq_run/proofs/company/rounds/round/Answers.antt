use Rattle.std.proofs.Common.{◌≡◌, ◌∙◌, ap, subst, sym}
use Rattle.wq_run.specs.Calm.{IsComing, IsSureOf, IsSureCompany, IsUnmet, KeepsCalm}
use Rattle.wq_run.specs.Dues.{IsIllLink}
use Rattle.wq_run.specs.Keeping.{KeepsOn}
use Rattle.wq_run.specs.Seats.{Meets, inside_of}
use Rattle.wq_run.specs.Trusted.{IsOpen}
use Rattle.wq_run.proofs.Companies.{man_as, met_same, met_then}
use Rattle.wq_run.proofs.Duties.{due_met, due_of, due_then}
use Rattle.wq_run.proofs.Calmly.{calm_from, calm_met, calm_then}
use Rattle.wq_run.proofs.company.rounds.round.Goals as goal

pub returns-clause-manned : goal.returns-clause-manned
returns-clause-manned g c first waiting heard m =
    man_as c.meet-came.ensures.seats
    (c.greet_all-joined.ensures.manned c.visit_all-told.new.held first waiting heard (c.visit_all-told.ensures.manned first waiting heard (man_as (ap (λ x. x.seats) c.has_turn-is_turn.ensures.company) m)))

pub returns-clause-met : goal.returns-clause-met
returns-clause-met g c =
    subst (λ (h : g.row.H.Denot). Meets (g.H.Hall.count h) (g.H.Hall.count c.meet-came.new.hall) (g.H.Hall.got h) (g.H.Hall.got c.meet-came.new.hall) (g.H.Hall.given h) (g.H.Hall.given c.meet-came.new.hall) (g.H.Hall.idle_count h) (g.H.Hall.idle_count c.meet-came.new.hall) (inside_of c.args.company.now) (inside_of c.meet-came.new.company) c.args.company.now.failed c.meet-came.new.company.failed c.args.company.now.lost c.meet-came.new.company.lost) c.has_turn-is_turn.ensures.hall
    (met_then (met_then (met_then (met_same c.has_turn-is_turn.ensures.company) c.visit_all-told.ensures.met) c.greet_all-joined.ensures.met) c.meet-came.ensures.met)

pub returns-clause-due : goal.returns-clause-due
returns-clause-due g c tells =
    subst (λ (h : g.row.H.Denot). KeepsOn (IsIllLink g.F.Commands.gives g.F.Commands.may_fail g.H.Way.Link.history g.H.Way.Link.count g.H.Way.Link.idle_count g.H.Way.Link.is_closed c.args.limit) g.H.Way.Link.history c.args.desk.now.moves c.greet_all-joined.new.desk.moves c.args.held.now.halt c.visit_all-told.new.held.halt c.args.company.now c.meet-came.new.company (g.H.Hall.got h) (g.H.Hall.got c.meet-came.new.hall)) c.has_turn-is_turn.ensures.hall
    (due_then _ _ (due_of _ _ c.has_turn-is_turn.ensures.company (due_then _ _ (c.visit_all-told.ensures.due tells) (c.greet_all-joined.ensures.due c.args.limit c.visit_all-told.new.held.halt tells))) (due_met _ _ c.meet-came.ensures.seats c.meet-came.ensures.kept c.meet-came.ensures.met))

pub returns-clause-calm : goal.returns-clause-calm
returns-clause-calm g c asked tells =
    subst (λ (h : g.row.H.Denot). KeepsCalm (IsSureCompany g.F.Commands.gives g.F.Commands.may_fail g.H.Way.Link.history g.H.Way.Link.idle_count (IsSureOf g.H.Way.Link.sure g.H.Way.Link.offers asked) (IsComing g.H.Hall.sure g.H.Hall.staffed asked h) (IsUnmet g.H.Hall.manned g.H.Hall.idle_count asked h) c.args.desk.now.moves c.args.company.now) (IsSureCompany g.F.Commands.gives g.F.Commands.may_fail g.H.Way.Link.history g.H.Way.Link.idle_count (IsSureOf g.H.Way.Link.sure g.H.Way.Link.offers asked) (IsComing g.H.Hall.sure g.H.Hall.staffed asked c.meet-came.new.hall) (IsUnmet g.H.Hall.manned g.H.Hall.idle_count asked c.meet-came.new.hall) c.greet_all-joined.new.desk.moves c.meet-came.new.company) c.args.desk.now.moves c.greet_all-joined.new.desk.moves c.args.held.now.halt c.visit_all-told.new.held.halt c.args.company.now c.meet-came.new.company) c.has_turn-is_turn.ensures.hall
    (calm_then (calm_from (λ x. IsSureCompany g.F.Commands.gives g.F.Commands.may_fail g.H.Way.Link.history g.H.Way.Link.idle_count (IsSureOf g.H.Way.Link.sure g.H.Way.Link.offers asked) (IsComing g.H.Hall.sure g.H.Hall.staffed asked c.has_turn-is_turn.new.hall) (IsUnmet g.H.Hall.manned g.H.Hall.idle_count asked c.has_turn-is_turn.new.hall) c.args.desk.now.moves x) c.has_turn-is_turn.ensures.company (calm_then (c.visit_all-told.ensures.calm asked tells) (c.greet_all-joined.ensures.calm asked c.visit_all-told.new.held.halt tells))) (calm_met c.meet-came.ensures.met (λ now was. c.meet-came.ensures.calm asked c.greet_all-joined.new.desk.moves tells now.kept was)))
