use Rattle.std.proofs.Common.{◌≡◌, ◌∙◌, [], Result, refl, rules, subst, sym, true}
use Rattle.std.specs.Prelude.{OnOk}
use Rattle.run_history.specs.declared.answers.Check.{Check}
use Rattle.run_history.specs.Links.{records_of}
use Rattle.local_run.specs.declared.ended.Stopped.{Stopped}
use Rattle.local_run.specs.Added.{RunAdds}
use Rattle.local_run.specs.Ends.{IsApart, RunDamage}
use Rattle.local_run.specs.Runs.{LosesNone}
use Rattle.local_run.proofs.Done.{damage_ended}
use Rattle.local_run.proofs.Modes.{unlinked}
use Rattle.local_run.proofs.Results.{loses_none}
use Rattle.wq_run.specs.Ends.{LosesOnLinks}
use Rattle.flow_run.proofs.Losses.{loses_away}
use Rattle.flow_run.proofs.Stops.{back_same}
use Rattle.flow_run.proofs.course.work.Goals as goal

pub work-requires-clause-honest : goal.work-requires-clause-honest
work-requires-clause-honest g c κs within holds = let is : c.args.wq ≡ true = search rules in c.requires.honest (c.requires.of.trusts holds) (sym c.requires.asked ∙ is)

pub work-requires-clause-listens : goal.work-requires-clause-listens
work-requires-clause-listens g c κs within = let is : c.args.wq ≡ true = search rules in c.requires.listens (sym c.requires.asked ∙ is)

pub returns-else-wq-clause-listens : goal.returns-else-wq-clause-listens
returns-else-wq-clause-listens g c away = c.requires.listens away

pub returns-else-wq-clause-added : goal.returns-else-wq-clause-added
returns-else-wq-clause-added g c =
    subst (λ (how : Result Check Stopped). RunAdds (records_of c.args.desk.now.moves) (records_of c.work-else-wq.new.desk.moves) how) (sym c.ended_by.ensures) (c.work-else-wq.ensures.added c.requires.fresh)

pub returns-else-wq-clause-back : goal.returns-else-wq-clause-back
returns-else-wq-clause-back g c whole = back_same (g.H.Hall.got c.args.hall.now) (g.H.Hall.given c.args.hall.now)

pub returns-else-wq-clause-damage : goal.returns-else-wq-clause-damage
returns-else-wq-clause-damage g c told apart =
    let new = c.work-else-wq.new.desk in
    subst (RunDamage new.plan (records_of new.moves) (g.S.Site.files new.site)) (sym c.ended_by.ensures)
    (damage_ended new.plan (records_of new.moves) (g.S.Site.files new.site) c.work-else-wq.result g.S.Site.tells (IsApart new.plan new.log) c.work-else-wq.ensures.damage told apart)

pub returns-else-wq-clause-lost_away : goal.returns-else-wq-clause-lost_away
returns-else-wq-clause-lost_away g c =
    subst (λ (how : Result Check Stopped). OnOk how (LosesOnLinks (records_of c.args.desk.now.moves) (records_of c.work-else-wq.new.desk.moves))) (sym c.ended_by.ensures)
    (loses_away g.T.Terms.trust g.F.Commands.gives g.F.Commands.may_fail g.T.Terms.sources g.S.Site.tells g.S.Site.files g.S.Site.may_leave g.S.Site.moment g.S.Site.images_since [] c.args.desk.now c.work-else-wq.new.desk c.work-else-wq.result c.requires.unset c.work-else-wq.ensures.goes c.work-else-wq.ensures.closed)

pub returns-else-wq-clause-lost : goal.returns-else-wq-clause-lost
returns-else-wq-clause-lost g c alone began is =
    subst (λ (how : Result Check Stopped). OnOk how (LosesNone (records_of c.args.desk.now.moves) (records_of c.work-else-wq.new.desk.moves))) (sym c.ended_by.ensures)
    (loses_none g.T.Terms.trust g.F.Commands.gives g.F.Commands.may_fail g.T.Terms.sources g.S.Site.tells g.S.Site.files g.S.Site.may_leave g.S.Site.moment g.S.Site.images_since [] c.args.desk.now c.work-else-wq.new.desk (records_of c.work-else-wq.new.desk.moves) c.work-else-wq.result c.requires.unset
    (unlinked g.T.Terms.trust g.F.Commands.gives g.F.Commands.may_fail g.T.Terms.sources g.S.Site.tells g.S.Site.files g.S.Site.may_leave g.S.Site.moment g.S.Site.images_since [] c.args.desk.now c.work-else-wq.new.desk c.work-else-wq.ensures.goes began is refl)
    refl c.work-else-wq.ensures.goes c.work-else-wq.ensures.closed)
