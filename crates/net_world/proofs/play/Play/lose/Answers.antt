use Rattle.std.proofs.Common.{refl}
use Rattle.std.proofs.lemmas.Result.{on_ok_weaker}
use Rattle.flow_types.specs.declared.job.Outcome.TheVariants as outcomes
use Rattle.net_world.proofs.Shows.{lost_shown, not_closed_shown}
use Rattle.net_world.proofs.play.Play.lose.Goals as goal

pub returns-in-Ok : goal.returns-in-Ok
returns-in-Ok c = on_ok_weaker c.note.result (λ pushed P O w shown.
    lost_shown P O w c.args.self.now _ c.args.rule c.args.attempt c.lose.result c.in-Ok.field-0 c.in-Ok.is shown
    (c.lose.ensures.closed w.moves shown.table.stands) pushed (record { contents = refl; lines = refl; peers = refl; bag = refl; up = refl }))
    c.note.ensures

pub returns-in-Err : goal.returns-in-Err
returns-in-Err c P O w shown =
    not_closed_shown P O w c.args.self.now _ c.args.rule c.args.attempt outcomes.NotRun _ c.lose.result _ c.in-Err.is shown
    (c.lose.ensures.closed w.moves shown.table.stands) refl (record { contents = refl; lines = refl; peers = refl; bag = refl; up = refl })
