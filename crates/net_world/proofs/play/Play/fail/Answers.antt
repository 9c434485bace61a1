use Rattle.std.proofs.Common.{rules, ◌≡◌, false, refl}
use Rattle.std.proofs.lemmas.Result.{on_ok_weaker}
use Rattle.flow_types.specs.Plans.{makes}
use Rattle.flow_types.specs.declared.job.Outcome.TheVariants as outcomes
use Rattle.run_history.specs.Legal.{is_failure_at}
use Rattle.std.specs.Prelude.{length}
use Rattle.net_world.proofs.CloseShows.{failed_shown, may_fail}
use Rattle.net_world.proofs.Shows.{not_closed_shown}
use Rattle.net_world.proofs.play.Play.fail.Goals as goal

pub returns-then-not-may_fail : goal.returns-then-not-may_fail
returns-then-not-may_fail c P O w shown fits =
    let refused : is_failure_at c.args.why (length (makes c.args.self.now.table.plan c.args.rule.0)) ≡ false = search rules in
    let may = may_fail P O w c.args.self.now c.args.rule.0 c.args.why shown c.requires fits in
    absurd (let h : ⊥ = cc in h)

pub returns-in-Ok : goal.returns-in-Ok
returns-in-Ok c = on_ok_weaker c.note.result (λ pushed P O w shown fits.
    failed_shown P O w c.args.self.now _ c.args.rule c.args.attempt c.args.why c.fail.result _ c.in-Ok.is shown
    (c.fail.ensures.closed w.moves shown.table.stands) pushed (record { contents = refl; lines = refl; peers = refl; bag = refl; up = refl }))
    c.note.ensures

pub returns-in-Err : goal.returns-in-Err
returns-in-Err c P O w shown fits =
    not_closed_shown P O w c.args.self.now _ c.args.rule c.args.attempt (outcomes.Failed c.args.why) _ c.fail.result _ c.in-Err.is shown
    (c.fail.ensures.closed w.moves shown.table.stands) refl (record { contents = refl; lines = refl; peers = refl; bag = refl; up = refl })
