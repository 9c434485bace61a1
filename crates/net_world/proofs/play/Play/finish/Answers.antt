use Rattle.std.proofs.Common.{rules, ◌≡◌, true, false, ap, sym, ◌∙◌, subst, length, map}
use Rattle.std.specs.Prelude.{◌&&◌, nat_le, sum_by}
use Rattle.std.proofs.lemmas.Bool.{and_parts}
use Rattle.std.proofs.lemmas.List.{length-map}
use Rattle.std.proofs.lemmas.Result.{on_ok_weaker}
use Rattle.flow_types.specs.Plans.{makes}
use Rattle.flow_types.specs.declared.job.Outcome.TheVariants as outcomes
use Rattle.run_history.specs.Legal.{are_within, runs_as}
use Rattle.run_history.specs.Storage.{rule_bound}
use Rattle.task_core.specs.Stands.{Stands}
use Rattle.task_core.specs.States.{known_in}
use Rattle.task_core.proofs.Outputs.{within-length}
use Rattle.world_laws.specs.Worlds.{row_for}
use Rattle.net_world.proofs.CloseShows.{done_shown, idle_shown, may_finish}
use Rattle.net_world.proofs.play.Play.finish.Goals as goal

pub returns-then-not-may_finish : goal.returns-then-not-may_finish
returns-then-not-may_finish c P O w shown fits =
    let table = c.args.self.now.table in
    let rows = c.as_slice-2.result.now in
    let are : rows ≡ map row_for c.args.outs.now = search rules in
    let may = may_finish P O w c.args.self.now c.args.rule.0 c.args.outs.now rows shown c.requires c.plan.ensures.valid fits are in
    let refused : (are_within table.plan (makes table.plan c.args.rule.0) rows && nat_le (sum_by (λ row. row.size) rows) (rule_bound table.plan c.args.rule.0)) ≡ false = search rules in
    absurd (let h : ⊥ = cc in h)

pub returns-then-not-runs_with : goal.returns-then-not-runs_with
returns-then-not-runs_with c P O w shown fits =
    let idle : runs_as ((known_in c.args.self.now.table).rules c.args.rule.0) c.args.attempt.0 ≡ false = search rules in
    idle_shown P O w c.args.self.now c.args.rule.0 c.args.attempt (outcomes.Success c.args.outs.now) idle shown

pub store-requires-clause-count : goal.store-requires-clause-count
store-requires-clause-count c =
    let table = c.args.self.now.table in
    let rows = c.as_slice-2.result.now in
    let are : rows ≡ map row_for c.as_slice-3.result.now = search rules in
    let may : (are_within table.plan (makes table.plan c.args.rule.0) rows && nat_le (sum_by (λ row. row.size) rows) (rule_bound table.plan c.args.rule.0)) ≡ true = search rules in
    sym (within-length table.plan (makes table.plan c.args.rule.0) rows (and_parts _ _ may).0 ∙ ap length are ∙ length-map c.as_slice-3.result.now row_for)

pub returns-in-Ok : goal.returns-in-Ok
returns-in-Ok c = on_ok_weaker c.note.result (λ pushed P O w shown fits.
    let table : c.store.new.self.table ≡ c.args.self.now.table = search rules in
    let rows : c.as_slice-4.result.now ≡ map row_for c.args.outs.now = search rules in
    done_shown P O w c.args.self.now c.store.new.self _ c.args.rule c.args.attempt c.args.outs.now c.as_slice-4.result.now c.finish.result _ c.in-Ok.is shown table rows
    (c.finish.ensures.closed w.moves (subst (λ t. Stands t w.moves) (sym table) shown.table.stands)) (search rules) (search rules) (search rules)
    (record { lines = search rules; peers = search rules; bag = search rules; up = search rules }))
    c.note.ensures
