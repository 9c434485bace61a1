use Rattle.std.proofs.Common.{◌<◌, ◌∙◌, length, ap, sym, subst, refl, Result, Ok, Err}
use Rattle.flow_types.specs.declared.records.Record.TheVariants as records
use Rattle.run_history.specs.declared.answers.Nothing.{Nothing}
use Rattle.task_core.specs.declared.table.Started.{Started}
use Rattle.task_core.specs.States.{TableState}
use Rattle.task_core.specs.Stands.{IsStill, Stands, after_start, logged}
use Rattle.task_core.proofs.Closing.{started-stands}
use Rattle.task_core.proofs.table.Table.claim_by.Goals as goal

pub returns-in-Ok-clause-claims : goal.returns-in-Ok-clause-claims
returns-in-Ok-clause-claims g c moves stands =
    let t : TableState = c.args.self.now in
    let answer : Result Started Nothing = Ok c.start.result in
    let inside : c.start.result.rule.0 < length t.rules =
    subst (λ n. c.start.result.rule.0 < n) (sym c.start.ensures.rows) (subst (λ r. r.0 < length t.plan.rules) (sym c.start.ensures.rule) c.in-Ok.ensures.inside) in (
      answer,
      refl,
      (
        sym (c.in-Ok.ensures.choice moves stands) ∙ ap (λ r. Ok r.0) (sym c.start.ensures.rule),
        c.start.ensures.attempt ∙ stands.starts,
        λ moment. subst (λ (v : TableState). Stands v (logged moves (records.Started moment c.start.result.rule c.start.result.attempt c.args.link)))
            (sym (c.start.ensures.table ∙ ap (λ r. after_start t r.0 c.start.result.attempt c.args.link) (sym c.start.ensures.rule)))
            (started-stands t moves c.start.result.rule c.start.result.attempt c.args.link moment inside c.requires.begun stands),
        subst (IsStill t) (sym c.start.ensures.table) (refl, refl, refl),
      ),
    )

pub returns-in-Err-clause-claims : goal.returns-in-Err-clause-claims
returns-in-Err-clause-claims g c moves stands =
    let answer : Result Started Nothing = Err c.in-Err.why in
    (answer, refl, (sym (c.in-Err.ensures.choice moves stands), refl))
