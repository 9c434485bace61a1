use Rattle.std.proofs.Common.{ap, arith, length, ◌∙◌}
use Rattle.std.proofs.lemmas.List.{length-set}
use Rattle.run_history.specs.Links.{records_of}
use Rattle.safe_storage.specs.Pacing.{phase_in}
use Rattle.safe_storage.proofs.Told.{noted-next}
use Rattle.safe_storage.proofs.stand.Stand.note_rules.Goals as goal

pub loop-rule-preserved : goal.loop-rule-preserved
loop-rule-preserved c = record {
  rules = length-set c.loop-rule.self.phases.items c.loop-rule.rule c.phase.result
      ∙ c.loop-rule.invariant.rules;
  bytes = c.loop-rule.invariant.bytes;
  phases = λ moves stands. noted-next c.loop-rule.self.phases.items c.loop-rule.rule
      c.phase.result (phase_in (records_of moves))
      (omega (
        arith,
        c.loop-rule-test.true,
        c.len-rule-end.ensures,
        c.loop-rule.invariant.rules,
        c.requires,
        ap (λ P. length P.rules) c.plan.ensures.plan,
      ))
      (c.loop-rule.invariant.phases moves stands) (c.phase.ensures moves stands);
}
