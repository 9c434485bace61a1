use Rattle.std.proofs.Common.{◌≡◌, ℕ, List, [], ◌∷◌, length, Some, sym, ap, subst, arith, length-append}
use Rattle.std.specs.Prelude.{slice_get}
use Rattle.desk.specs.State.{AreOutputs}
use Rattle.desk_bench.proofs.Lists.{more}
use Rattle.desk_bench.proofs.bench.all_outputs.Goals as goal

pub loop-rule-preserved : goal.loop-rule-preserved
loop-rule-preserved c = record {
  many = omega (arith, ap length c.in-Ok.ensures.items, length-append c.loop-rule.outs.items (c.in_ok-outputs.field-0 ∷ []));
  fit = λ r made is. more (λ r m. AreOutputs c.args.plan.now r m) c.loop-rule.outs.items c.in_ok-outputs.field-0 c.loop-rule.invariant.fit
      (subst (λ (r : ℕ). AreOutputs c.args.plan.now r c.in_ok-outputs.field-0) (sym c.loop-rule.invariant.many) c.in_ok-outputs.ensures)
      r made (subst (λ (xs : List (List (List ℕ))). slice_get xs r ≡ Some made) c.in-Ok.ensures.items is);
}
