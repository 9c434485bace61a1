use Rattle.std.proofs.Common.{rules, ◌+◌, ap, sym, ◌∙◌, length, length-append}
use Rattle.std.specs.Prelude.{filter, ◌∷◌, []}
use Rattle.flow_types.specs.Plans.{is_source, numbers}
use Rattle.world_contents.proofs.Numbers.{numbers_more}
use Rattle.world_contents.proofs.sources.source_count.Goals as goal

pub loop-file-preserved : goal.loop-file-preserved
loop-file-preserved c =
    let on = is_source c.args.plan.now in
    let at = c.loop-file.file in
    record {
      counted = c.count_source-count.ensures.counted ∙ ap (λ n. n + length (filter on (at ∷ []))) c.loop-file.invariant.counted
          ∙ sym (length-append (filter on (numbers at)) (filter on (at ∷ []))) ∙ sym (ap length (numbers_more on at));
      most = search rules;
      within = search rules;
    }
