use Rattle.std.proofs.Common.{rules, ap, sym, ◌∙◌}
use Rattle.std.specs.Prelude.{filter, ◌++◌, ◌∷◌, []}
use Rattle.flow_types.specs.Plans.{is_source}
use Rattle.world_contents.proofs.Numbers.{numbers_more}
use Rattle.world_contents.proofs.sources.sources_of.Goals as goal

pub loop-file-preserved : goal.loop-file-preserved
loop-file-preserved c = record {
  found = c.in_ok-take_source.ensures
      ∙ ap (λ xs. xs ++ filter (is_source c.args.plan.now) (c.loop-file.file ∷ [])) c.loop-file.invariant.found
      ∙ sym (numbers_more (is_source c.args.plan.now) c.loop-file.file);
  within = search rules;
}
