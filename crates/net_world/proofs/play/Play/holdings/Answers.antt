use Rattle.std.proofs.Common.{rules, ◌≤◌, length, ap, ◌∙◌}
use Rattle.std.specs.Prelude.{filter, filter_map, ◌++◌, ◌∷◌, []}
use Rattle.net_world.specs.Results.{is_made, present_holding}
use Rattle.net_world.proofs.ResultShows.{held_all, held_more}
use Rattle.net_world.proofs.play.Play.holdings.Goals as goal

pub loop-file-preserved : goal.loop-file-preserved
loop-file-preserved c = record {
  found = λ P O w shown. c.in_ok-take_holding.ensures P O w shown
      ∙ ap (λ xs. xs ++ filter_map (present_holding P w) (filter (is_made P) (c.loop-file.file ∷ []))) (c.loop-file.invariant.found P O w shown)
      ∙ held_more P w c.loop-file.file;
  within = search rules;
}

pub returns : goal.returns
returns c P O w shown =
    let past : length c.args.self.now.table.plan.files ≤ c.loop-file.file = search rules in
    c.of.ensures ∙ c.loop-file.invariant.found P O w shown ∙ held_all P O w c.args.self.now c.loop-file.file c.loop-file.invariant.within past shown
