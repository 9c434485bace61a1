use Rattle.std.proofs.Common.{rules, ◌≤◌, length, ap, sym, ◌∙◌}
use Rattle.std.specs.Prelude.{filter, ◌++◌, ◌∷◌, []}
use Rattle.run_history.specs.Links.{records_of}
use Rattle.net_world.specs.Plays.{runs_there}
use Rattle.net_world.proofs.LinkShows.{all_found}
use Rattle.world_contents.proofs.Numbers.{numbers_more}
use Rattle.net_world.proofs.play.Play.rules_on.Goals as goal

pub loop-rule-preserved : goal.loop-rule-preserved
loop-rule-preserved c = record {
  found = λ moves stands.
      c.in_ok-take_on.ensures moves stands
      ∙ ap (λ xs. xs ++ filter (runs_there (records_of moves) c.args.link.0) (c.loop-rule.rule ∷ [])) (c.loop-rule.invariant.found moves stands)
      ∙ sym (numbers_more (runs_there (records_of moves) c.args.link.0) c.loop-rule.rule);
  within = search rules;
}

pub returns : goal.returns
returns c moves stands =
    let past : length c.args.self.now.table.plan.rules ≤ c.loop-rule.rule = search rules in
    c.loop-rule.invariant.found moves stands
    ∙ all_found c.args.self.now.table.plan (records_of moves) c.args.link.0 c.loop-rule.rule c.loop-rule.invariant.within past
