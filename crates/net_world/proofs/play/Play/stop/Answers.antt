use Rattle.std.proofs.Common.{rules, refl, subst, sym}
use Rattle.rule_graph.specs.Spelling.{plan_digest}
use Rattle.task_core.specs.Parts.{IsOver}
use Rattle.world_laws.specs.Worlds.{records_in}
use Rattle.net_world.proofs.CrashShows.{stopped_shown}
use Rattle.net_world.proofs.play.Play.stop.Goals as goal

pub returns : goal.returns
returns c P O w shown =
    stopped_shown P O w c.args.self.now _ shown (subst (IsOver P O (plan_digest P) (records_in w)) (sym c.begin_anew.ensures.table) (c.in_ok-table.ensures P O w shown))
    (search rules) (c.begin_anew.ensures.held P O w shown) c.begin_anew.ensures.places c.begin_anew.ensures.lines (search rules) (search rules) refl
