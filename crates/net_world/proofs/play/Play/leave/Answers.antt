use Rattle.std.proofs.Common.{rules, ◌≡◌, true, refl}
use Rattle.std.specs.Prelude.{find, is_some}
use Rattle.world_laws.specs.Worlds.{at_link}
use Rattle.net_world.proofs.LinkShows.{left_shown, local_stays}
use Rattle.net_world.proofs.play.Play.leave.Goals as goal

pub returns-then-link-eq0 : goal.returns-then-link-eq0
returns-then-link-eq0 c P O w shown = local_stays P O w c.args.self.now c.args.link.0 c.if-link-eq0.true shown

pub returns : goal.returns
returns c P O w shown =
    let lives : is_some (find (at_link c.args.link.0) c.args.self.now.lines.items) ≡ true = search rules in
    left_shown P O w c.args.self.now _ c.args.link (search rules) lives shown (c.leave.ensures.leaves w.moves shown.table.stands) c.without.ensures refl refl refl refl refl
