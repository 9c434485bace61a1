use Rattle.std.proofs.Common.{ap, ◌∙◌}
use Rattle.std.specs.Prelude.{find}
use Rattle.std.specs.Option.{option_map}
use Rattle.std.proofs.lemmas.Result.{on_ok_weaker}
use Rattle.world_laws.specs.Worlds.{at_peer}
use Rattle.net_world.proofs.LinkShows.{no_part_shown, part_shown}
use Rattle.net_world.proofs.play.Play.part.Goals as goal

pub returns-in-Some : goal.returns-in-Some
returns-in-Some c = on_ok_weaker c.lose_link.result (λ turns P O w shown.
    part_shown P O w c.lose_link.new.self c.in-Some.link.0 (find (at_peer c.args.peer) w.connections)
    (c.in-Some.ensures ∙ ap (λ cs. option_map (λ c. c.link) (find (at_peer c.args.peer) cs)) (c.deref.ensures.value ∙ shown.lines)) (turns P O w shown))
    c.lose_link.ensures

pub returns-in-None : goal.returns-in-None
returns-in-None c P O w shown =
    no_part_shown P O w c.args.self.now (find (at_peer c.args.peer) w.connections)
    (c.in-None.ensures ∙ ap (λ cs. option_map (λ c. c.link) (find (at_peer c.args.peer) cs)) (c.deref.ensures.value ∙ shown.lines)) shown
