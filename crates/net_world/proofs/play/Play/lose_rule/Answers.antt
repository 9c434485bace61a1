use Rattle.std.proofs.Common.{Some, None}
use Rattle.std.proofs.lemmas.Result.{on_ok_weaker}
use Rattle.net_world.proofs.Shows.{place_lost_shown}
use Rattle.net_world.proofs.play.Play.lose_rule.Goals as goal

pub returns-in-Some : goal.returns-in-Some
returns-in-Some c = on_ok_weaker c.lose.result (λ turns P O w shown.
    place_lost_shown P O w c.args.self.now c.lose.new.self c.args.rule.0 (Some (c.in-Some.attempt, c.in-Some.field-0-1)) c.in-Some.ensures shown (turns P O w shown))
    c.lose.ensures

pub returns-in-None : goal.returns-in-None
returns-in-None c P O w shown = place_lost_shown P O w c.args.self.now _ c.args.rule.0 None c.in-None.ensures shown shown
