use Rattle.std.proofs.Common.{rules, refl}
use Rattle.net_world.proofs.CollectShows.{dropped_shown}
use Rattle.net_world.proofs.play.Play.drop_wanted.Goals as goal

pub returns-in_ok-note-in-Ok-Some : goal.returns-in_ok-note-in-Ok-Some
returns-in_ok-note-in-Ok-Some c P O w shown =
    dropped_shown P O w c.args.self.now _ c.in-Ok-Some.file c.collect.result (search rules) shown (c.collect.ensures.collects w.moves shown.table.stands)
    c.in_ok-note-in-Ok-Some.ensures c.take_away.ensures.away c.take_away.ensures.places (record { lines = refl; peers = refl; bag = refl; up = refl })
