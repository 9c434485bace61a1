use Rattle.std.proofs.Common.{rules, ◌≡◌, false, refl}
use Rattle.std.proofs.lemmas.Result.{on_ok_weaker}
use Rattle.net_world.proofs.EndShows.{end_logged_shown, end_silent_shown, ended_stays, not_begun}
use Rattle.net_world.proofs.play.Play.end.Goals as goal

pub returns-then-has_ended : goal.returns-then-has_ended
returns-then-has_ended c P O w shown = ended_stays P O w c.args.self.now (search rules) shown

pub returns-then-not-is_begun : goal.returns-then-not-is_begun
returns-then-not-is_begun c P O w shown = absurd (not_begun P O w c.args.self.now (search rules) shown)

pub returns-in-Some : goal.returns-in-Some
returns-in-Some c =
    let goes : c.args.self.now.table.ended ≡ false = search rules in
    on_ok_weaker c.note.result (λ pushed P O w shown.
    end_logged_shown P O w c.args.self.now _ c.end.result c.in-Some.kind goes c.in-Some.ensures shown (c.end.ensures.ends w.moves shown.table.stands) c.end.ensures.still pushed
    (record { contents = refl; lines = refl; peers = refl; bag = refl; up = refl }))
    c.note.ensures

pub returns-in-None : goal.returns-in-None
returns-in-None c P O w shown =
    let goes : c.args.self.now.table.ended ≡ false = search rules in
    end_silent_shown P O w c.args.self.now _ c.end.result goes c.in-None.ensures shown (c.end.ensures.ends w.moves shown.table.stands) refl
    (record { contents = refl; lines = refl; peers = refl; bag = refl; up = refl })
