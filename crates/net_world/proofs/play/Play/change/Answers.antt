use Rattle.std.proofs.Common.{◌≡◌, true, refl, ap, sym, ◌∙◌}
use Rattle.run_history.specs.Links.{is_live}
use Rattle.net_world.proofs.HearShows.{changed_shown, link_lives}
use Rattle.net_world.proofs.play.Play.change.Goals as goal

pub returns-then-not-lives : goal.returns-then-not-lives
returns-then-not-lives c peer P O w d shown at is there =
    let lives : is_live O w.moves c.args.link.0 ≡ true = link_lives P O w c.args.self.now c.args.link.0 shown there in
    let stated : c.lives.result ≡ true = c.lives.ensures.live w.moves shown.table.stands ∙ ap (λ O. is_live O w.moves c.args.link.0) shown.table.options ∙ lives in
    absurd (let h : ⊥ = cc in h)

pub returns : goal.returns
returns c peer P O w d shown at is there =
    changed_shown P O w c.args.self.now _ d c.args.link c.args.total c.args.largest c.args.cache c.totals.result (sym c.lives.ensures.known ∙ c.if-not-lives.false) at shown
    (c.totals.ensures.changes w.moves shown.table.stands) refl (record { contents = refl; lines = refl; peers = refl; bag = refl; up = refl })
