use Rattle.std.proofs.Common.{refl, ap, sym, ◌∙◌}
use Rattle.run_history.specs.Links.{is_live}
use Rattle.net_world.proofs.ClaimShows.{claimed_shown, nothing_claimed}
use Rattle.net_world.proofs.EndShows.{is_begun}
use Rattle.net_world.proofs.play.Play.log_claim.Goals as goal

pub returns-in_ok-note-in-Ok : goal.returns-in_ok-note-in-Ok
returns-in_ok-note-in-Ok c P O w shown =
    claimed_shown P O w c.args.self.now _ c.args.link c.claim.result c.in-Ok.field-0 c.in-Ok.is
    (ap (λ O. is_live O w.moves c.args.link.0) (sym shown.table.options) ∙ sym (c.lives.ensures.live w.moves shown.table.stands) ∙ c.if-not-lives.false)
    shown (c.claim.ensures.claims w.moves shown.table.stands (is_begun P O w c.args.self.now shown)) c.in_ok-note-in-Ok.ensures
    (record { contents = refl; lines = refl; peers = refl; bag = refl; up = refl })

pub returns-in-Err : goal.returns-in-Err
returns-in-Err c P O w shown =
    nothing_claimed P O w c.args.self.now _ c.args.link c.claim.result _ c.in-Err.is
    (ap (λ O. is_live O w.moves c.args.link.0) (sym shown.table.options) ∙ sym (c.lives.ensures.live w.moves shown.table.stands) ∙ c.if-not-lives.false)
    shown (c.claim.ensures.claims w.moves shown.table.stands (is_begun P O w c.args.self.now shown)) refl
    (record { contents = refl; lines = refl; peers = refl; bag = refl; up = refl })
