use Rattle.std.proofs.Common.{◌≡◌, map, ap, ◌∙◌}
use Rattle.run_history.specs.Links.{records_of, running_on}
use Rattle.net_world.proofs.LinkShows.{link_lost_shown}
use Rattle.net_world.proofs.play.Play.lose_link.Goals as goal

pub returns : goal.returns
returns c P O w shown =
    let are : map (λ rule. rule.0) c.as_slice.result.now ≡ running_on c.args.self.now.table.plan (records_of w.moves) c.args.link.0 =
    ap (map (λ rule. rule.0)) c.as_slice.ensures.value ∙ c.in_ok-rules.ensures w.moves shown.table.stands in
    link_lost_shown P O w c.args.self.now c.lose_all.new.self c.leave.new.self c.args.link.0 (map (λ rule. rule.0) c.as_slice.result.now) are shown
    (λ lost. c.leave.ensures P O _ lost) (c.in_ok-lose_all.ensures P O w shown)
