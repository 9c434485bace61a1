use Rattle.std.proofs.Common.{sym, ◌∙◌}
use Rattle.std.proofs.lemmas.Result.{on_ok_weaker}
use Rattle.net_world.proofs.JoinShows.{joined_shown, not_joined_shown}
use Rattle.net_world.proofs.play.Play.join.Goals as goal

pub returns-then-not-may_join : goal.returns-then-not-may_join
returns-then-not-may_join c P O w shown =
    not_joined_shown P O w _ c.args.joiner (sym (c.may_join.ensures P O w shown) ∙ c.if-not-may_join.true) shown

pub returns : goal.returns
returns c = on_ok_weaker c.join_now.result (λ turns P O w shown.
    joined_shown P O w _ c.args.joiner (sym (c.may_join.ensures P O w shown) ∙ c.if-not-may_join.false) (turns P O w shown))
    c.join_now.ensures
