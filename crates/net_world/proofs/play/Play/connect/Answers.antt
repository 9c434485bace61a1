use Rattle.std.proofs.Common.{rules, ◌≡◌, ◌-◌, refl}
use Rattle.std.proofs.lemmas.Result.{on_ok_weaker}
use Rattle.net_world.proofs.JoinShows.{linked_shown}
use Rattle.net_world.proofs.play.Play.connect.Goals as goal

pub returns : goal.returns
returns c =
    let runs : c.saturating_sub-run.result ≡ c.join.new.self.runs - 1 = search rules in
    on_ok_weaker c.add_line.result (λ pushed P O w shown.
    let joins = c.in-Ok.ensures.joins w.moves shown.table.stands in
    linked_shown P O w c.args.self.now _ c.args.peer c.in-Ok.link c.args.total c.args.largest c.args.cache c.saturating_sub-run.result c.in_ok-session.session shown
    joins.1 joins.2 joins.3 runs c.in_ok-session.ensures pushed refl refl refl refl refl)
    c.add_line.ensures
