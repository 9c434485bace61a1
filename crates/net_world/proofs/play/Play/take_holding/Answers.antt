use Rattle.std.proofs.Common.{rules, ◌≡◌, true, sym, ◌∙◌, ap}
use Rattle.std.specs.Prelude.{◌++◌, Some}
use Rattle.std.proofs.lemmas.Result.{on_ok_weaker}
use Rattle.world_contents.specs.Holdings.{held_in}
use Rattle.net_world.specs.Results.{is_made}
use Rattle.net_world.proofs.ResultShows.{held_one}
use Rattle.net_world.proofs.play.Play.take_holding.Goals as goal

pub returns : goal.returns
returns c = on_ok_weaker c.add_holding.result (λ pushed P O w shown.
    let made : is_made c.args.self.now.table.plan c.args.file.0 ≡ true = search rules in
    let held : held_in c.args.self.now.contents.items c.args.file.0 ≡ Some c.in_ok-content.content = search rules in
    pushed ∙ ap (λ xs. c.args.files.now.items ++ xs)
    (held_one P O w c.args.self.now c.args.file.0 c.in_ok-content.content shown made (λ M stands. sym (c.is_present.ensures M stands) ∙ search rules) held))
    c.add_holding.ensures
