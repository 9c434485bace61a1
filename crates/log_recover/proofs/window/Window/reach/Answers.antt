use Rattle.outside.specs.Files.{content}
use Rattle.log_recover.specs.Windows.{bytes_in}
use Rattle.log_recover.proofs.Windowing.{seen_covered}
use Rattle.log_recover.proofs.window.Window.reach.Goals as goal

pub returns-then-covers-clause-seen : goal.returns-then-covers-clause-seen
returns-then-covers-clause-seen g c told =
    let covers = c.covers.ensures c.if-covers.true in
    seen_covered (content (g.S.Site.files c.args.site.now c.args.name.now)) (bytes_in c.args.self.now) c.args.self.now.count c.args.self.now.place c.args.at c.args.len
    (c.requires told).part covers.0 covers.1
