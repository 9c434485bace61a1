use Rattle.std.proofs.Common.{◌∙◌}
use Rattle.outside.specs.Files.{content}
use Rattle.log_recover.proofs.Heads.{begins_of}
use Rattle.log_recover.proofs.read.head_at.Goals as goal

pub returns-clause-head : goal.returns-clause-head
returns-clause-head g c told =
    begins_of (content (g.S.Site.files c.args.site.now c.args.name.now)) _ c.args.at c.head_of.result (c.view.ensures.bytes ∙ c.in_ok-reach.ensures.seen told) c.head_of.ensures
