use Rattle.std.proofs.Common.{◌∙◌}
use Rattle.net_world.proofs.play.Play.into_world.Goals as goal

pub returns : goal.returns
returns c P O w shown = record {
  records = c.of.ensures ∙ shown.table.records;
  files = c.in_ok-files.ensures P O w shown;
  sent = c.of-2.ensures ∙ shown.bag;
}
