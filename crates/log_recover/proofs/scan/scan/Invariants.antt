use Rattle.std.proofs.Common.{◌≤◌, ◌<◌, ◌^◌, ◌-◌, length}
use Rattle.outside.specs.Files.{content}
use Rattle.txn_log.specs.Logs.{farthest}
use Rattle.log_recover.specs.Quiet.{IsQuiet}
use Rattle.log_recover.specs.Recovery.{IsRead}
use Rattle.log_recover.specs.Windows.{Shows}
use Rattle.log_recover.proofs.scan.scan.Given as goal

abbrev pub invariant-loop-window : goal.invariant-loop-window
invariant-loop-window g l = record {
  near : l.at ≤ farthest (length l.records);
  few : length l.records < 2 ^ 32;
  within : l.at ≤ l.size;
  read : g.S.Site.tells → IsRead (content (g.S.Site.files l.fn.site l.name)) l.records l.at;
  shows : g.S.Site.tells → Shows l.window (content (g.S.Site.files l.fn.site l.name));
  quiet : g.S.Site.tells → IsQuiet g.S.Site.files g.S.Site.may_leave g.S.Site.moment g.S.Site.images_since l.fn.site l.site;
  ample : g.S.Site.ample l.fn.site → g.S.Site.ample l.site;
  later : g.S.Site.count l.fn.site ≤ g.S.Site.count l.site;
}

abbrev pub decreases-loop-window : goal.decreases-loop-window
decreases-loop-window g l = l.size - l.at
