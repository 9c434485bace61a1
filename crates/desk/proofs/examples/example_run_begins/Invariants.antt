use Rattle.desk.specs.Examples.{IsStanding, sources_read}
use Rattle.desk.proofs.examples.example_run_begins.Given as goal

-- each of them is what the clause asks for, or true
abbrev pub ghosts-begin_by : goal.ghosts-begin_by
ghosts-begin_by g a = record {
  trust = Unit {0};
  sources = sources_read a.plan (g.S.Site.files a.site);
  keen = λ link. Unit {0};
  kept = IsStanding g.F.Commands.gives (sources_read a.plan (g.S.Site.files a.site)) a.plan a.log.name a.history (g.S.Site.may_leave a.site);
  born = g.S.Site.moment a.site;
  before = g.S.Site.images_since a.site (g.S.Site.moment a.site);
}
