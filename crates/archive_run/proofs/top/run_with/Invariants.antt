use Rattle.archive_run.specs.Archives.{CanTrust}
use Rattle.archive_run.proofs.top.run_with.Given as goal

-- the archive is trusted where it can be, since the entry
abbrev pub ghosts-run_over : goal.ghosts-run_over
ghosts-run_over g a = record {
  trusts = CanTrust g.A.Site.tells g.A.Site.may_leave g.F.Commands.gives g.R.Runner.tells a.folder a.store a.runners.items;
  gives = g.F.Commands.gives;
  dir = a.folder;
  born = g.A.Site.moment a.store;
}
