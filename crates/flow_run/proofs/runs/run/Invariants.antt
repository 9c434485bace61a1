use Rattle.std.specs.Prelude.{◌≡◌, true}
use Rattle.flow_types.specs.Serial.{serial}
use Rattle.run_history.specs.History.{next_run}
use Rattle.worker_pool.specs.Crews.{AllTell}
use Rattle.local_run.specs.Course.{TellsJobs}
use Rattle.local_run.specs.Runs.{IsKeeping, IsStanding, read_sources}
use Rattle.flow_run.proofs.runs.run.Given as goal

-- what the run's caller may rest on is stated as the premise of each clause
abbrev pub ghosts-run_by-T-Terms : goal.ghosts-run_by-T-Terms
ghosts-run_by-T-Terms g a = record {
  trust = g.S.Site.tells
      × IsKeeping a.plan a.log.name a.history (g.S.Site.may_leave a.site)
      × IsStanding g.F.Commands.gives (read_sources a.plan (g.S.Site.files a.site)) a.plan a.log.name a.history (g.S.Site.may_leave a.site)
      × TellsJobs a.plan a.options (AllTell g.R.Runner.tells a.runners.now) (serial a.plan g.F.Commands.gives (read_sources a.plan (g.S.Site.files a.site)))
      × (a.options.wq ≡ true → g.H.Hall.honest a.hall.now);
  sources = read_sources a.plan (g.S.Site.files a.site);
  keen = λ link. link ≡ 0;
  kept = IsKeeping a.plan a.log.name a.history (g.S.Site.may_leave a.site);
  born = g.B.Born.born;
  before = g.S.Site.images_since a.site g.B.Born.born;
}

-- and so is what is relied on of its workers
abbrev pub ghosts-run_by-T-Trust : goal.ghosts-run_by-T-Trust
ghosts-run_by-T-Trust g a = record {
  holds = g.S.Site.tells
      × IsKeeping a.plan a.log.name a.history (g.S.Site.may_leave a.site)
      × IsStanding g.F.Commands.gives (read_sources a.plan (g.S.Site.files a.site)) a.plan a.log.name a.history (g.S.Site.may_leave a.site)
      × TellsJobs a.plan a.options (AllTell g.R.Runner.tells a.runners.now) (serial a.plan g.F.Commands.gives (read_sources a.plan (g.S.Site.files a.site)))
      × (a.options.wq ≡ true → g.H.Hall.honest a.hall.now);
  plan = a.plan;
  options = a.options;
  run = next_run a.history;
  due = serial a.plan g.F.Commands.gives (read_sources a.plan (g.S.Site.files a.site));
}
