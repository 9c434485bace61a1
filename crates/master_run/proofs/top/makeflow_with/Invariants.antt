use Rattle.master_run.proofs.top.makeflow_with.Given as goal

-- the moments since the entry are told
abbrev pub ghosts-follow : goal.ghosts-follow
ghosts-follow g a = record { born = g.S.Site.moment a.site }
