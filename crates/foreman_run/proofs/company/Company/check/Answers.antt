use Rattle.foreman_run.proofs.Companies.{kept_then}
use Rattle.foreman_run.specs.Lost.{seen_of}
use Rattle.foreman_run.proofs.company.Company.check.Goals as goal

pub loop-at-preserved : goal.loop-at-preserved
loop-at-preserved g c = kept_then g.L.Link.tells (seen_of g.L.Link.history g.L.Link.is_closed g.L.Link.count g.L.Link.idle_count) g.L.Link.honest c.args.self.now c.loop-at.self c.check_at.new.self c.loop-at.invariant c.check_at.ensures
