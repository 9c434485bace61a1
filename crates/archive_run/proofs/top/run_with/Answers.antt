use Rattle.std.proofs.Common.{subst, arith}
use Rattle.archive_run.specs.Archives.{CanTrust}
use Rattle.archive_run.proofs.Crews.{crew_all}
use Rattle.archive_run.proofs.Moved.{retold}
use Rattle.archive_run.proofs.top.run_with.Goals as goal

-- a store that can be trusted at the entry is trusted since that moment
pub run_over-requires-clause-trusted : goal.run_over-requires-clause-trusted
run_over-requires-clause-trusted g c κs within can = record {
  told = can.store_tells;
  since = omega arith;
  faithful = λ image left. can.faithful image ((g.met.A.Site g.world.𝓛 g.world.𝓜 g.world.𝓡 ((λ s x. x), (λ x. x), (λ x. x), λ x. x)).only_now can.store_tells c.args.store image left);
}

-- without room there is no archive, and the runners tell of all that they would tell over it
pub returns-in-Err-clause-ends : goal.returns-in-Err-clause-ends
returns-in-Err-clause-ends g c =
    retold _ (λ job. CanTrust g.A.Site.tells g.A.Site.may_leave g.F.Commands.gives g.R.Runner.tells c.args.folder c.args.store c.args.runners.items)
    (λ job can. crew_all (λ r. g.R.Runner.tells r job) c.args.runners.items (can.runners_tell job)) c.run_plain.ensures.ends

pub returns-in-Err-clause-faithful : goal.returns-in-Err-clause-faithful
returns-in-Err-clause-faithful g c can image left =
    can.faithful image ((g.met.A.Site g.world.𝓛 g.world.𝓜 g.world.𝓡 ((λ s x. x), (λ x. x), (λ x. x), λ x. x)).only_now can.store_tells c.args.store image
    (subst (λ store. g.A.Site.images_since store (g.A.Site.moment c.args.store) image) c.run_plain.ensures.store left))
