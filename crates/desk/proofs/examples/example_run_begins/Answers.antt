use Rattle.std.proofs.Common.{⊎_elim, refl, arith}
use Rattle.desk.proofs.KeepingMore.{if_some}
use Rattle.desk.proofs.examples.example_run_begins.Goals as goal

pub begin_by-requires-clause-later : goal.begin_by-requires-clause-later
begin_by-requires-clause-later g c κs within told kept = omega arith

pub begin_by-requires-clause-before : goal.begin_by-requires-clause-before
begin_by-requires-clause-before g c κs within told kept image was = was

pub begin_by-requires-clause-kept : goal.begin_by-requires-clause-kept
begin_by-requires-clause-kept g c κs within told kept image is = kept image is

pub begin_by-requires-clause-sources : goal.begin_by-requires-clause-sources
begin_by-requires-clause-sources g c κs within told kept trusted first f source = refl

pub returns : goal.returns
returns g c =
    if_some c.begin_by.result (λ left held told standing image since. ⊎_elim
    (λ was. record { records = c.args.history; since = omega arith; kept = standing image ((g.met.S.Site g.world.𝓛 g.world.𝓜 g.world.𝓡 ((λ s x. x), (λ x. x), (λ x. x), λ x. x)).only_now told c.args.site image was) })
    (λ more. more) (held told standing image since)) c.begin_by.ensures
