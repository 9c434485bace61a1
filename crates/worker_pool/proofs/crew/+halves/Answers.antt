use Rattle.std.proofs.Common.{ℕ, List, ◌≡◌, ◌≤◌, ◌<◌, ◌+◌, ◌++◌, length, rules, arith, ap, ◌∙◌, sum_by}
use Rattle.std.proofs.lemmas.List.Sums.{sum_by-append}
use Rattle.worker_pool.specs.Courses.{MayReport}
use Rattle.worker_pool.specs.Hands.{Crew}
use Rattle.worker_pool.proofs.Crews.{crew_both, crew_left, crew_right}
use Rattle.worker_pool.proofs.crew.+halves.Goals as goal

pub work_halves-join_mut-requires-after_bounds : goal.work_halves-join_mut-requires-after_bounds
work_halves-join_mut-requires-after_bounds g t c κs within =
    let may = MayReport g.F.Commands.gives g.F.Commands.may_fail g.R.Runner.tells g.R.Runner.sure g.B.Terms.fits in
    let front = c.split_at_mut-front.result.0.now in
    let back = c.split_at_mut-front.result.1.now in
    let f : Crew may front = crew_left may c.args.runners.now front back c.split_at_mut-front.ensures.value c.requires.fits in
    let b : Crew may back = crew_right may c.args.runners.now front back c.split_at_mut-front.ensures.value c.requires.fits in
    search rules

pub work_halves-returns-clause-counted : goal.work_halves-returns-clause-counted
work_halves-returns-clause-counted g t c =
    let front = c.split_at_mut-front.result.0.now in
    let back = c.split_at_mut-front.result.1.now in
    let count = g.R.Runner.count in
    let failures = g.R.Runner.failures in
    let was : sum_by count c.args.runners.now ≡ sum_by count front + sum_by count back = ap (λ l. sum_by count l) c.split_at_mut-front.ensures.value ∙ sum_by-append count front back in
    let is = sum_by-append count c.join_mut.new.f.4.now c.join_mut.new.g.4.now in
    let were : sum_by failures c.args.runners.now ≡ sum_by failures front + sum_by failures back = ap (λ l. sum_by failures l) c.split_at_mut-front.ensures.value ∙ sum_by-append failures front back in
    let are = sum_by-append failures c.join_mut.new.f.4.now c.join_mut.new.g.4.now in
    (grind arith, grind arith)

pub work_halves-returns-clause-tells : goal.work_halves-returns-clause-tells
work_halves-returns-clause-tells g t c job told =
    let tell = λ (r : g.row.R.Denot). g.R.Runner.tells r job in
    let front = c.split_at_mut-front.result.0.now in
    let back = c.split_at_mut-front.result.1.now in
    let f : Crew tell front = crew_left tell c.args.runners.now front back c.split_at_mut-front.ensures.value told in
    let b : Crew tell back = crew_right tell c.args.runners.now front back c.split_at_mut-front.ensures.value told in
    let ended : Crew tell c.join_mut.new.f.4.now = c.join_mut.ensures.0.met.1.1.1.1.1 job f in
    let left : Crew tell c.join_mut.new.g.4.now = c.join_mut.ensures.1.met.1.1.1.1.1 job b in
    let both : (front back : List g.row.R.Denot) → Crew tell front → Crew tell back → Crew tell (front ++ back) = crew_both tell in
    search (rules, both)
