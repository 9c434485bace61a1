use Rattle.std.proofs.Common.{List, ◌≡◌, rules, subst}
use Rattle.worker_pool.specs.Crews.{AllTell}
use Rattle.local_run.proofs.beside.call_beside.Goals as goal

pub returns-clause-tells : goal.returns-clause-tells
returns-clause-tells g c job told =
    let left : (now : List g.row.R.Denot) → c.join_mut.new.f.4.now ≡ now → AllTell g.R.Runner.tells now job =
    λ now same. subst (λ (runners : List g.row.R.Denot). AllTell g.R.Runner.tells runners job) same (c.join_mut.ensures.0.met.1.1.1.1.1 job told) in
    search (rules, left)
