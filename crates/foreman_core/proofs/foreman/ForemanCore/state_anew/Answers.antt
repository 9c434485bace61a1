use Rattle.std.proofs.Common.{◌≡◌, [], ◌∷◌, rules}
use Rattle.foreman_core.specs.Drafts.{Drafted}
use Rattle.foreman_core.specs.Foremen.{totals}
use Rattle.foreman_core.proofs.Hearing.{restated_drafted}
use Rattle.foreman_core.proofs.foreman.ForemanCore.state_anew.Goals as goal

pub returns : goal.returns
returns c =
    let f = c.args.self.now in
    let drafted : Drafted = record { next = f.next; up = totals f ∷ []; down = [] } in
    let is : c.state.new.self ≡ drafted = search rules in
    restated_drafted f c.state.new.self c.finish.result c.finish.new.self is c.finish.ensures.step
