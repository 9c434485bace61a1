use Rattle.std.proofs.Common.{ℕ, List, Result, sym, subst}
use Rattle.std.specs.FinMap as map
use Rattle.mf_text.specs.declared.fault.MakeFault.{MakeFault}
use Rattle.mf_text.specs.Answers.{Gives}
use Rattle.mf_text.proofs.Writing.{whole_expansion}
use Rattle.mf_text.proofs.expansion.expand.Goals as goal

pub returns-in-Ok : goal.returns-in-Ok
returns-in-Ok c =
    subst (λ (g : Result (List ℕ) MakeFault). Gives {X = List ℕ} {Y = List ℕ} (λ text. text) c.whole.result g)
    (sym (whole_expansion (map.get c.args.scope.now) c.args.line c.args.text.now c.in-Ok.made c.in-Ok.ensures)) c.whole.ensures
