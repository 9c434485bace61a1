use Rattle.std.proofs.Common.{◌≡◌, [], ◌∷◌, refl, arith}
use Rattle.txn_log.proofs.examples.example_log_is_spelled.Goals as goal

pub returns-clause-spells : goal.returns-clause-spells
returns-clause-spells c = record {
  fit = ((omega arith, ((omega arith, omega arith))), tt);
  closed = record { gate = 9; rest = 1 ∷ []; shut = λ (e : 9 ≡ 1). absurd (cc); split = refl };
}
