-- What a table lends says of the records what its definitions do.
use Rattle.std.proofs.Common.{◌≡◌, ◌<◌, ◌∙◌, List, length, ap, arith}
use Rattle.std.specs.Prelude.{filter}
use Rattle.flow_types.specs.Plans.{numbers}
use Rattle.run_history.specs.declared.moves.Move.{Move}
use Rattle.run_history.specs.Links.{records_of}
use Rattle.run_history.specs.Storage.{ready_rules}
use Rattle.ready_rules.specs.Pendings.{is_ready, ready_in}
use Rattle.ready_rules.proofs.Filtering.{filter-same}
use Rattle.rule_progress.specs.Progress.{Progressing}
use Rattle.task_core.specs.Accounts.{IsProgressOf}
use Rattle.task_core.specs.Known.{Known, can_start, ready}
use Rattle.task_core.specs.Stands.{Stands}
use Rattle.task_core.specs.States.{TableState, known_in}
use Rattle.task_core.proofs.Standing.{knows}
use Rattle.task_core.proofs.Telling.{ready-is}

-- the ready rules are those that can start
pub ready-all : (K : Known) (V : Progressing) → IsProgressOf K V → ready_in V.pending ≡ ready K
ready-all K V is =
    ap (λ n. filter (is_ready V.pending) (numbers n)) is.rules.rules
    ∙ filter-same (is_ready V.pending) (can_start K) 0 (length K.plan.rules) (λ r low high. let inside : r < length K.plan.rules = omega (arith, high) in ready-is K V r inside is)

-- and those of the moves
pub ready-moves : (t : TableState) (M : List Move) → Stands t M → ready (known_in t) ≡ ready_rules t.plan (records_of M)
ready-moves t M stands = ap (λ (K : Known). ready K) (knows t M stands)
