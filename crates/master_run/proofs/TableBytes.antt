-- What a table behind records stores is what they say.
use Rattle.std.proofs.Common.{◌≡◌, ◌∙◌, ℕ, List, ap, map}
use Rattle.flow_types.specs.declared.plan.Plan.{Plan}
use Rattle.flow_types.specs.declared.records.Record.{Record}
use Rattle.run_history.specs.declared.moves.Move.TheVariants as moves
use Rattle.run_history.specs.Links.{records_of}
use Rattle.run_history.specs.Storage.{stored}
use Rattle.task_core.specs.Known.{stored_sum}
use Rattle.task_core.specs.Stands.{Stands}
use Rattle.task_core.specs.States.{TableState, known_in}
use Rattle.task_core.proofs.Standing.{knows}
use Rattle.desk.proofs.Woven.{all_records}

pub stored_known : (t : TableState) (P : Plan) (H : List Record) (n : ℕ) → t.plan ≡ P → Stands t (map moves.Logged H) → n ≡ stored_sum (known_in t) → n ≡ stored P H
stored_known t P H n plan stands sum =
    let stores : stored_sum (known_in t) ≡ stored t.plan (records_of (map moves.Logged H)) = ap stored_sum (knows t (map moves.Logged H) stands) in
    sum ∙ stores ∙ ap (stored t.plan) (all_records H) ∙ ap (λ (Q : Plan). stored Q H) plan
