use Rattle.std.proofs.Common.{◌≡◌, ℕ, List, Some, Result, Err, true, sym, subst, arith}
use Rattle.run_history.specs.Legal.{first_illegal, is_legal}
use Rattle.task_core.specs.States.{TableState}
use Rattle.desk.specs.declared.answers.StartFault.{StartFault}
use Rattle.desk.specs.Histories.{FindsHistory}
use Rattle.desk.proofs.Histories.{nothing_wrong, wrong_record}
use Rattle.desk.proofs.Starting.{illegal_inside}
use Rattle.desk.proofs.history.table_behind.Goals as goal

pub fault_of-requires : goal.fault_of-requires
fault_of-requires c at is =
    let lt = illegal_inside c.args.plan c.args.digest.0 c.args.history.now at (c.in-Err.ensures.fault at is) in
    let few = c.requires.few in omega (arith, lt, few)

pub returns-in-Ok : goal.returns-in-Ok
returns-in-Ok c = (
  nothing_wrong c.args.plan c.args.history.now c.requires.same (subst (λ (d : List ℕ). is_legal c.args.plan d c.args.history.now ≡ true) c.requires.digest c.in-Ok.ensures.over.legal),
  c.in-Ok.ensures.over.plan,
  c.in-Ok.ensures.over.options,
  c.in-Ok.ensures.over.stop,
  c.in-Ok.ensures.over.stands,
)

pub returns-in-Err : goal.returns-in-Err
returns-in-Err c =
    subst (λ (w : StartFault). FindsHistory c.args.plan c.args.options c.args.history.now (let refusal : Result TableState StartFault = Err w in refusal)) (sym c.fault_of.ensures)
    (wrong_record c.args.plan c.args.options c.args.history.now c.in-Err.why c.requires.same
    (λ at is. subst (λ (d : List ℕ). first_illegal c.args.plan d c.args.history.now ≡ Some at) c.requires.digest (c.in-Err.ensures.fault at is)))
