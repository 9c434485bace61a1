use Rattle.std.proofs.Common.{◌≡◌, ◌∙◌, Bool, None, true, false, not, ap, refl, sym}
use Rattle.std.specs.Prelude.{find, is_some}
use Rattle.run_history.specs.Links.{records_of}
use Rattle.task_core.specs.declared.asking.Asked.TheVariants as asked
use Rattle.run_history.specs.Admissions.{Admitting}
use Rattle.task_core.specs.Admissions.{asks_by}
use Rattle.task_core.specs.Known.{Known, rules_of, wants}
use Rattle.task_core.specs.States.{TableState, known_in}
use Rattle.task_core.proofs.Collecting.{number-file}
use Rattle.task_core.proofs.Numbers.{number-some}
use Rattle.task_core.proofs.Vain.{vain-busy, vain-found, vain-known, vain-unwanted}
use Rattle.task_core.proofs.Waiting.{none-there}
use Rattle.task_core.proofs.table.Table.waits_in_vain_by.Goals as goal

not_not : (b : Bool) → not (not b) ≡ b
not_not true = refl
not_not false = refl

pub returns-then-not-is_idle-clause-vain : goal.returns-then-not-is_idle-clause-vain
returns-then-not-is_idle-clause-vain g c moves stands =
    let t : TableState = c.args.self.now in
    let A : Admitting = g.A.Admission.admitted in
    sym (vain-busy A (known_in t) (records_of moves) (wants (known_in t)) (sym c.is_idle.ensures.known ∙ c.if-not-is_idle.true)) ∙ vain-known A t moves stands

pub returns-then-is_some-clause-vain : goal.returns-then-is_some-clause-vain
returns-then-is_some-clause-vain g c moves stands =
    let t : TableState = c.args.self.now in
    let A : Admitting = g.A.Admission.admitted in
    let some : is_some (wants (known_in t)) ≡ true = ap is_some (sym c.wants.ensures) ∙ sym (number-file c.wants.result) ∙ sym c.is_some.ensures ∙ c.if-is_some.true in
    sym (vain-unwanted A (known_in t) (records_of moves) (wants (known_in t)) some) ∙ vain-known A t moves stands

pub returns-then-is_none-clause-vain : goal.returns-then-is_none-clause-vain
returns-then-is_none-clause-vain g c moves stands =
    let t : TableState = c.args.self.now in
    let A : Admitting = g.A.Admission.admitted in
    let K : Known = known_in t in
    let unwanted : wants K ≡ None = none-there (wants K) (ap is_some (sym c.wants.ensures) ∙ sym (number-file c.wants.result) ∙ sym c.is_some.ensures ∙ c.if-is_some.false) in
    let none : is_some (find (asks_by A K (records_of moves) asked.Roomy) (rules_of K)) ≡ false =
    ap is_some (sym (c.first_by.ensures.found moves stands)) ∙ sym (number-some c.first_by.result) ∙ c.is_none.ensures ∙ ap not c.if-is_none.true in
    sym (vain-found A K (records_of moves) false _ (sym c.is_idle.ensures.known ∙ c.if-not-is_idle.false) unwanted none refl) ∙ vain-known A t moves stands

pub returns-clause-vain : goal.returns-clause-vain
returns-clause-vain g c moves stands =
    let t : TableState = c.args.self.now in
    let A : Admitting = g.A.Admission.admitted in
    let K : Known = known_in t in
    let unwanted : wants K ≡ None = none-there (wants K) (ap is_some (sym c.wants.ensures) ∙ sym (number-file c.wants.result) ∙ sym c.is_some.ensures ∙ c.if-is_some.false) in
    let some : is_some (find (asks_by A K (records_of moves) asked.Roomy) (rules_of K)) ≡ true =
    ap is_some (sym (c.first_by.ensures.found moves stands)) ∙ sym (number-some c.first_by.result) ∙ c.is_none.ensures ∙ ap not c.if-is_none.false in
    let gone : is_some (find (asks_by A K (records_of moves) asked.Taken) (rules_of K)) ≡ not c.is_none-2.result =
    ap is_some (sym (c.first_by-2.ensures.found moves stands)) ∙ sym (number-some c.first_by-2.result) ∙ c.is_none-2.ensures in
    sym (not_not c.is_none-2.result) ∙ sym (vain-found A K (records_of moves) true (not c.is_none-2.result) (sym c.is_idle.ensures.known ∙ c.if-not-is_idle.false) unwanted some gone) ∙ vain-known A t moves stands
