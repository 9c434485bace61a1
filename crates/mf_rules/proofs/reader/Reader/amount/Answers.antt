use Rattle.std.proofs.Common.{◌++◌, true, false, List, Ok, refl, sym, ap, ◌∙◌, ℕ}
use Rattle.mf_text.specs.declared.fault.MakeFault.{MakeFault}
use Rattle.mf_text.specs.declared.fault.MakeFault.TheVariants.{BadNumber}
use Rattle.mf_rules.specs.Values.{expanded_at}
use Rattle.mf_rules.specs.Faults.{fault_in, setting_faults}
use Rattle.mf_forms.specs.declared.form.Form.TheVariants as form
use Rattle.mf_rules.specs.Categories.{setting_by}
use Rattle.mf_rules.proofs.FaultLemmas.{match_on}
use Rattle.mf_rules.proofs.Standing.{text_at, first_at, stands_amount}
use Rattle.mf_rules.proofs.reader.Reader.amount.Goals as goal

pub returns-in-Ok : goal.returns-in-Ok
returns-in-Ok c = λ answered env earlier s.
    let n : ℕ = c.args.number in
    let is = text_at env earlier c.args.self.now n c.args.text.now c.as_str.result.now c.in-Ok.text s c.as_str.ensures.value c.in-Ok.ensures in
    let same = c.as_str-in-Ok.ensures.value in
    match_on c.set_amount.result _ _ _ _ c.set_amount.ensures
    (λ u h. (
      stands_amount env earlier c.args.self.now n c.args.resource c.args.text.now c.as_str-in-Ok.result.now c.set_amount.new.self s (is ∙ ap (λ (t : List ℕ). Ok t) (sym same)) h.0,
      rw is (rw same at h.1),
    ))
    (λ fault h. rw is (rw same at h))

pub returns-in-Err : goal.returns-in-Err
returns-in-Err c = λ answered env earlier s.
    let n : ℕ = c.args.number in
    let text : List ℕ = c.args.text.now in
    let all : List MakeFault = fault_in (expanded_at env earlier n text) ++ setting_faults n (setting_by env (form.Amount c.args.resource text) n earlier) in
    first_at env earlier c.args.self.now n text c.as_str.result.now c.in-Err.fault true (BadNumber n) c.first_of.result false all s c.as_str.ensures.value c.in-Err.ensures c.first_of.ensures
    (λ f e. rw e refl)
