use Rattle.std.proofs.Common.{◌≡◌, ◌++◌, ◌∷◌, false, not, List, Result, Ok, sym, ap, subst, ◌∙◌, ℕ, arith}
use Rattle.std.proofs.lemmas.List.{append-nil}
use Rattle.mf_text.specs.declared.fault.MakeFault.{MakeFault}
use Rattle.mf_text.specs.declared.fault.MakeFault.TheVariants.{NoCommand}
use Rattle.mf_text.specs.declared.output.Expanded.{Expanded}
use Rattle.mf_text.specs.Answers.{Fails}
use Rattle.mf_forms.specs.declared.form.Form.TheVariants as form
use Rattle.mf_rules.specs.declared.steps.Formed.{Formed}
use Rattle.mf_rules.specs.declared.reader.Reader.{Reader}
use Rattle.mf_rules.specs.Values.{made_at}
use Rattle.mf_rules.specs.Faults.{least, head_faults, where_true}
use Rattle.mf_rules.specs.Progress.{Stands, refused}
use Rattle.mf_rules.proofs.FaultLemmas.{match_free}
use Rattle.mf_rules.proofs.Standing.{made_is, whole_at, early_at, stands_head}
use Rattle.mf_rules.proofs.reader.Reader.head.Goals as goal

pub returns-in-Ok-head_files : goal.returns-in-Ok-head_files
returns-in-Ok-head_files c = λ env earlier s.
    let n : ℕ = c.args.number in
    let text : List ℕ = c.args.text.now in
    let made : Expanded = c.in-Ok.made in
    let is : made_at env earlier n text ≡ Ok made =
    made_is env earlier c.args.self.now n text c.as_str.result.now made s c.as_str.ensures.value c.in-Ok.ensures in
    let found = c.in-Ok-head_files.ensures in
    let line : Formed = record { number = n; form = form.Head text } in
    match_free c.wait.result _ _ _ c.wait.ensures (λ u h. (
      subst (λ (r : Reader). Stands env (line ∷ earlier) r) (sym h) (stands_head env earlier c.args.self.now n text made.text c.in-Ok-head_files.files s (whole_at env earlier n text made is found.1) found.0),
      ap (λ (r : Result Expanded MakeFault). least (head_faults n r ++ where_true (not c.args.is_answered) (NoCommand n))) is ∙ found.2,
    ))

pub returns-in-Ok : goal.returns-in-Ok
returns-in-Ok c = λ env earlier s.
    let n : ℕ = c.args.number in
    let made : Expanded = c.in-Ok.made in
    let is : made_at env earlier n c.args.text.now ≡ Ok made =
    made_is env earlier c.args.self.now n c.args.text.now c.as_str.result.now made s c.as_str.ensures.value c.in-Ok.ensures in
    subst (λ (r : Result Expanded MakeFault). Fails c.in-Err-head_files.fault (refused (least (head_faults n r ++ where_true (not c.args.is_answered) (NoCommand n))))) (sym is) c.in-Err-head_files.ensures

pub returns : goal.returns
returns c = λ env earlier s.
    let n : ℕ = c.args.number in
    early_at env earlier c.args.self.now n c.args.text.now c.as_str.result.now c.in-Err.fault (NoCommand n) (not c.args.is_answered) false _ s c.as_str.ensures.value c.in-Err.ensures (omega arith)
    (λ f e. ap (λ (r : Result Expanded MakeFault). head_faults n r ++ where_true (not c.args.is_answered) (NoCommand n)) e
    ∙ ap (λ (l : List MakeFault). f ∷ l) (sym (append-nil (where_true (not c.args.is_answered) (NoCommand n)))))
