use Rattle.std.proofs.Common.{◌≡◌, ◌++◌, [], ◌∷◌, false, cond, unwrap_or, is_some, Bool, List, Option, None, Result, Ok, sym, ap, subst, ◌∙◌, ℕ}
use Rattle.std.specs.Option.{option_map}
use Rattle.std.specs.FinMap as finite
use Rattle.mf_text.specs.declared.fault.MakeFault.{MakeFault}
use Rattle.mf_text.specs.Names.{behind_old}
use Rattle.mf_rules.specs.declared.reader.Reader.{Reader}
use Rattle.mf_text.specs.declared.fault.MakeFault.TheVariants.{BadNumber}
use Rattle.mf_text.specs.Answers.{Fails}
use Rattle.mf_forms.specs.declared.form.Form.TheVariants as form
use Rattle.mf_forms.specs.declared.form.Resource.{Resource}
use Rattle.mf_rules.specs.Values.{expanded_at, or_text, text_value}
use Rattle.mf_rules.specs.Categories.{resource_of, setting_by}
use Rattle.mf_rules.specs.Faults.{least, fault_in, setting_faults, where_true}
use Rattle.mf_rules.specs.Progress.{Assigns, Heeds, set_by_variable, refused}
use Rattle.mf_rules.proofs.FaultLemmas.{match_on}
use Rattle.mf_rules.proofs.Standing.{text_at, first_at}
use Rattle.mf_rules.proofs.Assigning.{stands_assigned, settings_are, no_amount, no_setting}
use Rattle.mf_rules.proofs.reader.Reader.assign.Goals as goal

pub returns-in-Ok-assign : goal.returns-in-Ok-assign
returns-in-Ok-assign c = λ answered env earlier s.
    let n : ℕ = c.args.number in
    let text : List ℕ = c.args.text.now in
    let name : List ℕ = c.args.name.now in
    let v : List ℕ = c.as_str-in-Ok.result.now in
    let shown : List ℕ = c.value_or_empty-value.result.now in
    let old : Reader = c.args.self.now in
    let same : c.as_str-name.result.now ≡ name = c.as_str-name.ensures.value in
    let is : expanded_at env earlier n text ≡ Ok v =
    text_at env earlier old n text c.as_str.result.now c.in-Ok.value s c.as_str.ensures.value c.in-Ok.ensures ∙ ap (λ (x : List ℕ). Ok x) (sym c.as_str-in-Ok.ensures.value) in
    let puts : Assigns old.variables c.args.marks name c.args.appends v c.assign.new.self =
    subst (λ (k : List ℕ). Assigns old.variables c.args.marks k c.args.appends v c.assign.new.self) same c.in-Ok-assign.ensures in
    let shows : shown ≡ unwrap_or (finite.get c.assign.new.self.values name) [] =
    c.value_or_empty-value.ensures ∙ ap (λ (k : List ℕ). unwrap_or (finite.get c.assign.new.self.values k) []) same in
    let settings : set_by_variable name shown ≡ setting_by env (form.Assignment c.args.marks name c.args.appends text) n earlier =
    settings_are env earlier n c.args.marks name c.args.appends text v old.variables c.assign.new.self shown s.variables is puts shows in
    match_on c.heed.result
    (λ _. Heeds old.categories c.as_str-name.result.now shown c.heed.new.self × (least (setting_faults n (set_by_variable c.as_str-name.result.now shown)) ≡ None)) _
    (λ fault. Fails fault (refused (least (setting_faults n (set_by_variable c.as_str-name.result.now shown))))) _ c.heed.ensures
    (λ u h. (
      stands_assigned env earlier n c.args.marks name c.args.appends text v old c.assign.new.self c.heed.new.self shown s is puts shows
          (subst (λ (k : List ℕ). Heeds old.categories k shown c.heed.new.self) same h.0),
      ap (λ (r : Result (List ℕ) MakeFault). least (fault_in r ++ setting_faults n (setting_by env (form.Assignment c.args.marks name c.args.appends text) n earlier))) is
          ∙ ap (λ (o : Option (Resource × List ℕ)). least (setting_faults n o)) (sym settings)
          ∙ ap (λ (k : List ℕ). least (setting_faults n (set_by_variable k shown))) (sym same) ∙ h.1,
    ))
    (λ fault h.
    subst (λ (r : Result (List ℕ) MakeFault). Fails fault (refused (least (fault_in r ++ setting_faults n (setting_by env (form.Assignment c.args.marks name c.args.appends text) n earlier))))) (sym is)
    (subst (λ (o : Option (Resource × List ℕ)). Fails fault (refused (least (setting_faults n o)))) settings
    (subst (λ (k : List ℕ). Fails fault (refused (least (setting_faults n (set_by_variable k shown))))) same h)))

pub returns : goal.returns
returns c = λ answered env earlier s.
    let n : ℕ = c.args.number in
    let text : List ℕ = c.args.text.now in
    let name : List ℕ = c.args.name.now in
    let old : Option (List ℕ) = cond c.args.appends (text_value env earlier name) None in
    let all : List MakeFault = fault_in (expanded_at env earlier n text) ++ setting_faults n (setting_by env (form.Assignment c.args.marks name c.args.appends text) n earlier) in
    let sets : c.is_some.result ≡ is_some (resource_of name) =
    c.is_some.ensures ∙ ap (λ (o : Option Resource). is_some o) (c.resource_of.ensures ∙ ap (λ (k : List ℕ). resource_of k) c.as_str-name.ensures.value) in
    first_at env earlier c.args.self.now n text c.as_str.result.now c.in-Err.fault c.is_some.result (BadNumber n) c.first_of.result false all s c.as_str.ensures.value c.in-Err.ensures c.first_of.ensures
    (λ f e.
    ap (λ (r : Result (List ℕ) MakeFault). fault_in r ++ setting_faults n (option_map (λ (set : Resource). (set, behind_old old (or_text r))) (resource_of name))) e
    ∙ ap (λ (l : List MakeFault). f ∷ l) (no_setting n (resource_of name) (behind_old old []) (no_amount old)
    ∙ ap (λ (b : Bool). where_true b (BadNumber n) ++ []) (sym sets)))
