use Rattle.std.proofs.Common.{◌≡◌, ℕ, Bool, false, not, nat_lt, List, Option, Ok, MatchResult, arith, sym, ap, subst, ◌∙◌}
use Rattle.mf_text.specs.declared.fault.MakeFault.{MakeFault}
use Rattle.mf_text.specs.declared.fault.MakeFault.TheVariants.{StrayCommand, TooLarge}
use Rattle.mf_text.specs.declared.output.Expanded.{Expanded}
use Rattle.mf_text.specs.Answers.{Fails}
use Rattle.mf_forms.specs.declared.form.Form.TheVariants as form
use Rattle.mf_rules.specs.declared.reader.Reader.{Reader}
use Rattle.mf_rules.specs.Tables.{environment_size}
use Rattle.mf_rules.specs.Values.{made_at, environment_at}
use Rattle.mf_rules.specs.Faults.{least, where_true, faults_by}
use Rattle.mf_rules.specs.Progress.{Drafts, table_pairs, refused}
use Rattle.mf_rules.proofs.FaultLemmas.{match_on}
use Rattle.mf_rules.proofs.Standing.{made_is, whole_at, early_at}
use Rattle.mf_rules.proofs.Commands.{faults_are, faults_behind, stands_command}
use Rattle.mf_rules.proofs.reader.Reader.command.Goals as goal

pub returns-in-Ok-check_command : goal.returns-in-Ok-check_command
returns-in-Ok-check_command c = λ answered env earlier s.
    let n : ℕ = c.args.number in
    let text : List ℕ = c.args.text.now in
    let old : Reader = c.args.self.now in
    let made : Expanded = c.in-Ok.made in
    let waits : Bool = c.is_some-is_waiting.result in
    let is : made_at env earlier n text ≡ Ok made =
    made_is env earlier old n text c.as_str.result.now made s c.as_str.ensures.value c.in-Ok.ensures in
    let large : Bool = nat_lt 1048576 (environment_size (table_pairs old.variables)) in
    let checked = c.in-Ok-check_command.ensures large in
    let least_is : least (faults_by env (form.Command text) n earlier answered) ≡ least (where_true large (TooLarge 1048576)) =
    ap least (faults_are env earlier old n text made waits answered s is c.is_some-is_waiting.ensures) ∙ checked.1 in
    match_on c.draft.result
    (λ _. Drafts old made.text (table_pairs old.variables) c.draft.new.self × (large ≡ false)) _
    (λ fault. Fails fault (refused (least (where_true large (TooLarge 1048576))))) _
    (subst (λ (t : List ℕ). MatchResult c.draft.result (λ _. Drafts old t (table_pairs old.variables) c.draft.new.self × (large ≡ false)) (λ fault. Fails fault (refused (least (where_true large (TooLarge 1048576)))))) c.as_str-in-Ok-check_command.ensures.value c.draft.ensures)
    (λ u h. (
      stands_command env earlier old n text made.text c.draft.new.self s (whole_at env earlier n text made is checked.0) h.0,
      least_is ∙ ap (λ (b : Bool). least (where_true b (TooLarge 1048576))) h.1,
    ))
    (λ fault h. subst (λ (o : Option MakeFault). Fails fault (refused o)) (sym least_is) h)

pub returns-in-Ok : goal.returns-in-Ok
returns-in-Ok c = λ answered env earlier s.
    let n : ℕ = c.args.number in
    let text : List ℕ = c.args.text.now in
    let old : Reader = c.args.self.now in
    let made : Expanded = c.in-Ok.made in
    let waits : Bool = c.is_some-is_waiting.result in
    let large : Bool = nat_lt 1048576 (environment_size (table_pairs old.variables)) in
    let is : made_at env earlier n text ≡ Ok made =
    made_is env earlier old n text c.as_str.result.now made s c.as_str.ensures.value c.in-Ok.ensures in
    subst (λ (l : List MakeFault). Fails c.in-Err-check_command.fault (refused (least l))) (sym (faults_are env earlier old n text made waits answered s is c.is_some-is_waiting.ensures))
    (c.in-Err-check_command.ensures large)

pub returns : goal.returns
returns c = λ answered env earlier s.
    let n : ℕ = c.args.number in
    let text : List ℕ = c.args.text.now in
    let old : Reader = c.args.self.now in
    let waits : Bool = c.is_some-is_waiting.result in
    let large : Bool = nat_lt 1048576 (environment_size (environment_at env earlier)) in
    early_at env earlier old n text c.as_str.result.now c.in-Err.fault (StrayCommand n) (not waits) large (faults_by env (form.Command text) n earlier answered) s c.as_str.ensures.value c.in-Err.ensures (omega arith)
    (λ f e. faults_behind env earlier old n text waits answered f s c.is_some-is_waiting.ensures e)
