-- What stands behind a command, and its faults.
use Rattle.std.proofs.Common.{◌≡◌, ℕ, Bool, not, nat_lt, List, ◌∷◌, ◌++◌, Option, Some, None, is_some, Result, Ok, Err, refl, sym, ap, subst, ◌∙◌}
use Rattle.std.proofs.lemmas.List.{append-nil}
use Rattle.flow_types.specs.declared.flow.Pair.{Pair}
use Rattle.mf_text.specs.declared.fault.MakeFault.{MakeFault}
use Rattle.mf_text.specs.declared.fault.MakeFault.TheVariants.{StrayCommand, TooLarge}
use Rattle.mf_text.specs.declared.output.Expanded.{Expanded}
use Rattle.mf_forms.specs.declared.form.Form.TheVariants as form
use Rattle.mf_rules.specs.declared.steps.Formed.{Formed}
use Rattle.mf_rules.specs.declared.drafts.Head.{Head}
use Rattle.mf_rules.specs.declared.drafts.Draft.{Draft}
use Rattle.mf_rules.specs.declared.reader.Reader.{Reader}
use Rattle.mf_rules.specs.Tables.{NameSet, names_in, pairs_of, environment_size}
use Rattle.mf_rules.specs.Values.{or_text, value_at, expanded_at, made_at, environment_at}
use Rattle.mf_rules.specs.Rules.{head_at, draft_of, drafts_at}
use Rattle.mf_rules.specs.Faults.{where_true, command_faults, faults_by}
use Rattle.mf_rules.specs.Progress.{Stands, Drafts, drafted, table_pairs, all_of_command}

module _ (env : List (List ℕ × List ℕ)) (earlier : List Formed) (old : Reader) (n : ℕ) (text : List ℕ) where
  -- the table's pairs are the environment of the line
  pub pairs_are : Stands env earlier old → table_pairs old.variables ≡ environment_at env earlier
  pairs_are s =
      ap (λ (v : List ℕ → Option (List ℕ)). pairs_of v (names_in old.variables.marked)) s.variables.values
      ∙ ap (λ (m : NameSet). pairs_of (value_at env earlier) (names_in m)) s.variables.marked

  -- the faults of the line, as the table knows them
  pub faults_are : (made : Expanded) (is_waiting answered : Bool) → Stands env earlier old → made_at env earlier n text ≡ Ok made → is_waiting ≡ is_some old.waiting
      → faults_by env (form.Command text) n earlier answered ≡ all_of_command n made is_waiting (nat_lt 1048576 (environment_size (table_pairs old.variables)))
  faults_are made is_waiting answered s is waits =
      ap (λ (r : Result Expanded MakeFault). command_faults n r ++ where_true (not (is_some (head_at env earlier))) (StrayCommand n) ++ where_true (nat_lt 1048576 (environment_size (environment_at env earlier))) (TooLarge 1048576)) is
      ∙ ap (λ (b : Bool). command_faults n (Ok made) ++ where_true (not b) (StrayCommand n) ++ where_true (nat_lt 1048576 (environment_size (environment_at env earlier))) (TooLarge 1048576)) (sym (waits ∙ ap (λ (h : Option Head). is_some h) s.waiting))
      ∙ ap (λ (ps : List Pair). all_of_command n made is_waiting (nat_lt 1048576 (environment_size ps))) (sym (pairs_are s))

  -- the faults of the line behind that of its expansion
  pub faults_behind : (is_waiting answered : Bool) (f : MakeFault) → Stands env earlier old → is_waiting ≡ is_some old.waiting → made_at env earlier n text ≡ Err f
      → faults_by env (form.Command text) n earlier answered
      ≡ f ∷ (where_true (not is_waiting) (StrayCommand n) ++ where_true (nat_lt 1048576 (environment_size (environment_at env earlier))) (TooLarge 1048576))
  faults_behind is_waiting answered f s waits is =
      ap (λ (r : Result Expanded MakeFault). command_faults n r ++ where_true (not (is_some (head_at env earlier))) (StrayCommand n) ++ where_true (nat_lt 1048576 (environment_size (environment_at env earlier))) (TooLarge 1048576)) is
      ∙ ap (λ (b : Bool). f ∷ (where_true (not b) (StrayCommand n) ++ where_true (nat_lt 1048576 (environment_size (environment_at env earlier))) (TooLarge 1048576))) (sym (waits ∙ ap (λ (h : Option Head). is_some h) s.waiting))

  draft_is : (head : Option Head) (t : List ℕ) → drafted head t (environment_at env earlier) ≡ draft_of env head t earlier
  draft_is None t = refl
  draft_is (Some head) t = refl

  pub stands_command : (t : List ℕ) (new : Reader) → Stands env earlier old → expanded_at env earlier n text ≡ Ok t → Drafts old t (table_pairs old.variables) new
      → Stands env (record { number = n; form = form.Command text } ∷ earlier) new
  stands_command t new s is takes =
      subst (λ (r : Reader). Stands env (record { number = n; form = form.Command text } ∷ earlier) r) (sym takes.rest) (record {
        variables = record { values = s.variables.values; of_text = s.variables.of_text; marked = s.variables.marked };
        categories = record { current = s.categories.current; amounts = s.categories.amounts };
        waiting = refl;
        drafts = takes.drafts
            ∙ ap (λ (ds : List Draft). ds ++ drafted old.waiting t (table_pairs old.variables)) s.drafts
            ∙ ap (λ (h : Option Head). drafts_at env earlier ++ drafted h t (table_pairs old.variables)) s.waiting
            ∙ ap (λ (ps : List Pair). drafts_at env earlier ++ drafted (head_at env earlier) t ps) (pairs_are s)
            ∙ ap (λ (ds : List Draft). drafts_at env earlier ++ ds) (draft_is (head_at env earlier) t)
            ∙ ap (λ (r : Result (List ℕ) MakeFault). drafts_at env earlier ++ draft_of env (head_at env earlier) (or_text r) earlier) (sym is);
        bounds = s.bounds ∙ sym (append-nil _);
      })
