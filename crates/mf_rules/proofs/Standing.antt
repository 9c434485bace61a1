-- What stands behind one more line of each form.
use Rattle.std.proofs.Common.{◌≡◌, ◌<◌, ℕ, Bool, false, cond, List, [], ◌∷◌, ◌++◌, Option, Some, Result, Ok, Err, refl, sym, ap, subst, ◌∙◌}
use Rattle.std.proofs.lemmas.List.{append-nil}
use Rattle.std.specs.List.{flat_map, list_any}
use Rattle.std.specs.FinMap as finite
use Rattle.flow_types.specs.declared.flow.SizeBound.{SizeBound}
use Rattle.mf_text.specs.declared.fault.MakeFault.{MakeFault}
use Rattle.mf_text.specs.declared.fault.MakeFault.TheVariants.{TooLarge}
use Rattle.mf_text.specs.Answers.{Fails}
use Rattle.mf_text.specs.declared.output.Expanded.{Expanded}
use Rattle.mf_text.proofs.Writing.{whole_expansion}
use Rattle.mf_rules.proofs.FaultLemmas.{early_first}
use Rattle.mf_text.specs.Expansion.{expansion, shortened_expansion, pieces, unknown_in, is_unclosed, becomes, limited}
use Rattle.mf_forms.specs.declared.form.Form.TheVariants as form
use Rattle.mf_forms.specs.declared.form.Resource.{Resource}
use Rattle.mf_forms.specs.declared.form.Resource.TheVariants as resource
use Rattle.mf_forms.specs.declared.heads.HeadFiles.{HeadFiles}
use Rattle.mf_forms.specs.Forms.{or_else}
use Rattle.mf_forms.specs.Heads.{files_of_head}
use Rattle.mf_forms.specs.Numbers.{bound_in}
use Rattle.mf_rules.specs.declared.steps.Formed.{Formed}
use Rattle.mf_rules.specs.declared.categories.Categories.{Categories}
use Rattle.mf_rules.specs.declared.reader.Reader.{Reader}
use Rattle.mf_rules.specs.Values.{value_at, expanded_at, made_at, or_text}
use Rattle.mf_rules.specs.Categories.{amount_by, amount_at, category_at}
use Rattle.mf_rules.specs.Rules.{or_no_files}
use Rattle.mf_rules.specs.Faults.{rank, least, where_true}
use Rattle.mf_rules.specs.Progress.{Stands, SetsAmount, IsFirstOf, amounts_of, refused}

-- a text that isn't too large was made whole
pub whole_at : (env : List (List ℕ × List ℕ)) (earlier : List Formed) (n : ℕ) (text : List ℕ) (made : Expanded) → made_at env earlier n text ≡ Ok made → made.is_too_large ≡ false
    → expanded_at env earlier n text ≡ Ok made.text
whole_at env earlier n text made is small =
    whole_expansion (value_at env earlier) n text made is ∙ ap (λ (b : Bool). cond b (Err (TooLarge 16777216)) (Ok made.text)) small

module _ (env : List (List ℕ × List ℕ)) (earlier : List Formed) (old : Reader) (n : ℕ) where
  -- the table's values expand a text as those of the lines do
  pub expands : (text t : List ℕ) → Stands env earlier old → t ≡ text → expansion (finite.get old.variables.values) n t ≡ expanded_at env earlier n text
  expands text t s same =
      ap (λ (x : List ℕ). expansion (finite.get old.variables.values) n x) same
      ∙ ap (λ (v : List ℕ → Option (List ℕ)). expansion v n text) s.variables.values

  pub text_at : (text t value : List ℕ) → Stands env earlier old → t ≡ text → expansion (finite.get old.variables.values) n t ≡ Ok value → expanded_at env earlier n text ≡ Ok value
  text_at text t value s same is = sym (expands text t s same) ∙ is

  pub fault_at : (text t : List ℕ) (fault : MakeFault) → Stands env earlier old → t ≡ text → Fails fault (expansion (finite.get old.variables.values) n t) → Fails fault (expanded_at env earlier n text)
  fault_at text t fault s same fails = subst (λ (r : Result (List ℕ) MakeFault). Fails fault r) (expands text t s same) fails

  -- the first fault of a line whose text has one
  pub first_at : (text t : List ℕ) (fault : MakeFault) (has_other : Bool) (other first : MakeFault) (is_large : Bool) (all : List MakeFault) → Stands env earlier old → t ≡ text
      → Fails fault (expansion (finite.get old.variables.values) n t) → IsFirstOf fault has_other other first
      → ((f : MakeFault) → expanded_at env earlier n text ≡ Err f → all ≡ f ∷ (where_true has_other other ++ where_true is_large (TooLarge 1048576))) → Fails first (refused (least all))
  first_at text t fault has_other other first is_large all s same fails is_first is =
      let v : List ℕ → Option (List ℕ) = finite.get old.variables.values in
      is_first n (flat_map (unknown_in v) (pieces t)) (list_any is_unclosed (pieces t)) (limited (flat_map (becomes v) (pieces t))) is_large all fails
      (λ f e. is f (sym (expands text t s same) ∙ e))

  -- what the table's values make of a text is what the lines' do
  made_same : (text t : List ℕ) → Stands env earlier old → t ≡ text → shortened_expansion (finite.get old.variables.values) n t ≡ made_at env earlier n text
  made_same text t s same =
      ap (λ (x : List ℕ). shortened_expansion (finite.get old.variables.values) n x) same
      ∙ ap (λ (v : List ℕ → Option (List ℕ)). shortened_expansion v n text) s.variables.values

  pub made_is : (text t : List ℕ) (made : Expanded) → Stands env earlier old → t ≡ text → shortened_expansion (finite.get old.variables.values) n t ≡ Ok made → made_at env earlier n text ≡ Ok made
  made_is text t made s same is = sym (made_same text t s same) ∙ is

  -- a text that isn't made has the first fault of its line
  pub early_at : (text t : List ℕ) (fault other : MakeFault) (has_other is_large : Bool) (all : List MakeFault) → Stands env earlier old → t ≡ text
      → Fails fault (shortened_expansion (finite.get old.variables.values) n t) → 4 < rank other
      → ((f : MakeFault) → made_at env earlier n text ≡ Err f → all ≡ f ∷ (where_true has_other other ++ where_true is_large (TooLarge 1048576))) → Fails fault (refused (least all))
  early_at text t fault other has_other is_large all s same fails above is =
      let v : List ℕ → Option (List ℕ) = finite.get old.variables.values in
      early_first n (flat_map (unknown_in v) (pieces t)) (list_any is_unclosed (pieces t)) _ fault other has_other is_large all above fails
      (λ f e. is f (sym (made_same text t s same) ∙ e))

  pub stands_passed : Stands env earlier old → Stands env (record { number = n; form = form.Passed } ∷ earlier) old
  stands_passed s = record {
    variables = record { values = s.variables.values; of_text = s.variables.of_text; marked = s.variables.marked };
    categories = record { current = s.categories.current; amounts = s.categories.amounts };
    waiting = s.waiting;
    drafts = s.drafts ∙ sym (append-nil _);
    bounds = s.bounds ∙ sym (append-nil _);
  }

  same_amounts : (value : List ℕ) (wanted : Resource) (name : List ℕ) → finite.get (amounts_of wanted (record old.categories { current = value })) name ≡ finite.get (amounts_of wanted old.categories) name
  same_amounts value resource.Cores name = refl
  same_amounts value resource.Memory name = refl
  same_amounts value resource.Disk name = refl

  pub stands_category : (text value : List ℕ) → Stands env earlier old → expanded_at env earlier n text ≡ Ok value
      → Stands env (record { number = n; form = form.Category text } ∷ earlier) (record old { categories = record old.categories { current = value } })
  stands_category text value s is = record {
    variables = record { values = s.variables.values; of_text = s.variables.of_text; marked = s.variables.marked };
    categories = record { current = sym (ap or_text is); amounts = λ wanted name. same_amounts value wanted name ∙ s.categories.amounts wanted name };
    waiting = s.waiting;
    drafts = s.drafts ∙ sym (append-nil _);
    bounds = s.bounds ∙ sym (append-nil _);
  }

  -- an amount that was put in stands before those behind it
  pub amounts_at : (set : Resource) (value set_text : List ℕ) (new : Categories) → Stands env earlier old → SetsAmount old.categories set value new → value ≡ set_text
      → (wanted : Resource) (name : List ℕ) → finite.get (amounts_of wanted new) name
      ≡ or_else (amount_by wanted name (category_at env earlier) (Some (set, set_text))) (amount_at env wanted name earlier)
  amounts_at set value set_text new s sets is wanted name =
      sets.amounts wanted name
      ∙ ap (λ (c : List ℕ). or_else (amount_by wanted name c (Some (set, value))) (finite.get (amounts_of wanted old.categories) name)) s.categories.current
      ∙ ap (λ (v : List ℕ). or_else (amount_by wanted name (category_at env earlier) (Some (set, v))) (finite.get (amounts_of wanted old.categories) name)) is
      ∙ ap (λ (o : Option ℕ). or_else (amount_by wanted name (category_at env earlier) (Some (set, set_text))) o) (s.categories.amounts wanted name)

  pub stands_amount : (set : Resource) (text value : List ℕ) (new : Categories) → Stands env earlier old → expanded_at env earlier n text ≡ Ok value → SetsAmount old.categories set value new
      → Stands env (record { number = n; form = form.Amount set text } ∷ earlier) (record old { categories = new })
  stands_amount set text value new s is sets = record {
    variables = record { values = s.variables.values; of_text = s.variables.of_text; marked = s.variables.marked };
    categories = record { current = sets.current ∙ s.categories.current; amounts = amounts_at set value (or_text (expanded_at env earlier n text)) new s sets (sym (ap or_text is)) };
    waiting = s.waiting;
    drafts = s.drafts ∙ sym (append-nil _);
    bounds = s.bounds ∙ sym (append-nil _);
  }

  pub stands_bound : (text value : List ℕ) (bound : SizeBound) (new : Reader) → Stands env earlier old → expanded_at env earlier n text ≡ Ok value → Some bound ≡ bound_in value
      → new ≡ record old { bounds = new.bounds } → new.bounds.items ≡ old.bounds.items ++ bound ∷ []
      → Stands env (record { number = n; form = form.SizeBound text } ∷ earlier) new
  stands_bound text value bound new s is found rest more =
      subst (λ (r : Reader). Stands env (record { number = n; form = form.SizeBound text } ∷ earlier) r) (sym rest) (record {
        variables = record { values = s.variables.values; of_text = s.variables.of_text; marked = s.variables.marked };
        categories = record { current = s.categories.current; amounts = s.categories.amounts };
        waiting = s.waiting;
        drafts = s.drafts ∙ sym (append-nil _);
        bounds = more ∙ rw (is, ← found) (ap (λ (bs : List SizeBound). bs ++ bound ∷ []) s.bounds);
      })

  pub stands_head : (text value : List ℕ) (files : HeadFiles) → Stands env earlier old → expanded_at env earlier n text ≡ Ok value → files_of_head value ≡ Some files
      → Stands env (record { number = n; form = form.Head text } ∷ earlier) (record old { waiting = Some (record { place = n; files = files; category = old.categories.current }) })
  stands_head text value files s is found = record {
    variables = record { values = s.variables.values; of_text = s.variables.of_text; marked = s.variables.marked };
    categories = record { current = s.categories.current; amounts = s.categories.amounts };
    waiting =
        ap (λ (c : List ℕ). Some (record { place = n; files = files; category = c })) s.categories.current
        ∙ ap (λ (f : HeadFiles). Some (record { place = n; files = f; category = category_at env earlier }))
        (sym (ap (λ (r : Result (List ℕ) MakeFault). or_no_files (files_of_head (or_text r))) is ∙ ap or_no_files found));
    drafts = s.drafts ∙ sym (append-nil _);
    bounds = s.bounds ∙ sym (append-nil _);
  }
