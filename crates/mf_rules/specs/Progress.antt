-- What the reader's table stands for behind the lines that it has read, of which the last comes first.
use Rattle.std.specs.Prelude.{◌≡◌, ℕ, Bool, not, List, [], ◌∷◌, ◌++◌, if◌then◌else◌, Option, Some, None, Result, Ok, Err, MatchResult, is_some, codes}
use Rattle.std.specs.Option.{option_map}
use Rattle.std.specs.Str.{bytes_eq}
use Rattle.std.specs.FinMap as finite
use Rattle.flow_types.specs.declared.flow.Pair.{Pair}
use Rattle.flow_types.specs.declared.flow.RawRule.{RawRule}
use Rattle.mf_text.specs.declared.fault.MakeFault.{MakeFault}
use Rattle.mf_text.specs.declared.fault.MakeFault.TheVariants.{StrayCommand, TooLarge}
use Rattle.mf_text.specs.declared.output.Expanded.{Expanded}
use Rattle.mf_text.specs.Names.{behind_old}
use Rattle.mf_forms.specs.Commands.{is_local, command_in}
use Rattle.mf_text.specs.Answers.{Fails}
use Rattle.mf_text.specs.Expansion.{settled}
use Rattle.mf_forms.specs.Forms.{or_else}
use Rattle.mf_forms.specs.declared.form.Resource.{Resource}
use Rattle.mf_forms.specs.declared.form.Resource.TheVariants as resource
use Rattle.mf_rules.specs.declared.steps.Formed.{Formed}
use Rattle.mf_rules.specs.declared.steps.Step.{Step}
use Rattle.mf_rules.specs.declared.variables.Variables.{Variables}
use Rattle.mf_rules.specs.declared.categories.Categories.{Categories}
use Rattle.mf_rules.specs.declared.drafts.Head.{Head}
use Rattle.mf_rules.specs.declared.drafts.Draft.{Draft}
use Rattle.mf_rules.specs.declared.reader.Reader.{Reader}
use Rattle.mf_rules.specs.Tables.{Counts, set_of, names_in, pairs_of}
use Rattle.mf_rules.specs.Values.{text_value, value_at, marked_at}
use Rattle.mf_rules.specs.Categories.{category_at, resource_of, amount_by, amount_at, needs_by}
use Rattle.mf_rules.specs.Rules.{head_at, drafts_at, bounds_at}
use Rattle.mf_rules.specs.Faults.{is_answered, line_fault, least, where_true, command_faults}

-- the amounts of one resource
abbrev pub amounts_of : Resource → Categories → Counts
amounts_of resource.Cores categories = categories.cores
amounts_of resource.Memory categories = categories.memory
amounts_of resource.Disk categories = categories.disk

-- the variables behind these lines
pub record HoldsVariables (env : List (List ℕ × List ℕ)) (earlier : List Formed) (variables : Variables) : Type 0 where
  pub values : finite.get variables.values ≡ value_at env earlier
  pub of_text : (x : List ℕ) → finite.contains_key variables.of_text x ≡ is_some (text_value env earlier x)
  pub marked : variables.marked ≡ set_of (marked_at earlier)

-- the categories behind these lines
pub record HoldsCategories (env : List (List ℕ × List ℕ)) (earlier : List Formed) (categories : Categories) : Type 0 where
  pub current : categories.current ≡ category_at env earlier
  pub amounts : (wanted : Resource) (name : List ℕ) → finite.get (amounts_of wanted categories) name ≡ amount_at env wanted name earlier

-- all that was read behind these lines
pub record Stands (env : List (List ℕ × List ℕ)) (earlier : List Formed) (reader : Reader) : Type 0 where
  pub variables : HoldsVariables env earlier reader.variables
  pub categories : HoldsCategories env earlier reader.categories
  pub waiting : reader.waiting ≡ head_at env earlier
  pub drafts : reader.drafts.items ≡ drafts_at env earlier
  pub bounds : reader.bounds.items ≡ bounds_at env earlier

-- a fault, where there is one
abbrev pub refused : Option MakeFault → Result (Unit {0}) MakeFault
refused None = Ok tt
refused (Some fault) = Err fault

-- reading one more line goes on behind it where it has no fault, and else gives its fault
abbrev pub Goes : {X : Type 0} → Reader → Formed → Bool → Result X MakeFault → Reader → Type 0
Goes old line answered answer new =
    (env : List (List ℕ × List ℕ)) (earlier : List Formed) → Stands env earlier old
    → MatchResult answer (λ _. Stands env (line ∷ earlier) new × (line_fault env earlier line answered ≡ None))
    (λ fault. Fails fault (refused (line_fault env earlier line answered)))

-- the amount that a text states was put in for the current category
pub record SetsAmount (old : Categories) (set : Resource) (text : List ℕ) (new : Categories) : Type 0 where
  pub current : new.current ≡ old.current
  pub amounts : (wanted : Resource) (name : List ℕ) → finite.get (amounts_of wanted new) name
      ≡ or_else (amount_by wanted name old.current (Some (set, text))) (finite.get (amounts_of wanted old) name)

-- the first fault of a line on which an expansion has this fault, another one stands or not, and so one of size
abbrev pub IsFirstOf : MakeFault → Bool → MakeFault → MakeFault → Type 0
IsFirstOf fault has_other other first =
    (line : ℕ) (unknown : List (List ℕ)) (is_open : Bool) (text : Option (List ℕ)) (is_large : Bool) (all : List MakeFault)
    → Fails fault (settled line unknown is_open text)
    → ((f : MakeFault) → settled line unknown is_open text ≡ Err f → all ≡ f ∷ (where_true has_other other ++ where_true is_large (TooLarge 1048576)))
    → Fails first (refused (least all))

-- an assignment's value was put in
pub record Assigns (old : Variables) (marks : Bool) (name : List ℕ) (appends : Bool) (value : List ℕ) (new : Variables) : Type 0 where
  pub values : new.values ≡ finite.insert old.values name (behind_old (if appends
      then (if finite.contains_key old.of_text name then finite.get old.values name else None) else None) value)
  pub of_text : new.of_text ≡ finite.insert old.of_text name tt
  pub marked : new.marked ≡ (if marks then finite.insert old.marked name tt else old.marked)

-- names were marked
pub record Marks (old : Variables) (names : List (List ℕ)) (new : Variables) : Type 0 where
  pub values : new.values ≡ old.values
  pub of_text : new.of_text ≡ old.of_text
  pub marked : (marks : List (List ℕ)) → old.marked ≡ set_of marks → new.marked ≡ set_of (names ++ marks)

-- what a variable with this value sets of the categories
abbrev pub set_by_variable : List ℕ → List ℕ → Option (Resource × List ℕ)
set_by_variable name value = option_map (λ (set : Resource). (set, value)) (resource_of name)

-- the categories know a variable's value
pub record Heeds (old : Categories) (name value : List ℕ) (new : Categories) : Type 0 where
  pub current : new.current ≡ (if bytes_eq name (codes "CATEGORY") then value else old.current)
  pub amounts : (wanted : Resource) (x : List ℕ) → finite.get (amounts_of wanted new) x
      ≡ or_else (amount_by wanted x old.current (set_by_variable name value)) (finite.get (amounts_of wanted old) x)

-- a draft with the needs that the table has for its category
abbrev pub with_needs : Categories → Draft → RawRule
with_needs categories draft = record {
  place = draft.head.place;
  outputs = draft.head.files.outputs;
  inputs = draft.head.files.inputs;
  command = draft.command;
  local = draft.local;
  needs = needs_by (finite.get categories.cores draft.head.category) (finite.get categories.memory draft.head.category) (finite.get categories.disk draft.head.category);
  env = draft.env;
}

-- the marked names with their values, as the table has them
abbrev pub table_pairs : Variables → List Pair
table_pairs variables = pairs_of (finite.get variables.values) (names_in variables.marked)

-- the draft of a command over these variables, where a head waits
abbrev pub drafted : Option Head → List ℕ → List Pair → List Draft
drafted None text pairs = []
drafted (Some head) text pairs = record { head = head; command = command_in text; local = is_local text; env = pairs } ∷ []

-- a command over these pairs was taken, with the head that waited
pub record Drafts (old : Reader) (text : List ℕ) (pairs : List Pair) (new : Reader) : Type 0 where
  pub rest : new ≡ record old { waiting = None; drafts = new.drafts }
  pub drafts : new.drafts.items ≡ old.drafts.items ++ drafted old.waiting text pairs

-- the faults of an expanded command, where a head waits or not and its environment is too large or not
abbrev pub all_of_command : ℕ → Expanded → Bool → Bool → List MakeFault
all_of_command number made is_waiting is_large =
    command_faults number (Ok made) ++ where_true (not is_waiting) (StrayCommand number) ++ where_true is_large (TooLarge 1048576)

-- the steps over these lines, of which the next one comes last
abbrev pub stack_of : List Formed → List Step
stack_of [] = []
stack_of (line ∷ later) = stack_of later ++ record { line = line; is_answered = is_answered later } ∷ []
