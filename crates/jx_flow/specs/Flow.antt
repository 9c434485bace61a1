-- The flow that an expression says, or its first fault.
use Rattle.std.specs.Prelude.{ℕ, List, [], length, Option, Some, None, Result, Ok, Err, unwrap_or, option_and_then, codes, if◌then◌else◌}
use Rattle.std.specs.Str.{bytes_eq}
use Rattle.flow_types.specs.declared.flow.RawFlow.{RawFlow}
use Rattle.jx_tokens.specs.declared.fault.JxFault.{JxFault}
use Rattle.jx_tokens.specs.Tokens.{scan_of}
use Rattle.jx_syntax.specs.Grammar.{Derivation}
use Rattle.jx_syntax.specs.Reading.{parsed}
use Rattle.jx_syntax.specs.Tree.{Tree, Fields, object, no_fields, field, tree_of}
use Rattle.jx_meaning.specs.Values.{Value, find}
use Rattle.jx_meaning.specs.Lists.{put}
use Rattle.jx_meaning.specs.Meaning.{Scope, Outcome, evaluate}
use Rattle.jx_values.specs.Kinds.{text_in}
use Rattle.mf_forms.specs.Words.{words}
use Rattle.jx_flow.specs.declared.fault.JxFlowFault.TheVariants.{Syntax, Evaluation}
use Rattle.jx_flow.specs.declared.rules.General.{General}
use Rattle.jx_flow.specs.declared.rules.Made.{Made}
use Rattle.jx_flow.specs.Reading.{Found, and_then, held, optional, required, each_at, text_of, items_of}
use Rattle.jx_flow.specs.Amounts.{categories_by}
use Rattle.jx_flow.specs.Variables.{variables_by}
use Rattle.jx_flow.specs.Rules.{rule_of, rules_in, bounds_of}

-- what was made and the nodes begun so far, or a fault
abbrev pub Counted : Type 0 → Type 0
Counted A = Found (A × ℕ)

-- the value of an expression and the nodes begun so far
abbrev pub counted : Outcome Value → Counted Value
counted (Ok p) = Ok p
counted (Err e) = Err (Evaluation e)

-- ---- fields of an object literal

-- the fields, where an expression is an object literal
abbrev pub literal : Tree → Option Fields
literal (object at fs) = Some fs
literal t = None

-- this, or else the other
abbrev pub or_before : Option Tree → Option Tree → Option Tree
or_before (Some t) before = Some t
or_before None before = before

-- the expression of a key; of a key that stands there again it is the last one
abbrev pub field_of : List ℕ → Fields → Option Tree
field_of key no_fields = None
field_of key (field k t more) = or_before (field_of key more) (if bytes_eq k key then Some t else None)

-- what a field is worth, where it is there
abbrev pub evaluated : Option Tree → Scope → ℕ → Counted (Option Value)
evaluated None s n = Ok (None, n)
evaluated (Some t) s n = and_then (counted (evaluate t s n)) (λ p. Ok (Some p.0, p.1))

-- what a field is worth by its key
abbrev pub worth_of : List ℕ → Fields → Scope → ℕ → Counted (Option Value)
worth_of key fs s n = evaluated (field_of key fs) s n

-- ---- definitions

-- names with their values, of which each sees the ones before
abbrev pub defined : Fields → Scope → ℕ → Counted Scope
defined no_fields s n = Ok (s, n)
defined (field key t more) s n = and_then (counted (evaluate t s n)) (λ p. defined more (put key p.0 s) p.1)

-- the names that the field `define` gives values, none where it isn't there
abbrev pub defined_by : Option Tree → Counted Scope
defined_by None = Ok ([], 0)
defined_by (Some t) = and_then (held None (codes "define") (literal t)) (λ fs. defined fs [] 0)

-- ---- the flow

-- the items of `rules`, which must be there
abbrev pub items_by : Fields → Scope → ℕ → Counted (List Value)
items_by fs s n =
    and_then (worth_of (codes "rules") fs s n) (λ v.
    and_then (required None (codes "rules") (items_of None (codes "rules")) v.0) (λ items. Ok (items, v.1)))

-- the category of a rule that names none
abbrev pub default_by : Option Value → Found (List ℕ)
default_by v = and_then (optional (text_of None (codes "default_category")) v) (λ name. Ok (unwrap_or name (codes "default")))

-- what is said of all rules: their environment, the categories and the category of a rule that names none
abbrev pub general_by : Fields → Scope → ℕ → Found General
general_by fs s n =
    and_then (worth_of (codes "environment") fs s n) (λ e.
    and_then (variables_by None e.0) (λ variables.
    and_then (worth_of (codes "categories") fs s e.1) (λ c.
    and_then (categories_by c.0) (λ categories.
    and_then (worth_of (codes "default_category") fs s c.1) (λ d.
    and_then (default_by d.0) (λ category. Ok (record { variables = variables; categories = categories; category = category })))))))

-- the words of a text, none where there is no text
abbrev pub words_by : Option (List ℕ) → List (List ℕ)
words_by None = []
words_by (Some t) = words t

-- the names to keep
abbrev pub kept_by : Scope → List (List ℕ)
kept_by s = words_by (option_and_then text_in (find (codes "MAKEFLOW_OUTPUTS") s))

-- the flow of these rules
abbrev pub flow_by : List (List ℕ) → List Made → RawFlow
flow_by kept made = record { rules = rules_in made; keep = kept; bounds = bounds_of made }

-- the flow of an object literal whose names have these values
abbrev pub flow_within : Fields → Scope → ℕ → Found RawFlow
flow_within fs s n =
    and_then (items_by fs s n) (λ items.
    and_then (general_by fs s items.1) (λ general.
    and_then (each_at (rule_of general) 0 items.0) (λ made. Ok (flow_by (kept_by s) made))))

-- the flow of an object literal
abbrev pub flow_of_fields : Fields → Found RawFlow
flow_of_fields fs = and_then (defined_by (field_of (codes "define") fs)) (λ d. flow_within fs d.0 d.1)

-- the flow of an expression, which has to be an object literal
abbrev pub flow_of : Tree → Found RawFlow
flow_of t = and_then (held None [] (literal t)) flow_of_fields

-- the flow of what a text is, or the reason why it is no expression
abbrev pub flow_if : Result Derivation JxFault → Found RawFlow
flow_if (Ok d) = flow_of (tree_of d)
flow_if (Err e) = Err (Syntax e)

-- the flow of a text
unfoldable pub flow_of_text : List ℕ → Found RawFlow
flow_of_text text = flow_if (parsed (length text) (scan_of text))
