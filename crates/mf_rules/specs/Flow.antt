-- The flow that a text says, or its first fault.
use Rattle.std.specs.Prelude.{ℕ, List, [], map, reverse, Option, Some, None, unwrap_or, Result, Ok, Err, codes, string_bytes}
use Rattle.std.proofs.Common.{String, Global}
use Rattle.flow_types.specs.declared.flow.RawFlow.{RawFlow}
use Rattle.mf_text.specs.declared.lines.Line.{Line}
use Rattle.mf_text.specs.declared.fault.MakeFault.{MakeFault}
use Rattle.mf_text.specs.Lines.{lines_of}
use Rattle.mf_forms.specs.Words.{words}
use Rattle.mf_forms.specs.Forms.{form_of}
use Rattle.mf_rules.specs.declared.steps.Formed.{Formed}
use Rattle.mf_rules.specs.Values.{value_at}
use Rattle.mf_rules.specs.Rules.{drafts_at, rule_of, bounds_at}
use Rattle.mf_rules.specs.Faults.{first_fault}

-- the names and values of an environment
abbrev pub given_pairs : List (String Global × String Global) → List (List ℕ × List ℕ)
given_pairs env = map (λ (pair : String Global × String Global). (string_bytes pair.0, string_bytes pair.1)) env

-- a line by its number and its form
abbrev pub formed : Line → Formed
formed line = record { number = line.number; form = form_of line.text }

module _ (env : List (List ℕ × List ℕ)) where
  -- the names to keep, by a variable at the end of the text
  abbrev pub kept_names : List Formed → List (List ℕ)
  kept_names whole = words (unwrap_or (value_at env whole (codes "MAKEFLOW_OUTPUTS")) [])

  -- the flow behind these lines, of which the last comes first
  abbrev pub flow_at : List Formed → RawFlow
  flow_at whole = record {
    rules = map (rule_of env whole) (drafts_at env whole);
    keep = kept_names whole;
    bounds = bounds_at env whole;
  }

  -- the fault, or else the flow
  abbrev pub unless_fault : Option MakeFault → List Formed → Result RawFlow MakeFault
  unless_fault (Some fault) whole = Err fault
  unless_fault None whole = Ok (flow_at whole)

  -- the flow of these lines, or their first fault
  abbrev pub flow_in : List Formed → Result RawFlow MakeFault
  flow_in lines = unless_fault (first_fault env [] lines) (reverse lines)

  -- the flow of lines, or why there are none or their first fault
  abbrev pub flow_of_lines : Result (List Line) MakeFault → Result RawFlow MakeFault
  flow_of_lines (Err fault) = Err fault
  flow_of_lines (Ok lines) = flow_in (map formed lines)

  -- the flow of a text, or its first fault
  abbrev pub flow_of : List ℕ → Result RawFlow MakeFault
  flow_of text = flow_of_lines (lines_of text)
