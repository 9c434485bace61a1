-- A flow whose lines have no fault keeps its limits.
use Rattle.std.proofs.Common.{◌≡◌, ℕ, Bool, true, false, cond, not, ◌&&◌, nat_lt, nat_le, List, [], ◌∷◌, ◌++◌, map, reverse, length, Option, Some, None, is_some, unwrap_or, Result, Ok, Err, IfOk, IsTrue, All, refl, sym, ap, subst, arith}
use Rattle.std.proofs.lemmas.Bool.{ltb-false, le-leb}
use Rattle.std.proofs.lemmas.List.{append-nil}
use Rattle.std.proofs.lemmas.List.Elements.{All-nil, All-cons, All-append, All-map, All-weaker}
use Rattle.std.specs.List.{list_all}
use Rattle.std.specs.Option.{option_map, option_to_list}
use Rattle.flow_types.specs.declared.flow.RawFlow.{RawFlow}
use Rattle.flow_types.specs.declared.flow.RawRule.{RawRule}
use Rattle.flow_types.specs.declared.flow.SizeBound.{SizeBound}
use Rattle.flow_types.specs.declared.numbers.Needs.TheVariants.{Stated}
use Rattle.flow_types.specs.Plans.{most_bytes, most_command_bytes, env_bytes, fits_amounts}
use Rattle.flow_types.specs.Flows.{FitsLimits}
use Rattle.mf_text.specs.declared.lines.Line.{Line}
use Rattle.mf_text.specs.declared.fault.MakeFault.{MakeFault}
use Rattle.mf_text.specs.declared.fault.MakeFault.TheVariants.{NoCommand, StrayCommand, TooLarge}
use Rattle.mf_text.specs.Answers.{Gives}
use Rattle.mf_text.specs.declared.output.Expanded.{Expanded}
use Rattle.mf_rules.proofs.Standing.{whole_at}
use Rattle.mf_forms.specs.declared.form.Form.{Form}
use Rattle.mf_forms.specs.declared.form.Form.TheVariants as form
use Rattle.mf_forms.specs.declared.form.Resource.{Resource}
use Rattle.mf_forms.specs.declared.form.Resource.TheVariants as resource
use Rattle.mf_forms.specs.Forms.{or_else}
use Rattle.mf_forms.specs.Words.{words}
use Rattle.mf_forms.specs.Commands.{command_in, is_no_command}
use Rattle.mf_forms.specs.Numbers.{is_digit, decimal_value, number_within, bound_by}
use Rattle.std.specs.Str.{bytes_eq}
use Rattle.mf_rules.specs.declared.steps.Formed.{Formed}
use Rattle.mf_rules.specs.declared.drafts.Head.{Head}
use Rattle.mf_rules.specs.declared.drafts.Draft.{Draft}
use Rattle.mf_rules.specs.Tables.{environment_size}
use Rattle.mf_rules.specs.Values.{or_text, expanded_at, made_at, environment_at}
use Rattle.mf_rules.specs.Categories.{is_same, amount_in, amount_by, amount_at, setting_by, category_at, needs_by, needs_at}
use Rattle.mf_rules.specs.Rules.{head_at, draft_of, drafts_by, drafts_at, rule_of, bounds_by, bounds_at}
use Rattle.mf_rules.specs.Faults.{lower, rank, least, where_true, is_answered, command_faults, faults_by, line_fault, first_fault}
use Rattle.mf_rules.specs.Flow.{formed, unless_fault, flow_at, flow_in, flow_of_lines}
use Rattle.mf_rules.specs.Laws.{FlowsFitTheirLimits}
use Rattle.mf_rules.proofs.Lists.{turned}
use Rattle.mf_text.specs.Lines.{lines_of}

-- ---- numbers

-- a number, where there is one, is at most another
abbrev pub is_at_most : ℕ → Option ℕ → Bool
is_at_most most None = true
is_at_most most (Some n) = nat_le n most

tested : (b : Bool) (most n : ℕ) → (b ≡ true → nat_le n most ≡ true) → is_at_most most (cond b (Some n) None) ≡ true
tested true most n tells = tells refl
tested false most n tells = refl

last_part : (a b c d : Bool) → (a && b && c && d) ≡ true → d ≡ true
last_part a b c d all = grind arith

number_kept : (most : ℕ) (text : List ℕ) → is_at_most most (number_within most text) ≡ true
number_kept most text =
    tested (nat_lt 0 (length text) && nat_le (length text) 10 && list_all is_digit text && nat_le (decimal_value text) most) most (decimal_value text)
    (last_part (nat_lt 0 (length text)) (nat_le (length text) 10) (list_all is_digit text) (nat_le (decimal_value text) most))

either_kept : (most : ℕ) (a b : Option ℕ) → is_at_most most a ≡ true → is_at_most most b ≡ true → is_at_most most (or_else a b) ≡ true
either_kept most None b first second = second
either_kept most (Some n) b first second = first

chosen_kept : (most : ℕ) (b : Bool) (a : Option ℕ) → is_at_most most a ≡ true → is_at_most most (cond b a None) ≡ true
chosen_kept most true a kept = kept
chosen_kept most false a kept = refl

default_kept : (most default : ℕ) (a : Option ℕ) → is_at_most most a ≡ true → nat_le default most ≡ true → nat_le (unwrap_or a default) most ≡ true
default_kept most default None kept low = low
default_kept most default (Some n) kept low = kept

-- ---- amounts

stated_kept : (c m d : Option ℕ) → is_at_most 1000000000 c ≡ true → is_at_most 1000000000 m ≡ true → is_at_most 1000000000 d ≡ true
    → fits_amounts (Stated (record { cores = unwrap_or c 1; memory = unwrap_or m 0; disk = unwrap_or d 0 })) ≡ true
stated_kept c m d of_c of_m of_d =
    let cores : nat_le (unwrap_or c 1) 1000000000 ≡ true = default_kept 1000000000 1 c of_c refl in
    let memory : nat_le (unwrap_or m 0) 1000000000 ≡ true = default_kept 1000000000 0 m of_m refl in
    let disk : nat_le (unwrap_or d 0) 1000000000 ≡ true = default_kept 1000000000 0 d of_d refl in
    rw (cores, memory, disk) refl

needs_kept : (c m d : Option ℕ) → is_at_most 1000000000 c ≡ true → is_at_most 1000000000 m ≡ true → is_at_most 1000000000 d ≡ true
    → fits_amounts (needs_by c m d) ≡ true
needs_kept None None None of_c of_m of_d = refl
needs_kept None None (Some d) of_c of_m of_d = stated_kept None None (Some d) of_c of_m of_d
needs_kept None (Some m) d of_c of_m of_d = stated_kept None (Some m) d of_c of_m of_d
needs_kept (Some c) m d of_c of_m of_d = stated_kept (Some c) m d of_c of_m of_d

set_kept : (wanted : Resource) (name current : List ℕ) (setting : Option (Resource × List ℕ)) → is_at_most 1000000000 (amount_by wanted name current setting) ≡ true
set_kept wanted name current None = refl
set_kept wanted name current (Some setting) =
    chosen_kept 1000000000 (is_same wanted setting.0 && bytes_eq current name) (amount_in setting.1) (number_kept 1000000000 setting.1)

-- ---- bounds

abbrev FitsBound : SizeBound → Type 0
FitsBound line = IsTrue (nat_le line.bytes most_bytes)

one_bound : (name : List ℕ) (most : Option ℕ) → is_at_most 67108864 most ≡ true
    → All FitsBound (option_to_list (option_map (λ (n : ℕ). record { name = name; bytes = n }) most))
one_bound name None kept = All-nil FitsBound
one_bound name (Some n) kept = All-cons FitsBound (record { name = name; bytes = n }) [] kept (All-nil FitsBound)

bound_kept : (ws : List (List ℕ)) → All FitsBound (option_to_list (bound_by ws))
bound_kept [] = All-nil FitsBound
bound_kept (name ∷ []) = All-nil FitsBound
bound_kept (name ∷ (number ∷ [])) = one_bound name (number_within 67108864 number) (number_kept 67108864 number)
bound_kept (name ∷ (number ∷ (more ∷ rest))) = All-nil FitsBound

-- ---- faults

lower_is : (b : Bool) (fault other : MakeFault) → cond b (Some fault) (Some other) ≡ None → ⊥
lower_is true fault other e = cc
lower_is false fault other e = cc

lower_some : (fault : MakeFault) (other : Option MakeFault) → lower fault other ≡ None → ⊥
lower_some fault None e = cc
lower_some fault (Some other) e = lower_is (nat_le (rank fault) (rank other)) fault other e

-- without a least fault there is none
least_none : (faults : List MakeFault) → least faults ≡ None → faults ≡ []
least_none [] e = refl
least_none (fault ∷ more) e = absurd (lower_some fault (least more) e)

both_empty : (xs ys : List MakeFault) → xs ++ ys ≡ [] → (xs ≡ []) × (ys ≡ [])
both_empty [] ys e = (refl, e)
both_empty (x ∷ xs) ys e = absurd cc

where_false : (b : Bool) (fault : MakeFault) → where_true b fault ≡ [] → b ≡ false
where_false true fault e = absurd cc
where_false false fault e = refl

neither : (a b : Option MakeFault) → or_else a b ≡ None → (a ≡ None) × (b ≡ None)
neither None b e = (refl, e)
neither (Some fault) b e = absurd cc

-- a number that isn't above another
not_above : (n : ℕ) → nat_lt 1048576 n ≡ false → nat_le n 1048576 ≡ true
not_above n e = le-leb n 1048576 (ltb-false 1048576 n e)

-- ---- lines without a fault

-- a draft within the limits of commands and environments
abbrev FitsDraft : Draft → Type 0
FitsDraft draft = IsTrue (nat_le (length draft.command) most_command_bytes) × IsTrue (nat_le (env_bytes draft.env) most_command_bytes)

module _ (env : List (List ℕ × List ℕ)) where
  -- none of these lines has a fault
  abbrev IsClear : List Formed → Type 0
  IsClear [] = Unit {0}
  IsClear (line ∷ earlier) = ((answered : Bool) × (line_fault env earlier line answered ≡ None)) × IsClear earlier

  clear_behind : (earlier later : List Formed) → IsClear earlier → first_fault env earlier later ≡ None → IsClear (reverse later ++ earlier)
  clear_behind earlier [] clear none = clear
  clear_behind earlier (line ∷ later) clear none =
      let parts = neither (line_fault env earlier line (is_answered later)) (first_fault env (line ∷ earlier) later) none in
      subst IsClear (sym (turned line later earlier)) (clear_behind (line ∷ earlier) later ((is_answered later, parts.0), clear) parts.1)

  amount_kept : (wanted : Resource) (name : List ℕ) (lines : List Formed) → is_at_most 1000000000 (amount_at env wanted name lines) ≡ true
  amount_kept wanted name [] = refl
  amount_kept wanted name (line ∷ earlier) =
      let setting : Option (Resource × List ℕ) = setting_by env line.form line.number earlier in
      either_kept 1000000000 (amount_by wanted name (category_at env earlier) setting) (amount_at env wanted name earlier)
      (set_kept wanted name (category_at env earlier) setting) (amount_kept wanted name earlier)

  needs_fit : (name : List ℕ) (lines : List Formed) → fits_amounts (needs_at env name lines) ≡ true
  needs_fit name lines =
      needs_kept (amount_at env resource.Cores name lines) (amount_at env resource.Memory name lines) (amount_at env resource.Disk name lines)
      (amount_kept resource.Cores name lines) (amount_kept resource.Memory name lines) (amount_kept resource.Disk name lines)

  bounds_of_line : (f : Form) (n : ℕ) (earlier : List Formed) → All FitsBound (bounds_by env f n earlier)
  bounds_of_line form.Passed n earlier = All-nil FitsBound
  bounds_of_line (form.OpenQuote is_head) n earlier = All-nil FitsBound
  bounds_of_line (form.Command text) n earlier = All-nil FitsBound
  bounds_of_line (form.Assignment marks name appends text) n earlier = All-nil FitsBound
  bounds_of_line (form.Marking names) n earlier = All-nil FitsBound
  bounds_of_line (form.Category text) n earlier = All-nil FitsBound
  bounds_of_line (form.Amount set text) n earlier = All-nil FitsBound
  bounds_of_line (form.SizeBound text) n earlier = bound_kept (words (or_text (expanded_at env earlier n text)))
  bounds_of_line (form.Head text) n earlier = All-nil FitsBound

  bounds_fit : (lines : List Formed) → All FitsBound (bounds_at env lines)
  bounds_fit [] = All-nil FitsBound
  bounds_fit (line ∷ earlier) =
      All-append FitsBound (bounds_at env earlier) (bounds_by env line.form line.number earlier) (bounds_fit earlier) (bounds_of_line line.form line.number earlier)

  -- a command without a fault is within its limits, and so is its environment
  draft_fits : (n : ℕ) (head : Option Head) (r : Result Expanded MakeFault) (text : List ℕ) (earlier : List Formed)
      → command_faults n r ++ where_true (not (is_some head)) (StrayCommand n) ++ where_true (nat_lt 1048576 (environment_size (environment_at env earlier))) (TooLarge 1048576) ≡ []
      → ((made : Expanded) → r ≡ Ok made → made.is_too_large ≡ false → text ≡ made.text)
      → All FitsDraft (draft_of env head text earlier)
  draft_fits n head (Err fault) text earlier e whole = absurd cc
  draft_fits n None (Ok made) text earlier e whole = All-nil FitsDraft
  draft_fits n (Some head) (Ok made) text earlier e whole =
      let size : Bool = nat_lt 1048576 (environment_size (environment_at env earlier)) in
      let parts = both_empty (command_faults n (Ok made) ++ where_true false (StrayCommand n)) (where_true size (TooLarge 1048576)) e in
      let first = both_empty (command_faults n (Ok made)) (where_true false (StrayCommand n)) parts.0 in
      let command = both_empty (where_true (is_no_command made.text) (NoCommand n) ++ where_true made.is_too_large (TooLarge 16777216)) (where_true (nat_lt 1048576 (length (command_in made.text))) (TooLarge 1048576)) first.0 in
      let large = both_empty (where_true (is_no_command made.text) (NoCommand n)) (where_true made.is_too_large (TooLarge 16777216)) command.0 in
      let same : text ≡ made.text = whole made refl (where_false made.is_too_large (TooLarge 16777216) large.1) in
      All-cons FitsDraft _ [] (
        subst (λ (t : List ℕ). nat_le (length (command_in t)) 1048576 ≡ true) (sym same) (not_above (length (command_in made.text)) (where_false _ (TooLarge 1048576) command.1)),
        not_above (environment_size (environment_at env earlier)) (where_false size (TooLarge 1048576) parts.1),
      ) (All-nil FitsDraft)

  drafts_of_line : (f : Form) (n : ℕ) (earlier : List Formed) (answered : Bool) → faults_by env f n earlier answered ≡ [] → All FitsDraft (drafts_by env f n earlier)
  drafts_of_line form.Passed n earlier answered e = All-nil FitsDraft
  drafts_of_line (form.OpenQuote is_head) n earlier answered e = All-nil FitsDraft
  drafts_of_line (form.Command text) n earlier answered e =
      draft_fits n (head_at env earlier) (made_at env earlier n text) (or_text (expanded_at env earlier n text)) earlier e
      (λ made is small. ap or_text (whole_at env earlier n text made is small))
  drafts_of_line (form.Assignment marks name appends text) n earlier answered e = All-nil FitsDraft
  drafts_of_line (form.Marking names) n earlier answered e = All-nil FitsDraft
  drafts_of_line (form.Category text) n earlier answered e = All-nil FitsDraft
  drafts_of_line (form.Amount set text) n earlier answered e = All-nil FitsDraft
  drafts_of_line (form.SizeBound text) n earlier answered e = All-nil FitsDraft
  drafts_of_line (form.Head text) n earlier answered e = All-nil FitsDraft

  drafts_fit : (lines : List Formed) → IsClear lines → All FitsDraft (drafts_at env lines)
  drafts_fit [] clear = All-nil FitsDraft
  drafts_fit (line ∷ earlier) clear =
      All-append FitsDraft (drafts_at env earlier) (drafts_by env line.form line.number earlier) (drafts_fit earlier clear.1)
      (drafts_of_line line.form line.number earlier clear.0.0 (least_none (faults_by env line.form line.number earlier clear.0.0) clear.0.1))

  -- ---- the flow

  needs_of_all : (whole : List Formed) (drafts : List Draft) → All (λ (rule : RawRule). IsTrue (fits_amounts rule.needs)) (map (rule_of env whole) drafts)
  needs_of_all whole [] = All-nil (λ (rule : RawRule). IsTrue (fits_amounts rule.needs))
  needs_of_all whole (draft ∷ drafts) =
      All-cons (λ (rule : RawRule). IsTrue (fits_amounts rule.needs)) (rule_of env whole draft) (map (rule_of env whole) drafts)
      (needs_fit draft.head.category whole) (needs_of_all whole drafts)

  flow_fits : (whole : List Formed) → IsClear whole → FitsLimits (flow_at env whole)
  flow_fits whole clear =
      let drafts : List Draft = drafts_at env whole in
      let fit : All FitsDraft drafts = drafts_fit whole clear in
      record {
        commands = All-map (λ (rule : RawRule). IsTrue (nat_le (length rule.command) most_command_bytes)) (rule_of env whole) drafts
            (All-weaker FitsDraft (λ (draft : Draft). IsTrue (nat_le (length draft.command) most_command_bytes)) (λ draft both. both.0) drafts fit);
        envs = All-map (λ (rule : RawRule). IsTrue (nat_le (env_bytes rule.env) most_command_bytes)) (rule_of env whole) drafts
            (All-weaker FitsDraft (λ (draft : Draft). IsTrue (nat_le (env_bytes draft.env) most_command_bytes)) (λ draft both. both.1) drafts fit);
        amounts = needs_of_all whole drafts;
        bounds = bounds_fit whole;
      }

  unless_fits : (o : Option MakeFault) (whole : List Formed) (flow : RawFlow) → (o ≡ None → IsClear whole) → unless_fault env o whole ≡ Ok flow → FitsLimits flow
  unless_fits None whole flow clear e = let is : flow_at env whole ≡ flow = cc in subst FitsLimits is (flow_fits whole (clear refl))
  unless_fits (Some fault) whole flow clear e = absurd cc

  pub lines_fit : (lines : List Formed) (flow : RawFlow) → flow_in env lines ≡ Ok flow → FitsLimits flow
  lines_fit lines flow e =
      unless_fits (first_fault env [] lines) (reverse lines) flow
      (λ none. subst IsClear (append-nil (reverse lines)) (clear_behind [] lines tt none)) e

  pub text_fits : (lines : Result (List Line) MakeFault) (flow : RawFlow) → flow_of_lines env lines ≡ Ok flow → FitsLimits flow
  text_fits (Err fault) flow e = absurd cc
  text_fits (Ok lines) flow e = lines_fit (map formed lines) flow e

  -- what a call answered for these lines
  pub answer_fits : (answer : Result RawFlow MakeFault) (lines : List Formed) → Gives (λ flow. flow) answer (flow_in env lines) → IfOk answer FitsLimits
  answer_fits (Ok flow) lines gives = lines_fit lines flow gives
  answer_fits (Err fault) lines gives = tt

pub flows_fit : FlowsFitTheirLimits
flows_fit env text flow e = text_fits env (lines_of text) flow e
