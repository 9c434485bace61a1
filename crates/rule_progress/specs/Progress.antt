-- What is kept step by step of the rules of a plan: what they take and lack, which of them run or have failed, and how many are complete.
use Rattle.std.specs.Prelude.{◌≡◌, ◌<◌, ◌≤◌, ℕ, ◌+◌, ◌*◌, ◌-◌, Bool, true, false, not, ◌&&◌, ◌||◌, ◌==◌, if◌then◌else◌, List, [], length, filter, Option, None, count_by, is_some, nat_lt, sum_by, slice_index_or}
use Rattle.std.specs.Option.{option_map_or}
use Rattle.flow_types.specs.declared.plan.Plan.{Plan}
use Rattle.flow_types.specs.declared.numbers.Amounts.{Amounts}
use Rattle.flow_types.specs.declared.numbers.Needs.{Needs}
use Rattle.flow_types.specs.declared.numbers.Needs.TheVariants.{Whole, Stated}
use Rattle.flow_types.specs.Plans.{contains_number, most_bytes, rule_numbers, takes}
use Rattle.run_history.specs.declared.options.Options.{Options}
use Rattle.run_history.specs.declared.states.RuleState.{RuleState}
use Rattle.run_history.specs.declared.states.FileState.{FileState}
use Rattle.run_history.specs.declared.states.FileState.TheVariants as file
use Rattle.run_history.specs.Links.{is_local_rule, needs_of, no_amounts, one_core}
use Rattle.run_history.specs.Storage.{is_complete_state, is_failed_state, is_running_state, is_waiting_state, rule_bound, size_in}
use Rattle.ready_rules.specs.declared.shelf.Weight.{Weight}
use Rattle.ready_rules.specs.Lines.{Line, placed, without}
use Rattle.ready_rules.specs.Pendings.{Pending, bytes_of, lacks_of, most_taken, no_weight, waits_in, with_wait}
use Rattle.ready_rules.specs.Takings.{AreTakers, HaveCome, takers_in, times}

-- rule r runs at the local place
abbrev pub is_here : Plan → Options → ℕ → Bool
is_here P O r = is_local_rule P r || not O.wq

-- the rule takes the whole of its link
abbrev pub is_whole : Needs → Bool
is_whole Whole = true
is_whole (Stated amounts) = false

-- the amounts that a rule states: of the local place the whole is one core
abbrev pub stated_amounts : Bool → Needs → Amounts
stated_amounts here Whole = if here then one_core else no_amounts
stated_amounts here (Stated amounts) = amounts

-- what rule r takes, but for the bytes of its inputs
abbrev pub need_of : Plan → Options → ℕ → Weight
need_of P O r = record {
  here = is_here P O r;
  stated = not (is_here P O r) && not (is_whole (needs_of P r));
  whole = not (is_here P O r) && is_whole (needs_of P r);
  cores = (stated_amounts (is_here P O r) (needs_of P r)).cores;
  memory = (stated_amounts (is_here P O r) (needs_of P r)).memory;
  disk = (stated_amounts (is_here P O r) (needs_of P r)).disk;
  bytes = 0;
  bound = rule_bound P r;
  bytes_left = 0;
  bound_left = most_bytes - rule_bound P r;
}

-- the bytes of file f, none where it isn't present
abbrev pub bytes_by : (ℕ → Option ℕ) → ℕ → ℕ
bytes_by sizes f = option_map_or (λ size. size) (sizes f) 0

-- file f isn't present
abbrev pub is_lacking : (ℕ → Option ℕ) → ℕ → Bool
is_lacking sizes f = not (is_some (sizes f))

-- Where these are the sizes of the files that are present: how many input ports of each rule have no file, and the bytes of those that have.
pub record HasInputs (P : Plan) (sizes : ℕ → Option ℕ) (W : Pending) : Type 0 where
  pub lacks : (r : ℕ) → lacks_of W r ≡ count_by (is_lacking sizes) (takes P r)
  pub bytes : (r : ℕ) → bytes_of W r ≡ sum_by (bytes_by sizes) (takes P r)

-- What each rule takes, and whether it waits.
pub record HasRules (P : Plan) (O : Options) (states : ℕ → RuleState) (W : Pending) : Type 0 where
  pub rules : length W.waits ≡ length P.rules
  pub needs : (r : ℕ) → r < length P.rules → slice_index_or W.needs r no_weight ≡ need_of P O r
  pub waits : (r : ℕ) → r < length P.rules → waits_in W r ≡ is_waiting_state (states r)

-- The rules that wait, the takers of each file, the rules that run, those that have failed, and how many are complete.
pub record Progressing : Type 0 where
  pub pending : Pending
  pub takers : List (List ℕ)
  pub running : Line
  pub failed : Line
  pub done : ℕ

-- so many where rule r is this one
abbrev pub only : ℕ → ℕ → ℕ → ℕ
only rule r n = if rule == r then n else 0

-- the rules of a plan that pass
abbrev pub passing : Plan → (ℕ → Bool) → List ℕ
passing P test = filter test (rule_numbers P)

-- All of it is as the states of the rules and the sizes of the files that are present say.
pub record IsProgress (P : Plan) (O : Options) (states : ℕ → RuleState) (sizes : ℕ → Option ℕ) (V : Progressing) : Type 0 where
  pub takers : AreTakers P V.takers
  pub inputs : HasInputs P sizes V.pending
  pub rules : HasRules P O states V.pending
  pub running : V.running ≡ record { numbers = passing P (λ r. is_running_state (states r)); places = length P.rules }
  pub failed : V.failed ≡ record { numbers = passing P (λ r. is_failed_state (states r)); places = length P.rules }
  pub done : V.done ≡ length (passing P (λ r. is_complete_state (states r)))

-- the states of all rules but r are the same
abbrev pub ChangesAt : (ℕ → RuleState) → (ℕ → RuleState) → ℕ → Type 0
ChangesAt states after r = (q : ℕ) → (q ≡ r → ⊥) → after q ≡ states q

-- the files but f are the same
abbrev pub SameBut : (ℕ → Option ℕ) → (ℕ → Option ℕ) → ℕ → Type 0
SameBut sizes after f = (g : ℕ) → (g ≡ f → ⊥) → after g ≡ sizes g

-- A file of this size may come: each of its takers lacks as many ports, and the bytes are no more than a plan admits.
pub record MayCome (V : Progressing) (f size : ℕ) : Type 0 where
  pub file : f < length V.takers
  pub inside : (r : ℕ) → 1 ≤ times r (takers_in V.takers f) → r < length V.pending.waits
  pub lacks : (r : ℕ) → times r (takers_in V.takers f) ≤ lacks_of V.pending r
  pub few : (r : ℕ) → bytes_of V.pending r + times r (takers_in V.takers f) * size ≤ most_taken

-- A file of this size may go: each of its takers has as many bytes.
pub record MayGo (V : Progressing) (f size : ℕ) : Type 0 where
  pub file : f < length V.takers
  pub inside : (r : ℕ) → 1 ≤ times r (takers_in V.takers f) → r < length V.pending.waits
  pub room : (r : ℕ) → lacks_of V.pending r + times r (takers_in V.takers f) ≤ 4294967295
  pub some : (r : ℕ) → times r (takers_in V.takers f) * size ≤ bytes_of V.pending r

-- The takers of file f have it from now on, and nothing else is new.
pub record HasGot (before : Progressing) (f size : ℕ) (after : Progressing) : Type 0 where
  pub come : HaveCome before.pending (takers_in before.takers f) size after.pending
  pub rest : after ≡ record before { pending = after.pending }

-- Each rule that ran or had failed waits, and none runs or has failed.
pub record HasOpened (before : Progressing) (after : Progressing) : Type 0 where
  pub needs : after.pending.needs ≡ before.pending.needs
  pub lacks : after.pending.lacks ≡ before.pending.lacks
  pub bytes : after.pending.bytes ≡ before.pending.bytes
  pub same : length after.pending.waits ≡ length before.pending.waits
  pub waits : (r : ℕ) → waits_in after.pending r ≡ (waits_in before.pending r || (contains_number r before.running.numbers || contains_number r before.failed.numbers))
  pub running : after.running ≡ record before.running { numbers = [] }
  pub failed : after.failed ≡ record before.failed { numbers = [] }
  pub takers : after.takers ≡ before.takers
  pub done : after.done ≡ before.done

-- The sizes of the files by their states.
abbrev pub sizes_in : List FileState → ℕ → Option ℕ
sizes_in states f = size_in (slice_index_or states f file.Absent)

-- the sizes of the first n files, as if there were none behind them
abbrev pub first_sizes : List FileState → ℕ → ℕ → Option ℕ
first_sizes states n f = if nat_lt f n then sizes_in states f else None

-- the sizes, with this one for file f
abbrev pub with_size : (ℕ → Option ℕ) → ℕ → Option ℕ → ℕ → Option ℕ
with_size sizes f size g = if g == f then size else sizes g

-- What is kept of the files is as these sizes say.
pub record Knows (P : Plan) (sizes : ℕ → Option ℕ) (V : Progressing) : Type 0 where
  pub takers : AreTakers P V.takers
  pub inputs : HasInputs P sizes V.pending
  pub rules : length V.pending.waits ≡ length P.rules

-- Nothing but what is kept of the files is new.
pub record IsSame (before : Progressing) (after : Progressing) : Type 0 where
  pub needs : after.pending.needs ≡ before.pending.needs
  pub waits : after.pending.waits ≡ before.pending.waits
  pub rest : after ≡ record before { pending = after.pending }

-- rule r runs no more, and has failed or waits again
abbrev pub closed_as : Progressing → ℕ → Bool → Progressing
closed_as V r true = record V { running = record V.running { numbers = without r V.running.numbers }; failed = record V.failed { numbers = placed r V.failed.numbers } }
closed_as V r false = record V { pending = with_wait V.pending r true; running = record V.running { numbers = without r V.running.numbers } }
