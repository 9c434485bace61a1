-- What a run adds to the records that stood.
use Rattle.std.specs.Prelude.{◌≡◌, ◌≢◌, ◌⊎◌, ◌||◌, ℕ, Bool, true, false, List, [], ◌∷◌, ◌++◌, Option, Some, None, Result, Ok, Err}
use Rattle.std.specs.List.{list_any}
use Rattle.flow_types.specs.declared.records.Record.{Record}
use Rattle.flow_types.specs.declared.records.Record.TheVariants as records
use Rattle.flow_types.specs.declared.records.EndKind.{EndKind}
use Rattle.flow_types.specs.declared.records.EndKind.TheVariants as kinds
use Rattle.run_history.specs.declared.answers.Check.{Check}
use Rattle.run_history.specs.declared.options.Options.{Options}
use Rattle.run_history.specs.Answers.{kind_of}
use Rattle.run_history.specs.History.{is_end, is_opening}
use Rattle.local_run.specs.Ends.{OpensBy}
use Rattle.local_run.specs.Runs.{IsRefusedRun}
use Rattle.local_run.specs.declared.ended.Stopped.{Stopped}
use Rattle.local_run.specs.declared.ended.Stopped.TheVariants as stopped
use Rattle.local_run.specs.declared.halt.Halt.TheVariants as halts

-- a record that begins a run, or ends a run or a part
abbrev pub is_bound : Record → Bool
is_bound x = is_opening x || is_end x

-- an Ended of this kind, if there is one
abbrev pub end_record : ℕ → Option EndKind → List Record
end_record moment None = []
end_record moment (Some kind) = records.Ended moment kind ∷ []

-- The records are these and more, of which none begins a run or ends a run or a part, and then an Ended of this kind, if there is one.
pub record AddsBehind (H all : List Record) (kind : Option EndKind) : Type 0 where
  pub more : List Record
  pub moment : ℕ
  pub are : all ≡ (H ++ more) ++ end_record moment kind
  pub within : list_any is_bound more ≡ false

-- The Ended of a run that ended so: that of its answer, if it has one, and none where it was stopped. Where memory was wanting it may be any but a cleaning's, or none.
abbrev pub EndsAs : Result Check Stopped → Option EndKind → Type 0
EndsAs (Ok check) kind = kind ≡ kind_of check
EndsAs (Err (stopped.Refused why)) kind = kind ≡ None
EndsAs (Err (stopped.Halted (halts.Damaged file logged found))) kind = kind ≡ None
EndsAs (Err (stopped.Halted halts.Runner)) kind = kind ≡ None
EndsAs (Err (stopped.Halted halts.Site)) kind = kind ≡ None
EndsAs (Err (stopped.Halted halts.Memory)) kind = kind ≢ Some kinds.Cleaned
EndsAs (Err stopped.Hall) kind = kind ≡ None
EndsAs (Err (stopped.Unheard fault)) kind = kind ≡ None
EndsAs (Err (stopped.Unopened fault)) kind = kind ≡ None

-- A run adds so to these records: more behind them, and the Ended of how it ended.
pub record RunAdds (H all : List Record) (how : Result Check Stopped) : Type 0 where
  pub kind : Option EndKind
  pub is : EndsAs how kind
  pub adds : AddsBehind H all kind

-- The records are these, one opening with the limit and the retries of the options, and those of one run, with an Ended of a kind of which this holds, if there is one.
pub record AddsOneRun (O : Options) (H all : List Record) (of : Option EndKind → Type 0) : Type 0 where
  pub opening : Record
  pub opens : is_opening opening ≡ true
  pub like : OpensBy O (H ++ (opening ∷ []))
  pub kind : Option EndKind
  pub is : of kind
  pub adds : AddsBehind (H ++ (opening ∷ [])) all kind

-- What the log has behind a run over these records that ended so: these alone where it didn't start, and else one run behind them.
abbrev pub AddsRun : Options → List Record → List Record → Result Check Stopped → Type 0
AddsRun O H all how = (IsRefusedRun how × (all ≡ H)) ⊎ AddsOneRun O H all (EndsAs how)
