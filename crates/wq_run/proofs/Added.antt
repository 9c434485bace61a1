-- What a run adds to the records, step by step.
use Rattle.std.proofs.Common.{◌≡◌, ◌≢◌, ◌∙◌, ℕ, Bool, false, List, [], ◌++◌, Option, Some, None, Result, Ok, Err, refl, sym, ap, subst, true≢false}
use Rattle.std.specs.Prelude.{◌||◌, is_some}
use Rattle.std.specs.List.{list_any}
use Rattle.std.proofs.lemmas.List.{append-nil, append_assoc}
use Rattle.std.proofs.lemmas.List.Folds.{list_any-append}
use Rattle.flow_types.specs.declared.job.Failure.{Failure}
use Rattle.flow_types.specs.declared.job.Job.{Job}
use Rattle.flow_types.specs.declared.records.EndKind.{EndKind}
use Rattle.flow_types.specs.declared.records.EndKind.TheVariants as kinds
use Rattle.flow_types.specs.declared.records.Record.{Record}
use Rattle.flow_types.specs.Serial.{Contents, Function}
use Rattle.run_history.specs.declared.answers.Check.{Check}
use Rattle.run_history.specs.declared.moves.Move.{Move}
use Rattle.run_history.specs.Answers.{has_ended, kind_of}
use Rattle.run_history.specs.Links.{records_of}
use Rattle.outside.specs.Disk.{Outcomes}
use Rattle.outside.specs.Files.{Files}
use Rattle.desk.specs.declared.answers.EndRefused.{EndRefused}
use Rattle.desk.specs.Ends.{Ends}
use Rattle.desk.specs.State.{DeskState}
use Rattle.local_run.specs.Added.{AddsBehind, EndsAs, RunAdds, end_record, is_bound}
use Rattle.local_run.specs.Course.{GoesOn}
use Rattle.local_run.specs.declared.ended.Stopped.{Stopped}
use Rattle.local_run.specs.declared.ended.Stopped.TheVariants as stopped
use Rattle.local_run.specs.declared.halt.Halt.{Halt}
use Rattle.local_run.specs.declared.halt.Halt.TheVariants as halts
use Rattle.local_run.proofs.Added.{adds_behind, end_logs, end_same, halted_none}
use Rattle.local_run.proofs.Going.{goes_records}
use Rattle.wq_run.specs.declared.rounds.Turn.{Turn}
use Rattle.wq_run.specs.declared.rounds.Turn.TheVariants as turns
use Rattle.wq_run.specs.Works.{EndAdds, TurnAdds, with_check}
use Rattle.wq_run.proofs.Ending.{not_cleaned}

-- more records, of which none begins a run or ends a run or a part
abbrev pub Quietly : List Record → List Record → Type 0
Quietly H all = AddsBehind H all None

-- ---- steps

pub adds_none : (H : List Record) → Quietly H H
adds_none H = record { more = []; moment = 0; are = sym (append-nil (H ++ []) ∙ append-nil H); within = refl }

pub adds_then : (H mid all : List Record) (kind : Option EndKind) → Quietly H mid → AddsBehind mid all kind → AddsBehind H all kind
adds_then H mid all kind one two = record {
  more = one.more ++ two.more;
  moment = two.moment;
  are = two.are
      ∙ ap (λ (l : List Record). (l ++ two.more) ++ end_record two.moment kind) (one.are ∙ append-nil (H ++ one.more))
      ∙ ap (λ (l : List Record). l ++ end_record two.moment kind) (append_assoc H one.more two.more);
  within = list_any-append is_bound one.more two.more ∙ ap (λ (b : Bool). b || list_any is_bound two.more) one.within ∙ two.within;
}

pub run_then : (H mid all : List Record) (how : Result Check Stopped) → Quietly H mid → RunAdds mid all how → RunAdds H all how
run_then H mid all how one two = record { kind = two.kind; is = two.is; adds = adds_then H mid all two.kind one two.adds }

pub turn_then : (H mid all : List Record) (told : Result Turn Stopped) → Quietly H mid → TurnAdds mid all told → TurnAdds H all told
turn_then H mid all (Ok turns.Again) one two = adds_then H mid all None one two
turn_then H mid all (Ok (turns.Vain n)) one two = adds_then H mid all None one two
turn_then H mid all (Ok (turns.Over check)) one two = run_then H mid all (Ok check) one two
turn_then H mid all (Err why) one two = run_then H mid all (Err why) one two

-- a run that went on and hasn't ended
pub goes_quietly : {S : Type 0} (trust : Type 0) (gives : Function) (may_fail : Job → Failure → Type 0) (sources : Contents) (tells : Type 0) (files : S → Files) (may_leave : S → Outcomes) (moment : S → ℕ)
    (images_since : S → ℕ → Files → Type 0) (links : List Move) (d after : DeskState S) → GoesOn trust gives may_fail sources tells files may_leave moment images_since links d after → has_ended (records_of after.moves) ≡ false
    → Quietly (records_of d.moves) (records_of after.moves)
goes_quietly trust gives may_fail sources tells files may_leave moment images_since links d after goes unended =
    let all = records_of after.moves in
    adds_behind (records_of d.moves) all all goes.more 0 None (goes_records trust gives may_fail sources tells files may_leave moment images_since links d after goes) goes.anew unended (sym (append-nil all))

-- ---- how a run ended

pub run_halted : (H all : List Record) (halt : Halt) → Quietly H all → RunAdds H all (Err (stopped.Halted halt))
run_halted H all halt adds = record { kind = None; is = halted_none halt; adds = adds }

pub run_failed : (H all : List Record) → Quietly H all → RunAdds H all (Err stopped.Hall)
run_failed H all adds = record { kind = None; is = refl; adds = adds }

not_some : {A : Type 0} (x : A) (o : Option A) → o ≡ None → o ≢ Some x
not_some x o none is = true≢false (sym (ap is_some is) ∙ ap is_some none)

-- no run's end is a cleaning's
uncleaned : (how : Result Check Stopped) (kind : Option EndKind) → EndsAs how kind → kind ≢ Some kinds.Cleaned
uncleaned (Ok check) kind asks = λ is. true≢false (not_cleaned check kinds.Cleaned (sym asks ∙ is))
uncleaned (Err (stopped.Refused why)) kind asks = not_some kinds.Cleaned kind asks
uncleaned (Err (stopped.Halted (halts.Damaged file logged found))) kind asks = not_some kinds.Cleaned kind asks
uncleaned (Err (stopped.Halted halts.Runner)) kind asks = not_some kinds.Cleaned kind asks
uncleaned (Err (stopped.Halted halts.Site)) kind asks = not_some kinds.Cleaned kind asks
uncleaned (Err (stopped.Halted halts.Memory)) kind asks = asks
uncleaned (Err stopped.Hall) kind asks = not_some kinds.Cleaned kind asks
uncleaned (Err (stopped.Unheard fault)) kind asks = not_some kinds.Cleaned kind asks
uncleaned (Err (stopped.Unopened fault)) kind asks = not_some kinds.Cleaned kind asks

-- memory was wanting behind that
pub run_wants : (H all : List Record) (how : Result Check Stopped) → RunAdds H all how → RunAdds H all (Err (stopped.Halted halts.Memory))
run_wants H all how adds = record { kind = adds.kind; is = uncleaned how adds.kind adds.is; adds = adds.adds }

-- ---- the end of a run

same_adds : (H all : List Record) → all ≡ H → Quietly H all
same_adds H all same = subst (Quietly H) (sym same) (adds_none H)

pub end_adds : {S : Type 0} (count : S → ℕ) (d : DeskState S) (moment : ℕ) (check : Check) (after : DeskState S) → has_ended (records_of d.moves) ≡ false → Ends count d moment (Ok check) after
    → RunAdds (records_of d.moves) (records_of after.moves) (Ok check)
end_adds count d moment check after unended h =
    let H = records_of d.moves in
    record {
      kind = kind_of check;
      is = refl;
      adds = record {
        more = [];
        moment = moment;
        are = end_logs count d moment check after unended h ∙ ap (λ (l : List Record). l ++ end_record moment (kind_of check)) (sym (append-nil H));
        within = refl;
      };
    }

pub none_adds : {S : Type 0} (d after : DeskState S) → after ≡ d → Quietly (records_of d.moves) (records_of after.moves)
none_adds {S} d after same = same_adds (records_of d.moves) (records_of after.moves) (ap (λ (a : DeskState S). records_of a.moves) same)

-- the site failed, or memory was wanting
pub halted_adds : {S : Type 0} (count : S → ℕ) (d : DeskState S) (moment : ℕ) (why : EndRefused) (after : DeskState S) (halt : Halt) → Ends count d moment (Err why) after
    → RunAdds (records_of d.moves) (records_of after.moves) (Err (stopped.Halted halt))
halted_adds count d moment why after halt h =
    run_halted (records_of d.moves) (records_of after.moves) halt (same_adds (records_of d.moves) (records_of after.moves) (end_same count d moment why after h))

-- an end that may be, as one that is
pub with_adds : (H all : List Record) (how : Result Check Stopped) → EndAdds H all (with_check how) → RunAdds H all how
with_adds H all (Ok check) adds = adds
with_adds H all (Err why) adds = adds
