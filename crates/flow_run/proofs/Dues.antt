-- Why attempts that a run gives up are lost.
use Rattle.std.proofs.Common.{◌≡◌, ◌∙◌, ℕ, Bool, true, false, List, [], ◌∷◌, ◌++◌, map, Option, refl, sym, ap, append_assoc, true≢false}
use Rattle.std.specs.Prelude.{All}
use Rattle.std.specs.List.{list_any}
use Rattle.std.proofs.lemmas.Bool.{or_parts}
use Rattle.std.proofs.lemmas.List.{append-nil}
use Rattle.std.proofs.lemmas.List.Elements.{All-nil, All-cons}
use Rattle.flow_types.specs.declared.job.Job.{Job}
use Rattle.flow_types.specs.declared.job.Failure.{Failure}
use Rattle.flow_types.specs.declared.numbers.LinkNo.{LinkNo}
use Rattle.flow_types.specs.declared.records.Record.{Record}
use Rattle.flow_types.specs.declared.records.Record.TheVariants as records
use Rattle.flow_types.specs.Serial.{Function}
use Rattle.run_history.specs.declared.moves.Move.TheVariants as moves
use Rattle.run_history.specs.History.{is_opening}
use Rattle.run_history.specs.Links.{records_of}
use Rattle.run_history.specs.Moves.{joins_and_changes}
use Rattle.desk.specs.State.{DeskState}
use Rattle.links.specs.declared.passing.Passed.{Passed}
use Rattle.local_run.specs.Ends.{BeganOver}
use Rattle.local_run.specs.Losses.{is_lost}
use Rattle.local_run.specs.Runs.{LosesNone}
use Rattle.wq_run.specs.Losses.{AreDueLosses, IsDueLossBy}
use Rattle.wq_run.specs.Results.{AreResults, IsResultBy}

-- among records no link joins or changes
joins_none : (xs : List Record) → joins_and_changes (map moves.Logged xs) ≡ 0
joins_none [] = refl
joins_none (x ∷ xs) = joins_none xs

-- nor does one at a desk that just began
pub joins_begun : {S : Type 0} (d : DeskState S) (H : List Record) → BeganOver d H → joins_and_changes d.moves ≡ 0
joins_begun {S} d H began = ap joins_and_changes began.1.2 ∙ joins_none (H ++ (began.1.0 ∷ []))

-- with workers or without
pub by_either : {A : Type 0} (wq : Bool) → (wq ≡ true → A) → (wq ≡ false → A) → A
by_either true away here = away refl
by_either false away here = here refl

module _ {L : Type 0} (gives : Function) (may_fail : Job → Failure → Type 0) (history : L → List Passed) (count idles : L → ℕ) (closed : L → Bool) (limit : ℕ) where
  -- a record that gives no attempt up
  kept_due : (links : List (Option LinkNo × L)) (all : List Record) (x : Record) → is_lost x ≡ false → IsDueLossBy gives may_fail history count idles closed limit links all x
  kept_due links all (records.Opened moment run retries most plan sources) none = tt
  kept_due links all (records.Resumed moment run retries most) none = tt
  kept_due links all (records.Started moment rule attempt link) none = tt
  kept_due links all (records.Done moment rule attempt outs) none = tt
  kept_due links all (records.Failed moment rule attempt why) none = tt
  kept_due links all (records.Lost moment rule attempt) none = absurd (true≢false none)
  kept_due links all (records.Dropped moment file) none = tt
  kept_due links all (records.Ended moment kind) none = tt

  all_due : (links : List (Option LinkNo × L)) (all xs : List Record) → list_any is_lost xs ≡ false → All (IsDueLossBy gives may_fail history count idles closed limit links all) xs
  all_due links all [] none = All-nil (IsDueLossBy gives may_fail history count idles closed limit links all)
  all_due links all (x ∷ xs) none =
      let parts = or_parts (is_lost x) (list_any is_lost xs) none in
      All-cons (IsDueLossBy gives may_fail history count idles closed limit links all) x xs (kept_due links all x parts.0) (all_due links all xs parts.1)

  -- a run that gives up none and hands no link back
  pub due_none : (got got_now : List (Option LinkNo × L)) (H all : List Record) → got_now ≡ got → LosesNone H all → AreDueLosses gives may_fail history count idles closed limit got got_now H all
  due_none got got_now H all same loses = record {
    links = [];
    back = same ∙ sym (append-nil got);
    more = loses.0;
    are = loses.1;
    each = all_due [] all loses.0 loses.2;
  }

  -- over the records before the one with which the run began
  pub due_begun : (got got_now : List (Option LinkNo × L)) (H mid all : List Record) (x : Record) → mid ≡ H ++ (x ∷ []) → is_lost x ≡ false → AreDueLosses gives may_fail history count idles closed limit got got_now mid all
      → AreDueLosses gives may_fail history count idles closed limit got got_now H all
  due_begun got got_now H mid all x begun keeps due = record {
    links = due.links;
    back = due.back;
    more = x ∷ due.more;
    are = due.are ∙ ap (λ (G : List Record). G ++ due.more) begun ∙ append_assoc H (x ∷ []) due.more;
    each = All-cons (IsDueLossBy gives may_fail history count idles closed limit due.links all) x due.more (kept_due due.links all x keeps) due.each;
  }

-- Where results come from, over the records before the one with which the run began.
pub results_begun : {L : Type 0} (history : L → List Passed) (got got_now : List (Option LinkNo × L)) (H mid all : List Record) (x : Record) → mid ≡ H ++ (x ∷ []) → ((links : List (Option LinkNo × L)) → IsResultBy history links all x) → AreResults history got got_now mid all
    → AreResults history got got_now H all
results_begun history got got_now H mid all x begun opens rs = record {
  links = rs.links;
  back = rs.back;
  more = x ∷ rs.more;
  are = rs.are ∙ ap (λ (G : List Record). G ++ rs.more) begun ∙ append_assoc H (x ∷ []) rs.more;
  each = All-cons (IsResultBy history rs.links all) x rs.more (opens rs.links) rs.each;
}

logged_records : (xs : List Record) → records_of (map moves.Logged xs) ≡ xs
logged_records [] = refl
logged_records (x ∷ xs) = ap (λ (ys : List Record). x ∷ ys) (logged_records xs)

-- the records of a desk that just began
pub records_begun : {S : Type 0} (d : DeskState S) (H : List Record) (over : BeganOver d H) → records_of d.moves ≡ H ++ (over.1.0 ∷ [])
records_begun d H over = ap records_of over.1.2 ∙ logged_records (H ++ (over.1.0 ∷ []))

-- an opening tells of no attempt
pub opened_result : {L : Type 0} (history : L → List Passed) (links : List (Option LinkNo × L)) (all : List Record) (x : Record) → is_opening x ≡ true → IsResultBy history links all x
opened_result history links all (records.Opened moment run retries most plan sources) is = tt
opened_result history links all (records.Resumed moment run retries most) is = tt
opened_result history links all (records.Started moment rule attempt link) is = tt
opened_result history links all (records.Done moment rule attempt outs) is = absurd (true≢false (sym is))
opened_result history links all (records.Failed moment rule attempt why) is = absurd (true≢false (sym is))
opened_result history links all (records.Lost moment rule attempt) is = tt
opened_result history links all (records.Dropped moment file) is = tt
opened_result history links all (records.Ended moment kind) is = tt

-- nothing was logged, and no link was handed back
pub results_none : {L : Type 0} (history : L → List Passed) (got got_now : List (Option LinkNo × L)) (H all : List Record) → got_now ≡ got → all ≡ H → AreResults history got got_now H all
results_none history got got_now H all same none = record {
  links = [];
  back = same ∙ sym (append-nil got);
  more = [];
  are = none ∙ sym (append-nil H);
  each = All-nil (IsResultBy history [] all);
}
