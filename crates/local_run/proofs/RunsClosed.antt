-- What the closing of one attempt leaves of the others, and of what is present.
use Rattle.std.proofs.Common.{◌≡◌, ◌≢◌, ◌∙◌, ◌⊎◌, inl, inr, ⊎_elim, ℕ, Bool, true, false, cond, ◌&&◌, List, [], ◌∷◌, ◌++◌, Option, Some, None, Result, Ok, Err, refl, sym, ap, subst, true≢false}
use Rattle.std.specs.Prelude.{◌==◌, is_none, is_some}
use Rattle.std.specs.List.{list_any}
use Rattle.std.specs.Option.{option_map_or}
use Rattle.std.proofs.lemmas.Bool.{and_parts, eqb-true}
use Rattle.flow_types.specs.declared.plan.Plan.{Plan}
use Rattle.flow_types.specs.declared.job.Failure.{Failure}
use Rattle.flow_types.specs.declared.job.Start.{Start}
use Rattle.flow_types.specs.declared.numbers.AttemptNo.{AttemptNo}
use Rattle.flow_types.specs.declared.numbers.Content.{Content}
use Rattle.flow_types.specs.declared.numbers.LinkNo.{LinkNo}
use Rattle.flow_types.specs.declared.numbers.RuleNo.{RuleNo}
use Rattle.flow_types.specs.declared.records.Record.{Record}
use Rattle.flow_types.specs.declared.records.Record.TheVariants as records
use Rattle.flow_types.specs.Plans.{IsValid, maker_of, makes, sources_of}
use Rattle.flow_types.specs.Serial.{Contents}
use Rattle.run_history.specs.declared.answers.Stop.{Stop}
use Rattle.run_history.specs.declared.states.FileState.{FileState}
use Rattle.run_history.specs.declared.states.FileState.TheVariants as file
use Rattle.run_history.specs.History.{is_end, part}
use Rattle.run_history.specs.Laws.{IsPresent}
use Rattle.run_history.specs.Links.{records_of}
use Rattle.run_history.specs.States.{Place, drops, file_state, made_state, opened_sources, outs_of, present_with, row_of, running_in, sources_in}
use Rattle.run_history.specs.Storage.{is_running, size_in}
use Rattle.run_history.proofs.Steps.{running-is, running-push}
use Rattle.task_core.proofs.Standing.{drops-same, outs-same, sources-same}
use Rattle.outside.specs.Files.{Files}
use Rattle.file_store.specs.Outputs.{file_name}
use Rattle.desk.specs.declared.answers.CloseRefused.{CloseRefused}
use Rattle.desk.specs.declared.answers.CloseRefused.TheVariants as refused
use Rattle.desk.specs.declared.attempt.Attempt.{Attempt}
use Rattle.desk.specs.Inputs.{Finds}
use Rattle.desk.specs.Kept.{IsElse, ReadsStay}
use Rattle.desk.specs.State.{CanWrite, Closes, DeskState, IsFine, is_place, runs_with}
use Rattle.desk.proofs.Named.{named}
use Rattle.desk.proofs.Outputs.{can_write}
use Rattle.local_run.specs.declared.halt.Halt.{Halt}
use Rattle.local_run.specs.declared.halt.Halt.TheVariants as halts
use Rattle.local_run.specs.Ends.{IsApart, IsDamaged, IsFoundDamaged}
use Rattle.local_run.specs.Underway.{Matches, NoneHas, RunsAt}
use Rattle.local_run.proofs.Closings.{ClosesRule, done_closes, failed_closes, lost_closes}

-- The record closes an attempt of the rule, ends no run, and drops no file.
pub record Ending (place : ℕ) (x : Record) : Type 0 where
  pub closes : ClosesRule place x
  pub sources : sources_in x ≡ None
  pub drops_none : (f : ℕ) → drops f x ≡ false
  pub ends : is_end x ≡ false

pub done_ending : (moment : ℕ) (rule : RuleNo) (attempt : AttemptNo) (outs : List Content) → Ending rule.0 (records.Done moment rule attempt outs)
done_ending moment rule attempt outs = record { closes = done_closes moment rule attempt outs; sources = refl; drops_none = λ f. refl; ends = refl }

pub failed_ending : (moment : ℕ) (rule : RuleNo) (attempt : AttemptNo) (why : Failure) → Ending rule.0 (records.Failed moment rule attempt why)
failed_ending moment rule attempt why = record { closes = failed_closes moment rule attempt why; sources = refl; drops_none = λ f. refl; ends = refl }

pub lost_ending : (moment : ℕ) (rule : RuleNo) (attempt : AttemptNo) → Ending rule.0 (records.Lost moment rule attempt)
lost_ending moment rule attempt = record { closes = lost_closes moment rule attempt; sources = refl; drops_none = λ f. refl; ends = refl }

-- ---- rules that run

none_by : (outs : Option (List Content)) → is_none outs ≡ true → outs ≡ None
none_by None is = refl
none_by (Some o) is = absurd (true≢false (sym is))

-- a rule that runs logged no outputs
pub outs_none : (H : List Record) (r number link : ℕ) → runs_with H r number link ≡ true → outs_of H r ≡ None
outs_none H r number link runs =
    let is : is_running H r ≡ true = (and_parts (is_running H r) (option_map_or (is_place number link) (running_in H r) false) runs).0 in
    none_by (outs_of H r) (and_parts (is_none (outs_of H r)) (is_some (running_in H r)) (sym (running-is H r) ∙ is)).0

number_by : (place : Option Place) (n l m k : ℕ) → option_map_or (is_place n l) place false ≡ true → option_map_or (is_place m k) place false ≡ true → n ≡ m
number_by None n l m k one two = absurd (true≢false (sym one))
number_by (Some place) n l m k one two =
    sym (eqb-true place.0.0 n (and_parts (place.0.0 == n) (place.1.0 == l) one).0) ∙ eqb-true place.0.0 m (and_parts (place.0.0 == m) (place.1.0 == k) two).0

-- it runs with one number
pub same_number : (H : List Record) (r n l m k : ℕ) → runs_with H r n l ≡ true → runs_with H r m k ≡ true → n ≡ m
same_number H r n l m k one two =
    number_by (running_in H r) n l m k (and_parts (is_running H r) (option_map_or (is_place n l) (running_in H r) false) one).1 (and_parts (is_running H r) (option_map_or (is_place m k) (running_in H r) false) two).1

-- behind the closing of another rule's attempt it runs as before
others_run : (H : List Record) (x : Record) (place r n l : ℕ) → ClosesRule place x → (place == r) ≡ false → runs_with (H ++ (x ∷ [])) r n l ≡ runs_with H r n l
others_run H x place r n l closes other =
    let outs : outs_of (H ++ (x ∷ [])) r ≡ outs_of H r = outs-same H x r closes.stays (closes.logs r ∙ ap (λ (b : Bool). cond b closes.outs None) other) in
    let runs : running_in (H ++ (x ∷ [])) r ≡ running_in H r =
    running-push H x r closes.stays closes.opens
    ∙ ap (λ (p : Option (Option Place)). option_map_or (λ running. running) p (running_in H r)) (closes.says r ∙ ap (λ (b : Bool). let none : Option (Option Place) = None in cond b (Some None) none) other) in
    let is : is_running (H ++ (x ∷ [])) r ≡ is_running H r =
    running-is (H ++ (x ∷ [])) r
    ∙ ap (λ (o : Option (List Content)). is_none o && is_some (running_in (H ++ (x ∷ [])) r)) outs
    ∙ ap (λ (p : Option Place). is_none (outs_of H r) && is_some p) runs ∙ sym (running-is H r) in
    ap (λ (b : Bool). b && option_map_or (is_place n l) (running_in (H ++ (x ∷ [])) r) false) is
    ∙ ap (λ (p : Option Place). is_running H r && option_map_or (is_place n l) p false) runs

pub number_is : (a b : AttemptNo) → a.0 ≡ b.0 → a ≡ b
number_is a b same = ap (λ (n : ℕ). let m : AttemptNo = record { 0 = n } in m) same

-- an attempt of another number runs on
pub still_runs : (P : Plan) (fine finer : Type 0) (H G : List Record) (x : Record) (closed a : Attempt) → ClosesRule closed.rule.0 x → (finer → fine) → (finer → G ≡ H ++ (x ∷ []))
    → (fine → runs_with H closed.rule.0 closed.number.0 closed.link.0 ≡ true) → a.number ≢ closed.number → RunsAt P fine H a → RunsAt P finer G a
still_runs P fine finer H G x closed a closes works grown ran other is = record { rule = is.rule; runs = λ f. by_rule (closed.rule.0 == a.rule.0) refl f }
  where
    by_rule : (b : Bool) → (closed.rule.0 == a.rule.0) ≡ b → finer → runs_with G a.rule.0 a.number.0 a.link.0 ≡ true
    by_rule true same f =
        let here : runs_with H a.rule.0 closed.number.0 closed.link.0 ≡ true =
        subst (λ (r : ℕ). runs_with H r closed.number.0 closed.link.0 ≡ true) (eqb-true closed.rule.0 a.rule.0 same) (ran (works f)) in
        absurd (other (number_is a.number closed.number (same_number H a.rule.0 a.number.0 a.link.0 closed.number.0 closed.link.0 (is.runs (works f)) here)))
    by_rule false differs f =
        ap (λ (L : List Record). runs_with L a.rule.0 a.number.0 a.link.0) (grown f) ∙ others_run H x closed.rule.0 a.rule.0 a.number.0 a.link.0 closes differs ∙ is.runs (works f)

-- and so do those that are held
pub matches_on : (P : Plan) (fine finer : Type 0) (H G : List Record) (trust : Type 0) (contents : Contents) (number : AttemptNo) (held : List Attempt) (waiting : List Start)
    → ((a : Attempt) → a.number ≢ number → RunsAt P fine H a → RunsAt P finer G a) → NoneHas number held → Matches P fine H trust contents held waiting → Matches P finer G trust contents held waiting
matches_on P fine finer H G trust contents number [] [] each none m = tt
matches_on P fine finer H G trust contents number [] (start ∷ starts) each none m = absurd m
matches_on P fine finer H G trust contents number (a ∷ attempts) [] each none m = absurd m
matches_on P fine finer H G trust contents number (a ∷ attempts) (start ∷ starts) each none m =
    (each a none.0 m.0, m.1, m.2, m.3, matches_on P fine finer H G trust contents number attempts starts each none.1 m.4)

-- ---- what is present

not_absent : (c : Content) → file.Absent ≡ file.Present c → ⊥
not_absent c is = true≢false (sym (ap (λ (s : FileState). is_some (size_in s)) is))

-- a present file stays behind the closing of a rule that runs
pub present_on : (P : Plan) (H : List Record) (x : Record) (r f : ℕ) (c : Content) → Ending r x → outs_of H r ≡ None → IsPresent P H f c → IsPresent P (H ++ (x ∷ [])) f c
present_on P H x r f c ending none present = by_maker (maker_of P f) present
  where
    made_same : (q : ℕ) → (r == q) ≡ false → made_state P (H ++ (x ∷ [])) f q ≡ made_state P H f q
    made_same q other =
        ap (λ (outs : Option (List Content)). option_map_or (λ o. cond (list_any (drops f) (part (H ++ (x ∷ [])))) file.Collected (present_with (row_of f (makes P q) o))) outs file.Absent)
        (outs-same H x q ending.closes.stays (ending.closes.logs q ∙ ap (λ (b : Bool). cond b ending.closes.outs None) other))
        ∙ ap (λ (b : Bool). option_map_or (λ o. cond b file.Collected (present_with (row_of f (makes P q) o))) (outs_of H q) file.Absent) (drops-same H x f ending.closes.stays (ending.drops_none f))

    made_by : (q : ℕ) (b : Bool) → (r == q) ≡ b → made_state P H f q ≡ file.Present c → made_state P (H ++ (x ∷ [])) f q ≡ file.Present c
    made_by q true same is =
        absurd (not_absent c (sym (ap (λ (outs : Option (List Content)). option_map_or (λ o. cond (list_any (drops f) (part H)) file.Collected (present_with (row_of f (makes P q) o))) outs file.Absent)
        (ap (outs_of H) (sym (eqb-true r q same)) ∙ none)) ∙ is))
    made_by q false other is = made_same q other ∙ is

    by_maker : (maker : Option ℕ) → option_map_or (made_state P H f) maker (present_with (row_of f (sources_of P) (opened_sources H))) ≡ file.Present c
        → option_map_or (made_state P (H ++ (x ∷ [])) f) maker (present_with (row_of f (sources_of P) (opened_sources (H ++ (x ∷ []))))) ≡ file.Present c
    by_maker None is = ap (λ (rows : List Content). present_with (row_of f (sources_of P) rows)) (sources-same H x ending.closes.stays ending.sources) ∙ is
    by_maker (Some q) is = made_by q (r == q) refl is

-- A file that was found damaged is so still behind a closing, which writes to the log and to outputs of its rule alone.
pub damage_on : {S : Type 0} (files : S → Files) (d after : DeskState S) (x : Record) (r number link : ℕ) (why : Halt) → IsValid d.plan → Ending r x → runs_with (records_of d.moves) r number link ≡ true
    → after.plan ≡ d.plan → after.log ≡ d.log → records_of after.moves ≡ records_of d.moves ++ (x ∷ []) → ReadsStay files (IsElse d.plan d.log (makes d.plan r)) d.site after.site
    → (IsApart d.plan d.log → IsFoundDamaged d.plan (records_of d.moves) (files d.site) why) → IsApart after.plan after.log → IsFoundDamaged after.plan (records_of after.moves) (files after.site) why
damage_on {S} files d after x r number link (halts.Damaged file logged found) valid ending runs same named_log grown reads damaged apart =
    let P = d.plan in
    let H = records_of d.moves in
    let was_apart : IsApart P d.log = λ f is. apart f (ap (λ (Q : Plan). file_name Q f) same ∙ is ∙ sym named_log) in
    let was : IsDamaged P H (files d.site) file logged found = damaged was_apart in
    let can : CanWrite d (makes P r) = can_write d r number link valid runs in
    let elsewhere : IsElse P d.log (makes P r) (file_name P file.0) =
    (was_apart file.0, λ k g is one. can.absent k g logged is (subst (λ (h : ℕ). IsPresent P H h logged) (named P valid g file.0 (can.inside k g is) one) was.0)) in
    subst (λ (Q : Plan). IsDamaged Q (records_of after.moves) (files after.site) file logged found) (sym same) (
      ap (λ (G : List Record). file_state P G file.0) grown ∙ present_on P H x r file.0 logged ending (outs_none H r number link runs) was.0,
      subst (λ (there : Option (List ℕ)). Finds logged there (Err found)) (sym (reads (file_name P file.0) elsewhere)) was.1,
    )
damage_on files d after x r number link halts.Runner valid ending runs same named_log grown reads damaged apart = tt
damage_on files d after x r number link halts.Site valid ending runs same named_log grown reads damaged apart = tt
damage_on files d after x r number link halts.Memory valid ending runs same named_log grown reads damaged apart = tt

-- ---- how a closing call ends

-- the desk worked, or nothing changed
pub worked_or_same : {S : Type 0} (count : S → ℕ) (d : DeskState S) (rule : RuleNo) (number : AttemptNo) (link : LinkNo) (x : Record) (r : Result (Unit {0}) CloseRefused) (after : DeskState S)
    → Closes count d rule number link x r after → IsFine d.trouble ⊎ (after ≡ d)
worked_or_same count d rule number link x (Ok done) after h = inl h.0
worked_or_same count d rule number link x (Err (refused.Stale told state)) after h = inl h.0
worked_or_same count d rule number link x (Err (refused.Broken before now)) after h = ⊎_elim (λ was. inr was.1) (λ new. inl new.0) h
worked_or_same count d rule number link x (Err refused.Memory) after h = ⊎_elim (λ was. inr was.1) (λ new. inl new.0) h

-- What is so of a desk whose attempt was closed.
pub record IsClosed {S : Type 0} (d : DeskState S) (k : Option Stop) (after : DeskState S) : Type 0 where
  pub fine : IsFine d.trouble
  pub trouble : after.trouble ≡ d.trouble
  pub stop : after.stop ≡ k

pub closed_fine : {S : Type 0} (count : S → ℕ) (d mid : DeskState S) (k : Option Stop) (rule : RuleNo) (number : AttemptNo) (link : LinkNo) (x : Record) (r : Result (Unit {0}) CloseRefused) (after : DeskState S)
    → mid ≡ record d { stop = k } → r ≡ Ok tt → Closes count mid rule number link x r after → IsClosed d k after
closed_fine {S} count d mid k rule number link x r after same is h =
    by_answer (subst (λ (m : DeskState S). Closes count m rule number link x (Ok tt) after) same (subst (λ (s : Result (Unit {0}) CloseRefused). Closes count mid rule number link x s after) is h))
  where
    by_answer : Closes count (record d { stop = k }) rule number link x (Ok tt) after → IsClosed d k after
    by_answer h = record { fine = h.0; trouble = ap (λ (a : DeskState S). a.trouble) h.2; stop = ap (λ (a : DeskState S). a.stop) h.2 }
