-- What an end of a run leaves and answers, where a stop may have been set.
use Rattle.std.proofs.Common.{◌≡◌, ◌∙◌, ℕ, Bool, true, false, cond, not, ◌&&◌, ◌||◌, List, [], ◌∷◌, ◌++◌, Option, Some, None, Ok, Err, refl, sym, ap, subst, true≢false}
use Rattle.std.specs.Prelude.{filter, find, is_none, is_some, unwrap_or}
use Rattle.std.specs.List.{before_last, list_all, list_any}
use Rattle.std.specs.Option.{option_and_then, option_map_or}
use Rattle.std.proofs.lemmas.Bool.{and_parts}
use Rattle.std.proofs.lemmas.List.{append-nil}
use Rattle.std.proofs.lemmas.List.Elements.{All-nil, All-cons}
use Rattle.flow_types.specs.declared.plan.Plan.{Plan}
use Rattle.flow_types.specs.declared.job.Failure.{Failure}
use Rattle.flow_types.specs.declared.records.EndKind.{EndKind}
use Rattle.flow_types.specs.declared.records.Record.{Record}
use Rattle.flow_types.specs.declared.records.Record.TheVariants as records
use Rattle.flow_types.specs.Plans.{is_empty, rule_numbers}
use Rattle.run_history.specs.declared.answers.Check.{Check}
use Rattle.run_history.specs.declared.answers.Check.TheVariants as checks
use Rattle.run_history.specs.declared.answers.Stop.{Stop}
use Rattle.run_history.specs.declared.answers.Stop.TheVariants as stops
use Rattle.run_history.specs.declared.moves.Move.{Move}
use Rattle.run_history.specs.declared.moves.Move.TheVariants as moves
use Rattle.run_history.specs.declared.options.Options.{Options}
use Rattle.run_history.specs.Admissions.{Admitting, is_in_vain_by}
use Rattle.run_history.specs.Answers.{before_end, end_of, end_over, failed_answer, has_ended, is_waited_end, kind_of, last_why, log_full, logged_end, of_least, rule_no, stop_at_end, where_so, first_of, collected_count, passes_inputs, no_room, where_none}
use Rattle.run_history.specs.History.{is_cleaned_kind, is_end, since_opening}
use Rattle.run_history.specs.Legal.{has_places}
use Rattle.run_history.specs.Links.{records_of}
use Rattle.run_history.specs.Storage.{fits_storage, has_failed, input_bytes, is_complete, ready_rules, running_rules, wanted}
use Rattle.run_history.proofs.Grows.{records-push}
use Rattle.task_core.proofs.Ending.{now-ended}
use Rattle.task_core.proofs.Standing.{before-this}
use Rattle.desk.specs.declared.answers.EndRefused.{EndRefused}
use Rattle.desk.specs.declared.answers.EndRefused.TheVariants as refused
use Rattle.desk.specs.Ends.{Ends, EndsBy}
use Rattle.desk.specs.State.{Breaks, DeskState}
use Rattle.outside.specs.Files.{Files}
use Rattle.local_run.specs.declared.halt.Halt.TheVariants as halts
use Rattle.local_run.proofs.Closings.{ends_fine, is_broken}
use Rattle.local_run.specs.Links.{link_moves}
use Rattle.local_run.specs.Course.{begins_anew}
use Rattle.local_run.specs.Losses.{LosesAway, is_lost}
use Rattle.wq_run.specs.Ends.{IsOver, LosesOnLinks}
use Rattle.wq_run.specs.Calm.{AddsWell}
use Rattle.wq_run.specs.Works.{EndsAt, HaltedBy, HasEnd}

pub not_cleaned : (check : Check) (kind : EndKind) → kind_of check ≡ Some kind → is_cleaned_kind kind ≡ false
not_cleaned checks.Going kind is = absurd (true≢false (sym (ap is_some is)))
not_cleaned checks.Halted kind is = absurd (true≢false (sym (ap is_some is)))
not_cleaned (checks.Complete collected) kind is = ap is_cleaned_kind (ap (λ o. unwrap_or o kind) (sym is))
not_cleaned (checks.CommandFailed rule why) kind is = ap is_cleaned_kind (ap (λ o. unwrap_or o kind) (sym is))
not_cleaned (checks.InputsTooLarge rule total) kind is = ap is_cleaned_kind (ap (λ o. unwrap_or o kind) (sym is))
not_cleaned (checks.NoRoom rule need stored limit) kind is = ap is_cleaned_kind (ap (λ o. unwrap_or o kind) (sym is))
not_cleaned (checks.Waited wait) kind is = ap is_cleaned_kind (ap (λ o. unwrap_or o kind) (sym is))
not_cleaned (checks.LogFull count) kind is = absurd (true≢false (sym (ap is_some is)))

logged_not_cleaned : (check : Check) (ended : Bool) (kind : EndKind) → cond ended None (kind_of check) ≡ Some kind → is_cleaned_kind kind ≡ false
logged_not_cleaned check true kind is = absurd (true≢false (sym (ap is_some is)))
logged_not_cleaned check false kind is = not_cleaned check kind is

-- the records before the end of a run that hasn't ended are all
pub unended_before : (H : List Record) → has_ended H ≡ false → before_end H ≡ H
unended_before H unended = ap (λ b. cond b (before_last is_end H) H) unended

-- and its end is answered by the stop that was set
pub unended_stop : (H : List Record) (stop : Option Stop) → has_ended H ≡ false → stop_at_end H stop ≡ stop
unended_stop H stop unended = ap (λ b. cond (b && not (list_any is_waited_end (since_opening H))) None stop) unended

logged_by : {S : Type 0} (d : DeskState S) (moment : ℕ) (kind : Option EndKind) (after : DeskState S) → ((k : EndKind) → kind ≡ Some k → is_cleaned_kind k ≡ false) → has_ended (records_of d.moves) ≡ false
    → EndsBy kind d moment after → records_of d.moves ≡ before_end (records_of after.moves)
logged_by {S} d moment None after stays unended h = sym (ap (λ (a : DeskState S). before_end (records_of a.moves)) h ∙ unended_before (records_of d.moves) unended)
logged_by {S} d moment (Some kind) after stays unended h =
    let H = records_of d.moves in
    let L = H ++ (records.Ended moment kind ∷ []) in
    sym (ap (λ (a : DeskState S). before_end (records_of a.moves)) h
    ∙ ap before_end (records-push d.moves (records.Ended moment kind))
    ∙ ap (λ b. cond b (before_last is_end L) L) (now-ended H moment kind (stays kind refl))
    ∙ before-this H (records.Ended moment kind) refl)

kind_same : {S : Type 0} (d : DeskState S) (moment : ℕ) (kind : Option EndKind) (after : DeskState S) → EndsBy kind d moment after → (after.plan ≡ d.plan) × (after.options ≡ d.options)
kind_same {S} d moment None after h = (ap (λ (a : DeskState S). a.plan) h, ap (λ (a : DeskState S). a.options) h)
kind_same {S} d moment (Some kind) after h = (ap (λ (a : DeskState S). a.plan) h, ap (λ (a : DeskState S). a.options) h)

lost_by : {S : Type 0} (d : DeskState S) (moment : ℕ) (kind : Option EndKind) (after : DeskState S) → EndsBy kind d moment after → LosesOnLinks (records_of d.moves) (records_of after.moves)
lost_by {S} d moment None after h = record {
  more = [];
  are = ap (λ (a : DeskState S). records_of a.moves) h ∙ sym (append-nil (records_of d.moves));
  each = All-nil (LosesAway (records_of after.moves));
}
lost_by {S} d moment (Some kind) after h = record {
  more = records.Ended moment kind ∷ [];
  are = ap (λ (a : DeskState S). records_of a.moves) h ∙ records-push d.moves (records.Ended moment kind);
  each = All-cons (LosesAway (records_of after.moves)) (records.Ended moment kind) [] tt (All-nil (LosesAway (records_of after.moves)));
}

-- the moves of an end are its record alone, or none
abbrev EndsBeside : List Move → List Move → Type 0
EndsBeside before all = (more : List Move) × (all ≡ before ++ more) × (link_moves more ≡ []) × (list_any is_lost (records_of more) ≡ false) × (list_all is_end (records_of more) ≡ true) × (list_any begins_anew (records_of more) ≡ false)

beside_by : {S : Type 0} (d : DeskState S) (moment : ℕ) (kind : Option EndKind) (after : DeskState S) → ((k : EndKind) → kind ≡ Some k → is_cleaned_kind k ≡ false) → EndsBy kind d moment after → EndsBeside d.moves after.moves
beside_by {S} d moment None after stays h = ([], ap (λ (a : DeskState S). a.moves) h ∙ sym (append-nil d.moves), refl, refl, refl, refl)
beside_by {S} d moment (Some kind) after stays h = (moves.Logged (records.Ended moment kind) ∷ [], ap (λ (a : DeskState S). a.moves) h, refl, refl, refl, ap (λ (b : Bool). b || false) (stays kind refl))

-- by an end no attempt fails and none is given up
well_by : {S : Type 0} (d : DeskState S) (moment : ℕ) (kind : Option EndKind) (after : DeskState S) → EndsBy kind d moment after → AddsWell d.moves after.moves
well_by {S} d moment None after h = record { more = []; are = ap (λ (a : DeskState S). a.moves) h ∙ sym (append-nil d.moves); none = refl }
well_by {S} d moment (Some kind) after h = record { more = moves.Logged (records.Ended moment kind) ∷ []; are = ap (λ (a : DeskState S). a.moves) h; none = refl }

-- an end that was reached
pub ends_at : {S : Type 0} (count : S → ℕ) (d : DeskState S) (moment : ℕ) (check : Check) (after : DeskState S) → has_ended (records_of d.moves) ≡ false → IsOver check → Ends count d moment (Ok check) after
    → EndsAt after d.moves d.stop check
ends_at {S} count d moment check after unended over h =
    let H = records_of d.moves in
    let answer = end_of d.plan d.options d.moves d.stop in
    let kept = kind_same d moment (logged_end d.plan d.options d.moves d.stop) after h.2 in
    let uncleaned : (k : EndKind) → logged_end d.plan d.options d.moves d.stop ≡ Some k → is_cleaned_kind k ≡ false = λ k is. logged_not_cleaned answer (has_ended H) k is in
    let beside = beside_by d moment (logged_end d.plan d.options d.moves d.stop) after uncleaned h.2 in
    let logged : H ≡ before_end (records_of after.moves) = logged_by d moment (logged_end d.plan d.options d.moves d.stop) after uncleaned unended h.2 in
    record {
      logged = logged;
      answer = h.1 ∙ ap (end_over d.plan d.options (before_end H)) (unended_stop H d.stop unended)
          ∙ ap (λ (G : List Record). end_over d.plan d.options G d.stop) (unended_before H unended ∙ logged)
          ∙ sym (ap (λ (P : Plan). end_over P d.options (before_end (records_of after.moves)) d.stop) kept.0)
          ∙ sym (ap (λ (O : Options). end_over after.plan O (before_end (records_of after.moves)) d.stop) kept.1);
      over = over;
      more = beside.0;
      are = beside.1;
      none = beside.2;
      unended = unended;
      ended = beside.4;
      same = beside.5;
      spared = beside.3;
      well = well_by d moment (logged_end d.plan d.options d.moves d.stop) after h.2;
      lost = lost_by d moment (logged_end d.plan d.options d.moves d.stop) after h.2;
    }

pub has_end : {S : Type 0} (tells kept : Type 0) (files : S → Files) (count : S → ℕ) (d : DeskState S) (moment : ℕ) (check : Check) (after : DeskState S) → has_ended (records_of d.moves) ≡ false → IsOver check → Ends count d moment (Ok check) after
    → HasEnd tells kept files d after (Ok (Some check))
has_end tells kept files count d moment check after unended over h =
    let both = ends_fine count d moment check after h in
    (both.0, both.1, ends_at count d moment check after unended over h)

none_by : {S : Type 0} (d : DeskState S) (moment : ℕ) (kind : Option EndKind) (after : DeskState S) → kind ≡ None → EndsBy kind d moment after → after ≡ d
none_by d moment None after is h = h
none_by d moment (Some kind) after is h = absurd (true≢false (ap is_some is))

none_logged : (ended : Bool) (kind : Option EndKind) → kind ≡ None → cond ended None kind ≡ None
none_logged true kind is = refl
none_logged false kind is = is

-- a run that goes on is as it was
pub goes_same : {S : Type 0} (count : S → ℕ) (d : DeskState S) (moment : ℕ) (check : Check) (after : DeskState S) → kind_of check ≡ None → Ends count d moment (Ok check) after → after ≡ d
goes_same count d moment check after none h =
    none_by d moment (logged_end d.plan d.options d.moves d.stop) after (none_logged (has_ended (records_of d.moves)) (kind_of (end_of d.plan d.options d.moves d.stop)) (sym (ap kind_of h.1) ∙ none)) h.2

-- a desk whose site failed
pub broken_halt : {S : Type 0} (tells kept : Type 0) (files : S → Files) (count : S → ℕ) (d : DeskState S) (before now : ℕ) (after : DeskState S) → Breaks count d before now after
    → HaltedBy tells kept (Unit {0}) files after 0 0 halts.Site
broken_halt tells kept files count d before now after h = record {
  is = is_broken count d before now after h;
  damage = λ told apart. tt;
  whole = λ told keeps. tt;
  never = λ is. tt;
}

pub memory_halt : {S : Type 0} (tells kept sure : Type 0) (files : S → Files) (after : DeskState S) (count count_now : ℕ) → HaltedBy tells kept sure files after count count_now halts.Memory
memory_halt tells kept sure files after count count_now = record {
  is = tt;
  damage = λ told apart. tt;
  whole = λ told keeps. tt;
  never = λ is. tt;
}

-- ---- of a run in which waiting was in vain

abbrev OverIf : Option Check → Type 0
OverIf None = Unit {0}
OverIf (Some check) = IsOver check

failed_why : (r : ℕ) (w : Option Failure) → OverIf (option_map_or (λ why. Some (checks.CommandFailed (rule_no r) why)) w None)
failed_why r None = tt
failed_why r (Some why) = tt

failed_over : (H : List Record) (o : Option ℕ) → OverIf (option_and_then (failed_answer H) o)
failed_over H None = tt
failed_over H (Some r) = failed_why r (last_why H r)

some_kept : (b any : Bool) (x : ℕ) (rest : List ℕ) → (b || any) ≡ true → (any ≡ true → is_empty rest ≡ false) → is_empty (cond b (x ∷ rest) rest) ≡ false
some_kept true any x rest is later = refl
some_kept false any x rest is later = later is

some_left : (f : ℕ → Bool) (xs : List ℕ) → list_any f xs ≡ true → is_empty (filter f xs) ≡ false
some_left f [] is = absurd (true≢false (sym is))
some_left f (x ∷ xs) is = some_kept (f x) (list_any f xs) x (filter f xs) is (some_left f xs)

none_some : {A : Type 0} (o : Option A) → is_none o ≡ true → is_some o ≡ false
none_some None is = refl
none_some (Some x) is = absurd (true≢false (sym is))

over_so : (idle : Bool) (failed : Option Check) (wants places : Bool) (full : Check) (complete : Bool) (count : ℕ) (roomy : List ℕ) (said : ℕ → Check) (rest : List (Option Check))
    → idle ≡ true → wants ≡ false → is_empty roomy ≡ false → OverIf failed → ((r : ℕ) → IsOver (said r))
    → IsOver (unwrap_or (first_of (where_so (not idle) checks.Going ∷ None ∷ failed ∷ where_so (wants && not places) full ∷ where_so wants checks.Going ∷ where_so complete (checks.Complete count) ∷ of_least roomy said ∷ rest)) checks.Going)
over_so false failed wants places full complete count roomy said rest i w e f each = absurd (true≢false (sym i))
over_so true failed true places full complete count roomy said rest i w e f each = absurd (true≢false w)
over_so true (Some check) false places full complete count roomy said rest i w e f each = f
over_so true None false places full true count roomy said rest i w e f each = tt
over_so true None false places full false count [] said rest i w e f each = absurd (true≢false e)
over_so true None false places full false count (r ∷ rs) said rest i w e f each = each r

-- one that passes both tests passes the second
any_second : (p q : ℕ → Bool) (xs : List ℕ) → list_any (λ r. p r && q r) xs ≡ true → list_any q xs ≡ true
any_second p q [] is = is
any_second p q (x ∷ xs) is = by_tests (p x) (q x) (any_second p q xs) is
  where
    by_tests : (b c : Bool) → (list_any (λ r. p r && q r) xs ≡ true → list_any q xs ≡ true) → ((b && c) || list_any (λ r. p r && q r) xs) ≡ true → (c || list_any q xs) ≡ true
    by_tests b true rest is = refl
    by_tests true false rest is = rest is
    by_tests false false rest is = rest is

-- there it comes to an end
pub vain_over : (A : Admitting) (P : Plan) (O : Options) (M : List Move) (stop : Option Stop) (n : ℕ) → has_ended (records_of M) ≡ false → stop ≡ Some (stops.Waited n) → is_in_vain_by A P O M ≡ true → IsOver (end_of P O M stop)
vain_over A P O M stop n unended is vain =
    let H = records_of M in
    let all = and_parts _ _ vain in
    let three = and_parts _ _ all.0 in
    let two = and_parts _ _ three.0 in
    subst IsOver (sym (ap (end_over P O (before_end H)) (unended_stop H stop unended ∙ is) ∙ ap (λ (G : List Record). end_over P O G (Some (stops.Waited n))) (unended_before H unended)))
    (over_so (is_empty (running_rules P H)) (option_and_then (failed_answer H) (find (has_failed H) (rule_numbers P))) (is_some (wanted P O.mode H)) (has_places P H 1) (log_full H)
    (list_all (is_complete H) (rule_numbers P)) (collected_count P H) (filter (fits_storage P H) (ready_rules P H)) (λ r. checks.Waited (record { idles = n; rule = rule_no r }))
    (of_least (filter (passes_inputs P H) (ready_rules P H)) (λ r. checks.InputsTooLarge (rule_no r) (input_bytes P H r)) ∷ where_so (not (has_places P H 2)) (log_full H) ∷ where_none (filter (fits_storage P H) (ready_rules P H)) (ready_rules P H) (no_room P H) ∷ [])
    two.0 (none_some (wanted P O.mode H) two.1) (some_left (fits_storage P H) (ready_rules P H) (any_second (A P O H) (fits_storage P H) (ready_rules P H) three.1)) (failed_over H (find (has_failed H) (rule_numbers P))) (λ r. tt))

pub broken_ends : {S : Type 0} (tells kept : Type 0) (files : S → Files) (count : S → ℕ) (d : DeskState S) (moment : ℕ) (why : EndRefused) (before now : ℕ) (after : DeskState S) → why ≡ refused.Broken before now → Ends count d moment (Err why) after
    → HaltedBy tells kept (Unit {0}) files after 0 0 halts.Site
broken_ends {S} tells kept files count d moment why before now after is h = broken_halt tells kept files count d before now after (subst (λ (w : EndRefused). Ends count d moment (Err w) after) is h)

-- and so an end doesn't answer that it goes on
pub none_ends : {S : Type 0} (tells kept : Type 0) (files : S → Files) (d after : DeskState S) (answer : Option Check) → answer ≡ None → HasEnd tells kept files d after (Ok answer) → IsOver (end_of d.plan d.options d.moves d.stop) → ⊥
none_ends tells kept files d after None is h over = h.1 over
none_ends tells kept files d after (Some check) is h over = absurd (true≢false (ap is_some is))

not_over : (check : Check) → (IsOver check → ⊥) → kind_of check ≡ None
not_over checks.Going goes = refl
not_over checks.Halted goes = refl
not_over (checks.Complete collected) goes = absurd (goes tt)
not_over (checks.CommandFailed rule why) goes = absurd (goes tt)
not_over (checks.InputsTooLarge rule total) goes = absurd (goes tt)
not_over (checks.NoRoom rule need stored limit) goes = absurd (goes tt)
not_over (checks.Waited wait) goes = absurd (goes tt)
not_over (checks.LogFull count) goes = refl

pub none_end : {S : Type 0} (tells kept : Type 0) (files : S → Files) (count : S → ℕ) (d : DeskState S) (moment : ℕ) (check : Check) (after : DeskState S) → (IsOver check → ⊥) → Ends count d moment (Ok check) after
    → HasEnd tells kept files d after (Ok None)
none_end tells kept files count d moment check after goes h = (goes_same count d moment check after (not_over check goes) h, λ over. goes (subst IsOver (sym h.1) over))

pub none_same : {S : Type 0} (tells kept : Type 0) (files : S → Files) (d after : DeskState S) (answer : Option Check) → answer ≡ None → HasEnd tells kept files d after (Ok answer) → after ≡ d
none_same tells kept files d after None is h = h.0
none_same tells kept files d after (Some check) is h = absurd (true≢false (ap is_some is))
