-- What a run with workers comes to in which no attempt fails and none is given up.
use Rattle.std.proofs.Common.{◌≡◌, ◌≤◌, ◌+◌, ◌∙◌, ◌⊎◌, inl, inr, ⊎_elim, ℕ, Bool, true, false, cond, not, List, [], ◌∷◌, ◌++◌, length, Option, Some, None, Result, Ok, Err, refl, sym, ap, subst, arith, append_assoc, length-append, true≢false}
use Rattle.std.specs.Prelude.{IfOk, OnOk, find, nat_lt, sum_by, unwrap_or}
use Rattle.std.specs.List.{list_all, list_any}
use Rattle.std.specs.Option.{option_map_or}
use Rattle.std.proofs.lemmas.Bool.{and_parts, or_parts}
use Rattle.std.proofs.lemmas.List.{append-nil, append_cancel_left}
use Rattle.std.proofs.lemmas.List.Folds.{list_any-append}
use Rattle.std.proofs.lemmas.List.Sums.{sum_by-append, sum_by-cons}
use Rattle.flow_types.specs.declared.plan.Plan.{Plan}
use Rattle.flow_types.specs.declared.records.Record.{Record}
use Rattle.flow_types.specs.declared.records.Record.TheVariants as records
use Rattle.flow_types.specs.Plans.{is_empty, most_input_bytes, rule_numbers, takes}
use Rattle.rule_graph.specs.Spelling.{plan_digest}
use Rattle.run_history.specs.declared.answers.Check.{Check}
use Rattle.run_history.specs.declared.answers.Check.TheVariants as checks
use Rattle.run_history.specs.declared.answers.Stop.{Stop}
use Rattle.run_history.specs.declared.answers.Stop.TheVariants as stops
use Rattle.run_history.specs.declared.moves.Move.{Move}
use Rattle.run_history.specs.declared.options.Options.{Options}
use Rattle.run_history.specs.declared.states.FileState.{FileState}
use Rattle.run_history.specs.Admissions.{Admitting}
use Rattle.run_history.specs.Answers.{before_end, end_over, has_ended, is_halt, or_else, passes_inputs, where_so}
use Rattle.run_history.specs.History.{is_end, since_opening}
use Rattle.run_history.specs.Legal.{most_records}
use Rattle.run_history.specs.Links.{records_of}
use Rattle.run_history.specs.States.{file_state, limit_of}
use Rattle.run_history.specs.Storage.{has_failed, running_rules, size_in}
use Rattle.run_history.proofs.Ready.{empty_list}
use Rattle.task_core.proofs.Standing.{KeepsFiles, files-same}
use Rattle.desk.specs.Kept.{IsLegal}
use Rattle.desk.specs.declared.answers.StartFault.{StartFault}
use Rattle.local_run.specs.declared.ended.Stopped.{Stopped}
use Rattle.local_run.specs.declared.ended.Stopped.TheVariants as stopped
use Rattle.local_run.specs.declared.halt.Halt.TheVariants as halts
use Rattle.local_run.specs.Course.{begins_anew}
use Rattle.local_run.specs.Ends.{IsCompleteEnd, IsDone, IsFresh, IsSureEnd, IsWholeRun, StartEnds, failed_count, is_failed, records_due}
use Rattle.local_run.specs.Losses.{is_lost}
use Rattle.local_run.specs.Runs.{HasCauses, IsCutRun, IsHallEnd}
use Rattle.local_run.proofs.Completed.{well_says}
use Rattle.local_run.proofs.Done.{all_done}
use Rattle.local_run.proofs.Failures.{failed_rose}
use Rattle.local_run.proofs.Fresh.{limit_more, since_more}
use Rattle.local_run.proofs.Going.{records_grown}
use Rattle.wq_run.specs.Calm.{GoesWell, goes_wrong}
use Rattle.wq_run.specs.Ends.{EndsHere, IsOver, IsSparedRunners, IsVain}
use Rattle.wq_run.specs.Vain.{IfWaited}
use Rattle.flow_run.specs.Reached.{IsDoneAway, IsReached}
use Rattle.flow_run.proofs.Enough.{due_along}

-- ---- the answer

-- it is reached, or no end
abbrev Reaches : Option ℕ → Check → Type 0
Reaches limit (checks.Complete collected) = Unit {0}
Reaches limit (checks.NoRoom rule need stored most) = limit ≡ Some most
Reaches limit (checks.Waited wait) = Unit {0}
Reaches limit checks.Going = Unit {0}
Reaches limit check = ⊥

reached_by : (limit : Option ℕ) (check : Check) → Reaches limit check → IsOver check → IsReached limit check
reached_by limit (checks.Complete collected) is over = tt
reached_by limit (checks.CommandFailed rule why) is over = absurd is
reached_by limit (checks.InputsTooLarge rule total) is over = absurd is
reached_by limit (checks.LogFull records) is over = absurd is
reached_by limit checks.Going is over = absurd over
reached_by limit (checks.NoRoom rule need stored most) is over = is
reached_by limit (checks.Waited wait) is over = tt
reached_by limit checks.Halted is over = absurd over

unstopped : (A : Admitting) (P : Plan) (O : Options) (M : List Move) (limit rise : ℕ) (stop : Option Stop) → IsVain A P O M limit rise stop → option_map_or is_halt stop false ≡ false
unstopped A P O M limit rise None vain = refl
unstopped A P O M limit rise (Some (stops.Waited idles)) vain = refl
unstopped A P O M limit rise (Some stops.Halt) vain = absurd vain

going_first : (b : Bool) (rest : Option Check) → b ≡ false → unwrap_or (or_else (where_so (not b) checks.Going) rest) checks.Going ≡ checks.Going
going_first true rest is = absurd (true≢false is)
going_first false rest is = refl

-- an end that is over is none while attempts run
over_idle : (P : Plan) (O : Options) (H : List Record) (stop : Option Stop) → IsOver (end_over P O H stop) → is_empty (running_rules P H) ≡ true
over_idle P O H stop over = by_test (is_empty (running_rules P H)) refl
  where
    by_test : (b : Bool) → is_empty (running_rules P H) ≡ b → b ≡ true
    by_test true is = refl
    by_test false is = absurd (subst IsOver (going_first (is_empty (running_rules P H)) _ is) over)

-- ---- the records

-- Of two ways to part a list one goes on where the other ends.
parts_of : (a u H rest : List Record) → a ++ u ≡ H ++ rest
    → ((more : List Record) × (H ≡ a ++ more) × (u ≡ more ++ rest)) ⊎ ((x : Record) × ((w : List Record) × (a ≡ H ++ (x ∷ w)) × (rest ≡ (x ∷ w) ++ u)))
parts_of [] u H rest same = inl (H, refl, same)
parts_of (x ∷ a) u [] rest same = inr (x, (a, refl, sym same))
parts_of (x ∷ a) u (y ∷ H) rest same =
    let first : x ≡ y = cc in
    let others : a ++ u ≡ H ++ rest = cc in
    ⊎_elim
    (λ (p : (more : List Record) × (H ≡ a ++ more) × (u ≡ more ++ rest)). inl (p.0, ap (λ (h : Record). h ∷ H) (sym first) ∙ ap (λ (l : List Record). x ∷ l) p.1, p.2))
    (λ (q : (z : Record) × ((w : List Record) × (a ≡ H ++ (z ∷ w)) × (rest ≡ (z ∷ w) ++ u))). inr (q.0, (q.1.0, ap (λ (h : Record). h ∷ a) first ∙ ap (λ (l : List Record). y ∷ l) q.1.1, q.1.2)))
    (parts_of a u H rest others)

-- The records before the end of a run are those that it began with, and more.
begun_first : (limit : Option ℕ) (a u H rest : List Record) → IsFresh limit a → a ++ u ≡ H ++ rest → list_any begins_anew rest ≡ false → (more : List Record) × (H ≡ a ++ more) × (u ≡ more ++ rest)
begun_first limit a u H rest fresh same anew =
    ⊎_elim
    (λ (p : (more : List Record) × (H ≡ a ++ more) × (u ≡ more ++ rest)). p)
    (λ (q : (x : Record) × ((w : List Record) × (a ≡ H ++ (x ∷ w)) × (rest ≡ (x ∷ w) ++ u))).
    let x = q.0 in
    let w = q.1.0 in
    let none = or_parts (list_any begins_anew (x ∷ w)) (list_any begins_anew u) (sym (list_any-append begins_anew (x ∷ w) u) ∙ sym (ap (list_any begins_anew) q.1.2) ∙ anew) in
    let since : since_opening H ++ (x ∷ w) ≡ [] = sym (since_more H (x ∷ w) none.0) ∙ ap since_opening (sym q.1.1) ∙ fresh.since in
    let sums = length-append (since_opening H) (x ∷ w) in
    let none_left : length (since_opening H ++ (x ∷ w)) ≡ 0 = ap (λ (l : List Record). length l) since in
    let wrong : ⊥ = omega (arith, sums, none_left) in
    absurd wrong)
    (parts_of a u H rest same)

-- ---- files behind an end

end_keeps : (x : Record) → is_end x ≡ true → begins_anew x ≡ false → KeepsFiles x
end_keeps (records.Opened moment run retries limit plan sources) ends same = absurd (true≢false (sym ends))
end_keeps (records.Resumed moment run retries limit) ends same = absurd (true≢false (sym ends))
end_keeps (records.Started moment rule attempt link) ends same = absurd (true≢false (sym ends))
end_keeps (records.Done moment rule attempt outs) ends same = absurd (true≢false (sym ends))
end_keeps (records.Failed moment rule attempt why) ends same = absurd (true≢false (sym ends))
end_keeps (records.Lost moment rule attempt) ends same = absurd (true≢false (sym ends))
end_keeps (records.Dropped moment f) ends same = absurd (true≢false (sym ends))
end_keeps (records.Ended moment kind) ends same = record {
  stays = same;
  sources = refl;
  makes_none = λ r. refl;
  drops_none = λ f. refl;
}

files_behind : (P : Plan) (H rest : List Record) (f : ℕ) → list_all is_end rest ≡ true → list_any begins_anew rest ≡ false → file_state P (H ++ rest) f ≡ file_state P H f
files_behind P H [] f ends same = ap (λ (G : List Record). file_state P G f) (append-nil H)
files_behind P H (x ∷ rest) f ends same =
    let end = and_parts (is_end x) (list_all is_end rest) ends in
    let none = or_parts (begins_anew x) (list_any begins_anew rest) same in
    ap (λ (G : List Record). file_state P G f) (sym (append_assoc H (x ∷ []) rest))
    ∙ files_behind P (H ++ (x ∷ [])) rest f end.1 none.1
    ∙ files-same P H x f (end_keeps x end.0 none.0)

inputs_behind : (P : Plan) (H rest : List Record) (r : ℕ) → list_all is_end rest ≡ true → list_any begins_anew rest ≡ false → passes_inputs P H r ≡ passes_inputs P (H ++ rest) r
inputs_behind P H rest r ends same =
    ap (λ (s : ℕ → FileState). nat_lt most_input_bytes (sum_by (λ f. option_map_or (λ size. size) (size_in (s f)) 0) (takes P r))) (λ i f. (sym (files_behind P H rest f ends same)) i)

-- ---- the whole

unfailed : (xs : List Record) → list_any goes_wrong xs ≡ false → failed_count xs ≡ 0
unfailed [] none = refl
unfailed (x ∷ xs) none =
    let parts = or_parts (goes_wrong x) (list_any goes_wrong xs) none in
    let rest = unfailed xs parts.1 in
    let single : (let n : ℕ = cond (is_failed x) 1 0 in n) ≡ 0 = ap (λ (b : Bool). let n : ℕ = cond b 1 0 in n) (or_parts (is_failed x) (is_lost x) parts.0).0 in
    let sums = sum_by-cons (λ (y : Record). cond (is_failed y) 1 0) x xs in
    omega (arith, rest, single, sums)

never_rose : (n m all : ℕ) → all ≡ n + m → m ≡ 0 → all + 0 ≡ n + 0
never_rose n m all sum none = omega (arith, sum, none)

-- What is so of the records before the end of a run that began over these, and in which no attempt failed and none was given up.
record IsWell (P : Plan) (O : Options) (a H rest : List Record) : Type 0 where
  limited : limit_of H ≡ O.limit
  sound : (r : ℕ) → find (has_failed H) (rule_numbers P) ≡ Some r → ⊥
  due : is_empty (running_rules P H) ≡ true → records_due P H ≤ records_due P a

well_before : (P : Plan) (O : Options) (a u H rest : List Record) → IsFresh O.limit a → list_any begins_anew u ≡ false → IsLegal P (a ++ u) → a ++ u ≡ H ++ rest → list_any begins_anew rest ≡ false → has_ended H ≡ false → list_any goes_wrong u ≡ false
    → IsWell P O a H rest
well_before P O a u H rest fresh anew legal split same unended well =
    let begun = begun_first O.limit a u H rest fresh split same in
    let more = begun.0 in
    let are : H ≡ a ++ more = begun.1 in
    let behind : u ≡ more ++ rest = begun.2 in
    let none : list_any begins_anew (more ++ rest) ≡ false = sym (ap (list_any begins_anew) behind) ∙ anew in
    let none_more : list_any begins_anew more ≡ false = (or_parts (list_any begins_anew more) (list_any begins_anew rest) (sym (list_any-append begins_anew more rest) ∙ none)).0 in
    let fine : list_any goes_wrong more ≡ false = (or_parts (list_any goes_wrong more) (list_any goes_wrong rest) (sym (list_any-append goes_wrong more rest) ∙ sym (ap (list_any goes_wrong) behind) ∙ well)).0 in
    let since : since_opening H ≡ more = ap since_opening are ∙ since_more a more none_more ∙ ap (λ (l : List Record). l ++ more) fresh.since in
    let stays : list_any is_end more ≡ false = sym (ap (list_any is_end) since) ∙ unended in
    let whole : IsLegal P (a ++ (more ++ rest)) = subst (λ (l : List Record). IsLegal P (a ++ l)) behind legal in
    record {
      limited = ap limit_of are ∙ limit_more a more none_more ∙ fresh.limited;
      sound = λ r found.
          let rose = failed_rose P a more H r 0 0 fresh.since none_more are
          (never_rose (failed_count a) (failed_count more) (failed_count H) (ap failed_count are ∙ sum_by-append (λ (x : Record). cond (is_failed x) 1 0) a more) (unfailed more fine)) found in
          let wrong : ⊥ = omega (arith, rose) in wrong;
      due = λ idle.
          let le = due_along P (plan_digest P) a more rest whole none fine stays (subst (λ (G : List Record). is_empty (running_rules P G) ≡ true) are idle) in
          let now : records_due P H ≡ records_due P (a ++ more) = ap (records_due P) are in
          omega (arith, le, now);
    }

-- A run that began over these records, and in which no attempt failed and none was given up, ends well where the inputs are within their limit and the log has room.
pub reached_so : (A : Admitting) (P : Plan) (O : Options) (limit rise : ℕ) (first all : List Move) (u : List Record) (check : Check) → records_of all ≡ records_of first ++ u → list_any begins_anew u ≡ false → IsFresh O.limit (records_of first) → IsLegal P (records_of all)
    → EndsHere A P O limit rise all check → GoesWell (records_of first) (records_of all) → ((r : ℕ) → passes_inputs P (records_of all) r ≡ false) → records_due P (records_of first) + 1 ≤ most_records
    → ((r : ℕ) → passes_inputs P (before_end (records_of all)) r ≡ false) × IsReached O.limit check
reached_so A P O limit rise first all u check grown anew fresh legal ends well fit few =
    let a = records_of first in
    let H = records_of ends.ends.moves in
    let rest = records_of ends.more in
    let stop = ends.ends.stop in
    let split : records_of all ≡ H ++ rest = ap records_of ends.are ∙ records_grown ends.ends.moves ends.more in
    let behind : u ≡ well.more = append_cancel_left a u well.more (sym grown ∙ well.are) in
    let is = well_before P O a u H rest fresh anew (subst (IsLegal P) grown legal) (sym grown ∙ split) ends.same ends.unended (ap (list_any goes_wrong) behind ∙ well.none) in
    let answer : check ≡ end_over P O H stop = ends.ends.answer ∙ ap (λ (G : List Record). end_over P O G stop) (sym ends.ends.logged) in
    let idle = over_idle P O H stop (subst IsOver answer ends.ends.over) in
    let none : length (running_rules P H) ≡ 0 = ap (λ (xs : List ℕ). length xs) (empty_list (running_rules P H) idle) in
    let due = is.due idle in
    let small : (r : ℕ) → passes_inputs P H r ≡ false = λ r. inputs_behind P H rest r ends.ended ends.same ∙ ap (λ (G : List Record). passes_inputs P G r) (sym split) ∙ fit r in (
      (λ r. ap (λ (G : List Record). passes_inputs P G r) (sym ends.ends.logged) ∙ small r),
      reached_by O.limit check
          (subst (Reaches O.limit) (sym answer)
          (well_says (Reaches O.limit) P O H stop is.limited (unstopped A P O ends.ends.moves limit rise stop ends.ends.vain) is.sound small (omega (arith, none)) (omega (arith, due, few)) tt tt (λ idles r waits. tt) (λ r most at. at))) ends.ends.over,
    )

complete_by : (limit : Option ℕ) (check : Check) (small : Type 0) → small → IsReached limit check → IfWaited check (small → ⊥) → IsCompleteEnd limit check
complete_by limit (checks.Complete collected) small is reached never = tt
complete_by limit (checks.CommandFailed rule why) small is reached never = absurd reached
complete_by limit (checks.InputsTooLarge rule total) small is reached never = absurd reached
complete_by limit (checks.LogFull records) small is reached never = absurd reached
complete_by limit checks.Going small is reached never = absurd reached
complete_by limit (checks.NoRoom rule need stored most) small is reached never = reached
complete_by limit (checks.Waited wait) small is reached never = absurd (never is)
complete_by limit checks.Halted small is reached never = absurd reached

-- The same of how a run ended, which over a manned hall doesn't wait in vain.
pub reached_whole : (A : Admitting) (P : Plan) (O : Options) (limit rise : ℕ) (first all : List Move) (u : List Record) (how : Result Check Stopped) → records_of all ≡ records_of first ++ u → list_any begins_anew u ≡ false → IsFresh O.limit (records_of first)
    → IsLegal P (records_of all) → IfOk how (EndsHere A P O limit rise all) → OnOk how (GoesWell (records_of first) (records_of all)) → ((IsCutRun how → ⊥) → (r : ℕ) → passes_inputs P (records_of all) r ≡ false)
    → records_due P (records_of first) + 1 ≤ most_records
    → IfOk how (IsReached O.limit) × (IfOk how (λ check. IfWaited check (((r : ℕ) → passes_inputs P (before_end (records_of all)) r ≡ false) → ⊥)) → IfOk how (IsCompleteEnd O.limit))
reached_whole A P O limit rise first all u (Ok check) grown anew fresh legal ends well fit few =
    let reached = reached_so A P O limit rise first all u check grown anew fresh legal ends well (fit (λ cut. cut)) few in
    (reached.1, λ never. complete_by O.limit check ((r : ℕ) → passes_inputs P (before_end (records_of all)) r ≡ false) reached.0 reached.1 never)
reached_whole A P O limit rise first all u (Err why) grown anew fresh legal ends well fit few = (tt, λ never. tt)

spared_sure : (why : Stopped) → (let how : Result Check Stopped = Err why in IsSparedRunners how) → (let how : Result Check Stopped = Err why in IsSureEnd how)
spared_sure (stopped.Refused why) spared = tt
spared_sure (stopped.Halted (halts.Damaged file logged found)) spared = tt
spared_sure (stopped.Halted halts.Runner) spared = spared
spared_sure (stopped.Halted halts.Site) spared = tt
spared_sure (stopped.Halted halts.Memory) spared = tt
spared_sure stopped.Hall spared = tt
spared_sure (stopped.Unheard fault) spared = tt
spared_sure (stopped.Unopened fault) spared = tt

sure_complete : (limit : Option ℕ) (check : Check) → IsCompleteEnd limit check → (let how : Result Check Stopped = Ok check in IsSureEnd how)
sure_complete limit (checks.Complete collected) is = tt
sure_complete limit (checks.CommandFailed rule why) is = is
sure_complete limit (checks.InputsTooLarge rule total) is = tt
sure_complete limit (checks.LogFull records) is = tt
sure_complete limit checks.Going is = tt
sure_complete limit (checks.NoRoom rule need stored most) is = tt
sure_complete limit (checks.Waited wait) is = tt
sure_complete limit checks.Halted is = tt

-- A run that nothing stops is done.
pub all_reached : (limit : Option ℕ) (expected : Option StartFault) (how : Result Check Stopped) (before after first now : ℕ) → StartEnds expected how → expected ≡ None → IsWholeRun how → IsSparedRunners how → HasCauses before after first now how → after ≤ before
    → (IsHallEnd how → ⊥) → IfOk how (IsReached limit) → IsDoneAway limit how
all_reached limit expected (Ok check) before after first now starts none whole spared causes stood met reached = reached
all_reached limit expected (Err why) before after first now starts none whole spared causes stood met reached =
    all_done limit expected (Err why) before after first now starts none whole (spared_sure why spared) causes stood met tt

pub all_complete : (limit : Option ℕ) (expected : Option StartFault) (how : Result Check Stopped) (before after first now : ℕ) → StartEnds expected how → expected ≡ None → IsWholeRun how → IsSparedRunners how → HasCauses before after first now how → after ≤ before
    → (IsHallEnd how → ⊥) → IfOk how (IsCompleteEnd limit) → IsDone limit how
all_complete limit expected (Ok check) before after first now starts none whole spared causes stood met complete =
    all_done limit expected (Ok check) before after first now starts none whole (sure_complete limit check complete) causes stood met complete
all_complete limit expected (Err why) before after first now starts none whole spared causes stood met complete =
    all_done limit expected (Err why) before after first now starts none whole (spared_sure why spared) causes stood met tt
