-- What the machines of a world show after an attempt was closed.
use Rattle.std.proofs.Common.{◌≡◌, ◌<◌, zero, suc, ℕ, Bool, true, false, cond, List, [], ◌∷◌, ◌++◌, Option, Some, None, refl, ap, sym, ◌∙◌, subst, map, arith}
use Rattle.std.specs.Prelude.{Result, Ok, ◌&&◌, length, nat_le, nat_lt, slice_get, sum_by}
use Rattle.flow_types.specs.declared.plan.Plan.{Plan}
use Rattle.flow_types.specs.declared.plan.Rule.{Rule}
use Rattle.flow_types.specs.declared.numbers.AttemptNo.{AttemptNo}
use Rattle.flow_types.specs.declared.numbers.Content.{Content}
use Rattle.flow_types.specs.declared.numbers.RuleNo.{RuleNo}
use Rattle.flow_types.specs.declared.job.Failure.{Failure}
use Rattle.flow_types.specs.declared.job.Outcome.{Outcome}
use Rattle.flow_types.specs.declared.job.Outcome.TheVariants as outcomes
use Rattle.flow_types.specs.declared.records.Record.{Record}
use Rattle.flow_types.specs.declared.records.Record.TheVariants as records
use Rattle.flow_types.specs.Plans.{IsValid, contains_number, makes}
use Rattle.flow_types.specs.Serial.{Contents, content_of, with_contents}
use Rattle.run_history.specs.declared.options.Options.{Options}
use Rattle.run_history.specs.declared.states.RuleState.{RuleState}
use Rattle.run_history.specs.History.{is_cleaned}
use Rattle.run_history.specs.Legal.{are_within, is_failure_at, runs, runs_as}
use Rattle.run_history.specs.Links.{records_of}
use Rattle.run_history.specs.States.{rule_state}
use Rattle.run_history.specs.Storage.{rule_bound}
use Rattle.run_history.proofs.Bools.{both}
use Rattle.task_core.specs.Stands.{Closes, IsStill, Stands, logged as moves_with}
use Rattle.task_core.specs.States.{known_in}
use Rattle.task_core.proofs.Closing.{state-known}
use Rattle.net_world.specs.declared.play.Play.{Play}
use Rattle.net_world.specs.Closings.{FitsRule}
use Rattle.world_contents.specs.Holdings.{held_in}
use Rattle.world_laws.specs.Worlds.{World, closed_as, closed_at, closes, logged, row_for, rule_at, with_files}
use Rattle.net_world.specs.Plays.{IsShown, IsTable}
use Rattle.world_laws.proofs.Bounds.{failure_at, outs_together, outs_within}
use Rattle.net_world.proofs.Lines.{goes_logged, ours_keep}
use Rattle.net_world.proofs.Shows.{IsBeside, logged_shown, table_logged}

-- beside the table, the records and the contents nothing has changed
pub record IsBesideFiles (old new : Play) : Type 0 where
  pub lines : new.lines.items ≡ old.lines.items
  pub peers : new.peers.items ≡ old.peers.items
  pub bag : new.bag.items ≡ old.bag.items
  pub up : new.up ≡ old.up

-- one more record, with other contents
pub filed_shown : (P : Plan) (O : Options) (w : World) (old new : Play) (x : Record) (contents : Contents) → is_cleaned x ≡ false → IsShown P O w old → Stands new.table (moves_with w.moves x)
    → IsStill old.table new.table → new.records.items ≡ old.records.items ++ (x ∷ []) → ((f : ℕ) → contents f ≡ held_in new.contents.items f)
    → length new.contents.items ≡ length old.contents.items → IsBesideFiles old new → IsShown P O (with_files (logged w x) contents) new
filed_shown P O w old new x contents more shown stands still pushed held places same =
    let goes = goes_logged O w.moves x in
    record {
      table = subst (IsTable P O (moves_with w.moves x) new.table) (sym pushed) (table_logged P O w.moves old.table new.table old.records.items x more shown.table stands still);
      contents = held;
      places = places ∙ shown.places;
      lines = same.lines ∙ shown.lines;
      live = shown.live ∙ sym goes.live;
      ours = ours_keep P (records_of w.moves) (records_of (moves_with w.moves x)) w.connections goes.keeps shown.ours;
      peers = same.peers ∙ shown.peers;
      bag = same.bag ∙ shown.bag;
      up = same.up ∙ shown.up;
    }

no_rule : (P : Plan) (r : ℕ) → r < length P.rules → slice_get P.rules r ≡ None → ⊥
no_rule P r inside none = past P.rules r inside none
  where
    past : (rules : List Rule) (n : ℕ) → n < length rules → slice_get rules n ≡ None → ⊥
    past [] n inside none = omega (arith, inside)
    past (x ∷ xs) zero inside none = cc
    past (x ∷ xs) (suc n) inside none = past xs n (omega (arith, inside)) none

false_ne_true : false ≡ true → ⊥
false_ne_true h = cc

finished_by : (P : Plan) (w : World) (r : ℕ) (outs : List (List ℕ)) (found : Option Rule) → slice_get P.rules r ≡ found → r < length P.rules → IsValid P → FitsRule P w r (outcomes.Success outs)
    → (are_within P (makes P r) (map row_for outs) && nat_le (sum_by (λ row. row.size) (map row_for outs)) (rule_bound P r)) ≡ true
finished_by P w r outs None at inside valid fits = absurd (no_rule P r inside at)
finished_by P w r outs (Some rule) at inside valid fits =
    let shaped = fits rule at tt in
    both _ _ (outs_within P r rule outs at shaped.0) (outs_together P r rule outs valid at shaped.0 shaped.1)

-- contents that fit a rule may close it
pub may_finish : (P : Plan) (O : Options) (w : World) (play : Play) (r : ℕ) (outs : List (List ℕ)) (rows : List Content) → IsShown P O w play → r < length play.table.plan.rules
    → IsValid play.table.plan → FitsRule P w r (outcomes.Success outs) → rows ≡ map row_for outs
    → (are_within play.table.plan (makes play.table.plan r) rows && nat_le (sum_by (λ row. row.size) rows) (rule_bound play.table.plan r)) ≡ true
may_finish P O w play r outs rows shown inside valid fits are =
    subst (λ Q. (are_within Q (makes Q r) rows && nat_le (sum_by (λ row. row.size) rows) (rule_bound Q r)) ≡ true) (sym shown.table.plan)
    (subst (λ rows. (are_within P (makes P r) rows && nat_le (sum_by (λ row. row.size) rows) (rule_bound P r)) ≡ true) (sym are)
    (finished_by P w r outs (slice_get P.rules r) refl (subst (λ Q. r < length Q.rules) shown.table.plan inside) (subst IsValid shown.table.plan valid) fits))

failed_by : (P : Plan) (w : World) (r : ℕ) (why : Failure) (found : Option Rule) → slice_get P.rules r ≡ found → r < length P.rules → FitsRule P w r (outcomes.Failed why)
    → is_failure_at why (length (makes P r)) ≡ true
failed_by P w r why None at inside fits = absurd (no_rule P r inside at)
failed_by P w r why (Some rule) at inside fits = failure_at P r rule why at (fits rule at tt)

-- a failure that fits a rule may close it
pub may_fail : (P : Plan) (O : Options) (w : World) (play : Play) (r : ℕ) (why : Failure) → IsShown P O w play → r < length play.table.plan.rules → FitsRule P w r (outcomes.Failed why)
    → is_failure_at why (length (makes play.table.plan r)) ≡ true
may_fail P O w play r why shown inside fits =
    subst (λ Q. is_failure_at why (length (makes Q r)) ≡ true) (sym shown.table.plan) (failed_by P w r why (slice_get P.rules r) refl (subst (λ Q. r < length Q.rules) shown.table.plan inside) fits)

-- a rule that doesn't run with the attempt stays as it is
pub idle_shown : (P : Plan) (O : Options) (w : World) (play : Play) (r : ℕ) (attempt : AttemptNo) (outcome : Outcome) → runs_as ((known_in play.table).rules r) attempt.0 ≡ false → IsShown P O w play
    → IsShown P O (closed_at P w attempt outcome (Some r)) play
idle_shown P O w play r attempt outcome idle shown =
    let state : runs_as (rule_state (records_of w.moves) r) attempt.0 ≡ false = ap (λ s. runs_as s attempt.0) (sym (state-known play.table w.moves r shown.table.stands)) ∙ idle in
    subst (λ b. IsShown P O (cond b (closed_as P w r attempt outcome) w) play) (sym (neither (nat_lt r (length P.rules)) _ state)) shown
  where
    neither : (a b : Bool) → b ≡ false → (a && b) ≡ false
    neither true b is = is
    neither false b is = refl

-- a rule that runs with the attempt is closed by its outputs
pub done_shown : (P : Plan) (O : Options) (w : World) (old mid new : Play) (rule : RuleNo) (attempt : AttemptNo) (outs : List (List ℕ)) (rows : List Content) (answer : Result (Unit {0}) RuleState)
    (done : Unit {0}) → answer ≡ Ok done → IsShown P O w old → mid.table ≡ old.table → rows ≡ map row_for outs
    → Closes mid.table w.moves rule attempt (λ moment. records.Done moment rule attempt rows) answer new.table
    → new.records.items ≡ old.records.items ++ (records.Done 0 rule attempt rows ∷ [])
    → ((f : ℕ) → held_in new.contents.items f ≡ with_contents (held_in old.contents.items) (makes old.table.plan rule.0) outs f) → length new.contents.items ≡ length old.contents.items
    → IsBesideFiles old new → IsShown P O (closed_at P w attempt (outcomes.Success outs) (Some rule.0)) new
done_shown P O w old mid new rule attempt outs rows answer done is shown table are closing pushed held places same =
    let did = subst (λ answer. Closes mid.table w.moves rule attempt (λ moment. records.Done moment rule attempt rows) answer new.table) is closing in
    let plan : mid.table.plan ≡ P = ap (λ t. t.plan) table ∙ shown.table.plan in
    let runs : runs P (records_of w.moves) rule.0 attempt.0 ≡ true = subst (λ P. runs P (records_of w.moves) rule.0 attempt.0 ≡ true) plan did.0 in
    let still : IsStill old.table new.table = subst (λ t. IsStill t new.table) table did.2 in
    let entry : List Content → Record = λ rows. records.Done 0 rule attempt rows in
    subst (λ b. IsShown P O (cond b (closed_as P w rule.0 attempt (outcomes.Success outs)) w) new) (sym runs)
    (subst (λ rows. IsShown P O (with_files (logged w (entry rows)) (with_contents w.contents (makes P rule.0) outs)) new) are
    (filed_shown P O w old new (entry rows) (with_contents w.contents (makes P rule.0) outs) refl shown (did.1 0) still pushed
    (λ f. made_same w.contents (held_in old.contents.items) (makes P rule.0) outs f shown.contents
    ∙ ap (λ Q. with_contents (held_in old.contents.items) (makes Q rule.0) outs f) (sym shown.table.plan) ∙ sym (held f))
    places same))
  where
    made_same : (held contents : Contents) (fs : List ℕ) (outs : List (List ℕ)) (f : ℕ) → ((g : ℕ) → held g ≡ contents g) → with_contents held fs outs f ≡ with_contents contents fs outs f
    made_same held contents fs outs f same = ap (λ c. cond (contains_number f fs) (content_of f fs outs) c) (same f)

-- a rule that runs with the attempt is closed by its failure
pub failed_shown : {A : Type 0} (P : Plan) (O : Options) (w : World) (old new : Play) (rule : RuleNo) (attempt : AttemptNo) (why : Failure) (answer : Result A RuleState) (next : A)
    → answer ≡ Ok next → IsShown P O w old → Closes old.table w.moves rule attempt (λ moment. records.Failed moment rule attempt why) answer new.table
    → new.records.items ≡ old.records.items ++ (records.Failed 0 rule attempt why ∷ []) → IsBeside old new
    → IsShown P O (closed_at P w attempt (outcomes.Failed why) (Some rule.0)) new
failed_shown {A} P O w old new rule attempt why answer next is shown closing pushed same =
    let did = subst (λ answer. Closes old.table w.moves rule attempt (λ moment. records.Failed moment rule attempt why) answer new.table) is closing in
    let runs : runs P (records_of w.moves) rule.0 attempt.0 ≡ true = subst (λ P. runs P (records_of w.moves) rule.0 attempt.0 ≡ true) shown.table.plan did.0 in
    subst (λ b. IsShown P O (cond b (logged w (records.Failed 0 rule attempt why)) w) new) (sym runs)
    (logged_shown P O w old new (records.Failed 0 rule attempt why) refl shown (did.1 0) did.2 pushed same)

-- an attempt closes its rule
pub rule_closed : (P : Plan) (O : Options) (w : World) (old new : Play) (attempt : AttemptNo) (outcome : Outcome) (found : Option ℕ) → found ≡ rule_at old.records.items attempt.0 → IsShown P O w old
    → IsShown P O (closed_at P w attempt outcome found) new → IsShown P O (closes P w attempt outcome) new
rule_closed P O w old new attempt outcome found is shown then =
    subst (λ found. IsShown P O (closed_at P w attempt outcome found) new) (is ∙ ap (λ H. rule_at H attempt.0) shown.table.records) then
