-- What the machines of a world show after a step.
use Rattle.std.proofs.Common.{◌≡◌, ◌<◌, ◌≤◌, ◌+◌, zero, suc, ℕ, true, false, cond, List, [], ◌∷◌, ◌++◌, Option, Some, None, refl, ap, sym, ◌∙◌, subst, drop, map, fold, get_or, add-one, drop-cons, arith}
use Rattle.std.specs.Prelude.{Result, Ok, Err, ◌&&◌, nat_lt, length, slice_get}
use Rattle.std.specs.Option.{option_map_or}
use Rattle.flow_types.specs.declared.plan.Plan.{Plan}
use Rattle.flow_types.specs.declared.numbers.AttemptNo.{AttemptNo}
use Rattle.flow_types.specs.declared.numbers.RuleNo.{RuleNo}
use Rattle.flow_types.specs.declared.records.Record.{Record}
use Rattle.flow_types.specs.declared.records.Record.TheVariants as records
use Rattle.run_history.specs.declared.moves.Move.{Move}
use Rattle.run_history.specs.declared.options.Options.{Options}
use Rattle.run_history.specs.declared.states.RuleState.{RuleState}
use Rattle.run_history.specs.Legal.{runs, runs_as}
use Rattle.run_history.specs.States.{Place, rule_state, running_in}
use Rattle.run_history.specs.Links.{records_of}
use Rattle.flow_types.specs.Plans.{is_empty}
use Rattle.run_history.specs.History.{is_cleaned, part}
use Rattle.run_history.proofs.Steps.{part-push}
use Rattle.run_history.proofs.Grows.{records-push}
use Rattle.task_core.specs.Stands.{Closes, IsStill, Stands, logged as moves_with}
use Rattle.task_core.specs.States.{TableState, row_at}
use Rattle.flow_types.specs.declared.job.Outcome.{Outcome}
use Rattle.flow_types.specs.declared.job.Outcome.TheVariants as outcomes
use Rattle.net_world.specs.declared.play.Play.{Play}
use Rattle.world_laws.specs.Members.{Every}
use Rattle.world_laws.specs.Worlds.{World, closed_as, closed_at, logged, loses_rule}
use Rattle.net_world.specs.Plays.{AreOurs, IsShown, IsTable}
use Rattle.world_contents.specs.Holdings.{kept_in}
use Rattle.net_world.proofs.Lines.{GoesOn, goes_logged, goes_nowhere, numbers_of, ours_keep}

not_empty : (xs : List Record) (x : Record) → is_empty (xs ++ (x ∷ [])) ≡ false
not_empty [] x = refl
not_empty (y ∷ ys) x = refl

-- one more record
pub table_logged : (P : Plan) (O : Options) (M : List Move) (t after : TableState) (entries : List Record) (x : Record) → is_cleaned x ≡ false → IsTable P O M t entries → Stands after (moves_with M x) → IsStill t after
    → IsTable P O (moves_with M x) after (entries ++ (x ∷ []))
table_logged P O M t after entries x more was stands still = record {
  plan = still.0 ∙ was.plan;
  options = still.1 ∙ was.options;
  stop = still.2 ∙ was.stop;
  stands = stands;
  opened = ap (λ H. is_empty (part H)) (records-push M x) ∙ ap is_empty (part-push (records_of M) x more) ∙ not_empty (part (records_of M)) x;
  records = ap (λ H. H ++ (x ∷ [])) was.records ∙ sym (records-push M x);
}

-- beside the table and the records nothing has changed
pub record IsBeside (old new : Play) : Type 0 where
  pub contents : new.contents.items ≡ old.contents.items
  pub lines : new.lines.items ≡ old.lines.items
  pub peers : new.peers.items ≡ old.peers.items
  pub bag : new.bag.items ≡ old.bag.items
  pub up : new.up ≡ old.up

pub beside : (play : Play) → IsBeside play play
beside play = record { contents = refl; lines = refl; peers = refl; bag = refl; up = refl }

-- the machines with another table show the world with other moves
pub moves_shown : (P : Plan) (O : Options) (w v : World) (old new : Play) → IsShown P O w old → IsTable P O v.moves new.table new.records.items → IsBeside old new → GoesOn O w.moves v.moves
    → ((f : ℕ) → v.contents f ≡ w.contents f) → v.connections ≡ w.connections → v.peers ≡ w.peers → v.bag ≡ w.bag → v.up ≡ w.up → IsShown P O v new
moves_shown P O w v old new shown table same goes contents lines peers bag up = record {
  table = table;
  contents = λ f. contents f ∙ shown.contents f ∙ ap (λ kept. kept_in (slice_get kept f)) (sym same.contents);
  places = ap length same.contents ∙ shown.places;
  lines = same.lines ∙ shown.lines ∙ sym lines;
  live = ap (λ cs. 0 ∷ numbers_of cs) lines ∙ shown.live ∙ sym goes.live;
  ours = subst (Every (AreOurs P (records_of v.moves))) (sym lines) (ours_keep P (records_of w.moves) (records_of v.moves) w.connections goes.keeps shown.ours);
  peers = same.peers ∙ shown.peers ∙ sym peers;
  bag = same.bag ∙ shown.bag ∙ sym bag;
  up = same.up ∙ shown.up ∙ sym up;
}

-- one more record
pub logged_shown : (P : Plan) (O : Options) (w : World) (old new : Play) (x : Record) → is_cleaned x ≡ false → IsShown P O w old → Stands new.table (moves_with w.moves x) → IsStill old.table new.table
    → new.records.items ≡ old.records.items ++ (x ∷ []) → IsBeside old new → IsShown P O (logged w x) new
logged_shown P O w old new x more shown stands still pushed same =
    moves_shown P O w (logged w x) old new shown
    (subst (IsTable P O (moves_with w.moves x) new.table) (sym pushed) (table_logged P O w.moves old.table new.table old.records.items x more shown.table stands still))
    same (goes_logged O w.moves x) (λ f. refl) refl refl refl refl

-- an attempt is lost that runs
pub lost_shown : (P : Plan) (O : Options) (w : World) (old new : Play) (rule : RuleNo) (attempt : AttemptNo) (answer : Result (Unit {0}) RuleState) (done : Unit {0}) → answer ≡ Ok done → IsShown P O w old
    → Closes old.table w.moves rule attempt (λ moment. records.Lost moment rule attempt) answer new.table
    → new.records.items ≡ old.records.items ++ (records.Lost 0 rule attempt ∷ []) → IsBeside old new
    → IsShown P O (closed_at P w attempt outcomes.NotRun (Some rule.0)) new
lost_shown P O w old new rule attempt answer done is shown closes pushed same =
    let did = subst (λ answer. Closes old.table w.moves rule attempt (λ moment. records.Lost moment rule attempt) answer new.table) is closes in
    let runs : runs P (records_of w.moves) rule.0 attempt.0 ≡ true = subst (λ P. runs P (records_of w.moves) rule.0 attempt.0 ≡ true) shown.table.plan did.0 in
    subst (λ b. IsShown P O (cond b (logged w (records.Lost 0 rule attempt)) w) new) (sym runs)
    (logged_shown P O w old new (records.Lost 0 rule attempt) refl shown (did.1 0) did.2 pushed same)

-- an attempt that doesn't run stays as it is
pub not_closed_shown : {A : Type 0} (P : Plan) (O : Options) (w : World) (old new : Play) (rule : RuleNo) (attempt : AttemptNo) (outcome : Outcome) (entry : ℕ → Record) (answer : Result A RuleState)
    (why : RuleState) → answer ≡ Err why → IsShown P O w old → Closes old.table w.moves rule attempt entry answer new.table → new.records.items ≡ old.records.items → IsBeside old new
    → IsShown P O (closed_at P w attempt outcome (Some rule.0)) new
not_closed_shown {A} P O w old new rule attempt outcome entry answer why is shown closes records same =
    let did = subst (λ answer. Closes old.table w.moves rule attempt entry answer new.table) is closes in
    let idle : runs P (records_of w.moves) rule.0 attempt.0 ≡ false = subst (λ P. runs P (records_of w.moves) rule.0 attempt.0 ≡ false) shown.table.plan did.0 in
    subst (λ b. IsShown P O (cond b (closed_as P w rule.0 attempt outcome) w) new) (sym idle)
    (moves_shown P O w w old new shown (subst (IsTable P O w.moves new.table) (sym records) (subst (λ t. IsTable P O w.moves t old.records.items) (sym did.2) shown.table))
    same (goes_nowhere O w.moves) (λ f. refl) refl refl refl refl)

false_ne_true : false ≡ true → ⊥
false_ne_true h = cc

-- a rule that isn't of the plan runs with no attempt
pub not_of_plan_shown : (P : Plan) (O : Options) (w : World) (play : Play) (rule : RuleNo) (attempt : AttemptNo) (outcome : Outcome) → nat_lt rule.0 (length play.table.plan.rules) ≡ false
    → IsShown P O w play → IsShown P O (closed_at P w attempt outcome (Some rule.0)) play
not_of_plan_shown P O w play rule attempt outcome past shown =
    let none : nat_lt rule.0 (length P.rules) ≡ false = subst (λ P. nat_lt rule.0 (length P.rules) ≡ false) shown.table.plan past in
    subst (λ b. IsShown P O (cond (b && runs_as (rule_state (records_of w.moves) rule.0) attempt.0) (closed_as P w rule.0 attempt outcome) w) play) (sym none) shown

lost_by : (P : Plan) (O : Options) (w : World) (play : Play) (rule : RuleNo) (found : Option Place) → nat_lt rule.0 (length play.table.plan.rules) ≡ false → IsShown P O w play
    → IsShown P O (option_map_or (λ place. closed_at P w place.0 outcomes.NotRun (Some rule.0)) found w) play
lost_by P O w play rule None past shown = shown
lost_by P O w play rule (Some place) past shown = not_of_plan_shown P O w play rule place.0 outcomes.NotRun past shown

-- nor does it lose one
pub none_lost_shown : (P : Plan) (O : Options) (w : World) (play : Play) (rule : RuleNo) → nat_lt rule.0 (length play.table.plan.rules) ≡ false → IsShown P O w play
    → IsShown P O (loses_rule P w rule.0) play
none_lost_shown P O w play rule past shown = lost_by P O w play rule (running_in (records_of w.moves) rule.0) past shown

-- where a rule runs, its attempt is lost
pub place_lost_shown : (P : Plan) (O : Options) (w : World) (old new : Play) (rule : ℕ) (found : Option Place) → found ≡ (row_at old.table rule).place → IsShown P O w old
    → IsShown P O (option_map_or (λ place. closed_at P w place.0 outcomes.NotRun (Some rule)) found w) new → IsShown P O (loses_rule P w rule) new
place_lost_shown P O w old new rule found is shown then =
    let runs = is ∙ (shown.table.stands.rules rule).place in
    subst (λ found. IsShown P O (option_map_or (λ place. closed_at P w place.0 outcomes.NotRun (Some rule)) found w) new) runs then

-- what is left begins with this rule
pub next_lost : (P : Plan) (w v : World) (rules : List RuleNo) (i : ℕ) (d : RuleNo) → i < length rules
    → fold (loses_rule P) v (map (λ rule. rule.0) (drop i rules)) ≡ fold (loses_rule P) w (map (λ rule. rule.0) rules)
    → fold (loses_rule P) (loses_rule P v (get_or rules i d).0) (map (λ rule. rule.0) (drop (i + 1) rules)) ≡ fold (loses_rule P) w (map (λ rule. rule.0) rules)
next_lost P w v rules i d inside was =
    ap (λ n. fold (loses_rule P) (loses_rule P v (get_or rules i d).0) (map (λ rule. rule.0) (drop n rules))) (add-one i)
    ∙ sym (ap (λ rs. fold (loses_rule P) v (map (λ rule. rule.0) rs)) (drop-cons rules i d inside)) ∙ was

past_end : (rules : List RuleNo) (i : ℕ) → length rules ≤ i → drop i rules ≡ []
past_end [] zero past = refl
past_end [] (suc i) past = refl
past_end (r ∷ rules) zero past = absurd (let h : ⊥ = omega (arith, past) in h)
past_end (r ∷ rules) (suc i) past = past_end rules i (omega (arith, past))

-- nothing is left
pub none_left_lost : (P : Plan) (O : Options) (w v : World) (play : Play) (rules : List RuleNo) (i : ℕ) → length rules ≤ i
    → fold (loses_rule P) v (map (λ rule. rule.0) (drop i rules)) ≡ fold (loses_rule P) w (map (λ rule. rule.0) rules)
    → IsShown P O v play → IsShown P O (fold (loses_rule P) w (map (λ rule. rule.0) rules)) play
none_left_lost P O w v play rules i past was shown =
    subst (λ u. IsShown P O u play) (sym (ap (λ rs. fold (loses_rule P) v (map (λ rule. rule.0) rs)) (past_end rules i past)) ∙ was) shown
