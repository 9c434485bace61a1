-- What the machines of a world show after a claim.
use Rattle.std.proofs.Common.{◌≡◌, ◌<◌, ℕ, true, false, cond, List, [], ◌∷◌, ◌++◌, Option, Some, None, refl, ap, sym, ◌∙◌, subst, length, map, arith, get_or}
use Rattle.std.specs.Prelude.{Result, Ok, Err, find, is_some, position, slice_get, slice_set, ◌==◌}
use Rattle.std.specs.Option.{option_map, option_map_or}
use Rattle.std.proofs.lemmas.Bool.{eqb-true}
use Rattle.std.proofs.lemmas.List.Quantifiers.{position-Some}
use Rattle.std.proofs.lemmas.Option.{slice_get-get_or}
use Rattle.flow_types.specs.declared.plan.Plan.{Plan}
use Rattle.flow_types.specs.declared.plan.Port.{Port}
use Rattle.flow_types.specs.declared.plan.Rule.{Rule}
use Rattle.flow_types.specs.declared.job.Task.{Task}
use Rattle.flow_types.specs.declared.numbers.AttemptNo.{AttemptNo}
use Rattle.flow_types.specs.declared.numbers.FileNo.{FileNo}
use Rattle.flow_types.specs.declared.numbers.LinkNo.{LinkNo}
use Rattle.flow_types.specs.declared.records.Record.{Record}
use Rattle.flow_types.specs.declared.records.Record.TheVariants as records
use Rattle.flow_types.specs.Plans.{bound_of}
use Rattle.run_history.specs.declared.answers.Nothing.{Nothing}
use Rattle.run_history.specs.declared.options.Options.{Options}
use Rattle.run_history.specs.Answers.{claim_of}
use Rattle.run_history.specs.History.{next_attempt}
use Rattle.run_history.specs.Links.{is_live, records_of}
use Rattle.link_session.specs.declared.open.Open.{Open}
use Rattle.link_session.specs.Keys.{lacking}
use Rattle.link_session.specs.Sessions.{is_of, is_open, opened, started}
use Rattle.task_core.specs.declared.table.Started.{Started}
use Rattle.task_core.specs.Stands.{Claims}
use Rattle.net_world.specs.declared.play.Play.{Play}
use Rattle.world_laws.specs.Members.{Stands}
use Rattle.world_laws.specs.Worlds.{Connection, World, at_link, claim_logged, claimed_rule, claims, dispatched, dispatched_on, logged, puts_and_task, records_in, rule_at, run_of, sent_more, sent_out, start_of, taken, task_at, task_with, the_rule, want_at, with_session}
use Rattle.net_world.specs.Plays.{IsClaimed, IsNew, IsOurs, IsShown, IsTable}
use Rattle.net_world.proofs.Lines.{goes_nowhere}
use Rattle.world_laws.proofs.Members.{every_append, every_one, get_stands}
use Rattle.world_peers.proofs.Places.{none_found, place_found}
use Rattle.world_laws.proofs.Records.{next_below}
use Rattle.net_world.proofs.SessionShows.{IsBesideLines, session_shown}
use Rattle.net_world.proofs.Shows.{IsBeside, logged_shown, moves_shown}

-- ---- the task of an attempt

wants_bounds : (P : Plan) (ports : List Port) → map (λ want. want.bound) (map (want_at P) ports) ≡ map (λ port. bound_of P port.file.0) ports
wants_bounds P [] = refl
wants_bounds P (port ∷ ports) = ap (λ (bounds : List ℕ). bound_of P port.file.0 ∷ bounds) (wants_bounds P ports)

task_by : (P : Plan) (H : List Record) (attempt : AttemptNo) (t : Task) (number : Option ℕ) (found : Option Rule) → rule_at H attempt.0 ≡ number → the_rule P number ≡ found
    → option_map (λ rule. task_with P rule attempt (run_of H)) found ≡ Some t → IsOurs P H (opened t) × (t.attempt ≡ attempt)
task_by P H attempt t number None at found is = absurd (let h : ⊥ = cc in h)
task_by P H attempt t None (Some rule) at found is = absurd (let h : ⊥ = cc in h)
task_by P H attempt t (Some r) (Some rule) at found is =
    let same : task_with P rule attempt (run_of H) ≡ t = cc in
    subst (λ t. IsOurs P H (opened t) × (t.attempt ≡ attempt)) same
    (record { number = r; rule = rule; started = at; in_plan = found; bounds = wants_bounds P rule.outputs }, refl)

-- the task of an attempt is the attempt's, and of its rule
pub task_ours : (P : Plan) (H : List Record) (attempt : AttemptNo) (t : Task) → task_at P H attempt ≡ Some t → IsOurs P H (opened t) × (t.attempt ≡ attempt)
task_ours P H attempt t is = task_by P H attempt t (rule_at H attempt.0) (the_rule P (rule_at H attempt.0)) refl refl is

-- ---- a task that goes over a link

-- an attempt that is open on no link isn't open on this one
pub new_there : (P : Plan) (O : Options) (w : World) (play : Play) (attempt : AttemptNo) (n : ℕ) (line : Connection) → IsShown P O w play → IsNew attempt w
    → slice_get play.lines.items n ≡ Some line → is_open attempt line.session.attempts ≡ true → ⊥
new_there P O w play attempt n line shown new at is =
    let none : is_open attempt line.session.attempts ≡ false = new line (get_stands w.connections n line (ap (λ cs. slice_get cs n) (sym shown.lines) ∙ at)) in
    cc

-- a task began on the link at a place, and was sent over it
pub dispatched_shown : (P : Plan) (O : Options) (w : World) (old mid new : Play) (n : ℕ) (c line : Connection) (t : Task) (files : List FileNo) → IsShown P O w old
    → slice_get w.connections n ≡ Some c → slice_get old.lines.items n ≡ Some line → IsOurs P (records_of w.moves) (opened t)
    → files ≡ lacking line.session.known t.run t.inputs
    → mid.lines.items ≡ slice_set old.lines.items n (let set : Connection = record line { session = started line.session t } in set) → IsBesideLines old mid
    → ((v : World) → IsShown P O v mid → IsShown P O (sent_more v (puts_and_task v line.peer files t)) new) → IsShown P O (dispatched_on w c t) new
dispatched_shown P O w old mid new n c line t files shown at here ours lack set same sends =
    let is : c ≡ line = (let both : Some c ≡ Some line = sym at ∙ ap (λ cs. slice_get cs n) (sym shown.lines) ∙ here in cc) in
    let H : List Record = records_of w.moves in
    let v : World = with_session w line.link (started line.session t) in
    let began : IsShown P O v mid =
    session_shown P O w old mid n line (started line.session t) shown (ap (λ cs. slice_get cs n) (sym shown.lines) ∙ here)
    (every_append (IsOurs P H) line.session.attempts (opened t ∷ [])
    (shown.ours line (get_stands w.connections n line (ap (λ cs. slice_get cs n) (sym shown.lines) ∙ here))) (every_one (IsOurs P H) (opened t) ours)) set same in
    subst (λ c. IsShown P O (dispatched_on w c t) new) (sym is)
    (subst (λ files. IsShown P O (sent_more v (puts_and_task v line.peer files t)) new) lack (sends v began))

-- without a link nothing is sent
pub none_sent : (P : Plan) (O : Options) (w : World) (play : Play) (k : ℕ) (attempt : AttemptNo) → (let none : Option ℕ = None in none ≡ position (at_link k) play.lines.items)
    → IsShown P O w play → IsShown P O (sent_out P w k attempt) play
none_sent P O w play k attempt none shown =
    let absent : find (at_link k) w.connections ≡ None = none_found (at_link k) w.connections (ap (position (at_link k)) (sym shown.lines) ∙ sym none) in
    subst (λ found. IsShown P O (dispatched w found (task_at P (records_in w) attempt)) play) (sym absent) shown

no_task : (P : Plan) (O : Options) (w : World) (play : Play) (found : Option Connection) → IsShown P O w play → IsShown P O (dispatched w found None) play
no_task P O w play None shown = shown
no_task P O w play (Some c) shown = shown

-- nor without a task
pub no_task_sent : (P : Plan) (O : Options) (w : World) (play : Play) (k : ℕ) (attempt : AttemptNo) → (let none : Option Task = None in none ≡ task_at P (records_of w.moves) attempt)
    → IsShown P O w play → IsShown P O (sent_out P w k attempt) play
no_task_sent P O w play k attempt none shown =
    subst (λ found. IsShown P O (dispatched w (find (at_link k) w.connections) found) play) none (no_task P O w play (find (at_link k) w.connections) shown)

get_within : {A : Type 0} (xs : List A) (n : ℕ) → n < length xs → (x : A) × (slice_get xs n ≡ Some x)
get_within [] n inside = absurd (omega (arith, inside))
get_within (x ∷ xs) n inside = (get_or (x ∷ xs) n x, slice_get-get_or (x ∷ xs) n x inside)

-- the task of an attempt goes over a link
pub sent_shown : (P : Plan) (O : Options) (w : World) (old new : Play) (k n : ℕ) (attempt : AttemptNo) (t : Task) → Some n ≡ position (at_link k) old.lines.items → n < length old.lines.items
    → Some t ≡ task_at P (records_of w.moves) attempt → IsShown P O w old → IsNew attempt w
    → ((c : Connection) → slice_get w.connections n ≡ Some c → IsNew t.attempt w → IsOurs P (records_of w.moves) (opened t) → IsShown P O (dispatched_on w c t) new)
    → IsShown P O (sent_out P w k attempt) new
sent_shown P O w old new k n attempt t place inside is shown fresh sends =
    let there = get_within w.connections n (subst (λ cs. n < length cs) shown.lines inside) in
    let found : find (at_link k) w.connections ≡ Some there.0 =
    sym (place_found (at_link k) w.connections n (ap (position (at_link k)) (sym shown.lines) ∙ sym place)) ∙ there.1 in
    let ours = task_ours P (records_of w.moves) attempt t (sym is) in
    subst (λ c. IsShown P O (dispatched w c (task_at P (records_in w) attempt)) new) (sym found)
    (subst (λ task. IsShown P O (dispatched w (Some there.0) task) new) is
    (sends there.0 there.1 (subst (λ a. IsNew a w) (sym ours.1) fresh) ours.0))

-- ---- a claim

-- what the table answers is what the world's claim does
rule_is : (P : Plan) (O : Options) (w : World) (play : Play) (k : ℕ) (answer : Result ℕ Nothing) → is_live O w.moves k ≡ true → IsShown P O w play
    → claim_of play.table.plan play.table.options w.moves play.table.stop k ≡ answer → claimed_rule P O w k ≡ taken answer
rule_is P O w play k answer lives shown is =
    ap (λ b. cond b (taken (claim_of P O w.moves None k)) None) lives
    ∙ ap taken (sym (ap (λ plan. claim_of plan play.table.options w.moves play.table.stop k) shown.table.plan ∙ ap (λ options. claim_of P options w.moves play.table.stop k) shown.table.options
    ∙ ap (λ stop. claim_of P O w.moves stop k) shown.table.stop) ∙ is)

-- no rule is claimed
none_claimed : (P : Plan) (O : Options) (w : World) (play : Play) (k : ℕ) → claimed_rule P O w k ≡ None → IsShown P O w play → IsClaimed P O w k None play
none_claimed P O w play k none shown = record {
  logged = subst (λ found. IsShown P O (claim_logged w k found) play) (sym none) shown;
  sent = subst (λ found. claims P w k found ≡ claim_logged w k found) (sym none) refl;
  fresh = λ attempt is. absurd (let h : ⊥ = cc in h);
}

-- a claim answers that there is none
pub nothing_claimed : (P : Plan) (O : Options) (w : World) (old new : Play) (link : LinkNo) (answer : Result Started Nothing) (why : Nothing) → answer ≡ Err why
    → is_live O w.moves link.0 ≡ true → IsShown P O w old → Claims old.table w.moves link answer new.table → new.records.items ≡ old.records.items → IsBeside old new
    → IsClaimed P O w link.0 None new
nothing_claimed P O w old new link answer why is lives shown claim entries same =
    let did = subst (λ answer. Claims old.table w.moves link answer new.table) is claim in
    none_claimed P O w new link.0 (rule_is P O w old link.0 (Err why) lives shown did.0)
    (moves_shown P O w w old new shown (subst (IsTable P O w.moves new.table) (sym entries) (subst (λ t. IsTable P O w.moves t old.records.items) (sym did.1) shown.table))
    same (goes_nowhere O w.moves) (λ f. refl) refl refl refl refl)

open_by : (attempt : AttemptNo) (o : Open) (os : List Open) (found : Option ℕ) → position (is_of attempt) (o ∷ os) ≡ found → ((x : Open) → Stands x (o ∷ os) → is_of attempt x ≡ false) → is_some found ≡ false
open_by attempt o os None is none = refl
open_by attempt o os (Some n) is none =
    let at = position-Some (is_of attempt) (o ∷ os) n o is in
    let other : is_of attempt (get_or (o ∷ os) n o) ≡ false = none (get_or (o ∷ os) n o) (get_stands (o ∷ os) n (get_or (o ∷ os) n o) (slice_get-get_or (o ∷ os) n o at.0)) in
    let this : is_of attempt (get_or (o ∷ os) n o) ≡ true = at.1 in
    absurd (let h : ⊥ = cc in h)

-- an attempt of which none is isn't open
none_open : (attempt : AttemptNo) (os : List Open) → ((x : Open) → Stands x os → is_of attempt x ≡ false) → is_open attempt os ≡ false
none_open attempt [] none = refl
none_open attempt (o ∷ os) none = open_by attempt o os (position (is_of attempt) (o ∷ os)) refl none

other_attempt : (a b : ℕ) (c : _) → (a == b) ≡ c → a < b → (a == b) ≡ false
other_attempt a b true is less = absurd (let same : a ≡ b = eqb-true a b is in omega (arith, same, less))
other_attempt a b false is less = is

-- the next attempt is open on no link
next_is_new : (P : Plan) (O : Options) (w : World) (play : Play) (attempt : AttemptNo) → attempt.0 ≡ next_attempt (records_of w.moves) → IsShown P O w play → IsNew attempt w
next_is_new P O w play attempt next shown c there =
    none_open attempt c.session.attempts (λ o here.
    let ours = shown.ours c there o here in
    let less : o.attempt.0 < next_attempt (records_of w.moves) = next_below (records_of w.moves) o.attempt.0 ours.number ours.started in
    other_attempt o.attempt.0 attempt.0 (o.attempt.0 == attempt.0) refl (omega (arith, less, next)))

start_is : (w : World) (link : LinkNo) (started : Started) → started.attempt.0 ≡ next_attempt (records_of w.moves)
    → start_of w link.0 started.rule.0 ≡ records.Started 0 started.rule started.attempt link
start_is w link started next =
    ap (λ n. let number : AttemptNo = record { 0 = n } in records.Started 0 started.rule number link) (sym next)

-- a rule is claimed
rule_claimed : (P : Plan) (O : Options) (w : World) (new : Play) (link : LinkNo) (started : Started) → claimed_rule P O w link.0 ≡ Some started.rule.0
    → started.attempt.0 ≡ next_attempt (records_of w.moves) → IsNew started.attempt w → IsShown P O (logged w (records.Started 0 started.rule started.attempt link)) new
    → IsClaimed P O w link.0 (Some started.attempt) new
rule_claimed P O w new link started is next fresh shown =
    let attempt_is : (let number : AttemptNo = record { 0 = next_attempt (records_of w.moves) } in number) ≡ started.attempt =
    ap (λ n. let number : AttemptNo = record { 0 = n } in number) (sym next) in
    let world : World = logged w (start_of w link.0 started.rule.0) in
    record {
      logged = subst (λ found. IsShown P O (claim_logged w link.0 found) new) (sym is) (subst (λ x. IsShown P O (logged w x) new) (sym (start_is w link started next)) shown);
      sent = subst (λ found. claims P w link.0 found ≡ sent_out P (claim_logged w link.0 found) link.0 started.attempt) (sym is) (ap (sent_out P world link.0) attempt_is);
      fresh = λ attempt one. let same : started.attempt ≡ attempt = cc in
          subst (λ found. IsNew attempt (claim_logged w link.0 found)) (sym is) (subst (λ a. IsNew a world) same fresh);
    }

-- a claim answers a rule, whose start is logged
pub claimed_shown : (P : Plan) (O : Options) (w : World) (old new : Play) (link : LinkNo) (answer : Result Started Nothing) (started : Started) → answer ≡ Ok started
    → is_live O w.moves link.0 ≡ true → IsShown P O w old → Claims old.table w.moves link answer new.table
    → new.records.items ≡ old.records.items ++ (records.Started 0 started.rule started.attempt link ∷ []) → IsBeside old new → IsClaimed P O w link.0 (Some started.attempt) new
claimed_shown P O w old new link answer started is lives shown claim pushed same =
    let did = subst (λ answer. Claims old.table w.moves link answer new.table) is claim in
    rule_claimed P O w new link started (rule_is P O w old link.0 (Ok started.rule.0) lives shown did.0) did.1 (next_is_new P O w old started.attempt did.1 shown)
    (logged_shown P O w old new (records.Started 0 started.rule started.attempt link) refl shown (did.2 0) did.3 pushed same)

-- what was claimed went over its link
pub claim_sent : (P : Plan) (O : Options) (w : World) (mid new : Play) (k : ℕ) (found : Option AttemptNo) (attempt : AttemptNo) → found ≡ Some attempt → IsClaimed P O w k found mid
    → ((v : World) → IsShown P O v mid → IsNew attempt v → IsShown P O (sent_out P v k attempt) new) → IsShown P O (claims P w k (claimed_rule P O w k)) new
claim_sent P O w mid new k found attempt is claimed sends =
    subst (λ v. IsShown P O v new)
    (sym (claimed.sent ∙ ap (λ found. option_map_or (sent_out P (claim_logged w k (claimed_rule P O w k)) k) found (claim_logged w k (claimed_rule P O w k))) is))
    (sends (claim_logged w k (claimed_rule P O w k)) claimed.logged (claimed.fresh attempt is))
