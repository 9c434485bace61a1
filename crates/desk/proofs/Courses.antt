-- The moves of a desk, each behind those before it.
use Rattle.std.proofs.Common.{◌≡◌, ◌≢◌, ◌≤◌, ◌<◌, ◌⊎◌, ⊎_elim, inl, inr, ◌∙◌, ℕ, Bool, true, false, cond, not, true≢false, arith, List, [], ◌∷◌, ◌++◌, length, map, take, drop, Option, Some, None, refl, sym, ap, subst, append-nil, append_assoc}
use Rattle.std.specs.List.{AllByRecursion}
use Rattle.std.specs.Option.{option_map_or}
use Rattle.std.specs.Prelude.{◌==◌, is_some}
use Rattle.std.proofs.lemmas.Bool.{and_parts, eq-eqb, eqb-true}
use Rattle.std.proofs.lemmas.List.{length-map, take_at, drop_at}
use Rattle.std.proofs.lemmas.List.Elements.{filter_map-append}
use Rattle.flow_types.specs.declared.numbers.Amounts.{Amounts}
use Rattle.flow_types.specs.declared.numbers.AttemptNo.{AttemptNo}
use Rattle.flow_types.specs.declared.numbers.LinkNo.{LinkNo}
use Rattle.flow_types.specs.declared.numbers.RuleNo.{RuleNo}
use Rattle.flow_types.specs.declared.plan.Plan.{Plan}
use Rattle.flow_types.specs.declared.records.Record.{Record}
use Rattle.flow_types.specs.declared.records.Record.TheVariants as records
use Rattle.flow_types.specs.Plans.{is_empty}
use Rattle.run_history.specs.declared.answers.Stop.{Stop}
use Rattle.run_history.specs.declared.links.JoinRefused.{JoinRefused}
use Rattle.run_history.specs.declared.links.JoinRefused.TheVariants as refused
use Rattle.run_history.specs.declared.moves.Move.{Move}
use Rattle.run_history.specs.declared.moves.Move.TheVariants as moves
use Rattle.run_history.specs.declared.options.Options.{Options}
use Rattle.run_history.specs.Admissions.{Admitting}
use Rattle.run_history.specs.Admissions.{stop_by}
use Rattle.run_history.specs.History.{is_opening}
use Rattle.run_history.specs.Legal.{is_allowed, is_legal}
use Rattle.run_history.specs.Links.{is_live, logged_in, records_of, running_on}
use Rattle.run_history.specs.Moves.{all_follow, change_refusal, has_link_room, is_served, join_refusal, joins_and_changes, may_follow, most_joins, next_link, serves}
use Rattle.run_history.specs.States.{Place, running_in}
use Rattle.run_history.proofs.Bools.{both}
use Rattle.rule_graph.specs.Spelling.{plan_digest}
use Rattle.desk.specs.Asked.{Asked, AreAskedLosses, HasCourse, IsAskedFailure, IsAskedLoss, MayBeLost, first_records}
use Rattle.desk.specs.State.{CanLose, DeskState, IsCut, IsFine, is_place, runs_with}
use Rattle.desk.specs.Woven.{AreWoven, moves_of}
use Rattle.desk.specs.declared.step.Step.{Step}
use Rattle.desk.specs.declared.step.Step.TheVariants as steps
use Rattle.task_core.specs.States.{TableState}
use Rattle.task_core.specs.Stands.{IsStill}
use Rattle.desk.proofs.Keeping.{not_cut}
use Rattle.desk.proofs.Linked.{moves_quiet, quiet_move}
use Rattle.desk.proofs.Woven.{all_records, moves_logged}

follow_push : (P : Plan) (digest : List ℕ) (O : Options) (before ms : List Move) (m : Move) → all_follow P digest O before ms ≡ true → may_follow P digest O (before ++ ms) m ≡ true
    → all_follow P digest O before (ms ++ (m ∷ [])) ≡ true
follow_push P digest O before [] m all may = both _ _ (subst (λ (l : List Move). may_follow P digest O l m ≡ true) (append-nil before) may) refl
follow_push P digest O before (x ∷ ms) m all may =
    let parts = and_parts _ _ all in
    both _ _ parts.0 (follow_push P digest O (before ++ (x ∷ [])) ms m parts.1
    (subst (λ (l : List Move). may_follow P digest O l m ≡ true) (sym (append_assoc before (x ∷ []) ms)) may))

losses_push : (keen : ℕ → Type 0) (stop : Option Stop) (before ms : List Move) (m : Move) → AreAskedLosses keen stop before ms → IsAskedLoss keen stop (before ++ ms) m
    → AreAskedLosses keen stop before (ms ++ (m ∷ []))
losses_push keen stop before [] m all one = (subst (λ (l : List Move). IsAskedLoss keen stop l m) (append-nil before) one, tt)
losses_push keen stop before (x ∷ ms) m all one = (
  all.0,
  losses_push keen stop (before ++ (x ∷ [])) ms m all.1 (subst (λ (l : List Move). IsAskedLoss keen stop l m) (sym (append_assoc before (x ∷ []) ms)) one),
)

all_both : {A : Type 0} (Q : A → Type 0) (xs ys : List A) → AllByRecursion Q xs → AllByRecursion Q ys → AllByRecursion Q (xs ++ ys)
all_both Q [] ys one two = two
all_both Q (x ∷ xs) ys one two = (one.0, all_both Q xs ys one.1 two)

-- what was asked for the records of one move
abbrev pub WasAsked : Asked → (ℕ → Type 0) → Plan → Option Stop → List Move → Move → Type 0
WasAsked asked keen P stop M m = AllByRecursion (IsAskedFailure asked P) (records_of (m ∷ [])) × IsAskedLoss keen stop M m

module _ (asked : Asked) (keen : ℕ → Type 0) where
  -- one move more
  pub course_push : (P : Plan) (O : Options) (stop : Option Stop) (base : ℕ) (M : List Move) (m : Move) → HasCourse asked keen P O stop base M
      → may_follow P (plan_digest P) O M m ≡ true → WasAsked asked keen P stop M m → HasCourse asked keen P O stop base (M ++ (m ∷ []))
  course_push P O stop base M m is may was = record {
    history = is.history;
    since = is.since ++ (m ∷ []);
    long = is.long;
    split = ap (λ (l : List Move). l ++ (m ∷ [])) is.split ∙ append_assoc (map moves.Logged is.history) is.since (m ∷ []);
    legal = is.legal;
    follow = follow_push P (plan_digest P) O (map moves.Logged is.history) is.since m is.follow (subst (λ (l : List Move). may_follow P (plan_digest P) O l m ≡ true) is.split may);
    failures = subst (AllByRecursion (IsAskedFailure asked P)) (sym (filter_map-append logged_in is.since (m ∷ []))) (all_both (IsAskedFailure asked P) (records_of is.since) (records_of (m ∷ [])) is.failures was.0);
    losses = losses_push keen stop (map moves.Logged is.history) is.since m is.losses (subst (λ (l : List Move). IsAskedLoss keen stop l m) is.split was.1);
  }

  -- the same moves, plan, options and stop
  pub course_same : (P P2 : Plan) (O O2 : Options) (stop stop2 : Option Stop) (base : ℕ) (M M2 : List Move) → HasCourse asked keen P O stop base M
      → (P2 ≡ P) × (O2 ≡ O) × (stop2 ≡ stop) → M2 ≡ M → HasCourse asked keen P2 O2 stop2 base M2
  course_same P P2 O O2 stop stop2 base M M2 is still same =
      subst (λ (p : Plan). HasCourse asked keen p O2 stop2 base M2) (sym still.0)
      (subst (λ (o : Options). HasCourse asked keen P o stop2 base M2) (sym still.1)
      (subst (λ (s : Option Stop). HasCourse asked keen P O s base M2) (sym still.2)
      (subst (HasCourse asked keen P O stop base) (sym same) is)))

  -- the first record
  pub course_first : (P : Plan) (O : Options) (stop : Option Stop) (H : List Record) (x : Record) (M : List Move) → is_legal P (plan_digest P) H ≡ true
      → is_allowed P (plan_digest P) H x ≡ true → is_opening x ≡ true → M ≡ map moves.Logged H ++ (moves.Logged x ∷ []) → HasCourse asked keen P O stop (length H) M
  course_first P O stop H x M legal allowed opens is = record {
    history = H;
    since = moves.Logged x ∷ [];
    long = refl;
    split = is;
    legal = legal;
    follow = both _ _ (both _ _ (ap (λ (l : List Record). is_allowed P (plan_digest P) l x) (all_records H) ∙ allowed) (opening_served x opens)) refl;
    failures = opening_asked x opens;
    losses = (opening_kept x opens, tt);
  }
    where
      opening_served : (x : Record) → is_opening x ≡ true → is_served P O (map moves.Logged H) x ≡ true
      opening_served (records.Opened moment run retries limit plan sources) opens = refl
      opening_served (records.Resumed moment run retries limit) opens = refl
      opening_served (records.Started moment rule attempt link) opens = absurd (true≢false (sym opens))
      opening_served (records.Done moment rule attempt outs) opens = absurd (true≢false (sym opens))
      opening_served (records.Failed moment rule attempt why) opens = absurd (true≢false (sym opens))
      opening_served (records.Lost moment rule attempt) opens = absurd (true≢false (sym opens))
      opening_served (records.Dropped moment file) opens = absurd (true≢false (sym opens))
      opening_served (records.Ended moment kind) opens = absurd (true≢false (sym opens))

      opening_asked : (x : Record) → is_opening x ≡ true → AllByRecursion (IsAskedFailure asked P) (x ∷ [])
      opening_asked (records.Opened moment run retries limit plan sources) opens = (tt, tt)
      opening_asked (records.Resumed moment run retries limit) opens = (tt, tt)
      opening_asked (records.Started moment rule attempt link) opens = absurd (true≢false (sym opens))
      opening_asked (records.Done moment rule attempt outs) opens = absurd (true≢false (sym opens))
      opening_asked (records.Failed moment rule attempt why) opens = absurd (true≢false (sym opens))
      opening_asked (records.Lost moment rule attempt) opens = absurd (true≢false (sym opens))
      opening_asked (records.Dropped moment file) opens = absurd (true≢false (sym opens))
      opening_asked (records.Ended moment kind) opens = absurd (true≢false (sym opens))

      opening_kept : (x : Record) → is_opening x ≡ true → IsAskedLoss keen stop (map moves.Logged H) (moves.Logged x)
      opening_kept (records.Opened moment run retries limit plan sources) opens = tt
      opening_kept (records.Resumed moment run retries limit) opens = tt
      opening_kept (records.Started moment rule attempt link) opens = absurd (true≢false (sym opens))
      opening_kept (records.Done moment rule attempt outs) opens = absurd (true≢false (sym opens))
      opening_kept (records.Failed moment rule attempt why) opens = absurd (true≢false (sym opens))
      opening_kept (records.Lost moment rule attempt) opens = absurd (true≢false (sym opens))
      opening_kept (records.Dropped moment file) opens = absurd (true≢false (sym opens))
      opening_kept (records.Ended moment kind) opens = absurd (true≢false (sym opens))

  one_lost : (stop stop2 : Option Stop) (M : List Move) (m : Move) → ((why : Stop) → stop ≡ Some why → stop2 ≡ Some why) → IsAskedLoss keen stop M m → IsAskedLoss keen stop2 M m
  one_lost stop stop2 M (moves.Joined link total largest cache) stays one = tt
  one_lost stop stop2 M (moves.Changed link total largest cache) stays one = tt
  one_lost stop stop2 M (moves.Left link) stays one = tt
  one_lost stop stop2 M (moves.Logged (records.Opened moment run retries limit plan sources)) stays one = tt
  one_lost stop stop2 M (moves.Logged (records.Resumed moment run retries limit)) stays one = tt
  one_lost stop stop2 M (moves.Logged (records.Started moment rule attempt link)) stays one = tt
  one_lost stop stop2 M (moves.Logged (records.Done moment rule attempt outs)) stays one = tt
  one_lost stop stop2 M (moves.Logged (records.Failed moment rule attempt why)) stays one = tt
  one_lost stop stop2 M (moves.Logged (records.Lost moment rule attempt)) stays one = λ link runs is.
      ⊎_elim (λ (set : (why : Stop) × (stop ≡ Some why)). inl (set.0, stays set.0 set.1)) (λ full. inr full) (one link runs is)
  one_lost stop stop2 M (moves.Logged (records.Dropped moment file)) stays one = tt
  one_lost stop stop2 M (moves.Logged (records.Ended moment kind)) stays one = tt

  losses_stay : (stop stop2 : Option Stop) (before ms : List Move) → ((why : Stop) → stop ≡ Some why → stop2 ≡ Some why) → AreAskedLosses keen stop before ms → AreAskedLosses keen stop2 before ms
  losses_stay stop stop2 before [] stays all = tt
  losses_stay stop stop2 before (m ∷ ms) stays all = (one_lost stop stop2 before m stays all.0, losses_stay stop stop2 (before ++ (m ∷ [])) ms stays all.1)

  -- a stop that is asked for
  pub course_stop : (P : Plan) (O : Options) (stop stop2 : Option Stop) (base : ℕ) (M : List Move) → ((why : Stop) → stop ≡ Some why → stop2 ≡ Some why)
      → HasCourse asked keen P O stop base M → HasCourse asked keen P O stop2 base M
  course_stop P O stop stop2 base M stays is = record {
    history = is.history;
    since = is.since;
    long = is.long;
    split = is.split;
    legal = is.legal;
    follow = is.follow;
    failures = is.failures;
    losses = losses_stay stop stop2 (map moves.Logged is.history) is.since stays is.losses;
  }

  -- ---- what it says of the moves themselves

  course_records : (P : Plan) (O : Options) (stop : Option Stop) (base : ℕ) (M : List Move) (is : HasCourse asked keen P O stop base M) → records_of M ≡ is.history ++ records_of is.since
  course_records P O stop base M is =
      ap records_of is.split ∙ filter_map-append logged_in (map moves.Logged is.history) is.since ∙ ap (λ (l : List Record). l ++ records_of is.since) (all_records is.history)

  course_history : (P : Plan) (O : Options) (stop : Option Stop) (base : ℕ) (M : List Move) (is : HasCourse asked keen P O stop base M) → is.history ≡ first_records base M
  course_history P O stop base M is =
      sym (ap (λ (l : List Record). take base l) (course_records P O stop base M is) ∙ take_at is.history (records_of is.since) base is.long)

  course_since : (P : Plan) (O : Options) (stop : Option Stop) (base : ℕ) (M : List Move) (is : HasCourse asked keen P O stop base M) → is.since ≡ drop base M
  course_since P O stop base M is =
      sym (ap (λ (l : List Move). drop base l) is.split ∙ drop_at (map moves.Logged is.history) is.since base (length-map is.history moves.Logged ∙ is.long))

  pub course_serves : (P : Plan) (O : Options) (stop : Option Stop) (base : ℕ) (M : List Move) → HasCourse asked keen P O stop base M
      → serves P (plan_digest P) O (first_records base M) (drop base M) ≡ true
  course_serves P O stop base M is =
      subst (λ (H : List Record). serves P (plan_digest P) O H (drop base M) ≡ true) (course_history P O stop base M is)
      (subst (λ (l : List Move). serves P (plan_digest P) O is.history l ≡ true) (course_since P O stop base M is) (both _ _ is.legal is.follow))

  pub course_failures : (P : Plan) (O : Options) (stop : Option Stop) (base : ℕ) (M : List Move) → HasCourse asked keen P O stop base M
      → AllByRecursion (IsAskedFailure asked P) (records_of (drop base M))
  course_failures P O stop base M is =
      subst (λ (l : List Move). AllByRecursion (IsAskedFailure asked P) (records_of l)) (course_since P O stop base M is) is.failures

  pub course_losses : (P : Plan) (O : Options) (stop : Option Stop) (base : ℕ) (M : List Move) → HasCourse asked keen P O stop base M
      → AreAskedLosses keen stop (map moves.Logged (first_records base M)) (drop base M)
  course_losses P O stop base M is =
      subst (λ (H : List Record). AreAskedLosses keen stop (map moves.Logged H) (drop base M)) (course_history P O stop base M is)
      (subst (λ (l : List Move). AreAskedLosses keen stop (map moves.Logged is.history) l) (course_since P O stop base M is) is.losses)

-- the first stop stays
pub first_stays : (A : Admitting) (P : Plan) (O : Options) (M : List Move) (stop : Option Stop) (why : Stop) (first : Stop) → stop ≡ Some first → stop_by A P O M stop why ≡ Some first
first_stays A P O M (Some x) why first e = e
first_stays A P O M None why first e = absurd (cc)

-- what holds of a desk, of its course and of its starts
pub with_course : {A B C D E F G : Type 0} → A × B × C × D × E → F → G → A × B × C × D × E × F × G
with_course five course starts = (five.0, five.1, five.2, five.3, five.4, course, starts)

-- a link that joins
link_room : (room : Bool) (change : Option JoinRefused) → cond room change (Some refused.TooManyLinks) ≡ None → room ≡ true
link_room true change is = refl
link_room false change is = absurd (true≢false (ap is_some is))

pub join_follows : (P : Plan) (digest : List ℕ) (O : Options) (M : List Move) (link : LinkNo) (total largest : Amounts) (cache : ℕ) → join_refusal O M ≡ None → link.0 ≡ next_link M
    → may_follow P digest O M (moves.Joined link total largest cache) ≡ true
join_follows P digest O M link total largest cache free next = both _ _ (eq-eqb link.0 (next_link M) next) (link_room (has_link_room O M) (change_refusal M) free)

-- and one that leaves
pub leave_follows : (P : Plan) (digest : List ℕ) (O : Options) (M : List Move) (link : LinkNo) → 0 < link.0 → is_live O M link.0 ≡ true → is_empty (running_on P (records_of M) link.0) ≡ true
    → may_follow P digest O M (moves.Left link) ≡ true
leave_follows P digest O M link apart lives idle = both _ _ (both _ _ (ap not (apart_from link.0 (link.0 == 0) apart refl)) lives) idle
  where
    apart_from : (k : ℕ) (t : Bool) → 0 < k → (k == 0) ≡ t → (k == 0) ≡ false
    apart_from k true lt is = absurd (let same = eqb-true k 0 is in let wrong : ⊥ = omega (arith, lt, same) in wrong)
    apart_from k false lt is = is

-- an attempt runs on one link
pub one_link : (H : List Record) (r number link other : ℕ) → runs_with H r number link ≡ true → runs_with H r number other ≡ true → other ≡ link
one_link H r number link other one two = by_place (running_in H r) (and_parts _ _ one).1 (and_parts _ _ two).1
  where
    by_place : (place : Option Place) → option_map_or (is_place number link) place false ≡ true → option_map_or (is_place number other) place false ≡ true → other ≡ link
    by_place None here there = absurd (true≢false (sym here))
    by_place (Some place) here there = sym (eqb-true place.1.0 other (and_parts _ _ there).1) ∙ eqb-true place.1.0 link (and_parts _ _ here).1

-- an attempt that may be lost, on the link on which it runs
pub lost_asked : {S : Type 0} (keen : ℕ → Type 0) (d : DeskState S) (moment : ℕ) (rule : RuleNo) (attempt : AttemptNo) (link : ℕ) → IsFine d.trouble → (keen link → CanLose d link)
    → runs_with (records_of d.moves) rule.0 attempt.0 link ≡ true → IsAskedLoss keen d.stop d.moves (moves.Logged (records.Lost moment rule attempt))
lost_asked keen d moment rule attempt link fine can runs other also is =
    let same = one_link (records_of d.moves) rule.0 attempt.0 link other runs also in
    subst (MayBeLost d.stop d.moves) (sym same)
    (⊎_elim (λ (set : (why : Stop) × (d.stop ≡ Some why)). inl set)
    (λ (rest : IsCut d.trouble ⊎ ((link ≢ 0) × (most_joins ≤ joins_and_changes d.moves))). ⊎_elim (λ (cut : IsCut d.trouble). absurd (not_cut d.trouble fine cut)) (λ full. inr full) rest)
    (can (subst keen same is)))

module _ (asked : Asked) (keen : ℕ → Type 0) where
  -- a desk with one record more
  pub course_recorded : (t after : TableState) (base : ℕ) (ss ss2 : List Step) (H H2 : List Record) (x : Record) → HasCourse asked keen t.plan t.options t.stop base (moves_of base ss H)
      → may_follow t.plan (plan_digest t.plan) t.options (moves_of base ss H) (moves.Logged x) ≡ true → IsAskedFailure asked t.plan x → IsAskedLoss keen t.stop (moves_of base ss H) (moves.Logged x)
      → IsStill t after → base ≤ length H → AreWoven ss (drop base H) → (H2 ≡ H ++ (x ∷ [])) × (ss2 ≡ ss ++ (steps.Logged ∷ []))
      → HasCourse asked keen after.plan after.options after.stop base (moves_of base ss2 H2)
  course_recorded t after base ss ss2 H H2 x is may failure loss still le are grew =
      let M : List Move = moves_of base ss H in
      let more : moves_of base ss2 H2 ≡ M ++ (moves.Logged x ∷ []) =
      ap (λ (l : List Step). moves_of base l H2) grew.1 ∙ ap (λ (l : List Record). moves_of base (ss ++ (steps.Logged ∷ [])) l) grew.0 ∙ moves_logged base ss H x le are in
      course_same asked keen t.plan after.plan t.options after.options t.stop after.stop base (M ++ (moves.Logged x ∷ [])) (moves_of base ss2 H2)
      (course_push asked keen t.plan t.options t.stop base M (moves.Logged x) is may ((failure, tt), loss)) still more

  -- a desk with the same records and steps
  pub course_kept : (t : TableState) (base : ℕ) (ss ss2 : List Step) (H H2 : List Record) → HasCourse asked keen t.plan t.options t.stop base (moves_of base ss H)
      → (H2 ≡ H) × (ss2 ≡ ss) → HasCourse asked keen t.plan t.options t.stop base (moves_of base ss2 H2)
  course_kept t base ss ss2 H H2 is same =
      subst (HasCourse asked keen t.plan t.options t.stop base) (sym (ap (λ (l : List Step). moves_of base l H2) same.1 ∙ ap (moves_of base ss) same.0)) is

  -- a desk with a table that stayed as it was
  pub course_unchanged : (t after : TableState) (base : ℕ) (M : List Move) → after ≡ t → HasCourse asked keen t.plan t.options t.stop base M → HasCourse asked keen after.plan after.options after.stop base M
  course_unchanged t after base M same is = subst (λ (v : TableState). HasCourse asked keen v.plan v.options v.stop base M) (sym same) is

  -- a desk with one step more that logs nothing
  pub course_linked : (t after : TableState) (base : ℕ) (ss ss2 : List Step) (H : List Record) (s : Step) (m : Move) → HasCourse asked keen t.plan t.options t.stop base (moves_of base ss H)
      → may_follow t.plan (plan_digest t.plan) t.options (moves_of base ss H) m ≡ true → WasAsked asked keen t.plan t.stop (moves_of base ss H) m
      → quiet_move s ≡ Some m → ss2 ≡ ss ++ (s ∷ []) → AreWoven ss (drop base H) → IsStill t after
      → HasCourse asked keen after.plan after.options after.stop base (moves_of base ss2 H)
  course_linked t after base ss ss2 H s m is may was quiet grew are still =
      let M : List Move = moves_of base ss H in
      course_same asked keen t.plan after.plan t.options after.options t.stop after.stop base (M ++ (m ∷ [])) (moves_of base ss2 H)
      (course_push asked keen t.plan t.options t.stop base M m is may was) still (moves_quiet base ss ss2 H s m quiet grew are)

  -- a desk that is asked to stop
  pub course_stopped : (A : Admitting) (t after : TableState) (why : Stop) (base : ℕ) (M : List Move) → HasCourse asked keen t.plan t.options t.stop base M
      → after ≡ record t { stop = stop_by A t.plan t.options M t.stop why } → HasCourse asked keen after.plan after.options after.stop base M
  course_stopped A t after why base M is changed =
      subst (λ (v : TableState). HasCourse asked keen v.plan v.options v.stop base M) (sym changed)
      (course_stop asked keen t.plan t.options t.stop (stop_by A t.plan t.options M t.stop why) base M (λ first e. first_stays A t.plan t.options M t.stop why first e) is)
