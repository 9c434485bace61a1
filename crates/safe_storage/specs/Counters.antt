-- What a walk counts, and what its counts say.
use Rattle.std.specs.Prelude.{◌≡◌, ◌≤◌, ℕ, zero, suc, ◌+◌, min, max, Bool, true, false, not}
use Rattle.std.specs.Prelude.{◌||◌, List, [], ◌∷◌, length, ◌==◌, if◌then◌else◌, map, sum_by}
use Rattle.std.specs.Prelude.{slice_index_or, drop}
use Rattle.flow_types.specs.declared.plan.Plan.{Plan}
use Rattle.flow_types.specs.declared.numbers.RuleNo.{RuleNo}
use Rattle.flow_types.specs.Plans.{bound_of, is_kept, made_files, makes, most_bytes, rule_numbers}
use Rattle.gc_refcount.specs.Counting.{Counting, waiting}
use Rattle.run_history.specs.Storage.{rule_bound}
use Rattle.safe_storage.specs.declared.counters.Counters.{Counters}
use Rattle.safe_storage.specs.declared.stand.Phase.{Phase}
use Rattle.safe_storage.specs.declared.stand.Phase.TheVariants as phase
use Rattle.safe_storage.specs.declared.stand.Stand.{Stand}
use Rattle.safe_walks.specs.Walk.{Standing, additions, greatest, is_over}

-- the rule is complete
abbrev pub is_complete_phase : Phase → Bool
is_complete_phase phase.Complete = true
is_complete_phase _ = false

-- the rule is claimed
abbrev pub is_claimed_phase : Phase → Bool
is_claimed_phase phase.Claimed = true
is_claimed_phase _ = false

-- the phase of rule r among these
abbrev pub phase_at : List Phase → ℕ → Phase
phase_at phases r = slice_index_or phases r phase.Open

-- how rules and files stand, as it was noted
abbrev pub told : Stand → Standing
told s = record {
  complete = λ r. is_complete_phase (phase_at s.phases.items r);
  claimed = λ r. is_claimed_phase (phase_at s.phases.items r);
  bytes = λ f. slice_index_or s.bytes.items f 0;
}

-- The note is of the rules and files of the plan, and no file is larger than one may be.
pub record IsStand (P : Plan) (s : Stand) : Type 0 where
  pub rules : length s.phases.items ≡ length P.rules
  pub files : length s.bytes.items ≡ length P.files
  pub small : (f : ℕ) → slice_index_or s.bytes.items f 0 ≤ most_bytes

-- rule r counts as complete by these marks
abbrev pub is_marked : List Bool → ℕ → Bool
is_marked over r = slice_index_or over r false

-- file f isn't dropped by these counts of ports: it is kept, or a port takes it in
abbrev pub is_left_by : Plan → List ℕ → ℕ → Bool
is_left_by P left f = is_kept P f || not (slice_index_or left f 0 == 0)

-- the bytes of file f, where it isn't dropped
abbrev pub bytes_by : Standing → (ℕ → Bool) → ℕ → ℕ
bytes_by S left f = if left f then S.bytes f else 0

-- the bound of file f, where it isn't dropped
abbrev pub bound_by : Plan → (ℕ → Bool) → ℕ → ℕ
bound_by P left f = if left f then bound_of P f else 0

-- the bounds of the outputs of rule r that aren't dropped, together
abbrev pub bounds_left : Plan → (ℕ → Bool) → ℕ → ℕ
bounds_left P left r = sum_by (bound_by P left) (makes P r)

-- what a claimed rule counts as before the walk passes it
abbrev pub claim_share : Plan → Standing → ℕ → ℕ
claim_share P S r = if S.complete r then 0 else if S.claimed r then rule_bound P r else 0

-- What a rule counts as, by which rules count as complete and which files aren't dropped.
abbrev pub share_by : Plan → Standing → (ℕ → Bool) → (ℕ → Bool) → ℕ → ℕ
share_by P S over left r =
    if S.complete r then 0
    else if over r then min (rule_bound P r) (bounds_left P left r)
    else if S.claimed r then rule_bound P r
    else 0

-- v, by which rules count as complete and which files aren't dropped
abbrev pub load_by : Plan → Standing → (ℕ → Bool) → (ℕ → Bool) → ℕ
load_by P S over left =
    sum_by (bytes_by S left) (made_files P) + sum_by (share_by P S over left) (rule_numbers P)

-- The load is that of the marked rules and the counted files, and each rule that the walk has
-- passed has the bounds of its outputs that aren't dropped beside it.
pub record IsLoaded (P : Plan) (S : Standing) (over : List Bool) (left rest : List ℕ) (v : ℕ)
    : Type 0 where
  pub rules : length over ≡ length P.rules
  pub files : length left ≡ length P.files
  pub rests : length rest ≡ length P.rules
  pub bounds : (r : ℕ) → S.complete r ≡ false → is_marked over r ≡ true
      → slice_index_or rest r 0 ≡ bounds_left P (is_left_by P left) r
  pub load : v ≡ load_by P S (is_marked over) (is_left_by P left)

-- the marked rules, as reference counts see them
abbrev pub counting : Plan → List Bool → Counting
counting P over = record { plan = P; made = over; present = [] }

-- The counters are those of a walk: each complete rule is marked, the counts are of the ports of
-- the rules that aren't, and the load is v.
pub record IsWalk (P : Plan) (S : Standing) (c : Counters) : Type 0 where
  pub complete : (r : ℕ) → S.complete r ≡ true → is_marked c.over.items r ≡ true
  pub counts : (f : ℕ) → slice_index_or c.left.items f 0 ≡ waiting (counting P c.over.items) f
  pub loaded : IsLoaded P S c.over.items c.left.items c.rest.items c.load

-- there is a place for each rule and each file
pub record HasPlaces (P : Plan) (c : Counters) : Type 0 where
  pub rules : length c.over.items ≡ length P.rules
  pub files : length c.left.items ≡ length P.files
  pub rests : length c.rest.items ≡ length P.rules

-- the numbers of these rules
abbrev pub numbers_of : List RuleNo → List ℕ
numbers_of rules = map (λ rule. rule.0) rules

-- the rules before place n of an order, the last first
abbrev pub passed_at : List ℕ → ℕ → List ℕ
passed_at order zero = []
passed_at order (suc n) = slice_index_or order n 0 ∷ passed_at order n

-- The counters are those of the walk that has passed the rules before place n of the order.
pub record IsAt (P : Plan) (S : Standing) (order : List ℕ) (n : ℕ) (c : Counters) : Type 0 where
  pub walk : IsWalk P S c
  pub over : (r : ℕ) → is_marked c.over.items r ≡ is_over S (passed_at order n) r

-- the greatest v that the walk adds from place n of the order on, and this one
abbrev pub greatest_from : Plan → Standing → List ℕ → ℕ → ℕ → ℕ
greatest_from P S order n v = max v (greatest (additions P S (passed_at order n) (drop n order)))
