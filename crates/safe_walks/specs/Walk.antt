-- The walk over the rules that are still to come: what a run that goes on alone in the serial order
-- will have stored at most.
use Rattle.std.specs.Prelude.{ℕ, ◌+◌, min, max, Bool, false, not, ◌&&◌, ◌||◌, List, [], ◌∷◌, ◌==◌}
use Rattle.std.specs.Prelude.{if◌then◌else◌, sum_by, nat_le}
use Rattle.std.specs.List.{list_any, list_all}
use Rattle.std.specs.Option.{option_map_or}
use Rattle.flow_types.specs.declared.plan.Plan.{Plan}
use Rattle.flow_types.specs.declared.records.Record.{Record}
use Rattle.flow_types.specs.declared.records.Record.TheVariants as records
use Rattle.flow_types.specs.Plans.{rule_numbers, made_files, makes, takers_of, is_kept, bound_of}
use Rattle.flow_types.specs.Plans.{contains_number}
use Rattle.flow_types.specs.Serial.{serial_order}
use Rattle.run_history.specs.History.{part}
use Rattle.run_history.specs.Storage.{is_complete, size_of, rule_bound}

-- the record starts rule r
abbrev pub starts : ℕ → Record → Bool
starts r (records.Started moment rule attempt link) = rule.0 == r
starts r _ = false

-- a Started of the part names rule r
abbrev pub was_started : List Record → ℕ → Bool
was_started H r = list_any (starts r) (part H)

-- Rule r is claimed: a Started of the part names it, and it isn't complete.
abbrev pub is_claimed : List Record → ℕ → Bool
is_claimed H r = not (is_complete H r) && was_started H r

-- What a walk goes by: which rules are complete, which are claimed, and the bytes of each file, 0
-- of one that is absent.
pub record Standing : Type 0 where
  pub complete : ℕ → Bool
  pub claimed : ℕ → Bool
  pub bytes : ℕ → ℕ

-- how a history stands
abbrev pub standing : Plan → List Record → Standing
standing P H =
    record {
      complete = is_complete H;
      claimed = is_claimed H;
      bytes = λ f. option_map_or
          (λ size. size) (size_of P H f) 0;
    }

-- the same with rule r claimed too
abbrev pub with_claim : Standing → ℕ → Standing
with_claim S r = record S { claimed = λ q. (r == q) || S.claimed q }

-- rule r counts as complete once the walk has passed these rules
abbrev pub is_over : Standing → List ℕ → ℕ → Bool
is_over S passed r = S.complete r || contains_number r passed

-- file f isn't dropped then: it is kept, or a rule that takes it in doesn't count as complete
abbrev pub is_left : Plan → Standing → List ℕ → ℕ → Bool
is_left P S passed f = is_kept P f || not (list_all (is_over S passed) (takers_of P f))

-- the bytes of a present file that isn't dropped
abbrev pub left_bytes : Plan → Standing → List ℕ → ℕ → ℕ
left_bytes P S passed f = if is_left P S passed f then S.bytes f else 0

-- the bound of a file that isn't dropped
abbrev pub left_bound : Plan → Standing → List ℕ → ℕ → ℕ
left_bound P S passed f = if is_left P S passed f then bound_of P f else 0

-- What the outputs of a rule count as, which the walk completed: the lesser of its bound and the
-- sum of the bounds of those not dropped.
abbrev pub outputs_share : Plan → Standing → List ℕ → ℕ → ℕ
outputs_share P S passed r = min (rule_bound P r) (sum_by (left_bound P S passed) (makes P r))

-- What a rule counts as: nothing where it is complete, its outputs' share where the walk has passed
-- it, its bound where it is claimed.
abbrev pub rule_share : Plan → Standing → List ℕ → ℕ → ℕ
rule_share P S passed r =
    if S.complete r then 0
    else if contains_number r passed then outputs_share P S passed r
    else if S.claimed r then rule_bound P r
    else 0

-- v where the walk has passed these rules: the present files that aren't dropped, and what each
-- rule counts as.
abbrev pub load : Plan → Standing → List ℕ → ℕ
load P S passed = sum_by (left_bytes P S passed) (made_files P) + sum_by (rule_share P S passed)
    (rule_numbers P)

-- rule r adds its bound to v: it is neither complete nor claimed
abbrev pub is_added : Standing → ℕ → Bool
is_added S r = not (S.complete r) && not (S.claimed r)

-- v after each addition, over the rules that are left
abbrev pub additions : Plan → Standing → List ℕ → List ℕ → List ℕ
additions P S passed [] = []
additions P S passed (r ∷ rs) =
    if is_added S r then (load P S passed + rule_bound P r)
    ∷ additions P S (r ∷ passed) rs else additions P S (r ∷ passed) rs

-- The walk: v at the start and after each addition, in the serial order.
abbrev pub walk : Plan → Standing → List ℕ
walk P S = load P S [] ∷ additions P S [] (serial_order P)

-- The walk stays within so many bytes.
abbrev pub stays_within : Plan → Standing → ℕ → Bool
stays_within P S limit = list_all (λ v. nat_le v limit) (walk P S)

-- how a part without records stands
abbrev pub blank : Standing
blank = record { complete = λ r. false; claimed = λ r. false; bytes = λ f. 0 }

-- the greatest number of a list, 0 where it is empty
abbrev pub greatest : List ℕ → ℕ
greatest [] = 0
greatest (x ∷ xs) = max x (greatest xs)

-- The peak: the greatest v of the walk from an empty part.
abbrev pub peak : Plan → ℕ
peak P = greatest (walk P blank)
