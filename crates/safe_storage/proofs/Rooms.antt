-- Where what is stored and the bounds up to a rule are within the limit, a walk leaves room for it.
use Rattle.std.proofs.Common.{◌≡◌, ℕ, suc, ◌+◌, ◌-◌, ◌≤◌, ◌<◌, Bool, true, false, cond, List, []}
use Rattle.std.proofs.Common.{◌∷◌, length, drop, refl, ap, sym, subst, ◌∙◌, arith}
use Rattle.std.specs.Prelude.{◌==◌, nat_le, slice_index_or, sum_by}
use Rattle.std.specs.List.{list_all}
use Rattle.std.specs.Option.{option_map_or}
use Rattle.std.proofs.lemmas.Bool.{eq-eqb, false_from_ne_true, eqb-true, le-leb}
use Rattle.flow_types.specs.declared.plan.Plan.{Plan}
use Rattle.flow_types.specs.declared.records.Record.{Record}
use Rattle.flow_types.specs.Plans.{made_files, rule_numbers}
use Rattle.flow_types.specs.Serial.{serial_order}
use Rattle.flow_types.proofs.Totals.{total, total-is, total-le}
use Rattle.run_history.specs.declared.moves.Move.{Move}
use Rattle.run_history.specs.Links.{records_of}
use Rattle.run_history.specs.Storage.{rule_bound, size_in}
use Rattle.run_history.proofs.Bools.{both}
use Rattle.run_history.proofs.Stores.{total_same}
use Rattle.task_core.specs.Known.{known_bytes, stored_sum}
use Rattle.task_core.specs.Stands.{Stands}
use Rattle.task_core.specs.States.{TableState, known_in}
use Rattle.safe_walks.specs.Walk.{Standing, is_added, is_left, left_bytes, load, rule_share}
use Rattle.safe_walks.specs.Walk.{standing}
use Rattle.safe_walks.specs.Passes.{additions_before, has_room_before}
use Rattle.safe_walks.proofs.Backs.{load-later}
use Rattle.safe_storage.specs.declared.stand.Stand.{Stand}
use Rattle.safe_storage.specs.Counters.{claim_share, told}
use Rattle.safe_storage.specs.Pacing.{AreNoted, bounds_before, bytes_in}
use Rattle.safe_storage.proofs.Alike.{walk_before-alike}
use Rattle.safe_storage.proofs.Orders.{drop-at, drop-past}
use Rattle.safe_storage.proofs.Told.{noted-rules}

left_most : (b : Bool) (n : ℕ) → cond b n 0 ≤ n
left_most true n = omega arith
left_most false n = omega arith

-- where a walk starts it has no more than what is stored and the bounds of the claimed rules
start-most : (P : Plan) (S : Standing)
    → load P S [] ≤ sum_by S.bytes (made_files P) + sum_by (claim_share P S) (rule_numbers P)
start-most P S =
    let files : total (left_bytes P S []) (made_files P) ≤ total S.bytes (made_files P) =
    total-le (left_bytes P S []) S.bytes (made_files P)
    (λ f. left_most (is_left P S [] f) (S.bytes f)) in
    let rules : total (rule_share P S []) (rule_numbers P)
    ≡ total (claim_share P S) (rule_numbers P) =
    total_same (rule_share P S []) (claim_share P S) (rule_numbers P) (λ r. refl) in
    omega (
      arith,
      files,
      rules,
      total-is (left_bytes P S []) (made_files P),
      total-is S.bytes (made_files P),
      total-is (rule_share P S []) (rule_numbers P),
      total-is (claim_share P S) (rule_numbers P),
    )

-- each addition before the rule, by what the rules before it may add
rough_room : (P : Plan) (S : Standing) (r limit most : ℕ) (passed rs : List ℕ)
    → load P S passed ≤ most → most + bounds_before P S r rs + rule_bound P r ≤ limit
    → list_all (λ v. nat_le (v + rule_bound P r) limit) (additions_before P S r passed rs) ≡ true
rough_room P S r limit most passed [] le fits = refl
rough_room P S r limit most passed (q ∷ qs) le fits = by_place (q == r) fits
    (rough_room P S r limit (most + cond (is_added S q) (rule_bound P q) 0) (q ∷ passed) qs
    (omega (arith, le, load-later P S passed q)))
  where
    room : ℕ → Bool
    room v = nat_le (v + rule_bound P r) limit

    v : ℕ
    v = load P S passed + rule_bound P q

    rest : List ℕ
    rest = additions_before P S r (q ∷ passed) qs

    by_added : (b : Bool)
        → most + (cond b (rule_bound P q) 0 + bounds_before P S r qs) + rule_bound P r ≤ limit
        → list_all room rest ≡ true → list_all room (cond b (v ∷ rest) rest) ≡ true
    by_added true fits later =
        both (room v) (list_all room rest)
        (le-leb (v + rule_bound P r) limit (omega (arith, le, fits))) later
    by_added false fits later = later

    by_place : (b : Bool)
        → most + cond b 0 (cond (is_added S q) (rule_bound P q) 0 + bounds_before P S r qs)
        + rule_bound P r ≤ limit
        → ((most + cond (is_added S q) (rule_bound P q) 0) + bounds_before P S r qs
        + rule_bound P r ≤ limit → list_all room rest ≡ true)
        → list_all room (cond b [] (cond (is_added S q) (v ∷ rest) rest)) ≡ true
    by_place true fits later = refl
    by_place false fits later = by_added (is_added S q) fits (later (omega (arith, fits)))

-- There is room for the rule where all that counts up to it is within the limit.
pub rough-fits : (P : Plan) (S : Standing) (r limit stored claimed : ℕ)
    → stored ≡ sum_by S.bytes (made_files P)
    → claimed ≡ sum_by (claim_share P S) (rule_numbers P)
    → stored + claimed + bounds_before P S r (serial_order P) + rule_bound P r ≤ limit
    → has_room_before P S r limit ≡ true
rough-fits P S r limit stored claimed all_stored all_claimed fits =
    let start : load P S [] ≤ stored + claimed =
    omega (arith, start-most P S, all_stored, all_claimed) in
    both (nat_le (load P S [] + rule_bound P r) limit)
    (list_all (λ v. nat_le (v + rule_bound P r) limit)
    (additions_before P S r [] (serial_order P)))
    (le-leb (load P S [] + rule_bound P r) limit (omega (arith, start, fits)))
    (rough_room P S r limit (stored + claimed) [] (serial_order P) start fits)

-- as the rules were noted, with the bytes of the records
abbrev noted : Plan → List Record → Stand → Standing
noted P H s = record {
  complete = (told s).complete;
  claimed = (told s).claimed;
  bytes = bytes_in P H;
}

stored_is : (t : TableState) (M : List Move) → Stands t M
    → stored_sum (known_in t) ≡ sum_by (bytes_in t.plan (records_of M)) (made_files t.plan)
stored_is t M stands =
    sym (total-is (known_bytes (known_in t)) (made_files t.plan))
    ∙ total_same (known_bytes (known_in t)) (bytes_in t.plan (records_of M)) (made_files t.plan)
    (λ f. ap (λ state. option_map_or (λ size. size) (size_in state) 0) (stands.files f))
    ∙ total-is (bytes_in t.plan (records_of M)) (made_files t.plan)

-- where the same rules are added, the bounds are the same
bounds_alike : (P : Plan) (S T : Standing) (r : ℕ) (rs : List ℕ)
    → ((q : ℕ) → is_added S q ≡ is_added T q)
    → bounds_before P S r rs ≡ bounds_before P T r rs
bounds_alike P S T r [] same = refl
bounds_alike P S T r (q ∷ qs) same =
    ap (λ b. cond (q == r) 0 (cond b (rule_bound P q) 0 + bounds_before P S r qs)) (same q)
    ∙ ap (λ n. cond (q == r) 0 (cond (is_added T q) (rule_bound P q) 0 + n))
    (bounds_alike P S T r qs same)

-- The same of a table and what was noted of its rules.
pub table-fits : (t : TableState) (M : List Move) (s : Stand) (r limit stored claimed : ℕ)
    → Stands t M → AreNoted t.plan (records_of M) s → stored ≡ stored_sum (known_in t)
    → claimed ≡ sum_by (claim_share t.plan (told s)) (rule_numbers t.plan)
    → stored + claimed + bounds_before t.plan (told s) r (serial_order t.plan)
    + rule_bound t.plan r ≤ limit
    → has_room_before t.plan (standing t.plan (records_of M)) r limit ≡ true
table-fits t M s r limit stored claimed stands are held reserved fits =
    let P : Plan = t.plan in
    let H : List Record = records_of M in
    let T : Standing = noted P H s in
    sym (ap (λ vs. list_all (λ v. nat_le (v + rule_bound P r) limit) vs)
    (walk_before-alike P T (standing P H) r (noted-rules P H s are)))
    ∙ rough-fits P T r limit stored claimed (held ∙ stored_is t M stands) reserved
    (subst (λ n. stored + claimed + n + rule_bound P r ≤ limit)
    (bounds_alike P (told s) T r (serial_order P) (λ q. refl)) fits)

-- What is left of the room after the rules before a place decides whether all before the rule fit.
pub record IsRough (P : Plan) (S : Standing) (r : ℕ) (order : List ℕ) (n room start : ℕ)
    : Type 0 where
  pub left : bounds_before P S r (drop n order) ≤ room → bounds_before P S r order ≤ start

pub rough-first : (P : Plan) (S : Standing) (r : ℕ) (order : List ℕ) (room : ℕ)
    → IsRough P S r order 0 room room
rough-first P S r order room = record { left = λ le. le }

pub rough-next : (P : Plan) (S : Standing) (r : ℕ) (order : List ℕ) (n q b room start : ℕ)
    → n < length order → slice_index_or order n 0 ≡ q → (q ≡ r → ⊥)
    → b ≡ cond (is_added S q) (rule_bound P q) 0 → b ≤ room → IsRough P S r order n room start
    → IsRough P S r order (n + 1) (room - b) start
rough-next P S r order n q b room start inside here other bound fits rough = record {
  left = λ le.
      let next : n + 1 ≡ suc n = omega arith in
      let rest : bounds_before P S r (drop (suc n) order) ≤ room - b =
      subst (λ k. bounds_before P S r (drop k order) ≤ room - b) next le in
      let whole : bounds_before P S r (drop n order)
      ≡ b + bounds_before P S r (drop (suc n) order) =
      ap (bounds_before P S r) (drop-at order n inside)
      ∙ ap (λ k. bounds_before P S r (k ∷ drop (suc n) order)) here
      ∙ ap (λ c. cond c 0 (cond (is_added S q) (rule_bound P q) 0
      + bounds_before P S r (drop (suc n) order)))
      (false_from_ne_true (q == r) (λ same. other (eqb-true q r same)))
      ∙ ap (λ k. k + bounds_before P S r (drop (suc n) order)) (sym bound) in
      rough.left (omega (arith, rest, whole, fits));
}

pub rough-here : (P : Plan) (S : Standing) (r : ℕ) (order : List ℕ) (n q room start : ℕ)
    → n < length order → slice_index_or order n 0 ≡ q → q ≡ r
    → IsRough P S r order n room start → bounds_before P S r order ≤ start
rough-here P S r order n q room start inside here same rough =
    let none : bounds_before P S r (drop n order) ≡ 0 =
    ap (bounds_before P S r) (drop-at order n inside)
    ∙ ap (λ k. bounds_before P S r (k ∷ drop (suc n) order)) here
    ∙ ap (λ c. cond c 0 (cond (is_added S q) (rule_bound P q) 0
    + bounds_before P S r (drop (suc n) order))) (eq-eqb q r same) in
    rough.left (omega (arith, none))

pub rough-end : (P : Plan) (S : Standing) (r : ℕ) (order : List ℕ) (n room start : ℕ)
    → length order ≤ n → IsRough P S r order n room start → bounds_before P S r order ≤ start
rough-end P S r order n room start past rough =
    let none : bounds_before P S r (drop n order) ≡ 0 =
    ap (bounds_before P S r) (drop-past order n past) in
    rough.left (omega (arith, none))
