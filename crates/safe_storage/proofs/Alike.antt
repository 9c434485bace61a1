-- Where rules and files stand alike, walks are the same.
use Rattle.std.proofs.Common.{◌≡◌, ℕ, zero, suc, ◌+◌, ◌<◌, Bool, true, false, cond, not, ◌&&◌}
use Rattle.std.proofs.Common.{◌||◌, List, [], ◌∷◌, length, refl, ap, sym, ◌∙◌, arith, true≢false}
use Rattle.std.specs.Prelude.{◌==◌, filter, is_some, min, replicate, slice_index_or, sum_by}
use Rattle.std.specs.List.{list_all, range_with_len}
use Rattle.std.proofs.lemmas.Bool.{eq-eqb}
use Rattle.std.proofs.lemmas.List.{length-replicate}
use Rattle.flow_types.specs.declared.plan.Plan.{Plan}
use Rattle.flow_types.specs.Plans.{bound_of, contains_number, file_numbers, is_kept, made_files}
use Rattle.flow_types.specs.Plans.{maker_of, makes, rule_numbers, takes}
use Rattle.flow_types.specs.Serial.{serial_order}
use Rattle.flow_types.proofs.Totals.{total, total-filter, total-is}
use Rattle.gc_refcount.proofs.Changing.{total-within}
use Rattle.gc_refcount.proofs.Blocks.{same-at}
use Rattle.run_history.specs.Storage.{rule_bound}
use Rattle.run_history.proofs.Inputs.{or_either}
use Rattle.run_history.proofs.Stores.{total_same}
use Rattle.safe_storage.specs.declared.stand.Phase.TheVariants as phase
use Rattle.safe_storage.specs.declared.stand.Stand.{Stand}
use Rattle.safe_walks.specs.Walk.{Standing, additions, blank, is_added, is_left, is_over}
use Rattle.safe_walks.specs.Walk.{left_bound, left_bytes, load, outputs_share, rule_share, walk}
use Rattle.safe_walks.specs.Passes.{additions_before, walk_before}
use Rattle.safe_storage.specs.Counters.{IsStand, is_claimed_phase, is_complete_phase, phase_at}
use Rattle.safe_storage.specs.Counters.{told}
use Rattle.safe_walks.proofs.Firsts.{AllInside, order_inside}

-- The rules and the files of the plan stand alike.
pub record IsAlike (P : Plan) (S T : Standing) : Type 0 where
  pub complete : (r : ℕ) → r < length P.rules → S.complete r ≡ T.complete r
  pub claimed : (r : ℕ) → r < length P.rules → S.claimed r ≡ T.claimed r
  pub bytes : (f : ℕ) → f < length P.files → S.bytes f ≡ T.bytes f

all_alike : (p q t : ℕ → Bool) (a n : ℕ) → ((r : ℕ) → r < a + n → p r ≡ q r)
    → list_all p (filter t (range_with_len a n)) ≡ list_all q (filter t (range_with_len a n))
all_alike p q t a zero same = refl
all_alike p q t a (suc n) same = by_test (t a) (same a (omega arith))
    (all_alike p q t (a + 1) n (λ r less. same r (omega (arith, less))))
  where
    rest : List ℕ
    rest = filter t (range_with_len (a + 1) n)

    by_test : (b : Bool) → p a ≡ q a → list_all p rest ≡ list_all q rest
        → list_all p (cond b (a ∷ rest) rest) ≡ list_all q (cond b (a ∷ rest) rest)
    by_test true here later = ap (λ c. c && list_all p rest) here ∙ ap (λ c. q a && c) later
    by_test false here later = later

over_alike : (P : Plan) (S T : Standing) (passed : List ℕ) (r : ℕ) → IsAlike P S T
    → r < length P.rules → is_over S passed r ≡ is_over T passed r
over_alike P S T passed r alike inside =
    ap (λ c. c || contains_number r passed) (alike.complete r inside)

left_alike : (P : Plan) (S T : Standing) (passed : List ℕ) (f : ℕ) → IsAlike P S T
    → is_left P S passed f ≡ is_left P T passed f
left_alike P S T passed f alike =
    ap (λ b. is_kept P f || not b)
    (all_alike (is_over S passed) (is_over T passed) (λ r. contains_number f (takes P r)) 0
    (length P.rules)
    (λ r less. over_alike P S T passed r alike (let inside : r < length P.rules =
    omega (arith, less) in inside)))

share_alike : (P : Plan) (S T : Standing) (passed : List ℕ) (r : ℕ) → IsAlike P S T
    → r < length P.rules → rule_share P S passed r ≡ rule_share P T passed r
share_alike P S T passed r alike inside =
    let bounds : sum_by (left_bound P S passed) (makes P r)
    ≡ sum_by (left_bound P T passed) (makes P r) =
    sym (total-is (left_bound P S passed) (makes P r))
    ∙ total_same (left_bound P S passed) (left_bound P T passed) (makes P r)
    (λ f. ap (λ b. cond b (bound_of P f) 0) (left_alike P S T passed f alike))
    ∙ total-is (left_bound P T passed) (makes P r) in
    ap (λ c. cond c 0 (cond (contains_number r passed) (outputs_share P S passed r)
    (cond (S.claimed r) (rule_bound P r) 0))) (alike.complete r inside)
    ∙ ap (λ n. cond (T.complete r) 0 (cond (contains_number r passed) (min (rule_bound P r) n)
    (cond (S.claimed r) (rule_bound P r) 0))) bounds
    ∙ ap (λ k. cond (T.complete r) 0 (cond (contains_number r passed) (outputs_share P T passed r)
    (cond k (rule_bound P r) 0))) (alike.claimed r inside)

made_bytes : (P : Plan) (S : Standing) (passed : List ℕ)
    → sum_by (left_bytes P S passed) (made_files P)
    ≡ total (λ f. cond (is_some (maker_of P f)) (left_bytes P S passed f) 0) (file_numbers P)
made_bytes P S passed =
    sym (total-is (left_bytes P S passed) (made_files P))
    ∙ total-filter (left_bytes P S passed) (λ f. is_some (maker_of P f)) (file_numbers P)

load-alike : (P : Plan) (S T : Standing) (passed : List ℕ) → IsAlike P S T
    → load P S passed ≡ load P T passed
load-alike P S T passed alike =
    let files : total (λ f. cond (is_some (maker_of P f)) (left_bytes P S passed f) 0)
    (file_numbers P)
    ≡ total (λ f. cond (is_some (maker_of P f)) (left_bytes P T passed f) 0)
    (file_numbers P) =
    total-within (λ f. cond (is_some (maker_of P f)) (left_bytes P S passed f) 0)
    (λ f. cond (is_some (maker_of P f)) (left_bytes P T passed f) 0) 0 (length P.files)
    (λ f from to. ap (λ n. cond (is_some (maker_of P f)) n 0)
    (ap (λ b. cond b (S.bytes f) 0) (left_alike P S T passed f alike)
    ∙ ap (λ n. cond (is_left P T passed f) n 0) (alike.bytes f (omega (arith, to))))) in
    let rules : total (rule_share P S passed) (rule_numbers P)
    ≡ total (rule_share P T passed) (rule_numbers P) =
    total-within (rule_share P S passed) (rule_share P T passed) 0 (length P.rules)
    (λ r from to. share_alike P S T passed r alike (omega (arith, to))) in
    omega (
      arith,
      files,
      rules,
      made_bytes P S passed,
      made_bytes P T passed,
      total-is (rule_share P S passed) (rule_numbers P),
      total-is (rule_share P T passed) (rule_numbers P),
    )

added_alike : (P : Plan) (S T : Standing) (r : ℕ) → IsAlike P S T → r < length P.rules
    → is_added S r ≡ is_added T r
added_alike P S T r alike inside =
    ap (λ c. not c && not (S.claimed r)) (alike.complete r inside)
    ∙ ap (λ k. not (T.complete r) && not k) (alike.claimed r inside)

first_inside : (P : Plan) (r : ℕ) (rs : List ℕ) → AllInside P (r ∷ rs) → r < length P.rules
first_inside P r rs inside = inside r (ap (λ b. b || contains_number r rs) (eq-eqb r r refl))

rest_inside : (P : Plan) (r : ℕ) (rs : List ℕ) → AllInside P (r ∷ rs) → AllInside P rs
rest_inside P r rs inside q some = inside q (or_either (r == q) (contains_number q rs) some)

additions-alike : (P : Plan) (S T : Standing) (passed rs : List ℕ) → IsAlike P S T
    → AllInside P rs → additions P S passed rs ≡ additions P T passed rs
additions-alike P S T passed [] alike inside = refl
additions-alike P S T passed (r ∷ rs) alike inside =
    let v : ℕ = load P S passed + rule_bound P r in
    ap (λ b. cond b (v ∷ additions P S (r ∷ passed) rs) (additions P S (r ∷ passed) rs))
    (added_alike P S T r alike (first_inside P r rs inside))
    ∙ ap (λ vs. cond (is_added T r) (v ∷ vs) vs)
    (additions-alike P S T (r ∷ passed) rs alike (rest_inside P r rs inside))
    ∙ ap (λ n. cond (is_added T r) ((n + rule_bound P r) ∷ additions P T (r ∷ passed) rs)
    (additions P T (r ∷ passed) rs)) (load-alike P S T passed alike)

before-alike : (P : Plan) (S T : Standing) (w : ℕ) (passed rs : List ℕ) → IsAlike P S T
    → AllInside P rs → additions_before P S w passed rs ≡ additions_before P T w passed rs
before-alike P S T w passed [] alike inside = refl
before-alike P S T w passed (r ∷ rs) alike inside =
    let v : ℕ = load P S passed + rule_bound P r in
    ap (λ (vs : List ℕ). cond (r == w) [] vs)
    (ap (λ b. cond b (v ∷ additions_before P S w (r ∷ passed) rs)
    (additions_before P S w (r ∷ passed) rs))
    (added_alike P S T r alike (first_inside P r rs inside))
    ∙ ap (λ vs. cond (is_added T r) (v ∷ vs) vs)
    (before-alike P S T w (r ∷ passed) rs alike (rest_inside P r rs inside))
    ∙ ap (λ n. cond (is_added T r) ((n + rule_bound P r) ∷ additions_before P T w (r ∷ passed) rs)
    (additions_before P T w (r ∷ passed) rs)) (load-alike P S T passed alike))

order_all : (P : Plan) → AllInside P (serial_order P)
order_all P = order_inside P (length P.rules) [] (λ q some. absurd (true≢false (sym some)))

-- The walks are the same.
pub walk-alike : (P : Plan) (S T : Standing) → IsAlike P S T → walk P S ≡ walk P T
walk-alike P S T alike =
    ap (λ v. v ∷ additions P S [] (serial_order P)) (load-alike P S T [] alike)
    ∙ ap (λ vs. load P T [] ∷ vs) (additions-alike P S T [] (serial_order P) alike (order_all P))

pub walk_before-alike : (P : Plan) (S T : Standing) (r : ℕ) → IsAlike P S T
    → walk_before P S r ≡ walk_before P T r
walk_before-alike P S T r alike =
    ap (λ v. v ∷ additions_before P S r [] (serial_order P)) (load-alike P S T [] alike)
    ∙ ap (λ vs. load P T [] ∷ vs) (before-alike P S T r [] (serial_order P) alike (order_all P))

-- A note of nothing is of the plan, and stands as an empty part does.
pub blank-stand : (P : Plan) (s : Stand)
    → s.phases.items ≡ replicate (length P.rules) phase.Open
    → s.bytes.items ≡ replicate (length P.files) 0 → IsStand P s
blank-stand P s phases bytes = record {
  rules = ap length phases ∙ length-replicate (length P.rules) phase.Open;
  files = ap length bytes ∙ length-replicate (length P.files) 0;
  small = λ f.
      let none : slice_index_or s.bytes.items f 0 ≡ 0 =
      ap (λ (bs : List ℕ). slice_index_or bs f 0) bytes ∙ same-at (length P.files) f 0 in
      omega (arith, none);
}

pub blank-alike : (P : Plan) (s : Stand)
    → s.phases.items ≡ replicate (length P.rules) phase.Open
    → s.bytes.items ≡ replicate (length P.files) 0 → IsAlike P (told s) blank
blank-alike P s phases bytes = record {
  complete = λ r inside. ap is_complete_phase (nothing r);
  claimed = λ r inside. ap is_claimed_phase (nothing r);
  bytes = λ f inside. ap (λ (bs : List ℕ). slice_index_or bs f 0) bytes
      ∙ same-at (length P.files) f 0;
}
  where
    nothing : (r : ℕ) → phase_at s.phases.items r ≡ phase.Open
    nothing r = ap (λ ps. phase_at ps r) phases ∙ same-at (length P.rules) r phase.Open
