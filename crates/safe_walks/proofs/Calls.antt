-- The records of a call that starts only what is admitted are a course that keeps the walk within.
use Rattle.std.proofs.Common.{◌≡◌, ℕ, ◌+◌, Bool, true, false, cond, not, ◌||◌, List, []}
use Rattle.std.proofs.Common.{◌∷◌}
use Rattle.std.proofs.Common.{◌++◌, length, take, Some, refl, ap, sym, ◌∙◌, arith, append-nil}
use Rattle.std.proofs.Common.{append_assoc, length-append, true≢false}
use Rattle.std.specs.Prelude.{slice_get}
use Rattle.std.specs.List.{list_any}
use Rattle.std.proofs.lemmas.Bool.{and_parts}
use Rattle.flow_types.specs.declared.plan.Plan.{Plan}
use Rattle.flow_types.specs.declared.records.Record.{Record}
use Rattle.flow_types.specs.declared.records.Record.TheVariants as records
use Rattle.run_history.specs.declared.options.Options.{Options}
use Rattle.run_history.specs.History.{is_cleaned, is_opening}
use Rattle.run_history.specs.Legal.{is_allowed, is_legal, is_legal_from, is_numbered}
use Rattle.run_history.specs.States.{limit_in}
use Rattle.run_history.proofs.Bools.{both}
use Rattle.safe_walks.specs.Laws.{AreAdmittedFrom}
use Rattle.safe_walks.specs.Safe.{collects, is_admitted, is_admitted_course, is_safe}
use Rattle.safe_walks.specs.Safe.{safely_admitted}
use Rattle.safe_walks.proofs.Courses.{opens_limit, run-safe}

legal-split : (P : Plan) (digest : List ℕ) (before xs ys : List Record)
    → is_legal_from P digest before (xs ++ ys) ≡ true
    → is_legal_from P digest (before ++ xs) ys ≡ true
legal-split P digest before [] ys legal =
    ap (λ b. is_legal_from P digest b ys) (append-nil before) ∙ legal
legal-split P digest before (x ∷ xs) ys legal =
    ap (λ b. is_legal_from P digest b ys) (sym (append_assoc before (x ∷ []) xs))
    ∙ legal-split P digest (before ++ (x ∷ [])) xs ys (and_parts _ _ legal).1

allowed-first : (P : Plan) (digest : List ℕ) (before : List Record) (x : Record)
    (xs : List Record) → list_any is_cleaned (x ∷ xs) ≡ false
    → is_legal_from P digest before (x ∷ xs) ≡ true → is_allowed P digest before x ≡ true
allowed-first P digest before x xs none legal =
    sym (ap (λ b. cond b (is_numbered before x) (is_allowed P digest before x)) none)
    ∙ (and_parts _ _ legal).0

first_none : (a b : Bool) → (a || b) ≡ false → a ≡ false
first_none true b none = none
first_none false b none = refl

rest_none : (a b : Bool) → (a || b) ≡ false → b ≡ false
rest_none true b none = absurd (true≢false none)
rest_none false b none = none

get_at : (before : List Record) (x : Record) (xs : List Record)
    → slice_get (before ++ (x ∷ xs)) (length before) ≡ Some x
get_at [] x xs = refl
get_at (y ∷ ys) x xs = get_at ys x xs

take_at : (before xs : List Record) → take (length before) (before ++ xs) ≡ before
take_at [] xs = refl
take_at (y ∷ ys) xs = ap (λ zs. y ∷ zs) (take_at ys xs)

admitted_at : (P : Plan) (O : Options) (before : List Record) (x : Record) (xs : List Record)
    → AreAdmittedFrom P O (before ++ (x ∷ xs)) (length before) → is_admitted P O before x ≡ true
admitted_at P O before (records.Started moment r attempt link) xs admitted =
    let x : Record = records.Started moment r attempt link in
    sym (ap (λ H. safely_admitted P O H r.0) (take_at before (x ∷ xs)))
    ∙ admitted (length before) moment r attempt link (omega arith) (get_at before x xs)
admitted_at P O before (records.Opened moment run retries limit plan sources) xs admitted = refl
admitted_at P O before (records.Resumed moment run retries limit) xs admitted = refl
admitted_at P O before (records.Done moment r attempt outs) xs admitted = refl
admitted_at P O before (records.Failed moment r attempt why) xs admitted = refl
admitted_at P O before (records.Lost moment r attempt) xs admitted = refl
admitted_at P O before (records.Dropped moment f) xs admitted = refl
admitted_at P O before (records.Ended moment kind) xs admitted = refl

later : (P : Plan) (O : Options) (before : List Record) (x : Record) (xs : List Record)
    → AreAdmittedFrom P O (before ++ (x ∷ xs)) (length before)
    → AreAdmittedFrom P O ((before ++ (x ∷ [])) ++ xs) (length (before ++ (x ∷ [])))
later P O before x xs admitted i moment r attempt link from is =
    let long : length (before ++ (x ∷ [])) ≡ length before + 1 = length-append before (x ∷ []) in
    ap (λ H. safely_admitted P O (take i H) r.0) (append_assoc before (x ∷ []) xs)
    ∙ admitted i moment r attempt link (omega (arith, from, long))
    (sym (ap (λ H. slice_get H i) (append_assoc before (x ∷ []) xs)) ∙ is)

course-of : (P : Plan) (digest : List ℕ) (O : Options) (before xs : List Record)
    → is_legal_from P digest before xs ≡ true → list_any is_cleaned xs ≡ false
    → list_any is_opening xs ≡ false → AreAdmittedFrom P O (before ++ xs) (length before)
    → is_admitted_course P digest O before xs ≡ true
course-of P digest O before [] legal whole within admitted = refl
course-of P digest O before (x ∷ xs) legal whole within admitted =
    both _ _ (both _ _ (both _ _ (both _ _ (allowed-first P digest before x xs whole legal)
    (ap not (first_none (is_cleaned x) (list_any is_cleaned xs) whole)))
    (ap not (first_none (is_opening x) (list_any is_opening xs) within)))
    (admitted_at P O before x xs admitted))
    (course-of P digest O (before ++ (x ∷ [])) xs (and_parts _ _ legal).1
    (rest_none (is_cleaned x) (list_any is_cleaned xs) whole)
    (rest_none (is_opening x) (list_any is_opening xs) within)
    (later P O before x xs admitted))

-- The records of a call keep the walk within.
pub call-safe : (P : Plan) (digest : List ℕ) (O : Options) (H : List Record) (opening : Record)
    (since : List Record) (limit : ℕ) → collects O.mode ≡ true
    → limit_in opening ≡ Some (Some limit)
    → is_legal P digest ((H ++ (opening ∷ [])) ++ since) ≡ true
    → list_any is_cleaned since ≡ false → list_any is_opening since ≡ false
    → AreAdmittedFrom P O ((H ++ (opening ∷ [])) ++ since) (length H) → is_safe P H limit ≡ true
    → is_safe P ((H ++ (opening ∷ [])) ++ since) limit ≡ true
call-safe P digest O H opening since limit collecting says legal whole within admitted safe =
    let is = opens_limit opening limit says in
    let none : list_any is_cleaned (opening ∷ since) ≡ false =
    ap (λ b. b || list_any is_cleaned since) is.0 ∙ whole in
    let opened : is_legal_from P digest H (opening ∷ since) ≡ true =
    legal-split P digest [] H (opening ∷ since)
    (sym (ap (is_legal P digest) (append_assoc H (opening ∷ []) since)) ∙ legal) in
    let long : length (H ++ (opening ∷ [])) ≡ length H + 1 = length-append H (opening ∷ []) in
    run-safe P digest O H opening since limit collecting says
    (allowed-first P digest H opening since none opened) safe
    (course-of P digest O (H ++ (opening ∷ [])) since
    (legal-split P digest [] (H ++ (opening ∷ [])) since legal) whole within
    (λ i moment r attempt link from started. admitted i moment r attempt link
    (omega (arith, from, long)) started))
