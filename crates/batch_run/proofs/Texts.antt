-- The lines of a batch.
use Rattle.std.proofs.Common.{◌≡◌, ◌≤◌, ◌<◌, ◌+◌, ◌∙◌, ℕ, Bool, true, false, cond, List, length, map, drop, get_or, Option, None, Some, sym, ap, subst}
use Rattle.std.specs.Prelude.{nat_lt}
use Rattle.std.specs.List.{flat_map}
use Rattle.std.specs.Option.{option_map_or}
use Rattle.std.proofs.lemmas.Bool.{le-ltb, lt-ltb}
use Rattle.std.proofs.lemmas.List.Folds.{flat_map-map}
use Rattle.task_book.specs.declared.task.Submission.{Submission}
use Rattle.task_book.specs.Submissions.{most_held}
use Rattle.task_book.proofs.Sizes.{next_item}
use Rattle.batch_run.specs.declared.cause.BatchCause.{BatchCause}
use Rattle.batch_run.specs.declared.cause.BatchCause.TheVariants as causes
use Rattle.batch_run.specs.Batch.{bad_line_from, is_good_line, line_tasks, lines_refusal}

-- ---- lines that aren't good

pub bad_step : {A : Type 0} (f : A → List ℕ) (xs : List A) (i : ℕ) (x : A) → i < length xs → x ≡ get_or xs i x
    → bad_line_from (i + 1) (map f (drop i xs)) ≡ cond (is_good_line (f x)) (bad_line_from (i + 1 + 1) (map f (drop (i + 1) xs))) (Some (i + 1))
bad_step {A} f xs i x lt is = ap (λ (ys : List A). bad_line_from (i + 1) (map f ys)) (next_item xs i x lt is)

-- ---- what becomes of lines

abbrev refusal_by : (p : Option ℕ) (b : Bool) → Option BatchCause
refusal_by p b = option_map_or (λ line. Some (causes.BadLine line)) p (cond b (Some causes.TooMany) None)

pub lines_bad : (lines : List (List ℕ)) (n : ℕ) → bad_line_from 1 lines ≡ Some n → lines_refusal lines ≡ Some (causes.BadLine n)
lines_bad lines n is = ap (λ (p : Option ℕ). refusal_by p (nat_lt most_held (length (flat_map line_tasks lines)))) is

pub lines_many : (lines : List (List ℕ)) (tasks : List Submission) → bad_line_from 1 lines ≡ None → tasks ≡ flat_map line_tasks lines → 100000 < length tasks → lines_refusal lines ≡ Some causes.TooMany
lines_many lines tasks is all many =
    ap (λ (p : Option ℕ). refusal_by p (nat_lt most_held (length (flat_map line_tasks lines)))) is
    ∙ ap (λ (b : Bool). refusal_by None b) (subst (λ (ts : List Submission). nat_lt most_held (length ts) ≡ true) all (lt-ltb 100000 (length tasks) many))

pub lines_few : (lines : List (List ℕ)) (tasks : List Submission) → bad_line_from 1 lines ≡ None → tasks ≡ flat_map line_tasks lines → length tasks ≤ 100000 → lines_refusal lines ≡ None
lines_few lines tasks is all few =
    ap (λ (p : Option ℕ). refusal_by p (nat_lt most_held (length (flat_map line_tasks lines)))) is
    ∙ ap (λ (b : Bool). refusal_by None b) (subst (λ (ts : List Submission). nat_lt most_held (length ts) ≡ false) all (le-ltb 100000 (length tasks) few))

pub all_tasks : {A : Type 0} (f : A → List ℕ) (xs : List A) (tasks : List Submission) → tasks ≡ flat_map (λ x. line_tasks (f x)) xs → tasks ≡ flat_map line_tasks (map f xs)
all_tasks f xs tasks is = is ∙ sym (flat_map-map line_tasks f xs)
