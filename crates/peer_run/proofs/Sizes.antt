-- What a worker has to say can be written in one frame.
use Rattle.std.proofs.Common.{◌≡◌, ◌≤◌, ℕ, ◌+◌, ◌*◌, Bool, true, false, not, cond, List, [], ◌∷◌, ◌++◌, length, take, drop, filter, Option, Some, None, refl, ap, arith}
use Rattle.std.specs.Prelude.{slice_get, insert, position, sum_by, flat_map, nat_lt}
use Rattle.std.proofs.lemmas.List.{length-append, take-append-drop}
use Rattle.std.proofs.lemmas.List.Concat.{length-flat_map}
use Rattle.std.proofs.lemmas.List.Sums.{sum_by-cons}
use Rattle.byteorder.specs.Endian.{big_bytes}
use Rattle.byteorder.specs.Numbers.{length-bytes_high_first}
use Rattle.byte_fields.specs.Spelling.{counted}
use Rattle.flow_types.specs.declared.job.Failure.TheVariants as failures
use Rattle.flow_types.specs.declared.job.Job.{Job}
use Rattle.flow_types.specs.declared.job.Outcome.{Outcome}
use Rattle.flow_types.specs.declared.job.Outcome.TheVariants as outcomes
use Rattle.flow_types.specs.declared.job.Task.{Task}
use Rattle.flow_types.specs.declared.job.Want.{Want}
use Rattle.flow_types.specs.declared.messages.Message.{Message}
use Rattle.flow_types.specs.declared.messages.Message.TheVariants as messages
use Rattle.flow_types.specs.declared.numbers.Amounts.{Amounts}
use Rattle.flow_types.specs.declared.numbers.AttemptNo.{AttemptNo}
use Rattle.flow_types.specs.declared.numbers.FileNo.{FileNo}
use Rattle.flow_types.specs.declared.plan.Port.{Port}
use Rattle.outside.specs.Jobs.{AllFit, IsShaped}
use Rattle.wq_messages.specs.Spelling.{spelling, fields_of, kind_of, amounts_bytes, offer_bytes, file_bytes, outcome_bytes, most_inputs, most_outputs}
use Rattle.worker_cache.specs.Caches.{Rows, is_held}
use Rattle.worker_core.proofs.Missing.{missing_ascends}
use Rattle.worker_core.specs.Workers.{Worker, key_of, holds_all, is_file, inserted_at, inserted, files_with, files_of, missing_of, missing_message}
use Rattle.worker_pool.specs.Courses.{IfRun}
use Rattle.peer_run.specs.Says.{CanBeTold}

-- ---- lengths of spellings

pub len : (n x : ℕ) → length (big_bytes n x) ≡ n
len n x = length-bytes_high_first n x

amounts_len : (a : Amounts) → length (amounts_bytes a) ≡ 12
amounts_len a =
    omega (arith, length-append (big_bytes 4 a.cores) (big_bytes 4 a.memory ++ big_bytes 4 a.disk), length-append (big_bytes 4 a.memory) (big_bytes 4 a.disk), len 4 a.cores, len 4 a.memory, len 4 a.disk)

pub offer_len : (total largest : Amounts) (cache : ℕ) → length (offer_bytes total largest cache) ≡ 32
offer_len total largest cache =
    omega (arith, length-append (amounts_bytes total) (amounts_bytes largest ++ big_bytes 8 cache), length-append (amounts_bytes largest) (big_bytes 8 cache), amounts_len total, amounts_len largest, len 8 cache)

pub spelled_len : (m : Message) → length (spelling m) ≡ 1 + length (fields_of m)
spelled_len m = omega (arith, length-append (big_bytes 1 (kind_of m)) (fields_of m), len 1 (kind_of m))

pub hello_told : (total largest : Amounts) (cache : ℕ) → CanBeTold (messages.Hello total largest cache)
hello_told total largest cache =
    (tt, omega (arith, spelled_len (messages.Hello total largest cache), length-append (big_bytes 2 1) (offer_bytes total largest cache), len 2 1, offer_len total largest cache))

-- ---- results

counted_sum : (contents : List (List ℕ)) → sum_by (λ c. length (counted c)) contents ≡ 4 * length contents + sum_by (λ c. length c) contents
counted_sum [] = refl
counted_sum (c ∷ cs) =
    omega (arith, sum_by-cons (λ (x : List ℕ). length (counted x)) c cs, sum_by-cons (λ (x : List ℕ). length x) c cs, counted_sum cs, length-append (big_bytes 4 (length c)) c, len 4 (length c))

fit_len : (wants : List Want) (contents : List (List ℕ)) → AllFit wants contents → length contents ≡ length wants
fit_len [] [] fits = refl
fit_len [] (c ∷ cs) fits = absurd fits
fit_len (w ∷ ws) [] fits = absurd fits
fit_len (w ∷ ws) (c ∷ cs) fits = omega (arith, fit_len ws cs fits.1)

success_len : (contents : List (List ℕ)) → length (outcome_bytes (outcomes.Success contents)) ≡ 5 + 4 * length contents + sum_by (λ c. length c) contents
success_len contents =
    omega (arith, length-append (big_bytes 1 0) (big_bytes 4 (length contents) ++ flat_map counted contents), length-append (big_bytes 4 (length contents)) (flat_map counted contents), len 1 0, len 4 (length contents), length-flat_map counted contents, counted_sum contents)

pub done_len : (attempt : AttemptNo) (outcome : Outcome) → length (spelling (messages.Done attempt outcome)) ≡ 9 + length (outcome_bytes outcome)
done_len attempt outcome =
    omega (arith, spelled_len (messages.Done attempt outcome), length-append (big_bytes 8 attempt.0) (outcome_bytes outcome), len 8 attempt.0)

pub done_told : (attempt : AttemptNo) (job : Job) (outcome : Outcome) → length job.outputs ≤ most_outputs → IfRun (IsShaped job) outcome → CanBeTold (messages.Done attempt outcome)
done_told attempt job (outcomes.Success contents) few shaped =
    let many = fit_len job.outputs contents shaped.0 in
    (omega (arith, many, few), omega (arith, done_len attempt (outcomes.Success contents), success_len contents, many, few, shaped.1))
done_told attempt job (outcomes.Failed (failures.Status status)) few shaped =
    (tt, omega (arith, done_len attempt (outcomes.Failed (failures.Status status)), length-append (big_bytes 1 1) (big_bytes 4 (Rattle.std.specs.Int.cast_unsigned Rattle.std.specs.Int.w32 status)), len 1 1, len 4 (Rattle.std.specs.Int.cast_unsigned Rattle.std.specs.Int.w32 status)))
done_told attempt job (outcomes.Failed (failures.MissingOutput index)) few shaped =
    (tt, omega (arith, done_len attempt (outcomes.Failed (failures.MissingOutput index)), length-append (big_bytes 1 2) (big_bytes 4 index), len 1 2, len 4 index))
done_told attempt job (outcomes.Failed (failures.TooLong index size)) few shaped =
    (tt, omega (arith, done_len attempt (outcomes.Failed (failures.TooLong index size)), length-append (big_bytes 1 3) (big_bytes 4 index ++ big_bytes 8 size), length-append (big_bytes 4 index) (big_bytes 8 size), len 1 3, len 4 index, len 8 size))
done_told attempt job outcomes.NotRun few shaped =
    (tt, omega (arith, done_len attempt outcomes.NotRun, length-append (big_bytes 1 4) [], len 1 4))

-- ---- missing files

files_sum : (files : List FileNo) → sum_by (λ f. length (file_bytes f)) files ≡ 4 * length files
files_sum [] = refl
files_sum (f ∷ fs) = omega (arith, sum_by-cons (λ (x : FileNo). length (file_bytes x)) f fs, files_sum fs, len 4 f.0)

fewer : (q : FileNo → Bool) (files : List FileNo) → length (filter q files) ≤ length files
fewer q [] = omega arith
fewer q (f ∷ fs) = by (q f) (fewer q fs)
  where
    by : (b : Bool) → length (filter q fs) ≤ length fs → length (cond b (f ∷ filter q fs) (filter q fs)) ≤ length (f ∷ fs)
    by true le = omega (arith, le)
    by false le = omega (arith, le)

insert_len : (files : List FileNo) (at : ℕ) (x : FileNo) → length (insert files at x) ≡ 1 + length files
insert_len files at x =
    omega (arith, length-append (take at files) (x ∷ drop at files), ap length (take-append-drop at files), length-append (take at files) (drop at files))

inserted_len : (x : FileNo) (files : List FileNo) (found : Option ℕ) → length (inserted_at x files found) ≤ 1 + length files
inserted_len x files None = omega (arith, length-append files (x ∷ []))
inserted_len x files (Some at) = by (is_file x (slice_get files at))
  where
    by : (b : Bool) → length (cond b files (insert files at x)) ≤ 1 + length files
    by true = omega arith
    by false = omega (arith, insert_len files at x)

files_len : (files : List FileNo) (ports : List Port) → length (files_with files ports) ≤ length files + length ports
files_len files [] = omega arith
files_len files (port ∷ ports) =
    let step : length (inserted port.file files) ≤ 1 + length files = inserted_len port.file files (position (λ f. not (nat_lt f.0 port.file.0)) files) in
    omega (arith, files_len (inserted port.file files) ports, step)

missing_len : (rows : Rows) (run : ℕ) (inputs : List Port) → length (missing_of rows run (files_of inputs)) ≤ length inputs
missing_len rows run inputs = omega (arith, fewer (λ file. not (is_held (key_of run file) rows)) (files_of inputs), files_len [] inputs)

pub missing_told : (w : Worker) (task : Task) → length task.inputs ≤ most_inputs → holds_all w.cache.rows task.run task.inputs ≡ false → CanBeTold (missing_message w task)
missing_told w task few lacks =
    let files = missing_of w.cache.rows task.run (files_of task.inputs) in (
      missing_ascends w.cache.rows task.run task.inputs lacks,
      omega (
        arith,
        few,
        missing_len w.cache.rows task.run task.inputs,
        spelled_len (missing_message w task),
        length-append (big_bytes 8 task.attempt.0) (big_bytes 4 (length files) ++ flat_map file_bytes files),
        length-append (big_bytes 4 (length files)) (flat_map file_bytes files),
        len 8 task.attempt.0,
        len 4 (length files),
        length-flat_map file_bytes files,
        files_sum files,
      ),
    )
