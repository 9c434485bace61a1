-- How long the spellings of what peers send are.
use Rattle.std.proofs.Common.{◌≡◌, ◌≤◌, ℕ, ◌+◌, ◌*◌, List, [], ◌∷◌, ◌++◌, length, refl, arith, subst, sym}
use Rattle.std.specs.Prelude.{sum_by, flat_map}
use Rattle.std.specs.Int.{cast_unsigned, w32}
use Rattle.std.proofs.lemmas.List.{length-append}
use Rattle.std.proofs.lemmas.List.Concat.{length-flat_map}
use Rattle.std.proofs.lemmas.List.Sums.{sum_by-cons}
use Rattle.byteorder.specs.Endian.{big_bytes}
use Rattle.byteorder.specs.Numbers.{length-bytes_high_first}
use Rattle.byte_fields.specs.Spelling.{counted}
use Rattle.flow_types.specs.declared.job.Failure.TheVariants as failures
use Rattle.flow_types.specs.declared.job.Outcome.{Outcome}
use Rattle.flow_types.specs.declared.job.Outcome.TheVariants as outcomes
use Rattle.flow_types.specs.declared.messages.Message.{Message}
use Rattle.flow_types.specs.declared.messages.Message.TheVariants as messages
use Rattle.flow_types.specs.declared.numbers.Amounts.{Amounts}
use Rattle.flow_types.specs.declared.numbers.AttemptNo.{AttemptNo}
use Rattle.flow_types.specs.declared.numbers.FileNo.{FileNo}
use Rattle.wq_messages.specs.Spelling.{amounts_bytes, offer_bytes, spelling, fields_of, kind_of, file_bytes, most_body, outcome_bytes}
use Rattle.world_peers.specs.Sizes.{IsSmall}

len : (n x : ℕ) → length (big_bytes n x) ≡ n
len n x = length-bytes_high_first n x

spelled_len : (m : Message) → length (spelling m) ≡ 1 + length (fields_of m)
spelled_len m = omega (arith, length-append (big_bytes 1 (kind_of m)) (fields_of m), len 1 (kind_of m))

-- ---- ends of attempts

counted_sum : (contents : List (List ℕ)) → sum_by (λ c. length (counted c)) contents ≡ 4 * length contents + sum_by (λ c. length c) contents
counted_sum [] = refl
counted_sum (c ∷ cs) =
    omega (arith, sum_by-cons (λ (x : List ℕ). length (counted x)) c cs, sum_by-cons (λ (x : List ℕ). length x) c cs, counted_sum cs, length-append (big_bytes 4 (length c)) c, len 4 (length c))

success_len : (contents : List (List ℕ)) → length (outcome_bytes (outcomes.Success contents)) ≡ 5 + 4 * length contents + sum_by (λ c. length c) contents
success_len contents =
    omega (arith, length-append (big_bytes 1 0) (big_bytes 4 (length contents) ++ flat_map counted contents), length-append (big_bytes 4 (length contents)) (flat_map counted contents), len 1 0, len 4 (length contents), length-flat_map counted contents, counted_sum contents)

done_len : (attempt : AttemptNo) (outcome : Outcome) → length (spelling (messages.Done attempt outcome)) ≡ 9 + length (outcome_bytes outcome)
done_len attempt outcome =
    omega (arith, spelled_len (messages.Done attempt outcome), length-append (big_bytes 8 attempt.0) (outcome_bytes outcome), len 8 attempt.0)

pub end_short : (attempt : AttemptNo) (outcome : Outcome) → IsSmall outcome → length (spelling (messages.Done attempt outcome)) ≤ most_body
end_short attempt (outcomes.Success contents) small = omega (arith, done_len attempt (outcomes.Success contents), success_len contents, small.0, small.1)
end_short attempt (outcomes.Failed (failures.Status status)) small =
    omega (arith, done_len attempt (outcomes.Failed (failures.Status status)), length-append (big_bytes 1 1) (big_bytes 4 (cast_unsigned w32 status)), len 1 1, len 4 (cast_unsigned w32 status))
end_short attempt (outcomes.Failed (failures.MissingOutput index)) small =
    omega (arith, done_len attempt (outcomes.Failed (failures.MissingOutput index)), length-append (big_bytes 1 2) (big_bytes 4 index), len 1 2, len 4 index)
end_short attempt (outcomes.Failed (failures.TooLong index size)) small =
    omega (arith, done_len attempt (outcomes.Failed (failures.TooLong index size)), length-append (big_bytes 1 3) (big_bytes 4 index ++ big_bytes 8 size), length-append (big_bytes 4 index) (big_bytes 8 size), len 1 3, len 4 index, len 8 size)
end_short attempt outcomes.NotRun small = omega (arith, done_len attempt outcomes.NotRun, length-append (big_bytes 1 4) [], len 1 4)

-- an end with small contents is short
pub done_short : (m : Message) (attempt : AttemptNo) (outcome : Outcome) → m ≡ messages.Done attempt outcome → IsSmall outcome → length (spelling m) ≤ most_body
done_short m attempt outcome is small = subst (λ m. length (spelling m) ≤ most_body) (sym is) (end_short attempt outcome small)

-- ---- missing files

files_sum : (files : List FileNo) → sum_by (λ f. length (file_bytes f)) files ≡ 4 * length files
files_sum [] = refl
files_sum (f ∷ fs) = omega (arith, sum_by-cons (λ (x : FileNo). length (file_bytes x)) f fs, files_sum fs, len 4 f.0)

pub lack_short : (attempt : AttemptNo) (files : List FileNo) → length files ≤ 4096 → length (spelling (messages.Missing attempt files)) ≤ most_body
lack_short attempt files few =
    omega (arith, few, spelled_len (messages.Missing attempt files), length-append (big_bytes 8 attempt.0) (big_bytes 4 (length files) ++ flat_map file_bytes files), length-append (big_bytes 4 (length files)) (flat_map file_bytes files), len 8 attempt.0, len 4 (length files), length-flat_map file_bytes files, files_sum files)

-- few missing files are short
pub missing_short : (m : Message) (attempt : AttemptNo) (files : List FileNo) → m ≡ messages.Missing attempt files → length files ≤ 4096 → length (spelling m) ≤ most_body
missing_short m attempt files is few = subst (λ m. length (spelling m) ≤ most_body) (sym is) (lack_short attempt files few)

-- ---- totals

amounts_len : (a : Amounts) → length (amounts_bytes a) ≡ 12
amounts_len a =
    omega (arith, length-append (big_bytes 4 a.cores) (big_bytes 4 a.memory ++ big_bytes 4 a.disk), length-append (big_bytes 4 a.memory) (big_bytes 4 a.disk), len 4 a.cores, len 4 a.memory, len 4 a.disk)

offer_len : (total largest : Amounts) (cache : ℕ) → length (offer_bytes total largest cache) ≡ 32
offer_len total largest cache =
    omega (arith, length-append (amounts_bytes total) (amounts_bytes largest ++ big_bytes 8 cache), length-append (amounts_bytes largest) (big_bytes 8 cache), amounts_len total, amounts_len largest, len 8 cache)

pub totals_short : (total largest : Amounts) (cache : ℕ) → length (spelling (messages.Totals total largest cache)) ≤ most_body
totals_short total largest cache = omega (arith, spelled_len (messages.Totals total largest cache), offer_len total largest cache)
