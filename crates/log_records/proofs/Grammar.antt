-- What is read as a record is its spelling, and the reader stops at the least place.
use Rattle.std.proofs.Common.{◌≡◌, ℕ, ℤ, ◌^◌, ◌<◌, Option, Some, None, List, [], ◌∷◌, ◌++◌, Ok, refl, arith}
use Rattle.std.specs.Prelude.{FitsSigned}
use Rattle.std.specs.Int.{cast_unsigned, cast_signed, w32}
use Rattle.std.proofs.lemmas.Int.{of_z-to_z, to_z-of_z}
use Rattle.std.proofs.Math.Facts.{Fits-of_z, sfits_to_z, Fits-lt-pow, Fits-of_lt}
use Rattle.byteorder.specs.Endian.{big_bytes}
use Rattle.byte_fields.specs.Laws.{IsField, IsPrompt}
use Rattle.byte_fields.specs.Reading.{number_at, nothing_at, both, seen_as, up_to_at}
use Rattle.byte_fields.proofs.Fields.{u32_is_field, u64_is_field, fixed_is_field, nothing_is_field, both_is_field, seen_is_field, rows_behind_is_field, seen_is_tag, tagged_takes, tagged_again}
use Rattle.byte_fields.proofs.Prompt.{number_is_prompt, fixed_is_prompt, nothing_is_prompt, both_is_prompt, seen_is_prompt, rows_behind_are_prompt, tagged_is_prompt}
use Rattle.byte_fields.proofs.Limits.{up_is_field, up_is_prompt}
use Rattle.flow_types.specs.declared.numbers.RuleNo.{RuleNo}
use Rattle.flow_types.specs.declared.numbers.FileNo.{FileNo}
use Rattle.flow_types.specs.declared.numbers.LinkNo.{LinkNo}
use Rattle.flow_types.specs.declared.numbers.AttemptNo.{AttemptNo}
use Rattle.flow_types.specs.declared.numbers.Content.{Content}
use Rattle.flow_types.specs.declared.numbers.Digest.{Digest}
use Rattle.flow_types.specs.declared.job.Failure.{Failure}
use Rattle.flow_types.specs.declared.job.Failure.TheVariants.{Status, MissingOutput, TooLong}
use Rattle.flow_types.specs.declared.records.EndKind.{EndKind}
use Rattle.flow_types.specs.declared.records.EndKind.TheVariants.{Complete, CommandFailed, InputsTooLarge, NoRoom, Waited, Cleaned}
use Rattle.flow_types.specs.declared.records.Record.{Record}
use Rattle.flow_types.specs.declared.records.Record.TheVariants.{Opened, Resumed, Started, Done, Failed, Lost, Dropped, Ended}
use Rattle.log_records.specs.Spelling.{limit_bytes, content_bytes, contents_bytes, failure_bytes, end_bytes, opening_bytes, attempt_bytes, spelling, most_contents, IsDigest, IsContent, IsCount, AreContents, IsLimit, IsFailure, IsEnd, IsOpening, IsAttempt, HasSpelling}
use Rattle.log_records.specs.Reading.{rule_of, file_of, link_of, attempt_of, digest_of, content_of, limit_kinds, limit_at, digest_at, content_at, contents_at, failure_kinds, failure_at, end_kinds, end_at, opening_at, attempt_at, opened_at, resumed_at, started_at, done_at, failed_at, lost_at, dropped_at, ended_at, record_kinds, record_at}

-- ---- both ways

abbrev unlimited : Unit {0} → Option ℕ
unlimited _ = None

abbrev limited : ℕ → Option ℕ
limited n = Some n

limit_again : (limit : Option ℕ) (rest : List ℕ) → IsLimit limit → limit_at (limit_bytes limit ++ rest) ≡ Ok (limit, rest)
limit_again None rest h = tagged_again limit_kinds 0 [] rest None (omega arith) (λ _. refl)
limit_again (Some n) rest h = tagged_again limit_kinds 1 (big_bytes 8 n) rest (Some n) (omega arith) (λ _. rw (u64_is_field.again n rest h) refl)

limit_is : IsField limit_bytes IsLimit limit_at
limit_is = record {
  takes = tagged_takes limit_bytes IsLimit limit_kinds (
    seen_is_tag 0 unlimited limit_bytes IsLimit _ _ nothing_at nothing_is_field (λ _ _. refl) (λ _ _. tt),
    (seen_is_tag 1 limited limit_bytes IsLimit _ _ (number_at 8) u64_is_field (λ _ _. refl) (λ _ h. h), tt),
  );
  again = limit_again;
}

digest_is : IsField (λ (d : Digest). d.0) IsDigest digest_at
digest_is = seen_is_field digest_of (λ d. d.0) _ _ _ (λ _. refl) (λ _. refl) (fixed_is_field 32)

content_is : IsField content_bytes IsContent content_at
content_is = seen_is_field content_of (λ c. (c.size, c.digest)) _ _ _ (λ _. refl) (λ _. refl) (both_is_field _ _ _ _ _ _ u64_is_field digest_is)

contents_are : IsField contents_bytes AreContents contents_at
contents_are = rows_behind_is_field IsCount (up_to_at most_contents) content_bytes IsContent content_at (up_is_field most_contents) content_is

status_back : (status : ℤ) (rest : List ℕ) → FitsSigned w32 status → seen_as (λ n. Status (cast_signed w32 n)) (number_at 4) (big_bytes 4 (cast_unsigned w32 status) ++ rest) ≡ Ok (Status status, rest)
status_back status rest h = rw (u32_is_field.again (cast_unsigned w32 status) rest (Fits-lt-pow (Fits-of_z h)), to_z-of_z w32 status h) refl

failure_again : (why : Failure) (rest : List ℕ) → IsFailure why → failure_at (failure_bytes why ++ rest) ≡ Ok (why, rest)
failure_again (Status status) rest h = tagged_again failure_kinds 1 (big_bytes 4 (cast_unsigned w32 status)) rest (Status status) (omega arith) (λ _. status_back status rest h)
failure_again (MissingOutput index) rest h = tagged_again failure_kinds 2 (big_bytes 4 index) rest (MissingOutput index) (omega arith) (λ _. rw (u32_is_field.again index rest h) refl)
failure_again (TooLong index size) rest h =
    tagged_again failure_kinds 3 (big_bytes 4 index ++ big_bytes 8 size) rest (TooLong index size) (omega arith)
    (λ _. rw ((both_is_field _ _ _ _ _ _ u32_is_field u64_is_field).again (index, size) rest h) refl)

status_same : (n : ℕ) → n < 2 ^ 32 → failure_bytes (Status (cast_signed w32 n)) ≡ big_bytes 1 1 ++ big_bytes 4 n
status_same n h = rw (of_z-to_z w32 n h) refl

failure_is : IsField failure_bytes IsFailure failure_at
failure_is = record {
  takes = tagged_takes failure_bytes IsFailure failure_kinds (
    seen_is_tag 1 (λ n. Status (cast_signed w32 n)) failure_bytes IsFailure _ _ (number_at 4) u32_is_field status_same (λ n h. sfits_to_z (Fits-of_lt {w = w32} h)),
    (
      seen_is_tag 2 (λ index. MissingOutput index) failure_bytes IsFailure _ _ (number_at 4) u32_is_field (λ _ _. refl) (λ _ h. h),
      (seen_is_tag 3 (λ p. TooLong p.0 p.1) failure_bytes IsFailure _ _ (both (number_at 4) (number_at 8)) (both_is_field _ _ _ _ _ _ u32_is_field u64_is_field) (λ _ _. refl) (λ _ h. h), tt),
    ),
  );
  again = failure_again;
}

end_again : (kind : EndKind) (rest : List ℕ) → IsEnd kind → end_at (end_bytes kind ++ rest) ≡ Ok (kind, rest)
end_again Complete rest h = tagged_again end_kinds 0 [] rest Complete (omega arith) (λ _. refl)
end_again CommandFailed rest h = tagged_again end_kinds 1 [] rest CommandFailed (omega arith) (λ _. refl)
end_again InputsTooLarge rest h = tagged_again end_kinds 2 [] rest InputsTooLarge (omega arith) (λ _. refl)
end_again NoRoom rest h = tagged_again end_kinds 3 [] rest NoRoom (omega arith) (λ _. refl)
end_again Waited rest h = tagged_again end_kinds 4 [] rest Waited (omega arith) (λ _. refl)
end_again Cleaned rest h = tagged_again end_kinds 5 [] rest Cleaned (omega arith) (λ _. refl)

end_is : IsField end_bytes IsEnd end_at
end_is = record {
  takes = tagged_takes end_bytes IsEnd end_kinds (
    seen_is_tag 0 (λ _. Complete) end_bytes IsEnd _ _ nothing_at nothing_is_field (λ _ _. refl) (λ _ _. tt),
    (
      seen_is_tag 1 (λ _. CommandFailed) end_bytes IsEnd _ _ nothing_at nothing_is_field (λ _ _. refl) (λ _ _. tt),
      (
        seen_is_tag 2 (λ _. InputsTooLarge) end_bytes IsEnd _ _ nothing_at nothing_is_field (λ _ _. refl) (λ _ _. tt),
        (
          seen_is_tag 3 (λ _. NoRoom) end_bytes IsEnd _ _ nothing_at nothing_is_field (λ _ _. refl) (λ _ _. tt),
          (
            seen_is_tag 4 (λ _. Waited) end_bytes IsEnd _ _ nothing_at nothing_is_field (λ _ _. refl) (λ _ _. tt),
            (seen_is_tag 5 (λ _. Cleaned) end_bytes IsEnd _ _ nothing_at nothing_is_field (λ _ _. refl) (λ _ _. tt), tt),
          ),
        ),
      ),
    ),
  );
  again = end_again;
}

opening_is : IsField (λ (p : ℕ × (ℕ × Option ℕ)). opening_bytes p.0 p.1.0 p.1.1) (λ p. IsOpening p.0 p.1.0 p.1.1) opening_at
opening_is = both_is_field _ _ _ _ _ _ u64_is_field (both_is_field _ _ _ _ _ _ u32_is_field limit_is)

rule_is : IsField (λ (r : RuleNo). big_bytes 4 r.0) (λ r. r.0 < 2 ^ 32) (seen_as rule_of (number_at 4))
rule_is = seen_is_field rule_of (λ r. r.0) _ _ _ (λ _. refl) (λ _. refl) u32_is_field

file_is : IsField (λ (f : FileNo). big_bytes 4 f.0) (λ f. f.0 < 2 ^ 32) (seen_as file_of (number_at 4))
file_is = seen_is_field file_of (λ f. f.0) _ _ _ (λ _. refl) (λ _. refl) u32_is_field

link_is : IsField (λ (l : LinkNo). big_bytes 4 l.0) (λ l. l.0 < 2 ^ 32) (seen_as link_of (number_at 4))
link_is = seen_is_field link_of (λ l. l.0) _ _ _ (λ _. refl) (λ _. refl) u32_is_field

attempt_number_is : IsField (λ (a : AttemptNo). big_bytes 8 a.0) (λ a. a.0 < 2 ^ 64) (seen_as attempt_of (number_at 8))
attempt_number_is = seen_is_field attempt_of (λ a. a.0) _ _ _ (λ _. refl) (λ _. refl) u64_is_field

attempt_is : IsField (λ (p : RuleNo × AttemptNo). attempt_bytes p.0 p.1) (λ p. IsAttempt p.0 p.1) attempt_at
attempt_is = both_is_field _ _ _ _ _ _ rule_is attempt_number_is

-- ---- each kind's parts

opened_parts : IsField (λ (p : ℕ × ((ℕ × (ℕ × Option ℕ)) × (Digest × List Content))). big_bytes 8 p.0 ++ (opening_bytes p.1.0.0 p.1.0.1.0 p.1.0.1.1 ++ (p.1.1.0.0 ++ contents_bytes p.1.1.1))) (λ p. (p.0 < 2 ^ 64) × (IsOpening p.1.0.0 p.1.0.1.0 p.1.0.1.1 × (IsDigest p.1.1.0 × AreContents p.1.1.1))) (both (number_at 8) (both opening_at (both digest_at contents_at)))
opened_parts = both_is_field _ _ _ _ _ _ u64_is_field (both_is_field _ _ _ _ _ _ opening_is (both_is_field _ _ _ _ _ _ digest_is contents_are))

resumed_parts : IsField (λ (p : ℕ × (ℕ × (ℕ × Option ℕ))). big_bytes 8 p.0 ++ opening_bytes p.1.0 p.1.1.0 p.1.1.1) (λ p. (p.0 < 2 ^ 64) × IsOpening p.1.0 p.1.1.0 p.1.1.1) (both (number_at 8) opening_at)
resumed_parts = both_is_field _ _ _ _ _ _ u64_is_field opening_is

started_parts : IsField (λ (p : ℕ × ((RuleNo × AttemptNo) × LinkNo)). big_bytes 8 p.0 ++ (attempt_bytes p.1.0.0 p.1.0.1 ++ big_bytes 4 p.1.1.0)) (λ p. (p.0 < 2 ^ 64) × (IsAttempt p.1.0.0 p.1.0.1 × (p.1.1.0 < 2 ^ 32))) (both (number_at 8) (both attempt_at (seen_as link_of (number_at 4))))
started_parts = both_is_field _ _ _ _ _ _ u64_is_field (both_is_field _ _ _ _ _ _ attempt_is link_is)

done_parts : IsField (λ (p : ℕ × ((RuleNo × AttemptNo) × List Content)). big_bytes 8 p.0 ++ (attempt_bytes p.1.0.0 p.1.0.1 ++ contents_bytes p.1.1)) (λ p. (p.0 < 2 ^ 64) × (IsAttempt p.1.0.0 p.1.0.1 × AreContents p.1.1)) (both (number_at 8) (both attempt_at contents_at))
done_parts = both_is_field _ _ _ _ _ _ u64_is_field (both_is_field _ _ _ _ _ _ attempt_is contents_are)

failed_parts : IsField (λ (p : ℕ × ((RuleNo × AttemptNo) × Failure)). big_bytes 8 p.0 ++ (attempt_bytes p.1.0.0 p.1.0.1 ++ failure_bytes p.1.1)) (λ p. (p.0 < 2 ^ 64) × (IsAttempt p.1.0.0 p.1.0.1 × IsFailure p.1.1)) (both (number_at 8) (both attempt_at failure_at))
failed_parts = both_is_field _ _ _ _ _ _ u64_is_field (both_is_field _ _ _ _ _ _ attempt_is failure_is)

lost_parts : IsField (λ (p : ℕ × (RuleNo × AttemptNo)). big_bytes 8 p.0 ++ attempt_bytes p.1.0 p.1.1) (λ p. (p.0 < 2 ^ 64) × IsAttempt p.1.0 p.1.1) (both (number_at 8) attempt_at)
lost_parts = both_is_field _ _ _ _ _ _ u64_is_field attempt_is

dropped_parts : IsField (λ (p : ℕ × FileNo). big_bytes 8 p.0 ++ big_bytes 4 p.1.0) (λ p. (p.0 < 2 ^ 64) × (p.1.0 < 2 ^ 32)) (both (number_at 8) (seen_as file_of (number_at 4)))
dropped_parts = both_is_field _ _ _ _ _ _ u64_is_field file_is

ended_parts : IsField (λ (p : ℕ × EndKind). big_bytes 8 p.0 ++ end_bytes p.1) (λ p. (p.0 < 2 ^ 64) × IsEnd p.1) (both (number_at 8) end_at)
ended_parts = both_is_field _ _ _ _ _ _ u64_is_field end_is

record_again : (r : Record) (rest : List ℕ) → HasSpelling r → record_at (spelling r ++ rest) ≡ Ok (r, rest)
unfolding record_at
record_again (Opened moment run retries limit plan sources) rest h =
    tagged_again record_kinds 1 (big_bytes 8 moment ++ (opening_bytes run retries limit ++ (plan.0 ++ contents_bytes sources))) rest (Opened moment run retries limit plan sources) (omega arith)
    (λ _. rw (opened_parts.again (moment, ((run, (retries, limit)), (plan, sources))) rest h) refl)
record_again (Resumed moment run retries limit) rest h =
    tagged_again record_kinds 2 (big_bytes 8 moment ++ opening_bytes run retries limit) rest (Resumed moment run retries limit) (omega arith)
    (λ _. rw (resumed_parts.again (moment, (run, (retries, limit))) rest h) refl)
record_again (Started moment rule attempt link) rest h =
    tagged_again record_kinds 3 (big_bytes 8 moment ++ (attempt_bytes rule attempt ++ big_bytes 4 link.0)) rest (Started moment rule attempt link) (omega arith)
    (λ _. rw (started_parts.again (moment, ((rule, attempt), link)) rest h) refl)
record_again (Done moment rule attempt outs) rest h =
    tagged_again record_kinds 4 (big_bytes 8 moment ++ (attempt_bytes rule attempt ++ contents_bytes outs)) rest (Done moment rule attempt outs) (omega arith)
    (λ _. rw (done_parts.again (moment, ((rule, attempt), outs)) rest h) refl)
record_again (Failed moment rule attempt why) rest h =
    tagged_again record_kinds 5 (big_bytes 8 moment ++ (attempt_bytes rule attempt ++ failure_bytes why)) rest (Failed moment rule attempt why) (omega arith)
    (λ _. rw (failed_parts.again (moment, ((rule, attempt), why)) rest h) refl)
record_again (Lost moment rule attempt) rest h =
    tagged_again record_kinds 6 (big_bytes 8 moment ++ attempt_bytes rule attempt) rest (Lost moment rule attempt) (omega arith)
    (λ _. rw (lost_parts.again (moment, (rule, attempt)) rest h) refl)
record_again (Dropped moment file) rest h =
    tagged_again record_kinds 7 (big_bytes 8 moment ++ big_bytes 4 file.0) rest (Dropped moment file) (omega arith)
    (λ _. rw (dropped_parts.again (moment, file) rest h) refl)
record_again (Ended moment kind) rest h =
    tagged_again record_kinds 8 (big_bytes 8 moment ++ end_bytes kind) rest (Ended moment kind) (omega arith)
    (λ _. rw (ended_parts.again (moment, kind) rest h) refl)

pub record_is : IsField spelling HasSpelling record_at
unfolding record_at
record_is = record {
  takes = tagged_takes spelling HasSpelling record_kinds (
    seen_is_tag 1 (λ p. Opened p.0 p.1.0.0 p.1.0.1.0 p.1.0.1.1 p.1.1.0 p.1.1.1) spelling HasSpelling _ _ (both (number_at 8) (both opening_at (both digest_at contents_at))) opened_parts (λ _ _. refl) (λ _ h. h),
    (
      seen_is_tag 2 (λ p. Resumed p.0 p.1.0 p.1.1.0 p.1.1.1) spelling HasSpelling _ _ (both (number_at 8) opening_at) resumed_parts (λ _ _. refl) (λ _ h. h),
      (
        seen_is_tag 3 (λ p. Started p.0 p.1.0.0 p.1.0.1 p.1.1) spelling HasSpelling _ _ (both (number_at 8) (both attempt_at (seen_as link_of (number_at 4)))) started_parts (λ _ _. refl) (λ _ h. h),
        (
          seen_is_tag 4 (λ p. Done p.0 p.1.0.0 p.1.0.1 p.1.1) spelling HasSpelling _ _ (both (number_at 8) (both attempt_at contents_at)) done_parts (λ _ _. refl) (λ _ h. h),
          (
            seen_is_tag 5 (λ p. Failed p.0 p.1.0.0 p.1.0.1 p.1.1) spelling HasSpelling _ _ (both (number_at 8) (both attempt_at failure_at)) failed_parts (λ _ _. refl) (λ _ h. h),
            (
              seen_is_tag 6 (λ p. Lost p.0 p.1.0 p.1.1) spelling HasSpelling _ _ (both (number_at 8) attempt_at) lost_parts (λ _ _. refl) (λ _ h. h),
              (
                seen_is_tag 7 (λ p. Dropped p.0 p.1) spelling HasSpelling _ _ (both (number_at 8) (seen_as file_of (number_at 4))) dropped_parts (λ _ _. refl) (λ _ h. h),
                (seen_is_tag 8 (λ p. Ended p.0 p.1) spelling HasSpelling _ _ (both (number_at 8) end_at) ended_parts (λ _ _. refl) (λ _ h. h), tt),
              ),
            ),
          ),
        ),
      ),
    ),
  );
  again = record_again;
}

-- ---- the least place

limit_prompt : IsPrompt limit_at
limit_prompt =
    tagged_is_prompt (0, seen_as unlimited nothing_at) ((1, seen_as limited (number_at 8)) ∷ []) (omega arith)
    (seen_is_prompt unlimited _ nothing_is_prompt, (seen_is_prompt limited _ (number_is_prompt 8), tt))

digest_prompt : IsPrompt digest_at
digest_prompt = seen_is_prompt digest_of _ (fixed_is_prompt 32)

content_prompt : IsPrompt content_at
content_prompt = seen_is_prompt content_of _ (both_is_prompt _ _ (number_is_prompt 8) digest_prompt)

contents_prompt : IsPrompt contents_at
contents_prompt = rows_behind_are_prompt (up_to_at most_contents) content_at (up_is_prompt most_contents) content_prompt

abbrev status_of : ℕ → Failure
status_of n = Status (cast_signed w32 n)

abbrev missing_of : ℕ → Failure
missing_of index = MissingOutput index

abbrev too_long_of : ℕ × ℕ → Failure
too_long_of p = TooLong p.0 p.1

failure_prompt : IsPrompt failure_at
failure_prompt =
    tagged_is_prompt (1, seen_as status_of (number_at 4)) ((2, seen_as missing_of (number_at 4)) ∷ (3, seen_as too_long_of (both (number_at 4) (number_at 8))) ∷ []) (omega arith)
    (seen_is_prompt status_of _ (number_is_prompt 4), (seen_is_prompt missing_of _ (number_is_prompt 4), (seen_is_prompt too_long_of _ (both_is_prompt _ _ (number_is_prompt 4) (number_is_prompt 8)), tt)))

-- one end, which has no more bytes
abbrev just : EndKind → Unit {0} → EndKind
just kind _ = kind

just_prompt : (kind : EndKind) → IsPrompt (seen_as (just kind) nothing_at)
just_prompt kind = seen_is_prompt (just kind) _ nothing_is_prompt

end_prompt : IsPrompt end_at
end_prompt =
    tagged_is_prompt (0, seen_as (just Complete) nothing_at)
    ((1, seen_as (just CommandFailed) nothing_at) ∷ (2, seen_as (just InputsTooLarge) nothing_at) ∷ (3, seen_as (just NoRoom) nothing_at)
    ∷ (4, seen_as (just Waited) nothing_at) ∷ (5, seen_as (just Cleaned) nothing_at) ∷ []) (omega arith)
    (just_prompt Complete, (just_prompt CommandFailed, (just_prompt InputsTooLarge, (just_prompt NoRoom, (just_prompt Waited, (just_prompt Cleaned, tt))))))

opening_prompt : IsPrompt opening_at
opening_prompt = both_is_prompt _ _ (number_is_prompt 8) (both_is_prompt _ _ (number_is_prompt 4) limit_prompt)

attempt_prompt : IsPrompt attempt_at
attempt_prompt = both_is_prompt _ _ (seen_is_prompt rule_of _ (number_is_prompt 4)) (seen_is_prompt attempt_of _ (number_is_prompt 8))

opened_prompt : IsPrompt opened_at
opened_prompt = seen_is_prompt (λ (p : ℕ × ((ℕ × (ℕ × Option ℕ)) × (Digest × List Content))). Opened p.0 p.1.0.0 p.1.0.1.0 p.1.0.1.1 p.1.1.0 p.1.1.1) _ (both_is_prompt _ _ (number_is_prompt 8) (both_is_prompt _ _ opening_prompt (both_is_prompt _ _ digest_prompt contents_prompt)))

resumed_prompt : IsPrompt resumed_at
resumed_prompt = seen_is_prompt (λ (p : ℕ × (ℕ × (ℕ × Option ℕ))). Resumed p.0 p.1.0 p.1.1.0 p.1.1.1) _ (both_is_prompt _ _ (number_is_prompt 8) opening_prompt)

started_prompt : IsPrompt started_at
started_prompt = seen_is_prompt (λ (p : ℕ × ((RuleNo × AttemptNo) × LinkNo)). Started p.0 p.1.0.0 p.1.0.1 p.1.1) _ (both_is_prompt _ _ (number_is_prompt 8) (both_is_prompt _ _ attempt_prompt (seen_is_prompt link_of _ (number_is_prompt 4))))

done_prompt : IsPrompt done_at
done_prompt = seen_is_prompt (λ (p : ℕ × ((RuleNo × AttemptNo) × List Content)). Done p.0 p.1.0.0 p.1.0.1 p.1.1) _ (both_is_prompt _ _ (number_is_prompt 8) (both_is_prompt _ _ attempt_prompt contents_prompt))

failed_prompt : IsPrompt failed_at
failed_prompt = seen_is_prompt (λ (p : ℕ × ((RuleNo × AttemptNo) × Failure)). Failed p.0 p.1.0.0 p.1.0.1 p.1.1) _ (both_is_prompt _ _ (number_is_prompt 8) (both_is_prompt _ _ attempt_prompt failure_prompt))

lost_prompt : IsPrompt lost_at
lost_prompt = seen_is_prompt (λ (p : ℕ × (RuleNo × AttemptNo)). Lost p.0 p.1.0 p.1.1) _ (both_is_prompt _ _ (number_is_prompt 8) attempt_prompt)

dropped_prompt : IsPrompt dropped_at
dropped_prompt = seen_is_prompt (λ (p : ℕ × FileNo). Dropped p.0 p.1) _ (both_is_prompt _ _ (number_is_prompt 8) (seen_is_prompt file_of _ (number_is_prompt 4)))

ended_prompt : IsPrompt ended_at
ended_prompt = seen_is_prompt (λ (p : ℕ × EndKind). Ended p.0 p.1) _ (both_is_prompt _ _ (number_is_prompt 8) end_prompt)

pub record_is_prompt : IsPrompt record_at
unfolding record_at
record_is_prompt =
    tagged_is_prompt (1, opened_at) ((2, resumed_at) ∷ (3, started_at) ∷ (4, done_at) ∷ (5, failed_at) ∷ (6, lost_at) ∷ (7, dropped_at) ∷ (8, ended_at) ∷ []) (omega arith)
    (opened_prompt, (resumed_prompt, (started_prompt, (done_prompt, (failed_prompt, (lost_prompt, (dropped_prompt, (ended_prompt, tt))))))))
