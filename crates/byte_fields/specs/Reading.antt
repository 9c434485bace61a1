-- Reading from the front: a value and the bytes behind it, or the first fault.
use Rattle.std.specs.Prelude.{◌≡◌, ℕ, zero, suc, ◌+◌, List, [], ◌∷◌, length, take, drop, Result, Ok, Err, Bool, nat_lt, nat_le, ◌==◌, ◌-◌, if◌then◌else◌}
use Rattle.byteorder.specs.Endian.{big_number}
use Rattle.byte_fields.specs.declared.fault.FieldFault.{FieldFault}
use Rattle.byte_fields.specs.declared.fault.FieldFault.TheVariants.{Short, Kind, BadText, Long}
use Rattle.byte_fields.specs.declared.fault.TakeFault.{TakeFault}
use Rattle.byte_fields.specs.declared.fault.TakeFault.TheVariants as takes

infixl 10 ◌>>=◌
-- what reads on, unless there was a fault
abbrev pub ◌>>=◌ : {A B : Type 0} → Result A FieldFault → (A → Result B FieldFault) → Result B FieldFault
(Ok x) >>= f = f x
(Err e) >>= f = Err e

-- a value and the bytes behind it, or the first fault
abbrev pub Reader : Type 0 → Type 0
Reader A = List ℕ → Result (A × List ℕ) FieldFault

-- What a function returned, seen by view, is what reading gives.
abbrev pub Gives : {X Y : Type 0} → (X → Y) → Result X FieldFault → Result Y FieldFault → Type 0
Gives view (Ok x) read = read ≡ Ok (view x)
Gives view (Err e) read = read ≡ Err e

-- the fault that a function that takes memory returned is that of reading; want of memory says nothing
abbrev pub FaultIs : {Y : Type 0} → TakeFault → Result Y FieldFault → Type 0
FaultIs (takes.Field e) read = read ≡ Err e
FaultIs takes.Memory read = Unit {0}

-- What a function that takes memory returned is what reading gives, but for want of memory.
abbrev pub GivesInMemory : {X Y : Type 0} → (X → Y) → Result X TakeFault → Result Y FieldFault → Type 0
GivesInMemory view (Ok x) read = read ≡ Ok (view x)
GivesInMemory view (Err f) read = FaultIs f read

-- a number of n bytes
abbrev pub number_at : ℕ → Reader ℕ
number_at n bytes = if nat_lt (length bytes) n then Err Short else Ok (big_number n bytes, drop n bytes)

-- n bytes
abbrev pub fixed_at : ℕ → Reader (List ℕ)
fixed_at n bytes = if nat_lt (length bytes) n then Err Short else Ok (take n bytes, drop n bytes)

-- bytes behind their length
unfoldable pub bytes_at : Reader (List ℕ)
bytes_at bytes = number_at 4 bytes >>= λ n. if nat_lt (length n.1) n.0 then Err Short else Ok (take n.0 n.1, drop n.0 n.1)

-- A number of 4 bytes up to this. Where the first bytes alone already pass it, whatever follows them, the fault is at the last of them.
unfoldable pub up_from : ℕ → ℕ → ℕ → Reader ℕ
up_from most zero seen bytes = number_at 4 bytes
up_from most (suc n) seen bytes =
    if nat_lt most (big_number 4 (take (seen + 1) bytes)) then Err (Kind (length bytes - seen)) else up_from most n (seen + 1) bytes

-- a number of 4 bytes that is at most this
abbrev pub up_to_at : ℕ → Reader ℕ
up_to_at most = up_from most 4 0

-- one field and then another
abbrev pub both : {A B : Type 0} → Reader A → Reader B → Reader (A × B)
both first second bytes = first bytes >>= λ x. second x.1 >>= λ y. Ok ((x.0, y.0), y.1)

-- a field seen as another value
abbrev pub seen_as : {A B : Type 0} → (A → B) → Reader A → Reader B
seen_as f read bytes = read bytes >>= λ x. Ok (f x.0, x.1)

-- so many rows
unfoldable pub rows_at : {A : Type 0} → Reader A → ℕ → Reader (List A)
rows_at read zero bytes = Ok ([], bytes)
rows_at read (suc n) bytes = read bytes >>= λ first. rows_at read n first.1 >>= λ others. Ok (first.0 ∷ others.0, others.1)

-- the bytes behind a field
abbrev pub skipping : {A : Type 0} → Reader A → List ℕ → Result (List ℕ) FieldFault
skipping read bytes = read bytes >>= λ x. Ok x.1

-- rows behind their count
abbrev pub rows_behind : {A : Type 0} → Reader ℕ → Reader A → Reader (List A)
rows_behind count read bytes = count bytes >>= λ n. rows_at read n.0 n.1

-- nothing
abbrev pub nothing_at : Reader (Unit {0})
nothing_at bytes = Ok (tt, bytes)

-- a field whose value passes a test; where it doesn't the fault is at the field
abbrev pub checked : {A : Type 0} → (A → Bool) → Reader A → Reader A
checked test read bytes = read bytes >>= λ x. if test x.0 then Ok x else Err (Kind (length bytes))

-- a count up to this; where it is greater, the fault is at the count
abbrev pub count_at : ℕ → Reader ℕ
count_at most = checked (λ n. nat_le n most) (number_at 4)

-- rows behind their count, which is at most this
unfoldable pub counted_rows_at : {A : Type 0} → ℕ → Reader A → Reader (List A)
counted_rows_at most read = rows_behind (count_at most) read

-- bytes behind their length that pass a test; where they don't the fault is at the first of them
unfoldable pub worded_at : (List ℕ → Bool) → Reader (List ℕ)
worded_at test bytes = bytes_at bytes >>= λ x. if test x.0 then Ok x else Err (BadText (length bytes - 4))

-- what stands behind this tag, where so many bytes were left at the tag
abbrev pub behind_tag : {A : Type 0} → List (ℕ × Reader A) → ℕ → ℕ → Reader A
behind_tag [] tag left bytes = Err (Kind left)
behind_tag (row ∷ rows) tag left bytes = if tag == row.0 then row.1 bytes else behind_tag rows tag left bytes

-- a byte that says what follows
abbrev pub tagged : {A : Type 0} → List (ℕ × Reader A) → Reader A
tagged rows bytes = number_at 1 bytes >>= λ tag. behind_tag rows tag.0 (length bytes) tag.1

-- all of the bytes
abbrev pub whole : {A : Type 0} → Reader A → List ℕ → Result A FieldFault
whole read bytes = read bytes >>= λ x. if length x.1 == 0 then Ok x.0 else Err (Long (length x.1))
