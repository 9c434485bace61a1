-- Lists, objects and texts by their parts.
use Rattle.std.specs.Prelude.{ℕ, suc, ◌-◌, min, Bool, true, false, nat_lt, List, [], ◌∷◌, ◌++◌, length, take, drop, slice_get, Option, Some, None, option_and_then, Result, Ok, Err, if◌then◌else◌, ℤ, pos, negsuc, flat_map}
use Rattle.std.specs.Char.{encode_utf8}
use Rattle.std.specs.Str.{bytes_eq, chars}
use Rattle.jx_meaning.specs.declared.fault.EvalFault.{EvalFault}
use Rattle.jx_meaning.specs.declared.fault.EvalFault.TheVariants.{WrongKind, IndexRange, NoSuchKey, TooMuch}
use Rattle.jx_meaning.specs.Values.{Value, text, list, object, number, items, values, Entry, entries, pairs, find, may_be}
use Rattle.jx_meaning.specs.Numbers.{Answer}

-- the value, where it may be built
abbrev pub limited : ℕ → Value → Answer
limited at v = if may_be v then Ok v else Err (TooMuch at)

-- the list of one item more, where it may be built
abbrev pub with_item : ℕ → List Value → Value → Result (List Value) EvalFault
with_item at vs v = if may_be (list (values (vs ++ v ∷ []))) then Ok (vs ++ v ∷ []) else Err (TooMuch at)

-- the pairs with the first one's value replaced, or that pair and then the others as they are now
abbrev pub put_if : Bool → Value → Entry → List Entry → List Entry → List Entry
put_if true v e es more = (e.0, v) ∷ es
put_if false v e es more = e ∷ more

-- the value of a key replaced in its place, or the key put at the end
abbrev pub put : List ℕ → Value → List Entry → List Entry
put key v [] = (key, v) ∷ []
put key v (e ∷ es) = put_if (bytes_eq e.0 key) v e es (put key v es)

-- the object with this key, where it may be built
abbrev pub with_key : ℕ → List ℕ → Value → List Entry → Result (List Entry) EvalFault
with_key at key v es = if may_be (object (pairs (put key v es))) then Ok (put key v es) else Err (TooMuch at)

-- ---- an index

-- which of so many items an index means; a negative one counts from the end
abbrev pub index_of : ℕ → ℤ → Option ℕ
index_of len (pos i) = if nat_lt i len then Some i else None
index_of len (negsuc i) = if nat_lt i len then Some (len - suc i) else None

-- the item that an index means
abbrev pub at_index : {A : Type 0} → List A → ℤ → Option A
at_index xs i = option_and_then (slice_get xs) (index_of (length xs) i)

-- the item, or the fault that there is none
abbrev pub or_no_item : ℕ → Option Value → Answer
or_no_item at None = Err (IndexRange at)
or_no_item at (Some v) = Ok v

-- a character as a text
abbrev pub char_value : Option ℕ → Option Value
char_value None = None
char_value (Some c) = Some (text (encode_utf8 c))

-- the value of a key, or the fault that there is none
abbrev pub or_no_key : ℕ → Option Value → Answer
or_no_key at None = Err (NoSuchKey at)
or_no_key at (Some v) = Ok v

-- a list or a text by a number, an object by a text
abbrev pub indexed : ℕ → Value → Value → Answer
indexed at (list vs) (number i) = or_no_item at (at_index (items vs) i)
indexed at (text t) (number i) = or_no_item at (char_value (at_index (chars t) i))
indexed at (object ps) (text key) = or_no_key at (find key (entries ps))
indexed at v i = Err (WrongKind at)

-- ---- a slice

-- where an end of a slice of so many items lies; a negative one counts from the end
abbrev pub end_in : ℕ → ℤ → ℕ
end_in len (pos i) = min i len
end_in len (negsuc i) = len - suc i

-- what stands from one place up to another
abbrev pub between : {A : Type 0} → ℕ → ℕ → List A → List A
between from to xs = take (to - from) (drop from xs)

-- where a slice begins and where it stops; an end that isn't given is the list's
abbrev pub start_in : ℕ → Option ℤ → ℕ
start_in len None = 0
start_in len (Some i) = end_in len i

-- where a slice stops
abbrev pub stop_in : ℕ → Option ℤ → ℕ
stop_in len None = len
stop_in len (Some i) = end_in len i

-- what stands between two ends
abbrev pub cut : {A : Type 0} → List A → Option ℤ → Option ℤ → List A
cut xs from to = between (start_in (length xs) from) (stop_in (length xs) to) xs

-- ends that are numbers
abbrev pub number_ends : ℕ → Option Value → (Option ℤ → Answer) → Answer
number_ends at None f = f None
number_ends at (Some (number z)) f = f (Some z)
number_ends at (Some v) f = Err (WrongKind at)

-- a list, or a text by its characters, between two ends that are numbers
abbrev pub sliced_by : ℕ → Value → Option ℤ → Option ℤ → Answer
sliced_by at (list vs) from to = limited at (list (values (cut (items vs) from to)))
sliced_by at (text t) from to = limited at (text (flat_map encode_utf8 (cut (chars t) from to)))
sliced_by at v from to = Err (WrongKind at)

-- a list, or a text by its characters, between two ends
abbrev pub sliced : ℕ → Value → Option Value → Option Value → Answer
sliced at v from to = number_ends at from (λ i. number_ends at to (λ j. sliced_by at v i j))
