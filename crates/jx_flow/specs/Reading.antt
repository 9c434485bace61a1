-- What is read of values, or the first fault.
use Rattle.std.specs.Prelude.{ℕ, ◌+◌, min, Bool, List, [], ◌∷◌, Option, Some, None, Result, Ok, Err, nat_le, if◌then◌else◌, ℤ, pos, negsuc, option_and_then}
use Rattle.jx_meaning.specs.Values.{Value, Entry, find}
use Rattle.jx_values.specs.Kinds.{text_in, truth_in, number_in, items_in, entries_in}
use Rattle.jx_flow.specs.declared.fault.JxFlowFault.{JxFlowFault}
use Rattle.jx_flow.specs.declared.fault.JxFlowFault.TheVariants.{MissingField, FieldKind}

-- what was read, or a fault
abbrev pub Found : Type 0 → Type 0
Found A = Result A JxFlowFault

-- what follows what was read, where it has no fault
abbrev pub and_then : {A B : Type 0} → Found A → (A → Found B) → Found B
and_then (Ok a) f = f a
and_then (Err e) f = Err e

-- what a field holds, or the fault that it is of another kind
abbrev pub held : {A : Type 0} → Option ℕ → List ℕ → Option A → Found A
held rule name (Some a) = Ok a
held rule name None = Err (FieldKind rule name)

-- what is read of a field that may be left out
abbrev pub optional : {A : Type 0} → (Value → Found A) → Option Value → Found (Option A)
optional read None = Ok None
optional read (Some v) = and_then (read v) (λ a. Ok (Some a))

-- what is read of a field that must be there
abbrev pub required : {A : Type 0} → Option ℕ → List ℕ → (Value → Found A) → Option Value → Found A
required rule name read None = Err (MissingField rule name)
required rule name read (Some v) = read v

-- what is read of each item
abbrev pub each : {A B : Type 0} → (A → Found B) → List A → Found (List B)
each read [] = Ok []
each read (x ∷ xs) = and_then (read x) (λ y. and_then (each read xs) (λ ys. Ok (y ∷ ys)))

-- the index behind this one; it stands still at the last that a rule may have
abbrev pub next_index : ℕ → ℕ
next_index n = min (n + 1) 4294967295

-- what is read of each item and its index, from this index on
abbrev pub each_at : {A B : Type 0} → (ℕ → A → Found B) → ℕ → List A → Found (List B)
each_at read n [] = Ok []
each_at read n (x ∷ xs) = and_then (read n x) (λ y. and_then (each_at read (next_index n) xs) (λ ys. Ok (y ∷ ys)))

-- ---- kinds

-- a text
abbrev pub text_of : Option ℕ → List ℕ → Value → Found (List ℕ)
text_of rule name v = held rule name (text_in v)

-- a truth value
abbrev pub truth_of : Option ℕ → List ℕ → Value → Found Bool
truth_of rule name v = held rule name (truth_in v)

-- a list
abbrev pub items_of : Option ℕ → List ℕ → Value → Found (List Value)
items_of rule name v = held rule name (items_in v)

-- an object
abbrev pub entries_of : Option ℕ → List ℕ → Value → Found (List Entry)
entries_of rule name v = held rule name (entries_in v)

-- a number from 0 on, where it isn't above this one
abbrev pub up_to : ℕ → ℤ → Option ℕ
up_to most (pos n) = if nat_le n most then Some n else None
up_to most (negsuc n) = None

-- a whole number from 0 to the most
abbrev pub number_of : Option ℕ → List ℕ → ℕ → Value → Found ℕ
number_of rule name most v = held rule name (option_and_then (up_to most) (number_in v))

-- ---- fields of an object

-- a text that may be left out
abbrev pub optional_text : Option ℕ → List ℕ → List Entry → Found (Option (List ℕ))
optional_text rule name es = optional (text_of rule name) (find name es)

-- a text that must be there
abbrev pub required_text : Option ℕ → List ℕ → List Entry → Found (List ℕ)
required_text rule name es = required rule name (text_of rule name) (find name es)

-- a number up to the most that may be left out
abbrev pub optional_number : Option ℕ → List ℕ → ℕ → List Entry → Found (Option ℕ)
optional_number rule name most es = optional (number_of rule name most) (find name es)
