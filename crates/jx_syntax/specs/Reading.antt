-- Reading one token after the other: what waits for the rest of the text.
use Rattle.std.specs.Prelude.{ℕ, suc, ◌^◌, Bool, true, false, nat_lt, nat_le, List, [], ◌∷◌, Option, Some, None, Result, Ok, Err, if◌then◌else◌}
use Rattle.jx_tokens.specs.declared.fault.JxFault.{JxFault}
use Rattle.jx_tokens.specs.declared.fault.JxFault.TheVariants.{Unexpected, IntTooWide, TooDeep}
use Rattle.jx_tokens.specs.declared.token.Kind.{Kind}
use Rattle.jx_tokens.specs.declared.token.Kind.TheVariants as kind
use Rattle.jx_tokens.specs.declared.token.Token.{Token}
use Rattle.jx_tokens.specs.Tokens.{Scan, cut_fault}
use Rattle.jx_syntax.specs.declared.operator.Operator.{Operator}
use Rattle.jx_syntax.specs.declared.operator.Operator.TheVariants as op
use Rattle.jx_syntax.specs.declared.operator.Sign.{Sign}
use Rattle.jx_syntax.specs.declared.operator.Sign.TheVariants as sign
use Rattle.jx_syntax.specs.Grammar.{null, truth, number, text, Derivation, literal, least, name, bare_call, call, group, list, list_last, object, object_last, index, slice, signed, operation, Arguments, no_arguments, argument, Items, no_items, item, Item, once, each, each_if, Pairs, no_pairs, pair, Bound, open_end, end_at, binds, binds_left, sign_binds, is_wide}

-- which part of an item is wanted: what it gives, the list of a loop, or the condition of a loop
pub data Part : Type 0 where
  body : Part
  over : Item → ℕ → ℕ → List ℕ → ℕ → Part
  only : Item → ℕ → ℕ → List ℕ → ℕ → Derivation → ℕ → Part

-- what waits for an expression
pub data Frame : Type 0 where
  -- an operator with its left operand
  left : Derivation → ℕ → Operator → Frame
  -- a sign
  before : ℕ → Sign → Frame
  -- a parenthesis
  grouped : ℕ → Frame
  -- a call with the arguments so far
  argued : ℕ → List ℕ → ℕ → Arguments → Frame
  -- a list with the items so far
  listed : ℕ → Items → Part → Frame
  -- an object with the pairs so far and a key
  keyed : ℕ → Pairs → ℕ → List ℕ → ℕ → Frame
  -- what is indexed, and a bracket
  indexed : Derivation → ℕ → Frame
  -- what is sliced, a bracket, the first end and a colon
  sliced : Derivation → ℕ → Bound → ℕ → Frame

-- what is wanted next
pub data State : Type 0 where
  -- an expression
  wants : List Frame → State
  -- what can stand behind an expression
  has : List Frame → Derivation → State
  -- a key of an object, or its end
  wants_key : List Frame → ℕ → Pairs → State
  -- the colon behind a key
  wants_colon : List Frame → ℕ → Pairs → ℕ → List ℕ → State
  -- the name behind a `for`
  wants_name : List Frame → ℕ → Items → Item → ℕ → State
  -- the `in` behind that name
  wants_in : List Frame → ℕ → Items → Item → ℕ → ℕ → List ℕ → State

-- what a token does: it can't stand here, or the text goes on, or it goes on one level deeper
pub data Move : Type 0 where
  stuck : Move
  goes : State → Move
  opens : State → Move

-- ---- stacks

-- how tightly an expression on top has to bind
abbrev pub level : List Frame → ℕ
level [] = 1
level (left a p o ∷ fs) = suc (binds o)
level (before p s ∷ fs) = sign_binds s
level (grouped from ∷ fs) = 1
level (argued p x from given ∷ fs) = 1
level (listed from is part ∷ fs) = 1
level (keyed from ps p key colon ∷ fs) = 1
level (indexed d from ∷ fs) = 1
level (sliced d from a colon ∷ fs) = 1

-- how many levels are open
abbrev pub depth : List Frame → ℕ
depth [] = 0
depth (left a p o ∷ fs) = depth fs
depth (before p s ∷ fs) = suc (depth fs)
depth (grouped from ∷ fs) = suc (depth fs)
depth (argued p x from given ∷ fs) = suc (depth fs)
depth (listed from is part ∷ fs) = suc (depth fs)
depth (keyed from ps p key colon ∷ fs) = suc (depth fs)
depth (indexed d from ∷ fs) = suc (depth fs)
depth (sliced d from a colon ∷ fs) = suc (depth fs)

-- how many levels are open in a state
abbrev pub state_depth : State → ℕ
state_depth (wants fs) = depth fs
state_depth (has fs x) = depth fs
state_depth (wants_key fs from ps) = suc (depth fs)
state_depth (wants_colon fs from ps p key) = suc (depth fs)
state_depth (wants_name fs from is i p) = suc (depth fs)
state_depth (wants_in fs from is i p q x) = suc (depth fs)

-- the operators and signs on top that bind at least so tightly get their operand
unfoldable pub reduce : ℕ → List Frame → Derivation → List Frame × Derivation
reduce k [] x = ([], x)
reduce k (left a p o ∷ fs) x = if nat_le k (binds o) then reduce k fs (operation p o a x) else (left a p o ∷ fs, x)
reduce k (before p s ∷ fs) x = if nat_le k (sign_binds s) then reduce k fs (signed p s x) else (before p s ∷ fs, x)
reduce k (grouped from ∷ fs) x = (grouped from ∷ fs, x)
reduce k (argued p n from given ∷ fs) x = (argued p n from given ∷ fs, x)
reduce k (listed from is part ∷ fs) x = (listed from is part ∷ fs, x)
reduce k (keyed from ps p key colon ∷ fs) x = (keyed from ps p key colon ∷ fs, x)
reduce k (indexed d from ∷ fs) x = (indexed d from ∷ fs, x)
reduce k (sliced d from a colon ∷ fs) x = (sliced d from a colon ∷ fs, x)

-- an item once its last part was read
abbrev pub completed : Part → Derivation → Item
completed body x = once x
completed (over i p q n r) x = each i p q n r x
completed (only i p q n r d s) x = each_if i p q n r d s x

-- ---- where an expression is wanted

-- the move where the test holds, and none else
abbrev pub when : Bool → Move → Move
when b m = if b then m else stuck

-- a sign, which has to bind tightly enough
abbrev pub signs : List Frame → ℕ → Sign → Move
signs fs p s = when (nat_le (level fs) (sign_binds s)) (opens (wants (before p s ∷ fs)))

-- a number; right behind a minus it may be 9223372036854775808
abbrev pub numbered : List Frame → ℕ → ℕ → Move
numbered (before p sign.Minus ∷ fs) q n =
    if nat_lt n (2 ^ 63) then goes (has (before p sign.Minus ∷ fs) (literal q (number n))) else when (nat_le n (2 ^ 63)) (goes (has fs (least p q)))
numbered fs q n = when (nat_lt n (2 ^ 63)) (goes (has fs (literal q (number n))))

-- `)`, which ends a call of no argument
abbrev pub closes_call : List Frame → ℕ → Move
closes_call (argued p x from no_arguments ∷ fs) to = goes (has fs (bare_call p x from to))
closes_call fs to = stuck

-- `]`, which ends a list behind its `[` or a comma, or a slice behind its colon
abbrev pub closes_list : List Frame → ℕ → Move
closes_list (listed from is body ∷ fs) to = goes (has fs (list from is to))
closes_list (sliced d from a colon ∷ fs) to = goes (has fs (slice d from a colon open_end to))
closes_list fs to = stuck

-- a colon right behind the `[` of a slice
abbrev pub begins_slice : List Frame → ℕ → Move
begins_slice (indexed d from ∷ fs) p = goes (wants (sliced d from open_end p ∷ fs))
begins_slice fs p = stuck

-- what a token does where an expression is wanted
abbrev pub wanted : List Frame → ℕ → Kind → Move
wanted fs p kind.Null = goes (has fs (literal p null))
wanted fs p kind.True = goes (has fs (literal p (truth true)))
wanted fs p kind.False = goes (has fs (literal p (truth false)))
wanted fs p (kind.Number n) = numbered fs p n
wanted fs p (kind.Text t) = goes (has fs (literal p (text t)))
wanted fs p (kind.Name x) = goes (has fs (name p x))
wanted fs p kind.Minus = signs fs p sign.Minus
wanted fs p kind.Plus = signs fs p sign.Plus
wanted fs p kind.Not = signs fs p sign.Not
wanted fs p kind.OpenGroup = opens (wants (grouped p ∷ fs))
wanted fs p kind.OpenList = opens (wants (listed p no_items body ∷ fs))
wanted fs p kind.OpenObject = opens (wants_key fs p no_pairs)
wanted fs p kind.CloseGroup = closes_call fs p
wanted fs p kind.CloseList = closes_list fs p
wanted fs p kind.Colon = begins_slice fs p
wanted fs p k = stuck

-- ---- behind an expression

-- an operator, which has to bind tightly enough for what waits then
abbrev pub operated : ℕ → Operator → List Frame × Derivation → Move
operated p o (fs, x) = when (nat_le (level fs) (binds o)) (goes (wants (left x p o ∷ fs)))

-- an operator behind an expression, which closes all that bind tighter on its left
abbrev pub operates : List Frame → Derivation → ℕ → Operator → Move
operates fs x p o = operated p o (reduce (binds_left o) fs x)

-- `(`, which has to stand right behind a name
abbrev pub begins_call : List Frame → Derivation → ℕ → Move
begins_call fs (name p x) from = opens (wants (argued p x from no_arguments ∷ fs))
begins_call fs x from = stuck

-- `)`
abbrev pub ends_group : ℕ → List Frame × Derivation → Move
ends_group to (grouped from ∷ fs, x) = goes (has fs (group from x to))
ends_group to (argued p n from given ∷ fs, x) = goes (has fs (call p n from given x to))
ends_group to (fs, x) = stuck

-- `]`
abbrev pub ends_list : ℕ → List Frame × Derivation → Move
ends_list to (listed from is part ∷ fs, x) = goes (has fs (list_last from is (completed part x) to))
ends_list to (indexed d from ∷ fs, x) = goes (has fs (index d from x to))
ends_list to (sliced d from a colon ∷ fs, x) = goes (has fs (slice d from a colon (end_at x) to))
ends_list to (fs, x) = stuck

-- `}`
abbrev pub ends_object : ℕ → List Frame × Derivation → Move
ends_object to (keyed from ps p key colon ∷ fs, x) = goes (has fs (object_last from ps p key colon x to))
ends_object to (fs, x) = stuck

-- a comma
abbrev pub goes_on : ℕ → List Frame × Derivation → Move
goes_on comma (argued p n from given ∷ fs, x) = goes (wants (argued p n from (argument given x comma) ∷ fs))
goes_on comma (listed from is part ∷ fs, x) = goes (wants (listed from (item is (completed part x) comma) body ∷ fs))
goes_on comma (keyed from ps p key colon ∷ fs, x) = goes (wants_key fs from (pair ps p key colon x comma))
goes_on comma (fs, x) = stuck

-- a colon
abbrev pub slices : ℕ → List Frame × Derivation → Move
slices p (indexed d from ∷ fs, x) = goes (wants (sliced d from (end_at x) p ∷ fs))
slices p (fs, x) = stuck

-- `for`
abbrev pub loops : ℕ → List Frame × Derivation → Move
loops p (listed from is part ∷ fs, x) = goes (wants_name fs from is (completed part x) p)
loops p (fs, x) = stuck

-- `if`, behind the list of a loop
abbrev pub selects : ℕ → List Frame × Derivation → Move
selects s (listed from is (over i p q n r) ∷ fs, x) = goes (wants (listed from is (only i p q n r x s) ∷ fs))
selects s (fs, x) = stuck

-- what ends or goes on with an expression whose operators have their operands
abbrev pub ends : ℕ → Kind → List Frame × Derivation → Move
ends p kind.CloseGroup r = ends_group p r
ends p kind.CloseList r = ends_list p r
ends p kind.CloseObject r = ends_object p r
ends p kind.Comma r = goes_on p r
ends p kind.Colon r = slices p r
ends p kind.For r = loops p r
ends p kind.If r = selects p r
ends p k r = stuck

-- what a token does behind an expression
abbrev pub had : List Frame → Derivation → ℕ → Kind → Move
had fs x p kind.Or = operates fs x p op.Or
had fs x p kind.And = operates fs x p op.And
had fs x p kind.Equal = operates fs x p op.Equal
had fs x p kind.Unequal = operates fs x p op.Unequal
had fs x p kind.Less = operates fs x p op.Less
had fs x p kind.AtMost = operates fs x p op.AtMost
had fs x p kind.More = operates fs x p op.More
had fs x p kind.AtLeast = operates fs x p op.AtLeast
had fs x p kind.Plus = operates fs x p op.Add
had fs x p kind.Minus = operates fs x p op.Subtract
had fs x p kind.Times = operates fs x p op.Multiply
had fs x p kind.Over = operates fs x p op.Divide
had fs x p kind.Rest = operates fs x p op.Remainder
had fs x p kind.OpenGroup = begins_call fs x p
had fs x p kind.OpenList = opens (wants (indexed x p ∷ fs))
had fs x p k = ends p k (reduce 1 fs x)

-- ---- elsewhere

-- where a key is wanted
abbrev pub key_wanted : List Frame → ℕ → Pairs → ℕ → Kind → Move
key_wanted fs from ps p (kind.Text key) = goes (wants_colon fs from ps p key)
key_wanted fs from ps to kind.CloseObject = goes (has fs (object from ps to))
key_wanted fs from ps p k = stuck

-- what a token does behind a key
abbrev pub colon_wanted : List Frame → ℕ → Pairs → ℕ → List ℕ → ℕ → Kind → Move
colon_wanted fs from ps p key colon kind.Colon = goes (wants (keyed from ps p key colon ∷ fs))
colon_wanted fs from ps p key colon k = stuck

-- what a token does behind `for`
abbrev pub name_wanted : List Frame → ℕ → Items → Item → ℕ → ℕ → Kind → Move
name_wanted fs from is i p q (kind.Name x) = goes (wants_in fs from is i p q x)
name_wanted fs from is i p q k = stuck

-- what a token does behind the name of a `for`
abbrev pub in_wanted : List Frame → ℕ → Items → Item → ℕ → ℕ → List ℕ → ℕ → Kind → Move
in_wanted fs from is i p q x r kind.In = goes (wants (listed from is (over i p q x r) ∷ fs))
in_wanted fs from is i p q x r k = stuck

-- ---- runs

-- what a token does
abbrev pub move : State → ℕ → Kind → Move
move (wants fs) p k = wanted fs p k
move (has fs x) p k = had fs x p k
move (wants_key fs from ps) p k = key_wanted fs from ps p k
move (wants_colon fs from ps q key) p k = colon_wanted fs from ps q key p k
move (wants_name fs from is i q) p k = name_wanted fs from is i q p k
move (wants_in fs from is i q r x) p k = in_wanted fs from is i q r x p k

-- the fault of a token that can't stand here
abbrev pub blamed : ℕ → Kind → JxFault
blamed p k = if is_wide k then IntTooWide p else Unexpected p

-- one level more, where so many may be open and so many are
abbrev pub opened : ℕ → ℕ → ℕ → State → Result State JxFault
opened limit open_levels p next = if nat_lt open_levels limit then Ok next else Err (TooDeep p)

-- the state behind a token that is no number, where so many levels may be open and so many are
abbrev pub tried : ℕ → ℕ → ℕ → Move → Result State JxFault
tried limit open_levels p stuck = Err (Unexpected p)
tried limit open_levels p (goes next) = Ok next
tried limit open_levels p (opens next) = opened limit open_levels p next

-- the state behind a token, where so many levels may be open and so many are
abbrev pub moved : ℕ → ℕ → ℕ → Kind → Move → Result State JxFault
moved limit open_levels p k stuck = Err (blamed p k)
moved limit open_levels p k (goes next) = Ok next
moved limit open_levels p k (opens next) = opened limit open_levels p next

-- one token more
abbrev pub step : ℕ → State → Token → Result State JxFault
step limit st t = moved limit (state_depth st) t.place t.kind (move st t.place t.kind)

-- what goes on where the state is there
abbrev pub then_on : {A : Type 0} → Result State JxFault → (State → Result A JxFault) → Result A JxFault
then_on (Ok st) f = f st
then_on (Err e) f = Err e

-- the state behind all these tokens, or the first fault
unfoldable pub run : ℕ → State → List Token → Result State JxFault
run limit st [] = Ok st
run limit st (t ∷ ts) = then_on (step limit st t) (λ next. run limit next ts)

-- the expression where nothing is open behind it; else the text ends too early
abbrev pub alone : ℕ → List Frame × Derivation → Result Derivation JxFault
alone len ([], x) = Ok x
alone len (f ∷ fs, x) = Err (Unexpected len)

-- the expression that a text of so many bytes is, at its end
abbrev pub finished : ℕ → State → Result Derivation JxFault
finished len (has fs x) = alone len (reduce 1 fs x)
finished len st = Err (Unexpected len)

-- the expression that a text of so many bytes is, where its tokens end with this fault
abbrev pub ended : ℕ → Option JxFault → State → Result Derivation JxFault
ended len None st = finished len st
ended len (Some f) st = Err f

-- the expression that a text of so many bytes is, or its fault
abbrev pub parsed : ℕ → Scan → Result Derivation JxFault
parsed len s = then_on (run 128 (wants []) s.tokens) (ended len s.fault)

-- ---- whole texts

-- the fault of the tokens, where there is one
abbrev pub unless_fault : Option JxFault → State → Result State JxFault
unless_fault None st = Ok st
unless_fault (Some f) st = Err f

-- the state behind all these tokens, or the first fault
abbrev pub reading : State → Scan → Result State JxFault
reading st s = then_on (run 128 st s.tokens) (unless_fault s.fault)

-- the fault of a text that is cut: that of the tokens before, or that of the cut
abbrev pub cut_by : ℕ → Option JxFault → Result State JxFault → JxFault
cut_by n f (Ok st) = cut_fault n f
cut_by n f (Err e) = e

-- the fault of a text that stops being UTF-8 at this place, from the tokens before it
abbrev pub cut_reading : ℕ → Scan → JxFault
cut_reading n s = cut_by n s.fault (run 128 (wants []) s.tokens)
