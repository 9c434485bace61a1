-- The grammar of JX: how an expression is written, as derivations over the tokens of a text.
use Rattle.std.specs.Prelude.{◌≡◌, ℕ, suc, ◌^◌, ◌<◌, ◌≤◌, max, Bool, true, false, nat_le, List, [], ◌∷◌, ◌++◌, length, Option, Some, None, ◌⊎◌}
use Rattle.jx_tokens.specs.declared.fault.JxFault.{JxFault}
use Rattle.jx_tokens.specs.declared.fault.JxFault.TheVariants.{NotUtf8, Unexpected, OpenText, FloatUnsupported, IntTooWide, TooDeep, TooLarge, Memory}
use Rattle.jx_tokens.specs.declared.token.Kind.{Kind}
use Rattle.jx_tokens.specs.declared.token.Kind.TheVariants as kind
use Rattle.jx_tokens.specs.declared.token.Token.{Token}
use Rattle.jx_tokens.specs.Tokens.{scan_of}
use Rattle.jx_syntax.specs.declared.operator.Operator.{Operator}
use Rattle.jx_syntax.specs.declared.operator.Operator.TheVariants as op
use Rattle.jx_syntax.specs.declared.operator.Sign.{Sign}
use Rattle.jx_syntax.specs.declared.operator.Sign.TheVariants as sign

-- what one token alone says
pub data Literal : Type 0 where
  null : Literal
  truth : Bool → Literal
  number : ℕ → Literal
  text : List ℕ → Literal

-- how an expression is written; the numbers are the places of its tokens, in order
mutual
  pub data Derivation : Type 0 where
    literal : ℕ → Literal → Derivation
    -- a minus and 9223372036854775808, which are one number
    least : ℕ → ℕ → Derivation
    name : ℕ → List ℕ → Derivation
    -- a call of no argument
    bare_call : ℕ → List ℕ → ℕ → ℕ → Derivation
    -- a call of the arguments before the last one, and of the last one
    call : ℕ → List ℕ → ℕ → Arguments → Derivation → ℕ → Derivation
    group : ℕ → Derivation → ℕ → Derivation
    -- a list of items that each have a comma behind them, perhaps of none
    list : ℕ → Items → ℕ → Derivation
    -- a list whose last item has no comma
    list_last : ℕ → Items → Item → ℕ → Derivation
    -- an object of pairs that each have a comma behind them, perhaps of none
    object : ℕ → Pairs → ℕ → Derivation
    -- an object whose last pair has no comma
    object_last : ℕ → Pairs → ℕ → List ℕ → ℕ → Derivation → ℕ → Derivation
    index : Derivation → ℕ → Derivation → ℕ → Derivation
    slice : Derivation → ℕ → Bound → ℕ → Bound → ℕ → Derivation
    signed : ℕ → Sign → Derivation → Derivation
    operation : ℕ → Operator → Derivation → Derivation → Derivation

  -- arguments, each with the comma behind it
  pub data Arguments : Type 0 where
    no_arguments : Arguments
    argument : Arguments → Derivation → ℕ → Arguments

  -- items of a list, each with the comma behind it
  pub data Items : Type 0 where
    no_items : Items
    item : Items → Item → ℕ → Items

  -- an expression, and perhaps loops behind it, each perhaps with a condition
  pub data Item : Type 0 where
    once : Derivation → Item
    -- `for`, a name, `in`, a list
    each : Item → ℕ → ℕ → List ℕ → ℕ → Derivation → Item
    -- `for`, a name, `in`, a list, `if`, a condition
    each_if : Item → ℕ → ℕ → List ℕ → ℕ → Derivation → ℕ → Derivation → Item

  -- keys, each with a colon, its value and the comma behind it
  pub data Pairs : Type 0 where
    no_pairs : Pairs
    pair : Pairs → ℕ → List ℕ → ℕ → Derivation → ℕ → Pairs

  -- an end of a slice, or nothing
  pub data Bound : Type 0 where
    open_end : Bound
    end_at : Derivation → Bound

-- ---- what may stand where

-- how tightly an operator binds: `or` 1, `and` 2, comparisons 4, sums 5, products 6
abbrev pub binds : Operator → ℕ
binds op.Or = 1
binds op.And = 2
binds op.Equal = 4
binds op.Unequal = 4
binds op.Less = 4
binds op.AtMost = 4
binds op.More = 4
binds op.AtLeast = 4
binds op.Add = 5
binds op.Subtract = 5
binds op.Multiply = 6
binds op.Divide = 6
binds op.Remainder = 6

-- how tightly its left operand binds at least: operators group to the left, but comparisons don't chain
abbrev pub binds_left : Operator → ℕ
binds_left op.Or = 1
binds_left op.And = 2
binds_left op.Equal = 5
binds_left op.Unequal = 5
binds_left op.Less = 5
binds_left op.AtMost = 5
binds_left op.More = 5
binds_left op.AtLeast = 5
binds_left op.Add = 5
binds_left op.Subtract = 5
binds_left op.Multiply = 6
binds_left op.Divide = 6
binds_left op.Remainder = 6

-- how tightly a sign and its operand bind: `not` 3, `-` and `+` 7
abbrev pub sign_binds : Sign → ℕ
sign_binds sign.Minus = 7
sign_binds sign.Plus = 7
sign_binds sign.Not = 3

-- a number without a sign is below 9223372036854775808
abbrev pub Fits : Literal → Type 0
Fits null = Unit {0}
Fits (truth b) = Unit {0}
Fits (number n) = n < 2 ^ 63
Fits (text t) = Unit {0}

-- the expression binds at least so tightly, and so does all within it; what is no operator binds most tightly
abbrev mutual
  pub IsOfLevel : ℕ → Derivation → Type 0
  IsOfLevel k (literal p l) = Fits l
  IsOfLevel k (least p q) = Unit {0}
  IsOfLevel k (name p x) = Unit {0}
  IsOfLevel k (bare_call p x from to) = Unit {0}
  IsOfLevel k (call p x from given d to) = AreArguments given × IsOfLevel 1 d
  IsOfLevel k (group from d to) = IsOfLevel 1 d
  IsOfLevel k (list from is to) = AreItems is
  IsOfLevel k (list_last from is i to) = AreItems is × IsItem i
  IsOfLevel k (object from ps to) = ArePairs ps
  IsOfLevel k (object_last from ps p key colon d to) = ArePairs ps × IsOfLevel 1 d
  IsOfLevel k (index d from i to) = IsOfLevel 8 d × IsOfLevel 1 i
  IsOfLevel k (slice d from a colon b to) = IsOfLevel 8 d × IsBound a × IsBound b
  IsOfLevel k (signed p s d) = (k ≤ sign_binds s) × IsOfLevel (sign_binds s) d
  IsOfLevel k (operation p o a b) = (k ≤ binds o) × IsOfLevel (binds_left o) a × IsOfLevel (suc (binds o)) b

  pub AreArguments : Arguments → Type 0
  AreArguments no_arguments = Unit {0}
  AreArguments (argument given d comma) = AreArguments given × IsOfLevel 1 d

  pub AreItems : Items → Type 0
  AreItems no_items = Unit {0}
  AreItems (item is i comma) = AreItems is × IsItem i

  pub IsItem : Item → Type 0
  IsItem (once d) = IsOfLevel 1 d
  IsItem (each i p q x r d) = IsItem i × IsOfLevel 1 d
  IsItem (each_if i p q x r d s c) = IsItem i × IsOfLevel 1 d × IsOfLevel 1 c

  pub ArePairs : Pairs → Type 0
  ArePairs no_pairs = Unit {0}
  ArePairs (pair ps p key colon d comma) = ArePairs ps × IsOfLevel 1 d

  pub IsBound : Bound → Type 0
  IsBound open_end = Unit {0}
  IsBound (end_at d) = IsOfLevel 1 d

-- ---- nesting

-- how many parentheses, brackets, braces and signs are open at its deepest place
abbrev mutual
  pub nests : Derivation → ℕ
  nests (literal p l) = 0
  nests (least p q) = 1
  nests (name p x) = 0
  nests (bare_call p x from to) = 1
  nests (call p x from given d to) = suc (max (arguments_nest given) (nests d))
  nests (group from d to) = suc (nests d)
  nests (list from is to) = suc (items_nest is)
  nests (list_last from is i to) = suc (max (items_nest is) (item_nests i))
  nests (object from ps to) = suc (pairs_nest ps)
  nests (object_last from ps p key colon d to) = suc (max (pairs_nest ps) (nests d))
  nests (index d from i to) = max (nests d) (suc (nests i))
  nests (slice d from a colon b to) = max (nests d) (suc (max (bound_nests a) (bound_nests b)))
  nests (signed p s d) = suc (nests d)
  nests (operation p o a b) = max (nests a) (nests b)

  pub arguments_nest : Arguments → ℕ
  arguments_nest no_arguments = 0
  arguments_nest (argument given d comma) = max (arguments_nest given) (nests d)

  pub items_nest : Items → ℕ
  items_nest no_items = 0
  items_nest (item is i comma) = max (items_nest is) (item_nests i)

  pub item_nests : Item → ℕ
  item_nests (once d) = nests d
  item_nests (each i p q x r d) = max (item_nests i) (nests d)
  item_nests (each_if i p q x r d s c) = max (item_nests i) (max (nests d) (nests c))

  pub pairs_nest : Pairs → ℕ
  pairs_nest no_pairs = 0
  pairs_nest (pair ps p key colon d comma) = max (pairs_nest ps) (nests d)

  pub bound_nests : Bound → ℕ
  bound_nests open_end = 0
  bound_nests (end_at d) = nests d

-- ---- spelling

-- the token of a literal
abbrev pub literal_kind : Literal → Kind
literal_kind null = kind.Null
literal_kind (truth true) = kind.True
literal_kind (truth false) = kind.False
literal_kind (number n) = kind.Number n
literal_kind (text t) = kind.Text t

-- the token of an operator
abbrev pub operator_kind : Operator → Kind
operator_kind op.Or = kind.Or
operator_kind op.And = kind.And
operator_kind op.Equal = kind.Equal
operator_kind op.Unequal = kind.Unequal
operator_kind op.Less = kind.Less
operator_kind op.AtMost = kind.AtMost
operator_kind op.More = kind.More
operator_kind op.AtLeast = kind.AtLeast
operator_kind op.Add = kind.Plus
operator_kind op.Subtract = kind.Minus
operator_kind op.Multiply = kind.Times
operator_kind op.Divide = kind.Over
operator_kind op.Remainder = kind.Rest

-- the token of a sign
abbrev pub sign_kind : Sign → Kind
sign_kind sign.Minus = kind.Minus
sign_kind sign.Plus = kind.Plus
sign_kind sign.Not = kind.Not

-- a token at a place
abbrev pub token : ℕ → Kind → Token
token place k = record { place = place; kind = k }

-- its tokens, in order, before those of the rest
abbrev mutual
  pub spells : Derivation → List Token → List Token
  spells (literal p l) rest = token p (literal_kind l) ∷ rest
  spells (least p q) rest = token p kind.Minus ∷ token q (kind.Number (2 ^ 63)) ∷ rest
  spells (name p x) rest = token p (kind.Name x) ∷ rest
  spells (bare_call p x from to) rest = token p (kind.Name x) ∷ token from kind.OpenGroup ∷ token to kind.CloseGroup ∷ rest
  spells (call p x from given d to) rest =
      token p (kind.Name x) ∷ token from kind.OpenGroup ∷ arguments_spell given (spells d (token to kind.CloseGroup ∷ rest))
  spells (group from d to) rest = token from kind.OpenGroup ∷ spells d (token to kind.CloseGroup ∷ rest)
  spells (list from is to) rest = token from kind.OpenList ∷ items_spell is (token to kind.CloseList ∷ rest)
  spells (list_last from is i to) rest = token from kind.OpenList ∷ items_spell is (item_spells i (token to kind.CloseList ∷ rest))
  spells (object from ps to) rest = token from kind.OpenObject ∷ pairs_spell ps (token to kind.CloseObject ∷ rest)
  spells (object_last from ps p key colon d to) rest =
      token from kind.OpenObject ∷ pairs_spell ps (token p (kind.Text key) ∷ token colon kind.Colon ∷ spells d (token to kind.CloseObject ∷ rest))
  spells (index d from i to) rest = spells d (token from kind.OpenList ∷ spells i (token to kind.CloseList ∷ rest))
  spells (slice d from a colon b to) rest =
      spells d (token from kind.OpenList ∷ bound_spells a (token colon kind.Colon ∷ bound_spells b (token to kind.CloseList ∷ rest)))
  spells (signed p s d) rest = token p (sign_kind s) ∷ spells d rest
  spells (operation p o a b) rest = spells a (token p (operator_kind o) ∷ spells b rest)

  pub arguments_spell : Arguments → List Token → List Token
  arguments_spell no_arguments rest = rest
  arguments_spell (argument given d comma) rest = arguments_spell given (spells d (token comma kind.Comma ∷ rest))

  pub items_spell : Items → List Token → List Token
  items_spell no_items rest = rest
  items_spell (item is i comma) rest = items_spell is (item_spells i (token comma kind.Comma ∷ rest))

  pub item_spells : Item → List Token → List Token
  item_spells (once d) rest = spells d rest
  item_spells (each i p q x r d) rest = item_spells i (token p kind.For ∷ token q (kind.Name x) ∷ token r kind.In ∷ spells d rest)
  item_spells (each_if i p q x r d s c) rest =
      item_spells i (token p kind.For ∷ token q (kind.Name x) ∷ token r kind.In ∷ spells d (token s kind.If ∷ spells c rest))

  pub pairs_spell : Pairs → List Token → List Token
  pairs_spell no_pairs rest = rest
  pairs_spell (pair ps p key colon d comma) rest =
      pairs_spell ps (token p (kind.Text key) ∷ token colon kind.Colon ∷ spells d (token comma kind.Comma ∷ rest))

  pub bound_spells : Bound → List Token → List Token
  bound_spells open_end rest = rest
  bound_spells (end_at d) rest = spells d rest

-- ---- whole texts

-- a whole expression that nests at most so deep
pub record IsSentence (limit : ℕ) (d : Derivation) : Type 0 where
  pub level : IsOfLevel 1 d
  pub nesting : nests d ≤ limit

-- some expression that nests at most so deep begins with the tokens
abbrev pub IsViable : ℕ → List Token → Type 0
IsViable limit tokens = (d : Derivation) × (more : List Token) × IsSentence limit d × (spells d [] ≡ tokens ++ more)

-- the tokens are this expression
abbrev pub Derives : List Token → Derivation → Type 0
Derives tokens d = IsSentence 128 d × (spells d [] ≡ tokens)

-- the tokens before this one begin an expression, and with it they begin none
pub record StopsAt (tokens : List Token) (t : Token) : Type 0 where
  pub before : List Token
  pub behind : List Token
  pub split : tokens ≡ before ++ t ∷ behind
  pub viable : IsViable 128 before
  pub stuck : IsViable 128 (before ++ t ∷ []) → ⊥

-- a number that needs a minus right before it
abbrev pub is_wide : Kind → Bool
is_wide (kind.Number n) = nat_le (2 ^ 63) n
is_wide k = false

-- why the tokens of a text of so many bytes are refused, where each of them is one
abbrev pub IsRefused : ℕ → List Token → JxFault → Type 0
IsRefused len tokens (Unexpected place) =
    ((t : Token) × (s : StopsAt tokens t) × (t.place ≡ place) × (is_wide t.kind ≡ false) × ((limit : ℕ) → IsViable limit (s.before ++ t ∷ []) → ⊥))
    ⊎ ((place ≡ len) × IsViable 128 tokens × ((d : Derivation) → Derives tokens d → ⊥))
IsRefused len tokens (TooDeep place) = (t : Token) × (s : StopsAt tokens t) × (t.place ≡ place) × (limit : ℕ) × IsViable limit (s.before ++ t ∷ [])
IsRefused len tokens (IntTooWide place) =
    (t : Token) × (s : StopsAt tokens t) × (t.place ≡ place) × (is_wide t.kind ≡ true) × ((limit : ℕ) → IsViable limit (s.before ++ t ∷ []) → ⊥)
IsRefused len tokens (NotUtf8 place) = ⊥
IsRefused len tokens (OpenText place) = ⊥
IsRefused len tokens (FloatUnsupported place) = ⊥
IsRefused len tokens TooLarge = ⊥
IsRefused len tokens Memory = ⊥

-- why a text of so many bytes is refused, from its tokens up to the first fault that they have: they stop before it, or that fault is theirs
abbrev pub Refusal : ℕ → List Token → Option JxFault → JxFault → Type 0
Refusal len tokens None e = IsRefused len tokens e
Refusal len tokens (Some f) e = (IsViable 128 tokens × (e ≡ f)) ⊎ (((t : Token) × StopsAt tokens t) × IsRefused len tokens e)

-- the text is this expression
abbrev pub IsWritten : List ℕ → Derivation → Type 0
IsWritten bytes d = Derives (scan_of bytes).tokens d × ((scan_of bytes).fault ≡ None)

-- why the text is no expression
abbrev pub IsNoExpression : List ℕ → JxFault → Type 0
IsNoExpression bytes e = Refusal (length bytes) (scan_of bytes).tokens (scan_of bytes).fault e
