-- Texts made of others.
use Rattle.std.specs.Prelude.{ℕ, Bool, true, false, ◌==◌, List, [], ◌∷◌, ◌++◌, Option, Some, None, Result, Ok, Err, if◌then◌else◌, codes}
use Rattle.std.specs.Fmt.{signed_decimal}
use Rattle.jx_syntax.specs.Written.{quoted}
use Rattle.jx_meaning.specs.declared.fault.EvalFault.{EvalFault}
use Rattle.jx_meaning.specs.declared.fault.EvalFault.TheVariants.{UnknownName, WrongKind, BadMark, ArgCount}
use Rattle.jx_meaning.specs.Values.{Value, Values, Pairs, null, truth, number, text, list, object, no_values, item, no_pairs, pair}
use Rattle.jx_meaning.specs.Numbers.{Answer}
use Rattle.jx_meaning.specs.Lists.{limited}

-- bytes, or a fault
abbrev pub Piece : Type 0
Piece = Result (List ℕ) EvalFault

-- these bytes, and what follows them
abbrev pub before : List ℕ → Piece → Piece
before bs (Ok more) = Ok (bs ++ more)
before bs (Err e) = Err e

-- the bytes as a text, where it may be built
abbrev pub made : ℕ → Piece → Answer
made at (Ok bs) = limited at (text bs)
made at (Err e) = Err e

-- ---- the text of a value

-- a comma before what follows, but not before the first piece
abbrev pub comma : Bool → List ℕ → List ℕ
comma true rest = rest
comma false rest = 44 ∷ rest

-- a value as JSON without blanks
unfoldable mutual
  -- a value
  pub written : Value → List ℕ
  written null = codes "null"
  written (truth t) = if t then codes "true" else codes "false"
  written (number z) = signed_decimal z
  written (text t) = quoted t
  written (list vs) = 91 ∷ (written_items true vs ++ 93 ∷ [])
  written (object ps) = 123 ∷ (written_pairs true ps ++ 125 ∷ [])

  -- the items, the first one without a comma
  pub written_items : Bool → Values → List ℕ
  written_items first no_values = []
  written_items first (item v vs) = comma first (written v ++ written_items false vs)

  -- the pairs, the first one without a comma
  pub written_pairs : Bool → Pairs → List ℕ
  written_pairs first no_pairs = []
  written_pairs first (pair k v ps) = comma first (quoted k ++ 58 ∷ (written v ++ written_pairs false ps))

-- a text as it is, another value as JSON
abbrev pub shown : Value → List ℕ
shown (text t) = t
shown v = written v

-- ---- join

-- a text before the texts of a list, where it is one and they are
abbrev pub also : Value → Option (List (List ℕ)) → Option (List (List ℕ))
also (text t) (Some ts) = Some (t ∷ ts)
also v ts = None

-- the texts of a list, or none where an item is no text
abbrev pub texts_of : List Value → Option (List (List ℕ))
texts_of [] = Some []
texts_of (v ∷ vs) = also v (texts_of vs)

-- texts, with this text between them
abbrev pub joined : List ℕ → List (List ℕ) → List ℕ
joined sep [] = []
joined sep (t ∷ []) = t
joined sep (t ∷ more) = t ++ (sep ++ joined sep more)

-- texts with this text between them, or the fault that one is none
abbrev pub join_texts : ℕ → List ℕ → Option (List (List ℕ)) → Answer
join_texts at sep None = Err (WrongKind at)
join_texts at sep (Some ts) = limited at (text (joined sep ts))

-- ---- format

-- what a mark behind a `%` stands for
pub data Mark : Type 0 where
  percent : Mark
  decimal : Mark
  any : Mark

-- what the character behind a `%` says
abbrev pub mark_of : ℕ → Option Mark
mark_of c = if c == 37 then Some percent else (if (c == 100) then Some decimal else (if c == 105 then Some decimal else (if c == 115 then Some any else None)))

-- the text of a number
abbrev pub number_text : ℕ → Value → Piece
number_text at (number z) = Ok (signed_decimal z)
number_text at v = Err (WrongKind at)

-- a piece, and what follows it
abbrev pub behind : Piece → (List ℕ → Piece) → Piece
behind (Ok bs) more = before bs (more bs)
behind (Err e) more = Err e

-- what a mark gives from the values that are left, and then what follows by the values left then
abbrev pub marked : ℕ → Option Mark → List Value → (List Value → Piece) → Piece
marked at None vs more = Err (BadMark at)
marked at (Some percent) vs more = before (37 ∷ []) (more vs)
marked at (Some decimal) [] more = Err (ArgCount at)
marked at (Some decimal) (v ∷ vs) more = behind (number_text at v) (λ bs. more vs)
marked at (Some any) [] more = Err (ArgCount at)
marked at (Some any) (v ∷ vs) more = before (shown v) (more vs)

-- nothing, or the fault that values are left over
abbrev pub all_used : ℕ → List Value → Piece
all_used at [] = Ok []
all_used at (v ∷ vs) = Err (ArgCount at)

-- a text with its marks replaced by values; the first argument says that a `%` stands right before
unfoldable pub formatted : Bool → ℕ → List ℕ → List Value → Piece
formatted true at [] vs = Err (BadMark at)
formatted false at [] vs = all_used at vs
formatted true at (c ∷ cs) vs = marked at (mark_of c) vs (formatted false at cs)
formatted false at (c ∷ cs) vs = before (if c == 37 then [] else c ∷ []) (formatted (c == 37) at cs vs)

-- ---- template

-- where in a template a place lies: outside of names, right behind an opening brace, within a name, right behind a closing brace
pub data Spot : Type 0 where
  outside : Spot
  opened : Spot
  naming : List ℕ → Spot
  closed : Spot

-- the bytes of a brace, or of any other character
pub data Brace : Type 0 where
  opening : Brace
  closing : Brace
  other : Brace

-- which brace a character is
abbrev pub brace_of : ℕ → Brace
brace_of c = if c == 123 then opening else (if c == 125 then closing else other)

-- the value that a name has
abbrev pub named : ℕ → Option Value → Piece
named at None = Err (UnknownName at)
named at (Some v) = Ok (shown v)

-- a template from such a place on, with the value of each name
unfoldable pub filled : ℕ → (List ℕ → Option Value) → Spot → List ℕ → Piece
filled at look outside [] = Ok []
filled at look spot [] = Err (BadMark at)
filled at look spot (c ∷ cs) = filled_by at look spot c (brace_of c) (λ next. filled at look next cs)
  where
    filled_by : ℕ → (List ℕ → Option Value) → Spot → ℕ → Brace → (Spot → Piece) → Piece
    filled_by at look outside c opening more = more opened
    filled_by at look outside c closing more = more closed
    filled_by at look outside c other more = before (c ∷ []) (more outside)
    filled_by at look opened c opening more = before (c ∷ []) (more outside)
    filled_by at look opened c closing more = behind (named at (look [])) (λ bs. more outside)
    filled_by at look opened c other more = more (naming (c ∷ []))
    filled_by at look (naming x) c opening more = Err (BadMark at)
    filled_by at look (naming x) c closing more = behind (named at (look x)) (λ bs. more outside)
    filled_by at look (naming x) c other more = more (naming (x ++ c ∷ []))
    filled_by at look closed c closing more = before (c ∷ []) (more outside)
    filled_by at look closed c b more = Err (BadMark at)
