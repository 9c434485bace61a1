-- Each expression is read as itself, whatever stands behind it.
use Rattle.std.proofs.Common.{◌≡◌, ℕ, suc, ◌+◌, ◌<◌, ◌≤◌, ◌^◌, true, false, List, [], ◌∷◌, Result, Ok, refl, sym, ap, ◌∙◌, arith}
use Rattle.std.proofs.lemmas.Bool.{lt-ltb, lt-leb, le-leb}
use Rattle.jx_tokens.specs.declared.fault.JxFault.{JxFault}
use Rattle.jx_tokens.specs.declared.token.Kind.{Kind}
use Rattle.jx_tokens.specs.declared.token.Kind.TheVariants as kind
use Rattle.jx_tokens.specs.declared.token.Token.{Token}
use Rattle.jx_syntax.specs.declared.operator.Operator.{Operator}
use Rattle.jx_syntax.specs.declared.operator.Operator.TheVariants as op
use Rattle.jx_syntax.specs.declared.operator.Sign.{Sign}
use Rattle.jx_syntax.specs.declared.operator.Sign.TheVariants as sign
use Rattle.jx_syntax.specs.Grammar.{Literal, null, truth, number, text, Derivation, literal, least, name, bare_call, call, group, list, list_last, object, object_last, index, slice, signed, operation, Arguments, no_arguments, argument, Items, no_items, item, Item, once, each, each_if, Pairs, no_pairs, pair, Bound, open_end, end_at, binds, binds_left, sign_binds, Fits, IsOfLevel, AreArguments, AreItems, IsItem, ArePairs, IsBound, nests, arguments_nest, items_nest, item_nests, pairs_nest, bound_nests, literal_kind, operator_kind, sign_kind, token, spells, arguments_spell, items_spell, item_spells, pairs_spell, bound_spells, IsSentence}
use Rattle.jx_syntax.specs.Reading.{Part, body, over, only, Frame, left, before, grouped, argued, listed, keyed, indexed, sliced, State, wants, has, wants_key, wants_colon, wants_name, wants_in, Move, goes, opens, level, depth, state_depth, reduce, completed, numbered, operated, ends_group, ends_list, ends_object, goes_on, slices, loops, selects, move, moved, then_on, run, alone, finished}

-- ---- levels

pub binds_most : (o : Operator) → (1 ≤ binds o) × (binds o ≤ 6) × (binds o ≤ binds_left o)
binds_most op.Or = (omega arith, omega arith, omega arith)
binds_most op.And = (omega arith, omega arith, omega arith)
binds_most op.Equal = (omega arith, omega arith, omega arith)
binds_most op.Unequal = (omega arith, omega arith, omega arith)
binds_most op.Less = (omega arith, omega arith, omega arith)
binds_most op.AtMost = (omega arith, omega arith, omega arith)
binds_most op.More = (omega arith, omega arith, omega arith)
binds_most op.AtLeast = (omega arith, omega arith, omega arith)
binds_most op.Add = (omega arith, omega arith, omega arith)
binds_most op.Subtract = (omega arith, omega arith, omega arith)
binds_most op.Multiply = (omega arith, omega arith, omega arith)
binds_most op.Divide = (omega arith, omega arith, omega arith)
binds_most op.Remainder = (omega arith, omega arith, omega arith)

-- what binds more tightly than a `not` is a comparison at least
pub behind_not : (o : Operator) → 3 ≤ binds o → 3 < binds_left o
behind_not op.Or h = omega arith
behind_not op.And h = omega arith
behind_not op.Equal h = omega arith
behind_not op.Unequal h = omega arith
behind_not op.Less h = omega arith
behind_not op.AtMost h = omega arith
behind_not op.More h = omega arith
behind_not op.AtLeast h = omega arith
behind_not op.Add h = omega arith
behind_not op.Subtract h = omega arith
behind_not op.Multiply h = omega arith
behind_not op.Divide h = omega arith
behind_not op.Remainder h = omega arith

pub sign_most : (s : Sign) → (1 ≤ sign_binds s) × (sign_binds s ≤ 7)
sign_most sign.Minus = (omega arith, omega arith)
sign_most sign.Plus = (omega arith, omega arith)
sign_most sign.Not = (omega arith, omega arith)

-- no expression has to bind more tightly than a signed one
pub level_most : (fs : List Frame) → (1 ≤ level fs) × (level fs ≤ 7)
level_most [] = (omega arith, omega arith)
level_most (left a p o ∷ fs) = let b = binds_most o in (omega (arith, b.0), omega (arith, b.1))
level_most (before p s ∷ fs) = sign_most s
level_most (grouped from ∷ fs) = (omega arith, omega arith)
level_most (argued p x from given ∷ fs) = (omega arith, omega arith)
level_most (listed from is part ∷ fs) = (omega arith, omega arith)
level_most (keyed from ps p key colon ∷ fs) = (omega arith, omega arith)
level_most (indexed d from ∷ fs) = (omega arith, omega arith)
level_most (sliced d from a colon ∷ fs) = (omega arith, omega arith)

-- what waits on top binds less tightly than the left operand of an operator that may stand there
sign_below : (s : Sign) (o : Operator) → sign_binds s ≤ binds o → sign_binds s < binds_left o
sign_below sign.Minus o h = absurd (let b = binds_most o in omega (arith, b.1))
sign_below sign.Plus o h = absurd (let b = binds_most o in omega (arith, b.1))
sign_below sign.Not o h = behind_not o h

-- nothing on top gets its operand yet
pub keeps : (o : Operator) (fs : List Frame) (x : Derivation) → level fs ≤ binds o → reduce (binds_left o) fs x ≡ (fs, x)
unfolding reduce
keeps o [] x h = refl
keeps o (left a p q ∷ fs) x h = let b = binds_most o in let lt : binds q < binds_left o = omega (arith, b.2, h) in rw (lt-leb (binds_left o) (binds q) lt) refl
keeps o (before p s ∷ fs) x h = rw (lt-leb (binds_left o) (sign_binds s) (sign_below s o h)) refl
keeps o (grouped from ∷ fs) x h = refl
keeps o (argued p y from given ∷ fs) x h = refl
keeps o (listed from is part ∷ fs) x h = refl
keeps o (keyed from ps p key colon ∷ fs) x h = refl
keeps o (indexed d from ∷ fs) x h = refl
keeps o (sliced d from a colon ∷ fs) x h = refl

-- ---- what waits once an expression was read

-- its last operators still wait for their right operand
abbrev pub pending : List Frame → Derivation → List Frame × Derivation
pending fs (signed p s d) = pending (before p s ∷ fs) d
pending fs (operation p o a b) = pending (left a p o ∷ fs) b
pending fs d = (fs, d)

-- they get it as soon as what follows binds less tightly
pub settles : (j k : ℕ) (fs : List Frame) (d : Derivation) → IsOfLevel k d → j ≤ k → reduce j (pending fs d).0 (pending fs d).1 ≡ reduce j fs d
unfolding reduce
settles j k fs (signed p s d) l h =
    settles j (sign_binds s) (before p s ∷ fs) d l.1 (omega (arith, h, l.0)) ∙ rw (le-leb j (sign_binds s) (omega (arith, h, l.0))) refl
settles j k fs (operation p o a b) l h =
    settles j (suc (binds o)) (left a p o ∷ fs) b l.2 (omega (arith, h, l.0)) ∙ rw (le-leb j (binds o) (omega (arith, h, l.0))) refl
settles j k fs d l h = refl

-- what binds most tightly doesn't wait
pub tight : (fs : List Frame) (d : Derivation) → IsOfLevel 8 d → pending fs d ≡ (fs, d)
tight fs (signed p s d) l = absurd (let b = sign_most s in omega (arith, b.1, l.0))
tight fs (operation p o a b) l = absurd (let t = binds_most o in omega (arith, t.1, l.0))
tight fs d l = refl

-- ---- steps

goes_step : (limit : ℕ) (st next : State) (p : ℕ) (k : Kind) (ts : List Token) → move st p k ≡ goes next → run limit st (token p k ∷ ts) ≡ run limit next ts
unfolding run
goes_step limit st next p k ts e = ap (λ (m : Move). then_on (moved limit (state_depth st) p k m) (λ n. run limit n ts)) e

opens_step : (limit : ℕ) (st next : State) (p : ℕ) (k : Kind) (ts : List Token) → state_depth st < limit → move st p k ≡ opens next → run limit st (token p k ∷ ts) ≡ run limit next ts
unfolding run
opens_step limit st next p k ts lt e = ap (λ (m : Move). then_on (moved limit (state_depth st) p k m) (λ n. run limit n ts)) e ∙ rw (lt-ltb (state_depth st) limit lt) refl

numbered_small : (fs : List Frame) (q n : ℕ) → n < 2 ^ 63 → numbered fs q n ≡ goes (has fs (literal q (number n)))
numbered_small (before p sign.Minus ∷ fs) q n h = rw (lt-ltb n (2 ^ 63) h) refl
numbered_small fs q n h = rw (lt-ltb n (2 ^ 63) h) refl

literal_move : (fs : List Frame) (p : ℕ) (l : Literal) → Fits l → move (wants fs) p (literal_kind l) ≡ goes (has fs (literal p l))
literal_move fs p null h = refl
literal_move fs p (truth true) h = refl
literal_move fs p (truth false) h = refl
literal_move fs p (number n) h = numbered_small fs p n h
literal_move fs p (text t) h = refl

sign_move : (fs : List Frame) (p : ℕ) (s : Sign) → level fs ≤ sign_binds s → move (wants fs) p (sign_kind s) ≡ opens (wants (before p s ∷ fs))
sign_move fs p sign.Minus h = rw (le-leb (level fs) 7 h) refl
sign_move fs p sign.Plus h = rw (le-leb (level fs) 7 h) refl
sign_move fs p sign.Not h = rw (le-leb (level fs) 3 h) refl

operator_move : (fs : List Frame) (x : Derivation) (p : ℕ) (o : Operator) → move (has fs x) p (operator_kind o) ≡ operated p o (reduce (binds_left o) fs x)
operator_move fs x p op.Or = refl
operator_move fs x p op.And = refl
operator_move fs x p op.Equal = refl
operator_move fs x p op.Unequal = refl
operator_move fs x p op.Less = refl
operator_move fs x p op.AtMost = refl
operator_move fs x p op.More = refl
operator_move fs x p op.AtLeast = refl
operator_move fs x p op.Add = refl
operator_move fs x p op.Subtract = refl
operator_move fs x p op.Multiply = refl
operator_move fs x p op.Divide = refl
operator_move fs x p op.Remainder = refl

-- behind a left operand, its operator
left_move : (fs : List Frame) (a : Derivation) (p : ℕ) (o : Operator) → IsOfLevel (binds_left o) a → level fs ≤ binds o
    → move (has (pending fs a).0 (pending fs a).1) p (operator_kind o) ≡ goes (wants (left a p o ∷ fs))
left_move fs a p o l h =
    operator_move (pending fs a).0 (pending fs a).1 p o
    ∙ ap (operated p o) (settles (binds_left o) (binds_left o) fs a l (omega arith) ∙ keeps o fs a h)
    ∙ rw (le-leb (level fs) (binds o) h) refl

-- ---- items

abbrev pub part_of : Item → Part
part_of (once d) = body
part_of (each i p q x r d) = over i p q x r
part_of (each_if i p q x r d s c) = only i p q x r d s

abbrev pub last_of : Item → Derivation
last_of (once d) = d
last_of (each i p q x r d) = d
last_of (each_if i p q x r d s c) = c

pub is_completed : (i : Item) → completed (part_of i) (last_of i) ≡ i
is_completed (once d) = refl
is_completed (each i p q x r d) = refl
is_completed (each_if i p q x r d s c) = refl

last_level : (i : Item) → IsItem i → IsOfLevel 1 (last_of i)
last_level (once d) h = h
last_level (each i p q x r d) h = h.1
last_level (each_if i p q x r d s c) h = h.2

-- the item is read when its last part is
item_settles : (from : ℕ) (is : Items) (fs : List Frame) (i : Item) → IsItem i
    → reduce 1 (pending (listed from is (part_of i) ∷ fs) (last_of i)).0 (pending (listed from is (part_of i) ∷ fs) (last_of i)).1 ≡ (listed from is (part_of i) ∷ fs, last_of i)
unfolding reduce
item_settles from is fs i h = settles 1 1 (listed from is (part_of i) ∷ fs) (last_of i) (last_level i h) (omega arith)

-- ---- expressions

mutual
  unfolding reduce

  pub reads : (limit k : ℕ) (fs : List Frame) (d : Derivation) (rest : List Token) → IsOfLevel k d → level fs ≤ k → depth fs + nests d ≤ limit
      → run limit (wants fs) (spells d rest) ≡ run limit (has (pending fs d).0 (pending fs d).1) rest
  reads limit k fs (literal p l) rest h le deep = goes_step limit (wants fs) (has fs (literal p l)) p (literal_kind l) rest (literal_move fs p l h)
  reads limit k fs (least p q) rest h le deep =
      opens_step limit (wants fs) (wants (before p sign.Minus ∷ fs)) p kind.Minus (token q (kind.Number (2 ^ 63)) ∷ rest) (omega arith) (sign_move fs p sign.Minus (level_most fs).1)
      ∙ goes_step limit (wants (before p sign.Minus ∷ fs)) (has fs (least p q)) q (kind.Number (2 ^ 63)) rest refl
  reads limit k fs (name p x) rest h le deep = goes_step limit (wants fs) (has fs (name p x)) p (kind.Name x) rest refl
  reads limit k fs (bare_call p x from to) rest h le deep =
      goes_step limit (wants fs) (has fs (name p x)) p (kind.Name x) (token from kind.OpenGroup ∷ token to kind.CloseGroup ∷ rest) refl
      ∙ opens_step limit (has fs (name p x)) (wants (argued p x from no_arguments ∷ fs)) from kind.OpenGroup (token to kind.CloseGroup ∷ rest) (omega arith) refl
      ∙ goes_step limit (wants (argued p x from no_arguments ∷ fs)) (has fs (bare_call p x from to)) to kind.CloseGroup rest refl
  reads limit k fs (call p x from given d to) rest h le deep =
      let close : List Token = token to kind.CloseGroup ∷ rest in
      let top : List Frame = argued p x from given ∷ fs in
      goes_step limit (wants fs) (has fs (name p x)) p (kind.Name x) (token from kind.OpenGroup ∷ arguments_spell given (spells d close)) refl
      ∙ opens_step limit (has fs (name p x)) (wants (argued p x from no_arguments ∷ fs)) from kind.OpenGroup (arguments_spell given (spells d close)) (omega arith) refl
      ∙ reads_arguments limit fs p x from given (spells d close) h.0 (omega arith)
      ∙ reads limit 1 top d close h.1 (omega arith) (omega arith)
      ∙ goes_step limit (has (pending top d).0 (pending top d).1) (has fs (call p x from given d to)) to kind.CloseGroup rest (ap (ends_group to) (settles 1 1 top d h.1 (omega arith)))
  reads limit k fs (group from d to) rest h le deep =
      let close : List Token = token to kind.CloseGroup ∷ rest in
      let top : List Frame = grouped from ∷ fs in
      opens_step limit (wants fs) (wants top) from kind.OpenGroup (spells d close) (omega arith) refl
      ∙ reads limit 1 top d close h (omega arith) (omega arith)
      ∙ goes_step limit (has (pending top d).0 (pending top d).1) (has fs (group from d to)) to kind.CloseGroup rest (ap (ends_group to) (settles 1 1 top d h (omega arith)))
  reads limit k fs (list from is to) rest h le deep =
      let close : List Token = token to kind.CloseList ∷ rest in
      opens_step limit (wants fs) (wants (listed from no_items body ∷ fs)) from kind.OpenList (items_spell is close) (omega arith) refl
      ∙ reads_items limit fs from is close h (omega arith)
      ∙ goes_step limit (wants (listed from is body ∷ fs)) (has fs (list from is to)) to kind.CloseList rest refl
  reads limit k fs (list_last from is i to) rest h le deep =
      let close : List Token = token to kind.CloseList ∷ rest in
      let top : List Frame = listed from is (part_of i) ∷ fs in
      opens_step limit (wants fs) (wants (listed from no_items body ∷ fs)) from kind.OpenList (items_spell is (item_spells i close)) (omega arith) refl
      ∙ reads_items limit fs from is (item_spells i close) h.0 (omega arith)
      ∙ reads_item limit fs from is i close h.1 (omega arith)
      ∙ goes_step limit (has (pending top (last_of i)).0 (pending top (last_of i)).1) (has fs (list_last from is i to)) to kind.CloseList rest
      (ap (ends_list to) (item_settles from is fs i h.1) ∙ ap (λ (j : Item). goes (has fs (list_last from is j to))) (is_completed i))
  reads limit k fs (object from ps to) rest h le deep =
      let close : List Token = token to kind.CloseObject ∷ rest in
      opens_step limit (wants fs) (wants_key fs from no_pairs) from kind.OpenObject (pairs_spell ps close) (omega arith) refl
      ∙ reads_pairs limit fs from ps close h (omega arith)
      ∙ goes_step limit (wants_key fs from ps) (has fs (object from ps to)) to kind.CloseObject rest refl
  reads limit k fs (object_last from ps p key colon d to) rest h le deep =
      let close : List Token = token to kind.CloseObject ∷ rest in
      let top : List Frame = keyed from ps p key colon ∷ fs in
      opens_step limit (wants fs) (wants_key fs from no_pairs) from kind.OpenObject (pairs_spell ps (token p (kind.Text key) ∷ token colon kind.Colon ∷ spells d close)) (omega arith) refl
      ∙ reads_pairs limit fs from ps (token p (kind.Text key) ∷ token colon kind.Colon ∷ spells d close) h.0 (omega arith)
      ∙ goes_step limit (wants_key fs from ps) (wants_colon fs from ps p key) p (kind.Text key) (token colon kind.Colon ∷ spells d close) refl
      ∙ goes_step limit (wants_colon fs from ps p key) (wants top) colon kind.Colon (spells d close) refl
      ∙ reads limit 1 top d close h.1 (omega arith) (omega arith)
      ∙ goes_step limit (has (pending top d).0 (pending top d).1) (has fs (object_last from ps p key colon d to)) to kind.CloseObject rest (ap (ends_object to) (settles 1 1 top d h.1 (omega arith)))
  reads limit k fs (index d from i to) rest h le deep =
      let close : List Token = token to kind.CloseList ∷ rest in
      let top : List Frame = indexed d from ∷ fs in
      let most = level_most fs in
      reads limit 8 fs d (token from kind.OpenList ∷ spells i close) h.0 (omega (arith, most.1)) (omega arith)
      ∙ ap (λ (r : List Frame × Derivation). run limit (has r.0 r.1) (token from kind.OpenList ∷ spells i close)) (tight fs d h.0)
      ∙ opens_step limit (has fs d) (wants top) from kind.OpenList (spells i close) (omega arith) refl
      ∙ reads limit 1 top i close h.1 (omega arith) (omega arith)
      ∙ goes_step limit (has (pending top i).0 (pending top i).1) (has fs (index d from i to)) to kind.CloseList rest (ap (ends_list to) (settles 1 1 top i h.1 (omega arith)))
  reads limit k fs (slice d from a colon b to) rest h le deep =
      let close : List Token = token to kind.CloseList ∷ rest in
      let last : List Token = token colon kind.Colon ∷ bound_spells b close in
      let most = level_most fs in
      reads limit 8 fs d (token from kind.OpenList ∷ bound_spells a last) h.0 (omega (arith, most.1)) (omega arith)
      ∙ ap (λ (r : List Frame × Derivation). run limit (has r.0 r.1) (token from kind.OpenList ∷ bound_spells a last)) (tight fs d h.0)
      ∙ opens_step limit (has fs d) (wants (indexed d from ∷ fs)) from kind.OpenList (bound_spells a last) (omega arith) refl
      ∙ reads_first limit fs d from a colon (bound_spells b close) h.1 (omega arith)
      ∙ reads_end limit fs d from a colon b to rest h.2 (omega arith)
  reads limit k fs (signed p s d) rest h le deep =
      opens_step limit (wants fs) (wants (before p s ∷ fs)) p (sign_kind s) (spells d rest) (omega arith) (sign_move fs p s (omega (arith, h.0)))
      ∙ reads limit (sign_binds s) (before p s ∷ fs) d rest h.1 (omega arith) (omega arith)
  reads limit k fs (operation p o a b) rest h le deep =
      let most = binds_most o in
      reads limit (binds_left o) fs a (token p (operator_kind o) ∷ spells b rest) h.1 (omega (arith, most.2, h.0)) (omega arith)
      ∙ goes_step limit (has (pending fs a).0 (pending fs a).1) (wants (left a p o ∷ fs)) p (operator_kind o) (spells b rest) (left_move fs a p o h.1 (omega (arith, h.0)))
      ∙ reads limit (suc (binds o)) (left a p o ∷ fs) b rest h.2 (omega arith) (omega arith)

  reads_arguments : (limit : ℕ) (fs : List Frame) (p : ℕ) (x : List ℕ) (from : ℕ) (given : Arguments) (rest : List Token) → AreArguments given → suc (depth fs) + arguments_nest given ≤ limit
      → run limit (wants (argued p x from no_arguments ∷ fs)) (arguments_spell given rest) ≡ run limit (wants (argued p x from given ∷ fs)) rest
  reads_arguments limit fs p x from no_arguments rest h deep = refl
  reads_arguments limit fs p x from (argument given d comma) rest h deep =
      let more : List Token = token comma kind.Comma ∷ rest in
      let top : List Frame = argued p x from given ∷ fs in
      reads_arguments limit fs p x from given (spells d more) h.0 (omega arith)
      ∙ reads limit 1 top d more h.1 (omega arith) (omega arith)
      ∙ goes_step limit (has (pending top d).0 (pending top d).1) (wants (argued p x from (argument given d comma) ∷ fs)) comma kind.Comma rest (ap (goes_on comma) (settles 1 1 top d h.1 (omega arith)))

  reads_items : (limit : ℕ) (fs : List Frame) (from : ℕ) (is : Items) (rest : List Token) → AreItems is → suc (depth fs) + items_nest is ≤ limit
      → run limit (wants (listed from no_items body ∷ fs)) (items_spell is rest) ≡ run limit (wants (listed from is body ∷ fs)) rest
  reads_items limit fs from no_items rest h deep = refl
  reads_items limit fs from (item is i comma) rest h deep =
      let more : List Token = token comma kind.Comma ∷ rest in
      let top : List Frame = listed from is (part_of i) ∷ fs in
      reads_items limit fs from is (item_spells i more) h.0 (omega arith)
      ∙ reads_item limit fs from is i more h.1 (omega arith)
      ∙ goes_step limit (has (pending top (last_of i)).0 (pending top (last_of i)).1) (wants (listed from (item is i comma) body ∷ fs)) comma kind.Comma rest
      (ap (goes_on comma) (item_settles from is fs i h.1) ∙ ap (λ (j : Item). goes (wants (listed from (item is j comma) body ∷ fs))) (is_completed i))

  reads_item : (limit : ℕ) (fs : List Frame) (from : ℕ) (is : Items) (i : Item) (rest : List Token) → IsItem i → suc (depth fs) + item_nests i ≤ limit
      → run limit (wants (listed from is body ∷ fs)) (item_spells i rest) ≡ run limit (has (pending (listed from is (part_of i) ∷ fs) (last_of i)).0 (pending (listed from is (part_of i) ∷ fs) (last_of i)).1) rest
  reads_item limit fs from is (once d) rest h deep = reads limit 1 (listed from is body ∷ fs) d rest h (omega arith) (omega arith)
  reads_item limit fs from is (each i p q x r d) rest h deep =
      let old : List Frame = listed from is (part_of i) ∷ fs in
      let top : List Frame = listed from is (over i p q x r) ∷ fs in
      let more : List Token = token q (kind.Name x) ∷ token r kind.In ∷ spells d rest in
      reads_item limit fs from is i (token p kind.For ∷ more) h.0 (omega arith)
      ∙ goes_step limit (has (pending old (last_of i)).0 (pending old (last_of i)).1) (wants_name fs from is i p) p kind.For more
      (ap (loops p) (item_settles from is fs i h.0) ∙ ap (λ (j : Item). goes (wants_name fs from is j p)) (is_completed i))
      ∙ goes_step limit (wants_name fs from is i p) (wants_in fs from is i p q x) q (kind.Name x) (token r kind.In ∷ spells d rest) refl
      ∙ goes_step limit (wants_in fs from is i p q x) (wants top) r kind.In (spells d rest) refl
      ∙ reads limit 1 top d rest h.1 (omega arith) (omega arith)
  reads_item limit fs from is (each_if i p q x r d s c) rest h deep =
      let old : List Frame = listed from is (part_of i) ∷ fs in
      let top : List Frame = listed from is (over i p q x r) ∷ fs in
      let last : List Frame = listed from is (only i p q x r d s) ∷ fs in
      let test : List Token = token s kind.If ∷ spells c rest in
      let more : List Token = token q (kind.Name x) ∷ token r kind.In ∷ spells d test in
      reads_item limit fs from is i (token p kind.For ∷ more) h.0 (omega arith)
      ∙ goes_step limit (has (pending old (last_of i)).0 (pending old (last_of i)).1) (wants_name fs from is i p) p kind.For more
      (ap (loops p) (item_settles from is fs i h.0) ∙ ap (λ (j : Item). goes (wants_name fs from is j p)) (is_completed i))
      ∙ goes_step limit (wants_name fs from is i p) (wants_in fs from is i p q x) q (kind.Name x) (token r kind.In ∷ spells d test) refl
      ∙ goes_step limit (wants_in fs from is i p q x) (wants top) r kind.In (spells d test) refl
      ∙ reads limit 1 top d test h.1 (omega arith) (omega arith)
      ∙ goes_step limit (has (pending top d).0 (pending top d).1) (wants last) s kind.If (spells c rest) (ap (selects s) (settles 1 1 top d h.1 (omega arith)))
      ∙ reads limit 1 last c rest h.2 (omega arith) (omega arith)

  reads_pairs : (limit : ℕ) (fs : List Frame) (from : ℕ) (ps : Pairs) (rest : List Token) → ArePairs ps → suc (depth fs) + pairs_nest ps ≤ limit
      → run limit (wants_key fs from no_pairs) (pairs_spell ps rest) ≡ run limit (wants_key fs from ps) rest
  reads_pairs limit fs from no_pairs rest h deep = refl
  reads_pairs limit fs from (pair ps p key colon d comma) rest h deep =
      let more : List Token = token comma kind.Comma ∷ rest in
      let top : List Frame = keyed from ps p key colon ∷ fs in
      reads_pairs limit fs from ps (token p (kind.Text key) ∷ token colon kind.Colon ∷ spells d more) h.0 (omega arith)
      ∙ goes_step limit (wants_key fs from ps) (wants_colon fs from ps p key) p (kind.Text key) (token colon kind.Colon ∷ spells d more) refl
      ∙ goes_step limit (wants_colon fs from ps p key) (wants top) colon kind.Colon (spells d more) refl
      ∙ reads limit 1 top d more h.1 (omega arith) (omega arith)
      ∙ goes_step limit (has (pending top d).0 (pending top d).1) (wants_key fs from (pair ps p key colon d comma)) comma kind.Comma rest (ap (goes_on comma) (settles 1 1 top d h.1 (omega arith)))

  reads_first : (limit : ℕ) (fs : List Frame) (x : Derivation) (from : ℕ) (a : Bound) (colon : ℕ) (rest : List Token) → IsBound a → suc (depth fs) + bound_nests a ≤ limit
      → run limit (wants (indexed x from ∷ fs)) (bound_spells a (token colon kind.Colon ∷ rest)) ≡ run limit (wants (sliced x from a colon ∷ fs)) rest
  reads_first limit fs x from open_end colon rest h deep = goes_step limit (wants (indexed x from ∷ fs)) (wants (sliced x from open_end colon ∷ fs)) colon kind.Colon rest refl
  reads_first limit fs x from (end_at d) colon rest h deep =
      let top : List Frame = indexed x from ∷ fs in
      reads limit 1 top d (token colon kind.Colon ∷ rest) h (omega arith) (omega arith)
      ∙ goes_step limit (has (pending top d).0 (pending top d).1) (wants (sliced x from (end_at d) colon ∷ fs)) colon kind.Colon rest (ap (slices colon) (settles 1 1 top d h (omega arith)))

  reads_end : (limit : ℕ) (fs : List Frame) (x : Derivation) (from : ℕ) (a : Bound) (colon : ℕ) (b : Bound) (to : ℕ) (rest : List Token) → IsBound b → suc (depth fs) + bound_nests b ≤ limit
      → run limit (wants (sliced x from a colon ∷ fs)) (bound_spells b (token to kind.CloseList ∷ rest)) ≡ run limit (has fs (slice x from a colon b to)) rest
  reads_end limit fs x from a colon open_end to rest h deep = goes_step limit (wants (sliced x from a colon ∷ fs)) (has fs (slice x from a colon open_end to)) to kind.CloseList rest refl
  reads_end limit fs x from a colon (end_at d) to rest h deep =
      let top : List Frame = sliced x from a colon ∷ fs in
      reads limit 1 top d (token to kind.CloseList ∷ rest) h (omega arith) (omega arith)
      ∙ goes_step limit (has (pending top d).0 (pending top d).1) (has fs (slice x from a colon (end_at d) to)) to kind.CloseList rest (ap (ends_list to) (settles 1 1 top d h (omega arith)))

-- each whole expression is read as itself
pub sentence_is_read : (limit len : ℕ) (d : Derivation) → IsSentence limit d → then_on (run limit (wants []) (spells d [])) (finished len) ≡ Ok d
unfolding run reduce
sentence_is_read limit len d h =
    ap (λ (r : Result State JxFault). then_on r (finished len)) (reads limit 1 [] d [] h.level (omega arith) (omega (arith, h.nesting)))
    ∙ ap (alone len) (settles 1 1 [] d h.level (omega arith))

ok_is : (d e : Derivation) → (let r : Result Derivation JxFault = Ok d in r) ≡ Ok e → d ≡ e
ok_is d e h = cc

pub unambiguous : (limit : ℕ) (d e : Derivation) → IsSentence limit d → IsSentence limit e → spells d [] ≡ spells e [] → d ≡ e
unambiguous limit d e h g same =
    ok_is d e (sym (sentence_is_read limit 0 d h) ∙ ap (λ (ts : List Token). then_on (run limit (wants []) ts) (finished 0)) same ∙ sentence_is_read limit 0 e g)
