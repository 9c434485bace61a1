-- What is read is what the state holds, and it can still become an expression.
use Rattle.std.proofs.Common.{◌≡◌, ℕ, suc, ◌+◌, ◌≤◌, ◌^◌, true, false, nat_lt, nat_le, List, [], ◌∷◌, ◌++◌, refl, ap, ◌∙◌, arith, max, inl, inr}
use Rattle.std.proofs.lemmas.Bool.Decides.{leb_tells}
use Rattle.jx_tokens.specs.declared.token.Kind.{Kind}
use Rattle.jx_tokens.specs.declared.token.Kind.TheVariants as kind
use Rattle.jx_tokens.specs.declared.token.Token.{Token}
use Rattle.jx_syntax.specs.declared.operator.Operator.{Operator}
use Rattle.jx_syntax.specs.declared.operator.Operator.TheVariants as op
use Rattle.jx_syntax.specs.declared.operator.Sign.{Sign}
use Rattle.jx_syntax.specs.declared.operator.Sign.TheVariants as sign
use Rattle.jx_syntax.specs.Grammar.{Literal, null, truth, number, text, Derivation, literal, least, name, bare_call, call, group, list, list_last, object, object_last, index, slice, signed, operation, Arguments, no_arguments, argument, Items, no_items, item, Item, once, each, each_if, Pairs, no_pairs, pair, Bound, open_end, end_at, binds, binds_left, sign_binds, Fits, IsOfLevel, AreArguments, AreItems, IsItem, ArePairs, IsBound, nests, arguments_nest, items_nest, item_nests, pairs_nest, bound_nests, literal_kind, operator_kind, sign_kind, token, spells, arguments_spell, items_spell, item_spells, pairs_spell, bound_spells, IsViable}
use Rattle.jx_syntax.specs.Reading.{Part, body, over, only, Frame, left, before, grouped, argued, listed, keyed, indexed, sliced, State, wants, has, wants_key, wants_colon, wants_name, wants_in, Move, stuck, goes, opens, level, depth, state_depth, reduce, completed, when, signs, numbered, closes_call, closes_list, begins_slice, wanted, operated, operates, begins_call, ends_group, ends_list, ends_object, goes_on, slices, loops, selects, had, key_wanted, colon_wanted, name_wanted, in_wanted, move}

-- ---- what a state holds

abbrev part_spells : Part → List Token → List Token
part_spells body rest = rest
part_spells (over i p q x r) rest = item_spells i (token p kind.For ∷ token q (kind.Name x) ∷ token r kind.In ∷ rest)
part_spells (only i p q x r d s) rest = item_spells i (token p kind.For ∷ token q (kind.Name x) ∷ token r kind.In ∷ spells d (token s kind.If ∷ rest))

-- the tokens of a stack before the rest
abbrev pub front : List Frame → List Token → List Token
front [] rest = rest
front (left a p o ∷ fs) rest = front fs (spells a (token p (operator_kind o) ∷ rest))
front (before p s ∷ fs) rest = front fs (token p (sign_kind s) ∷ rest)
front (grouped from ∷ fs) rest = front fs (token from kind.OpenGroup ∷ rest)
front (argued p x from given ∷ fs) rest = front fs (token p (kind.Name x) ∷ token from kind.OpenGroup ∷ arguments_spell given rest)
front (listed from is part ∷ fs) rest = front fs (token from kind.OpenList ∷ items_spell is (part_spells part rest))
front (keyed from ps p key colon ∷ fs) rest = front fs (token from kind.OpenObject ∷ pairs_spell ps (token p (kind.Text key) ∷ token colon kind.Colon ∷ rest))
front (indexed d from ∷ fs) rest = front fs (spells d (token from kind.OpenList ∷ rest))
front (sliced d from a colon ∷ fs) rest = front fs (spells d (token from kind.OpenList ∷ bound_spells a (token colon kind.Colon ∷ rest)))

-- the tokens of a state before the rest
abbrev pub seen : State → List Token → List Token
seen (wants fs) rest = front fs rest
seen (has fs x) rest = front fs (spells x rest)
seen (wants_key fs from ps) rest = front fs (token from kind.OpenObject ∷ pairs_spell ps rest)
seen (wants_colon fs from ps p key) rest = front fs (token from kind.OpenObject ∷ pairs_spell ps (token p (kind.Text key) ∷ rest))
seen (wants_name fs from is i p) rest = front fs (token from kind.OpenList ∷ items_spell is (item_spells i (token p kind.For ∷ rest)))
seen (wants_in fs from is i p q x) rest = front fs (token from kind.OpenList ∷ items_spell is (item_spells i (token p kind.For ∷ token q (kind.Name x) ∷ rest)))

abbrev IsPart : Part → Type 0
IsPart body = Unit {0}
IsPart (over i p q x r) = IsItem i
IsPart (only i p q x r d s) = IsItem i × IsOfLevel 1 d

abbrev part_nests : Part → ℕ
part_nests body = 0
part_nests (over i p q x r) = item_nests i
part_nests (only i p q x r d s) = max (item_nests i) (nests d)

-- each expression that waits may stand where it does
abbrev pub IsGood : List Frame → Type 0
IsGood [] = Unit {0}
IsGood (left a p o ∷ fs) = IsOfLevel (binds_left o) a × (level fs ≤ binds o) × IsGood fs
IsGood (before p s ∷ fs) = (level fs ≤ sign_binds s) × IsGood fs
IsGood (grouped from ∷ fs) = IsGood fs
IsGood (argued p x from given ∷ fs) = AreArguments given × IsGood fs
IsGood (listed from is part ∷ fs) = AreItems is × IsPart part × IsGood fs
IsGood (keyed from ps p key colon ∷ fs) = ArePairs ps × IsGood fs
IsGood (indexed d from ∷ fs) = IsOfLevel 8 d × IsGood fs
IsGood (sliced d from a colon ∷ fs) = IsOfLevel 8 d × IsBound a × IsGood fs

abbrev pub GoodState : State → Type 0
GoodState (wants fs) = IsGood fs
GoodState (has fs x) = ((k : ℕ) → IsOfLevel k x) × IsGood fs
GoodState (wants_key fs from ps) = ArePairs ps × IsGood fs
GoodState (wants_colon fs from ps p key) = ArePairs ps × IsGood fs
GoodState (wants_name fs from is i p) = AreItems is × IsItem i × IsGood fs
GoodState (wants_in fs from is i p q x) = AreItems is × IsItem i × IsGood fs

-- how deep what was read is at its deepest place
abbrev pub needs : List Frame → ℕ
needs [] = 0
needs (left a p o ∷ fs) = max (needs fs) (depth fs + nests a)
needs (before p s ∷ fs) = max (needs fs) (suc (depth fs))
needs (grouped from ∷ fs) = max (needs fs) (suc (depth fs))
needs (argued p x from given ∷ fs) = max (needs fs) (suc (depth fs) + arguments_nest given)
needs (listed from is part ∷ fs) = max (needs fs) (suc (depth fs) + max (items_nest is) (part_nests part))
needs (keyed from ps p key colon ∷ fs) = max (needs fs) (suc (depth fs) + pairs_nest ps)
needs (indexed d from ∷ fs) = max (needs fs) (max (depth fs + nests d) (suc (depth fs)))
needs (sliced d from a colon ∷ fs) = max (needs fs) (max (depth fs + nests d) (suc (depth fs) + bound_nests a))

abbrev pub state_needs : State → ℕ
state_needs (wants fs) = needs fs
state_needs (has fs x) = max (needs fs) (depth fs + nests x)
state_needs (wants_key fs from ps) = max (needs fs) (suc (depth fs) + pairs_nest ps)
state_needs (wants_colon fs from ps p key) = max (needs fs) (suc (depth fs) + pairs_nest ps)
state_needs (wants_name fs from is i p) = max (needs fs) (suc (depth fs) + max (items_nest is) (item_nests i))
state_needs (wants_in fs from is i p q x) = max (needs fs) (suc (depth fs) + max (items_nest is) (item_nests i))

pub depth_needed : (fs : List Frame) → depth fs ≤ needs fs
depth_needed [] = omega arith
depth_needed (left a p o ∷ fs) = let h = depth_needed fs in omega (arith, h)
depth_needed (before p s ∷ fs) = omega arith
depth_needed (grouped from ∷ fs) = omega arith
depth_needed (argued p x from given ∷ fs) = omega arith
depth_needed (listed from is part ∷ fs) = omega arith
depth_needed (keyed from ps p key colon ∷ fs) = omega arith
depth_needed (indexed d from ∷ fs) = omega arith
depth_needed (sliced d from a colon ∷ fs) = omega arith

pub state_depth_needed : (st : State) → state_depth st ≤ state_needs st
state_depth_needed (wants fs) = depth_needed fs
state_depth_needed (has fs x) = let h = depth_needed fs in omega (arith, h)
state_depth_needed (wants_key fs from ps) = omega arith
state_depth_needed (wants_colon fs from ps p key) = omega arith
state_depth_needed (wants_name fs from is i p) = omega arith
state_depth_needed (wants_in fs from is i p q x) = omega arith

-- ---- items

completed_is : (part : Part) (x : Derivation) → IsPart part → IsOfLevel 1 x → IsItem (completed part x)
completed_is body x h l = l
completed_is (over i p q y r) x h l = (h, l)
completed_is (only i p q y r d s) x h l = (h.0, h.1, l)

completed_spells : (part : Part) (x : Derivation) (rest : List Token) → item_spells (completed part x) rest ≡ part_spells part (spells x rest)
completed_spells body x rest = refl
completed_spells (over i p q y r) x rest = refl
completed_spells (only i p q y r d s) x rest = refl

completed_nests : (part : Part) (x : Derivation) → item_nests (completed part x) ≡ max (part_nests part) (nests x)
completed_nests body x = omega arith
completed_nests (over i p q y r) x = refl
completed_nests (only i p q y r d s) x = omega arith

-- ---- every good state can still become an expression

pub record Completes (fs : List Frame) (x : Derivation) : Type 0 where
  pub whole : Derivation
  pub more : List Token
  pub level : IsOfLevel 1 whole
  pub nesting : nests whole ≤ max (needs fs) (depth fs + nests x)
  pub same : spells whole [] ≡ front fs (spells x more)

pub completes : (fs : List Frame) (x : Derivation) → IsGood fs → IsOfLevel (level fs) x → Completes fs x
completes [] x g l = record { whole = x; more = []; level = l; nesting = omega arith; same = refl }
completes (left a p o ∷ fs) x g l =
    let r = completes fs (operation p o a x) g.2 (g.1, g.0, l) in
    record { whole = r.whole; more = r.more; level = r.level; nesting = omega (arith, r.nesting); same = r.same }
completes (before p s ∷ fs) x g l =
    let r = completes fs (signed p s x) g.1 (g.0, l) in
    record { whole = r.whole; more = r.more; level = r.level; nesting = omega (arith, r.nesting); same = r.same }
completes (grouped from ∷ fs) x g l =
    let r = completes fs (group from x 0) g l in
    record { whole = r.whole; more = token 0 kind.CloseGroup ∷ r.more; level = r.level; nesting = omega (arith, r.nesting); same = r.same }
completes (argued p n from given ∷ fs) x g l =
    let r = completes fs (call p n from given x 0) g.1 (g.0, l) in
    record { whole = r.whole; more = token 0 kind.CloseGroup ∷ r.more; level = r.level; nesting = omega (arith, r.nesting); same = r.same }
completes (listed from is part ∷ fs) x g l =
    let r = completes fs (list_last from is (completed part x) 0) g.2 (g.0, completed_is part x g.1 l) in
    let e = completed_nests part x in
    record {
      whole = r.whole;
      more = token 0 kind.CloseList ∷ r.more;
      level = r.level;
      nesting = omega (arith, r.nesting, e);
      same = r.same ∙ ap (λ (ts : List Token). front fs (token from kind.OpenList ∷ items_spell is ts)) (completed_spells part x (token 0 kind.CloseList ∷ r.more));
    }
completes (keyed from ps p key colon ∷ fs) x g l =
    let r = completes fs (object_last from ps p key colon x 0) g.1 (g.0, l) in
    record { whole = r.whole; more = token 0 kind.CloseObject ∷ r.more; level = r.level; nesting = omega (arith, r.nesting); same = r.same }
completes (indexed d from ∷ fs) x g l =
    let r = completes fs (index d from x 0) g.1 (g.0, l) in
    record { whole = r.whole; more = token 0 kind.CloseList ∷ r.more; level = r.level; nesting = omega (arith, r.nesting); same = r.same }
completes (sliced d from a colon ∷ fs) x g l =
    let r = completes fs (slice d from a colon (end_at x) 0) g.2 (g.0, g.1, l) in
    record { whole = r.whole; more = token 0 kind.CloseList ∷ r.more; level = r.level; nesting = omega (arith, r.nesting); same = r.same }

pub record CompletesState (st : State) : Type 0 where
  pub whole : Derivation
  pub more : List Token
  pub level : IsOfLevel 1 whole
  pub nesting : nests whole ≤ state_needs st
  pub same : spells whole [] ≡ seen st more

abbrev some : Derivation
some = literal 0 null

pub completes_state : (st : State) → GoodState st → CompletesState st
completes_state (wants fs) g =
    let r = completes fs some g tt in
    let d = depth_needed fs in
    record { whole = r.whole; more = token 0 kind.Null ∷ r.more; level = r.level; nesting = omega (arith, r.nesting, d); same = r.same }
completes_state (has fs x) g =
    let r = completes fs x g.1 (g.0 (level fs)) in
    record { whole = r.whole; more = r.more; level = r.level; nesting = r.nesting; same = r.same }
completes_state (wants_key fs from ps) g =
    let r = completes fs (object from ps 0) g.1 g.0 in
    record { whole = r.whole; more = token 0 kind.CloseObject ∷ r.more; level = r.level; nesting = omega (arith, r.nesting); same = r.same }
completes_state (wants_colon fs from ps p key) g =
    let r = completes fs (object_last from ps p key 0 some 0) g.1 (g.0, tt) in
    record { whole = r.whole; more = token 0 kind.Colon ∷ token 0 kind.Null ∷ token 0 kind.CloseObject ∷ r.more; level = r.level; nesting = omega (arith, r.nesting); same = r.same }
completes_state (wants_name fs from is i p) g =
    let r = completes fs (list_last from is (each i p 0 (120 ∷ []) 0 some) 0) g.2 (g.0, (g.1, tt)) in
    record { whole = r.whole; more = token 0 (kind.Name (120 ∷ [])) ∷ token 0 kind.In ∷ token 0 kind.Null ∷ token 0 kind.CloseList ∷ r.more; level = r.level; nesting = omega (arith, r.nesting); same = r.same }
completes_state (wants_in fs from is i p q x) g =
    let r = completes fs (list_last from is (each i p q x 0 some) 0) g.2 (g.0, (g.1, tt)) in
    record { whole = r.whole; more = token 0 kind.In ∷ token 0 kind.Null ∷ token 0 kind.CloseList ∷ r.more; level = r.level; nesting = omega (arith, r.nesting); same = r.same }

-- ---- what stands behind

mutual
  spells_more : (d : Derivation) (xs ys : List Token) → spells d (xs ++ ys) ≡ spells d xs ++ ys
  spells_more (literal p l) xs ys = refl
  spells_more (least p q) xs ys = refl
  spells_more (name p x) xs ys = refl
  spells_more (bare_call p x from to) xs ys = refl
  spells_more (call p x from given d to) xs ys =
      ap (λ ts. token p (kind.Name x) ∷ token from kind.OpenGroup ∷ ts)
      (ap (arguments_spell given) (spells_more d (token to kind.CloseGroup ∷ xs) ys) ∙ arguments_spell_more given (spells d (token to kind.CloseGroup ∷ xs)) ys)
  spells_more (group from d to) xs ys = ap (λ ts. token from kind.OpenGroup ∷ ts) (spells_more d (token to kind.CloseGroup ∷ xs) ys)
  spells_more (list from is to) xs ys = ap (λ ts. token from kind.OpenList ∷ ts) (items_spell_more is (token to kind.CloseList ∷ xs) ys)
  spells_more (list_last from is i to) xs ys =
      ap (λ ts. token from kind.OpenList ∷ ts)
      (ap (items_spell is) (item_spells_more i (token to kind.CloseList ∷ xs) ys) ∙ items_spell_more is (item_spells i (token to kind.CloseList ∷ xs)) ys)
  spells_more (object from ps to) xs ys = ap (λ ts. token from kind.OpenObject ∷ ts) (pairs_spell_more ps (token to kind.CloseObject ∷ xs) ys)
  spells_more (object_last from ps p key colon d to) xs ys =
      ap (λ ts. token from kind.OpenObject ∷ ts)
      (ap (λ ts. pairs_spell ps (token p (kind.Text key) ∷ token colon kind.Colon ∷ ts)) (spells_more d (token to kind.CloseObject ∷ xs) ys)
      ∙ pairs_spell_more ps (token p (kind.Text key) ∷ token colon kind.Colon ∷ spells d (token to kind.CloseObject ∷ xs)) ys)
  spells_more (index d from i to) xs ys =
      ap (λ ts. spells d (token from kind.OpenList ∷ ts)) (spells_more i (token to kind.CloseList ∷ xs) ys)
      ∙ spells_more d (token from kind.OpenList ∷ spells i (token to kind.CloseList ∷ xs)) ys
  spells_more (slice d from a colon b to) xs ys =
      let close : List Token = token to kind.CloseList ∷ xs in
      ap (λ ts. spells d (token from kind.OpenList ∷ bound_spells a (token colon kind.Colon ∷ ts))) (bound_spells_more b close ys)
      ∙ ap (λ ts. spells d (token from kind.OpenList ∷ ts)) (bound_spells_more a (token colon kind.Colon ∷ bound_spells b close) ys)
      ∙ spells_more d (token from kind.OpenList ∷ bound_spells a (token colon kind.Colon ∷ bound_spells b close)) ys
  spells_more (signed p s d) xs ys = ap (λ ts. token p (sign_kind s) ∷ ts) (spells_more d xs ys)
  spells_more (operation p o a b) xs ys =
      ap (λ ts. spells a (token p (operator_kind o) ∷ ts)) (spells_more b xs ys) ∙ spells_more a (token p (operator_kind o) ∷ spells b xs) ys

  arguments_spell_more : (given : Arguments) (xs ys : List Token) → arguments_spell given (xs ++ ys) ≡ arguments_spell given xs ++ ys
  arguments_spell_more no_arguments xs ys = refl
  arguments_spell_more (argument given d comma) xs ys =
      ap (arguments_spell given) (spells_more d (token comma kind.Comma ∷ xs) ys) ∙ arguments_spell_more given (spells d (token comma kind.Comma ∷ xs)) ys

  items_spell_more : (is : Items) (xs ys : List Token) → items_spell is (xs ++ ys) ≡ items_spell is xs ++ ys
  items_spell_more no_items xs ys = refl
  items_spell_more (item is i comma) xs ys =
      ap (items_spell is) (item_spells_more i (token comma kind.Comma ∷ xs) ys) ∙ items_spell_more is (item_spells i (token comma kind.Comma ∷ xs)) ys

  item_spells_more : (i : Item) (xs ys : List Token) → item_spells i (xs ++ ys) ≡ item_spells i xs ++ ys
  item_spells_more (once d) xs ys = spells_more d xs ys
  item_spells_more (each i p q x r d) xs ys =
      ap (λ ts. item_spells i (token p kind.For ∷ token q (kind.Name x) ∷ token r kind.In ∷ ts)) (spells_more d xs ys)
      ∙ item_spells_more i (token p kind.For ∷ token q (kind.Name x) ∷ token r kind.In ∷ spells d xs) ys
  item_spells_more (each_if i p q x r d s c) xs ys =
      ap (λ ts. item_spells i (token p kind.For ∷ token q (kind.Name x) ∷ token r kind.In ∷ spells d (token s kind.If ∷ ts))) (spells_more c xs ys)
      ∙ ap (λ ts. item_spells i (token p kind.For ∷ token q (kind.Name x) ∷ token r kind.In ∷ ts)) (spells_more d (token s kind.If ∷ spells c xs) ys)
      ∙ item_spells_more i (token p kind.For ∷ token q (kind.Name x) ∷ token r kind.In ∷ spells d (token s kind.If ∷ spells c xs)) ys

  pairs_spell_more : (ps : Pairs) (xs ys : List Token) → pairs_spell ps (xs ++ ys) ≡ pairs_spell ps xs ++ ys
  pairs_spell_more no_pairs xs ys = refl
  pairs_spell_more (pair ps p key colon d comma) xs ys =
      ap (λ ts. pairs_spell ps (token p (kind.Text key) ∷ token colon kind.Colon ∷ ts)) (spells_more d (token comma kind.Comma ∷ xs) ys)
      ∙ pairs_spell_more ps (token p (kind.Text key) ∷ token colon kind.Colon ∷ spells d (token comma kind.Comma ∷ xs)) ys

  bound_spells_more : (b : Bound) (xs ys : List Token) → bound_spells b (xs ++ ys) ≡ bound_spells b xs ++ ys
  bound_spells_more open_end xs ys = refl
  bound_spells_more (end_at d) xs ys = spells_more d xs ys

part_spells_more : (part : Part) (xs ys : List Token) → part_spells part (xs ++ ys) ≡ part_spells part xs ++ ys
part_spells_more body xs ys = refl
part_spells_more (over i p q x r) xs ys = item_spells_more i (token p kind.For ∷ token q (kind.Name x) ∷ token r kind.In ∷ xs) ys
part_spells_more (only i p q x r d s) xs ys =
    ap (λ ts. item_spells i (token p kind.For ∷ token q (kind.Name x) ∷ token r kind.In ∷ ts)) (spells_more d (token s kind.If ∷ xs) ys)
    ∙ item_spells_more i (token p kind.For ∷ token q (kind.Name x) ∷ token r kind.In ∷ spells d (token s kind.If ∷ xs)) ys

front_more : (fs : List Frame) (xs ys : List Token) → front fs (xs ++ ys) ≡ front fs xs ++ ys
front_more [] xs ys = refl
front_more (left a p o ∷ fs) xs ys =
    ap (front fs) (spells_more a (token p (operator_kind o) ∷ xs) ys) ∙ front_more fs (spells a (token p (operator_kind o) ∷ xs)) ys
front_more (before p s ∷ fs) xs ys = front_more fs (token p (sign_kind s) ∷ xs) ys
front_more (grouped from ∷ fs) xs ys = front_more fs (token from kind.OpenGroup ∷ xs) ys
front_more (argued p x from given ∷ fs) xs ys =
    ap (λ ts. front fs (token p (kind.Name x) ∷ token from kind.OpenGroup ∷ ts)) (arguments_spell_more given xs ys)
    ∙ front_more fs (token p (kind.Name x) ∷ token from kind.OpenGroup ∷ arguments_spell given xs) ys
front_more (listed from is part ∷ fs) xs ys =
    ap (λ ts. front fs (token from kind.OpenList ∷ ts)) (ap (items_spell is) (part_spells_more part xs ys) ∙ items_spell_more is (part_spells part xs) ys)
    ∙ front_more fs (token from kind.OpenList ∷ items_spell is (part_spells part xs)) ys
front_more (keyed from ps p key colon ∷ fs) xs ys =
    ap (λ ts. front fs (token from kind.OpenObject ∷ ts)) (pairs_spell_more ps (token p (kind.Text key) ∷ token colon kind.Colon ∷ xs) ys)
    ∙ front_more fs (token from kind.OpenObject ∷ pairs_spell ps (token p (kind.Text key) ∷ token colon kind.Colon ∷ xs)) ys
front_more (indexed d from ∷ fs) xs ys =
    ap (front fs) (spells_more d (token from kind.OpenList ∷ xs) ys) ∙ front_more fs (spells d (token from kind.OpenList ∷ xs)) ys
front_more (sliced d from a colon ∷ fs) xs ys =
    ap (λ ts. front fs (spells d (token from kind.OpenList ∷ ts))) (bound_spells_more a (token colon kind.Colon ∷ xs) ys)
    ∙ ap (front fs) (spells_more d (token from kind.OpenList ∷ bound_spells a (token colon kind.Colon ∷ xs)) ys)
    ∙ front_more fs (spells d (token from kind.OpenList ∷ bound_spells a (token colon kind.Colon ∷ xs))) ys

pub seen_more : (st : State) (xs ys : List Token) → seen st (xs ++ ys) ≡ seen st xs ++ ys
seen_more (wants fs) xs ys = front_more fs xs ys
seen_more (has fs x) xs ys = ap (front fs) (spells_more x xs ys) ∙ front_more fs (spells x xs) ys
seen_more (wants_key fs from ps) xs ys =
    ap (λ ts. front fs (token from kind.OpenObject ∷ ts)) (pairs_spell_more ps xs ys) ∙ front_more fs (token from kind.OpenObject ∷ pairs_spell ps xs) ys
seen_more (wants_colon fs from ps p key) xs ys =
    ap (λ ts. front fs (token from kind.OpenObject ∷ ts)) (pairs_spell_more ps (token p (kind.Text key) ∷ xs) ys)
    ∙ front_more fs (token from kind.OpenObject ∷ pairs_spell ps (token p (kind.Text key) ∷ xs)) ys
seen_more (wants_name fs from is i p) xs ys =
    ap (λ ts. front fs (token from kind.OpenList ∷ ts))
    (ap (items_spell is) (item_spells_more i (token p kind.For ∷ xs) ys) ∙ items_spell_more is (item_spells i (token p kind.For ∷ xs)) ys)
    ∙ front_more fs (token from kind.OpenList ∷ items_spell is (item_spells i (token p kind.For ∷ xs))) ys
seen_more (wants_in fs from is i p q x) xs ys =
    ap (λ ts. front fs (token from kind.OpenList ∷ ts))
    (ap (items_spell is) (item_spells_more i (token p kind.For ∷ token q (kind.Name x) ∷ xs) ys) ∙ items_spell_more is (item_spells i (token p kind.For ∷ token q (kind.Name x) ∷ xs)) ys)
    ∙ front_more fs (token from kind.OpenList ∷ items_spell is (item_spells i (token p kind.For ∷ token q (kind.Name x) ∷ xs))) ys

-- what a good state has read begins an expression
pub viable : (limit : ℕ) (st : State) → GoodState st → state_needs st ≤ limit → IsViable limit (seen st [])
viable limit st g le =
    let r = completes_state st g in
    (r.whole, r.more, record { level = r.level; nesting = omega (arith, le, r.nesting) }, r.same ∙ seen_more st [] r.more)

-- ---- operands

pub record IsReduced (k : ℕ) (fs : List Frame) (x : Derivation) (r : List Frame × Derivation) : Type 0 where
  pub good : IsGood r.0
  pub fits : IsOfLevel (level r.0) r.1
  pub level : IsOfLevel k r.1
  pub nesting : max (needs r.0) (depth r.0 + nests r.1) ≤ max (needs fs) (depth fs + nests x)
  pub same : (rest : List Token) → front r.0 (spells r.1 rest) ≡ front fs (spells x rest)

abbrev unreduced : (k : ℕ) (fs : List Frame) (x : Derivation) → IsGood fs → IsOfLevel (level fs) x → IsOfLevel k x → IsReduced k fs x (fs, x)
unreduced k fs x g f l = record { good = g; fits = f; level = l; nesting = omega arith; same = λ rest. refl }

pub reduced : (k : ℕ) (fs : List Frame) (x : Derivation) → IsGood fs → IsOfLevel (level fs) x → IsOfLevel k x → IsReduced k fs x (reduce k fs x)
unfolding reduce
reduced k (left a p o ∷ fs) x g f l = elim (leb_tells k (binds o)) [
  | inl t ↦
      let r = reduced k fs (operation p o a x) g.2 (g.1, g.0, f) (t.1, g.0, f) in
      rw t.0 (record { good = r.good; fits = r.fits; level = r.level; nesting = omega (arith, r.nesting); same = r.same })
  | inr t ↦ rw t.0 (unreduced k (left a p o ∷ fs) x g f l)
]
reduced k (before p s ∷ fs) x g f l = elim (leb_tells k (sign_binds s)) [
  | inl t ↦
      let r = reduced k fs (signed p s x) g.1 (g.0, f) (t.1, f) in
      rw t.0 (record { good = r.good; fits = r.fits; level = r.level; nesting = omega (arith, r.nesting); same = r.same })
  | inr t ↦ rw t.0 (unreduced k (before p s ∷ fs) x g f l)
]
reduced k [] x g f l = unreduced k [] x g f l
reduced k (grouped from ∷ fs) x g f l = unreduced k (grouped from ∷ fs) x g f l
reduced k (argued p n from given ∷ fs) x g f l = unreduced k (argued p n from given ∷ fs) x g f l
reduced k (listed from is part ∷ fs) x g f l = unreduced k (listed from is part ∷ fs) x g f l
reduced k (keyed from ps p key colon ∷ fs) x g f l = unreduced k (keyed from ps p key colon ∷ fs) x g f l
reduced k (indexed d from ∷ fs) x g f l = unreduced k (indexed d from ∷ fs) x g f l
reduced k (sliced d from a colon ∷ fs) x g f l = unreduced k (sliced d from a colon ∷ fs) x g f l

-- ---- each move keeps the state good, and takes the token

pub record Takes (st : State) (p : ℕ) (k : Kind) (deepest : ℕ) (next : State) : Type 0 where
  pub good : GoodState next
  pub same : (rest : List Token) → seen next rest ≡ seen st (token p k ∷ rest)
  pub nesting : state_needs next ≤ deepest

abbrev pub Follows : State → ℕ → Kind → Move → Type 0
Follows st p k stuck = Unit {0}
Follows st p k (goes next) = Takes st p k (state_needs st) next
Follows st p k (opens next) = Takes st p k (max (state_needs st) (suc (state_depth st))) next

literal_follows : (fs : List Frame) (p : ℕ) (l : Literal) → IsGood fs → Fits l → Takes (wants fs) p (literal_kind l) (needs fs) (has fs (literal p l))
literal_follows fs p l g f = let d = depth_needed fs in record { good = ((λ k. f), g); same = λ rest. refl; nesting = omega (arith, d) }

signs_follows : (fs : List Frame) (p : ℕ) (s : Sign) → IsGood fs → Follows (wants fs) p (sign_kind s) (signs fs p s)
signs_follows fs p s g = elim (leb_tells (level fs) (sign_binds s)) [
  | inl t ↦ rw t.0 (record { good = (t.1, g); same = λ rest. refl; nesting = omega arith })
  | inr t ↦ rw t.0 tt
]

small_follows : (fs : List Frame) (q n : ℕ) → IsGood fs → Follows (wants fs) q (kind.Number n) (when (nat_lt n (2 ^ 63)) (goes (has fs (literal q (number n)))))
small_follows fs q n g = elim (leb_tells (suc n) (2 ^ 63)) [
  | inl t ↦ rw t.0 (literal_follows fs q (number n) g t.1)
  | inr t ↦ rw t.0 tt
]

least_follows : (fs : List Frame) (p q n : ℕ) → IsGood (before p sign.Minus ∷ fs) → 2 ^ 63 ≤ n → Follows (wants (before p sign.Minus ∷ fs)) q (kind.Number n) (when (nat_le n (2 ^ 63)) (goes (has fs (least p q))))
least_follows fs p q n g le = elim (leb_tells n (2 ^ 63)) [
  | inl t ↦
      let e : 2 ^ 63 ≡ n = omega (arith, t.1, le) in
      rw t.0 (record { good = ((λ k. tt), g.1); same = λ rest. ap (λ (m : ℕ). front fs (token p kind.Minus ∷ token q (kind.Number m) ∷ rest)) e; nesting = omega arith })
  | inr t ↦ rw t.0 tt
]

numbered_follows : (fs : List Frame) (q n : ℕ) → IsGood fs → Follows (wants fs) q (kind.Number n) (numbered fs q n)
numbered_follows (before p sign.Minus ∷ fs) q n g = elim (leb_tells (suc n) (2 ^ 63)) [
  | inl t ↦ rw t.0 (literal_follows (before p sign.Minus ∷ fs) q (number n) g t.1)
  | inr t ↦ rw t.0 (least_follows fs p q n g (omega (arith, t.1)))
]
numbered_follows fs q n g = small_follows fs q n g

closes_call_follows : (fs : List Frame) (to : ℕ) → IsGood fs → Follows (wants fs) to kind.CloseGroup (closes_call fs to)
closes_call_follows (argued p x from no_arguments ∷ fs) to g = record { good = ((λ k. tt), g.1); same = λ rest. refl; nesting = omega arith }
closes_call_follows fs to g = tt

closes_list_follows : (fs : List Frame) (to : ℕ) → IsGood fs → Follows (wants fs) to kind.CloseList (closes_list fs to)
closes_list_follows (listed from is body ∷ fs) to g = record { good = ((λ k. g.0), g.2); same = λ rest. refl; nesting = omega arith }
closes_list_follows (sliced d from a colon ∷ fs) to g = record { good = ((λ k. (g.0, g.1, tt)), g.2); same = λ rest. refl; nesting = omega arith }
closes_list_follows fs to g = tt

begins_slice_follows : (fs : List Frame) (p : ℕ) → IsGood fs → Follows (wants fs) p kind.Colon (begins_slice fs p)
begins_slice_follows (indexed d from ∷ fs) p g = record { good = (g.0, tt, g.1); same = λ rest. refl; nesting = omega arith }
begins_slice_follows fs p g = tt

wanted_follows : (fs : List Frame) (p : ℕ) (k : Kind) → IsGood fs → Follows (wants fs) p k (wanted fs p k)
wanted_follows fs p kind.Null g = literal_follows fs p null g tt
wanted_follows fs p kind.True g = literal_follows fs p (truth true) g tt
wanted_follows fs p kind.False g = literal_follows fs p (truth false) g tt
wanted_follows fs p (kind.Number n) g = numbered_follows fs p n g
wanted_follows fs p (kind.Text t) g = literal_follows fs p (text t) g tt
wanted_follows fs p (kind.Name x) g = let d = depth_needed fs in record { good = ((λ k. tt), g); same = λ rest. refl; nesting = omega (arith, d) }
wanted_follows fs p kind.Minus g = signs_follows fs p sign.Minus g
wanted_follows fs p kind.Plus g = signs_follows fs p sign.Plus g
wanted_follows fs p kind.Not g = signs_follows fs p sign.Not g
wanted_follows fs p kind.OpenGroup g = record { good = g; same = λ rest. refl; nesting = omega arith }
wanted_follows fs p kind.OpenList g = record { good = (tt, tt, g); same = λ rest. refl; nesting = omega arith }
wanted_follows fs p kind.OpenObject g = record { good = (tt, g); same = λ rest. refl; nesting = omega arith }
wanted_follows fs p kind.CloseGroup g = closes_call_follows fs p g
wanted_follows fs p kind.CloseList g = closes_list_follows fs p g
wanted_follows fs p kind.Colon g = begins_slice_follows fs p g
wanted_follows fs p k g = tt

operated_follows : (fs : List Frame) (x : Derivation) (p : ℕ) (o : Operator) (r : List Frame × Derivation) → IsReduced (binds_left o) fs x r → Follows (has fs x) p (operator_kind o) (operated p o r)
operated_follows fs x p o (gs, y) r = elim (leb_tells (level gs) (binds o)) [
  | inl t ↦ rw t.0 (record { good = (r.level, t.1, r.good); same = λ rest. r.same (token p (operator_kind o) ∷ rest); nesting = omega (arith, r.nesting) })
  | inr t ↦ rw t.0 tt
]

operates_follows : (fs : List Frame) (x : Derivation) (p : ℕ) (o : Operator) → GoodState (has fs x) → Follows (has fs x) p (operator_kind o) (operates fs x p o)
operates_follows fs x p o g = operated_follows fs x p o (reduce (binds_left o) fs x) (reduced (binds_left o) fs x g.1 (g.0 (level fs)) (g.0 (binds_left o)))

begins_call_follows : (fs : List Frame) (x : Derivation) (from : ℕ) → GoodState (has fs x) → Follows (has fs x) from kind.OpenGroup (begins_call fs x from)
begins_call_follows fs (name p x) from g = record { good = (tt, g.1); same = λ rest. refl; nesting = omega arith }
begins_call_follows fs x from g = tt

ends_group_follows : (fs : List Frame) (x : Derivation) (to : ℕ) (r : List Frame × Derivation) → IsReduced 1 fs x r → Follows (has fs x) to kind.CloseGroup (ends_group to r)
ends_group_follows fs x to (grouped from ∷ gs, y) r = record { good = ((λ k. r.level), r.good); same = λ rest. r.same (token to kind.CloseGroup ∷ rest); nesting = omega (arith, r.nesting) }
ends_group_follows fs x to (argued p n from given ∷ gs, y) r = record { good = ((λ k. (r.good.0, r.level)), r.good.1); same = λ rest. r.same (token to kind.CloseGroup ∷ rest); nesting = omega (arith, r.nesting) }
ends_group_follows fs x to (gs, y) r = tt

ends_list_follows : (fs : List Frame) (x : Derivation) (to : ℕ) (r : List Frame × Derivation) → IsReduced 1 fs x r → Follows (has fs x) to kind.CloseList (ends_list to r)
ends_list_follows fs x to (listed from is part ∷ gs, y) r =
    let e = completed_nests part y in
    record {
      good = ((λ k. (r.good.0, completed_is part y r.good.1 r.level)), r.good.2);
      same = λ rest. ap (λ (ts : List Token). front gs (token from kind.OpenList ∷ items_spell is ts)) (completed_spells part y (token to kind.CloseList ∷ rest)) ∙ r.same (token to kind.CloseList ∷ rest);
      nesting = omega (arith, r.nesting, e);
    }
ends_list_follows fs x to (indexed d from ∷ gs, y) r = record { good = ((λ k. (r.good.0, r.level)), r.good.1); same = λ rest. r.same (token to kind.CloseList ∷ rest); nesting = omega (arith, r.nesting) }
ends_list_follows fs x to (sliced d from a colon ∷ gs, y) r = record { good = ((λ k. (r.good.0, r.good.1, r.level)), r.good.2); same = λ rest. r.same (token to kind.CloseList ∷ rest); nesting = omega (arith, r.nesting) }
ends_list_follows fs x to (gs, y) r = tt

ends_object_follows : (fs : List Frame) (x : Derivation) (to : ℕ) (r : List Frame × Derivation) → IsReduced 1 fs x r → Follows (has fs x) to kind.CloseObject (ends_object to r)
ends_object_follows fs x to (keyed from ps p key colon ∷ gs, y) r = record { good = ((λ k. (r.good.0, r.level)), r.good.1); same = λ rest. r.same (token to kind.CloseObject ∷ rest); nesting = omega (arith, r.nesting) }
ends_object_follows fs x to (gs, y) r = tt

goes_on_follows : (fs : List Frame) (x : Derivation) (comma : ℕ) (r : List Frame × Derivation) → IsReduced 1 fs x r → Follows (has fs x) comma kind.Comma (goes_on comma r)
goes_on_follows fs x comma (argued p n from given ∷ gs, y) r = record { good = ((r.good.0, r.level), r.good.1); same = λ rest. r.same (token comma kind.Comma ∷ rest); nesting = omega (arith, r.nesting) }
goes_on_follows fs x comma (listed from is part ∷ gs, y) r =
    let e = completed_nests part y in
    record {
      good = ((r.good.0, completed_is part y r.good.1 r.level), tt, r.good.2);
      same = λ rest. ap (λ (ts : List Token). front gs (token from kind.OpenList ∷ items_spell is ts)) (completed_spells part y (token comma kind.Comma ∷ rest)) ∙ r.same (token comma kind.Comma ∷ rest);
      nesting = omega (arith, r.nesting, e);
    }
goes_on_follows fs x comma (keyed from ps p key colon ∷ gs, y) r = record { good = ((r.good.0, r.level), r.good.1); same = λ rest. r.same (token comma kind.Comma ∷ rest); nesting = omega (arith, r.nesting) }
goes_on_follows fs x comma (gs, y) r = tt

slices_follows : (fs : List Frame) (x : Derivation) (p : ℕ) (r : List Frame × Derivation) → IsReduced 1 fs x r → Follows (has fs x) p kind.Colon (slices p r)
slices_follows fs x p (indexed d from ∷ gs, y) r = record { good = (r.good.0, r.level, r.good.1); same = λ rest. r.same (token p kind.Colon ∷ rest); nesting = omega (arith, r.nesting) }
slices_follows fs x p (gs, y) r = tt

loops_follows : (fs : List Frame) (x : Derivation) (p : ℕ) (r : List Frame × Derivation) → IsReduced 1 fs x r → Follows (has fs x) p kind.For (loops p r)
loops_follows fs x p (listed from is part ∷ gs, y) r =
    let e = completed_nests part y in
    record {
      good = (r.good.0, completed_is part y r.good.1 r.level, r.good.2);
      same = λ rest. ap (λ (ts : List Token). front gs (token from kind.OpenList ∷ items_spell is ts)) (completed_spells part y (token p kind.For ∷ rest)) ∙ r.same (token p kind.For ∷ rest);
      nesting = omega (arith, r.nesting, e);
    }
loops_follows fs x p (gs, y) r = tt

selects_follows : (fs : List Frame) (x : Derivation) (s : ℕ) (r : List Frame × Derivation) → IsReduced 1 fs x r → Follows (has fs x) s kind.If (selects s r)
selects_follows fs x s (listed from is (over i p q n t) ∷ gs, y) r =
    record { good = (r.good.0, (r.good.1, r.level), r.good.2); same = λ rest. r.same (token s kind.If ∷ rest); nesting = omega (arith, r.nesting) }
selects_follows fs x s (gs, y) r = tt

had_follows : (fs : List Frame) (x : Derivation) (p : ℕ) (k : Kind) → GoodState (has fs x) → Follows (has fs x) p k (had fs x p k)
had_follows fs x p kind.Or g = operates_follows fs x p op.Or g
had_follows fs x p kind.And g = operates_follows fs x p op.And g
had_follows fs x p kind.Equal g = operates_follows fs x p op.Equal g
had_follows fs x p kind.Unequal g = operates_follows fs x p op.Unequal g
had_follows fs x p kind.Less g = operates_follows fs x p op.Less g
had_follows fs x p kind.AtMost g = operates_follows fs x p op.AtMost g
had_follows fs x p kind.More g = operates_follows fs x p op.More g
had_follows fs x p kind.AtLeast g = operates_follows fs x p op.AtLeast g
had_follows fs x p kind.Plus g = operates_follows fs x p op.Add g
had_follows fs x p kind.Minus g = operates_follows fs x p op.Subtract g
had_follows fs x p kind.Times g = operates_follows fs x p op.Multiply g
had_follows fs x p kind.Over g = operates_follows fs x p op.Divide g
had_follows fs x p kind.Rest g = operates_follows fs x p op.Remainder g
had_follows fs x p kind.OpenGroup g = begins_call_follows fs x p g
had_follows fs x p kind.OpenList g = record { good = (g.0 8, g.1); same = λ rest. refl; nesting = omega arith }
had_follows fs x p kind.CloseGroup g = ends_group_follows fs x p (reduce 1 fs x) (reduced 1 fs x g.1 (g.0 (level fs)) (g.0 1))
had_follows fs x p kind.CloseList g = ends_list_follows fs x p (reduce 1 fs x) (reduced 1 fs x g.1 (g.0 (level fs)) (g.0 1))
had_follows fs x p kind.CloseObject g = ends_object_follows fs x p (reduce 1 fs x) (reduced 1 fs x g.1 (g.0 (level fs)) (g.0 1))
had_follows fs x p kind.Comma g = goes_on_follows fs x p (reduce 1 fs x) (reduced 1 fs x g.1 (g.0 (level fs)) (g.0 1))
had_follows fs x p kind.Colon g = slices_follows fs x p (reduce 1 fs x) (reduced 1 fs x g.1 (g.0 (level fs)) (g.0 1))
had_follows fs x p kind.For g = loops_follows fs x p (reduce 1 fs x) (reduced 1 fs x g.1 (g.0 (level fs)) (g.0 1))
had_follows fs x p kind.If g = selects_follows fs x p (reduce 1 fs x) (reduced 1 fs x g.1 (g.0 (level fs)) (g.0 1))
had_follows fs x p k g = tt

key_follows : (fs : List Frame) (from : ℕ) (ps : Pairs) (p : ℕ) (k : Kind) → GoodState (wants_key fs from ps) → Follows (wants_key fs from ps) p k (key_wanted fs from ps p k)
key_follows fs from ps p (kind.Text key) g = record { good = g; same = λ rest. refl; nesting = omega arith }
key_follows fs from ps p kind.CloseObject g = record { good = ((λ k. g.0), g.1); same = λ rest. refl; nesting = omega arith }
key_follows fs from ps p k g = tt

colon_follows : (fs : List Frame) (from : ℕ) (ps : Pairs) (q : ℕ) (key : List ℕ) (p : ℕ) (k : Kind) → GoodState (wants_colon fs from ps q key) → Follows (wants_colon fs from ps q key) p k (colon_wanted fs from ps q key p k)
colon_follows fs from ps q key p kind.Colon g = record { good = g; same = λ rest. refl; nesting = omega arith }
colon_follows fs from ps q key p k g = tt

name_follows : (fs : List Frame) (from : ℕ) (is : Items) (i : Item) (q p : ℕ) (k : Kind) → GoodState (wants_name fs from is i q) → Follows (wants_name fs from is i q) p k (name_wanted fs from is i q p k)
name_follows fs from is i q p (kind.Name x) g = record { good = g; same = λ rest. refl; nesting = omega arith }
name_follows fs from is i q p k g = tt

in_follows : (fs : List Frame) (from : ℕ) (is : Items) (i : Item) (q r : ℕ) (x : List ℕ) (p : ℕ) (k : Kind) → GoodState (wants_in fs from is i q r x) → Follows (wants_in fs from is i q r x) p k (in_wanted fs from is i q r x p k)
in_follows fs from is i q r x p kind.In g = record { good = g; same = λ rest. refl; nesting = omega arith }
in_follows fs from is i q r x p k g = tt

pub follows : (st : State) (p : ℕ) (k : Kind) → GoodState st → Follows st p k (move st p k)
follows (wants fs) p k g = wanted_follows fs p k g
follows (has fs x) p k g = had_follows fs x p k g
follows (wants_key fs from ps) p k g = key_follows fs from ps p k g
follows (wants_colon fs from ps q key) p k g = colon_follows fs from ps q key p k g
follows (wants_name fs from is i q) p k g = name_follows fs from is i q p k g
follows (wants_in fs from is i q r x) p k g = in_follows fs from is i q r x p k g
