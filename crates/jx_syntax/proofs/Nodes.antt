-- What nodes show goes on when a node is added.
use Rattle.std.proofs.Common.{◌≡◌, ℕ, zero, suc, ◌+◌, ◌<◌, ◌≤◌, false, List, [], ◌∷◌, ◌++◌, length, Option, Some, None, refl, sym, ap, ◌∙◌, arith}
use Rattle.std.proofs.lemmas.List.{length-append}
use Rattle.std.specs.List.{flat_map}
use Rattle.jx_syntax.specs.declared.node.Condition.{Condition}
use Rattle.jx_syntax.specs.declared.node.Loop.{Loop}
use Rattle.jx_syntax.specs.declared.node.Field.{Field}
use Rattle.jx_syntax.specs.declared.node.Item as node
use Rattle.jx_syntax.specs.declared.node.Node.{Node}
use Rattle.jx_syntax.specs.declared.pending.Part as code
use Rattle.jx_syntax.specs.declared.pending.Part.TheVariants as part
use Rattle.jx_syntax.specs.declared.pending.Pending.{Pending}
use Rattle.jx_syntax.specs.declared.pending.Pending.TheVariants as pending
use Rattle.jx_syntax.specs.Grammar.{Derivation, Arguments, argument, Items, item, Item, once, each, each_if, Pairs, pair, Bound}
use Rattle.jx_syntax.specs.Reading.{Part, Frame}
use Rattle.jx_syntax.specs.Tree.{Tree, Trees, Entries, Loops, Fields, entry, tree, loop, field, end, test, no_loops, entry_of, no_test, tree_of, node_at, end_at, test_at, trees_at, loops_at, entries_at, fields_at, trees_onto, form_tree, operands, loop_operands, condition_operands, item_operands, field_operands, given, AreBefore, IsOrdered}
use Rattle.jx_syntax.specs.Shown.{trees, IsNode, IsLast, AreArguments, IsItem, AreItems, AreFields, IsEnd, IsPart, IsFrame, IsStack, Shows, is_nil}

-- ---- places before

pub before_more : (k m : ℕ) (is : List ℕ) → k ≤ m → AreBefore k is → AreBefore m is
before_more k m [] le h = tt
before_more k m (i ∷ is) le h = (omega (arith, le, h.0), before_more k m is le h.1)

pub before_left : (k : ℕ) (xs ys : List ℕ) → AreBefore k (xs ++ ys) → AreBefore k xs
before_left k [] ys h = tt
before_left k (x ∷ xs) ys h = (h.0, before_left k xs ys h.1)

pub before_right : (k : ℕ) (xs ys : List ℕ) → AreBefore k (xs ++ ys) → AreBefore k ys
before_right k [] ys h = h
before_right k (x ∷ xs) ys h = before_right k xs ys h.1

pub before_both : (k : ℕ) (xs ys : List ℕ) → AreBefore k xs → AreBefore k ys → AreBefore k (xs ++ ys)
before_both k [] ys h g = g
before_both k (x ∷ xs) ys h g = (h.0, before_both k xs ys h.1 g)

-- ---- trees behind trees

at_more : (ts us : List Tree) (i : ℕ) → i < length ts → node_at (ts ++ us) i ≡ node_at ts i
at_more [] us i h = absurd (omega (arith, h))
at_more (t ∷ ts) us zero h = refl
at_more (t ∷ ts) us (suc i) h = at_more ts us i (omega (arith, h))

at_end : (ts : List Tree) (t : Tree) → node_at (ts ++ t ∷ []) (length ts) ≡ t
at_end [] t = refl
at_end (u ∷ ts) t = at_end ts t

end_more : (ts us : List Tree) (e : Option ℕ) → AreBefore (length ts) (given e) → end_at (ts ++ us) e ≡ end_at ts e
end_more ts us None h = refl
end_more ts us (Some i) h = ap end (at_more ts us i h.0)

test_more : (ts us : List Tree) (c : Option Condition) → AreBefore (length ts) (condition_operands c) → test_at (ts ++ us) c ≡ test_at ts c
test_more ts us None h = refl
test_more ts us (Some c) h = ap (test c.place) (at_more ts us c.test h.0)

trees_more : (ts us : List Tree) (is : List ℕ) (rest : Trees) → AreBefore (length ts) is → trees_at (ts ++ us) is rest ≡ trees_at ts is rest
trees_more ts us [] rest h = refl
trees_more ts us (i ∷ is) rest h = rw (at_more ts us i h.0, trees_more ts us is rest h.1) refl

loops_more : (ts us : List Tree) (ls : List Loop) (rest : Loops) → AreBefore (length ts) (flat_map loop_operands ls) → loops_at (ts ++ us) ls rest ≡ loops_at ts ls rest
loops_more ts us [] rest h = refl
loops_more ts us (l ∷ ls) rest h =
    let n = length ts in
    let c = before_left n (condition_operands l.condition) (flat_map loop_operands ls) h.1 in
    let r = before_right n (condition_operands l.condition) (flat_map loop_operands ls) h.1 in
    rw (at_more ts us l.over h.0, test_more ts us l.condition c, loops_more ts us ls rest r) refl

entries_more : (ts us : List Tree) (is : List node.Item) (rest : Entries) → AreBefore (length ts) (flat_map item_operands is) → entries_at (ts ++ us) is rest ≡ entries_at ts is rest
entries_more ts us [] rest h = refl
entries_more ts us (i ∷ is) rest h =
    let n = length ts in
    let l = before_left n (flat_map loop_operands i.loops) (flat_map item_operands is) h.1 in
    let r = before_right n (flat_map loop_operands i.loops) (flat_map item_operands is) h.1 in
    rw (at_more ts us i.body h.0, loops_more ts us i.loops no_loops l, entries_more ts us is rest r) refl

fields_more : (ts us : List Tree) (fs : List Field) (rest : Fields) → AreBefore (length ts) (flat_map field_operands fs) → fields_at (ts ++ us) fs rest ≡ fields_at ts fs rest
fields_more ts us [] rest h = refl
fields_more ts us (f ∷ fs) rest h = rw (at_more ts us f.value h.0, fields_more ts us fs rest h.1) refl

-- ---- one node more

onto_push : (ts : List Tree) (ns : List Node) (n : Node) → trees_onto ts (ns ++ n ∷ []) ≡ trees_onto ts ns ++ form_tree (trees_onto ts ns) n.place n.form ∷ []
unfolding trees_onto
onto_push ts [] n = refl
onto_push ts (m ∷ ns) n = onto_push (ts ++ form_tree ts m.place m.form ∷ []) ns n

onto_length : (ts : List Tree) (ns : List Node) → length (trees_onto ts ns) ≡ length ts + length ns
unfolding trees_onto
onto_length ts [] = omega arith
onto_length ts (n ∷ ns) =
    let t = form_tree ts n.place n.form in
    let l = length-append ts (t ∷ []) in
    let r = onto_length (ts ++ t ∷ []) ns in
    omega (arith, l, r)

pub trees_length : (ns : List Node) → length (trees ns) ≡ length ns
trees_length ns = let h = onto_length [] ns in omega (arith, h)

module _ (ns : List Node) (n : Node) where
  abbrev t : Tree
  t = form_tree (trees ns) n.place n.form

  abbrev ms : List Node
  ms = ns ++ n ∷ []

  push : trees ms ≡ trees ns ++ t ∷ []
  push = onto_push [] ns n

  longer : length ms ≡ suc (length ns)
  longer = let l = length-append ns (n ∷ []) in omega (arith, l)

  within : (is : List ℕ) → AreBefore (length ns) is → AreBefore (length (trees ns)) is
  within is h = before_more (length ns) (length (trees ns)) is (let l = trees_length ns in omega (arith, l)) h

  wider : (is : List ℕ) → AreBefore (length ns) is → AreBefore (length ms) is
  wider is h = before_more (length ns) (length ms) is (let l = longer in omega (arith, l)) h

  pub node_more : (i : ℕ) (u : Tree) → IsNode ns i u → IsNode ms i u
  node_more i u h = record {
    within = (let l = longer in let w = h.within in omega (arith, l, w));
    shows = ap (λ (ts : List Tree). node_at ts i) push ∙ at_more (trees ns) (t ∷ []) i (let l = trees_length ns in let w = h.within in omega (arith, l, w)) ∙ h.shows;
  }

  pub node_new : (u : Tree) → t ≡ u → IsNode ms (length ns) u
  node_new u e = record {
    within = (let l = longer in omega (arith, l));
    shows = ap (λ (ts : List Tree). node_at ts (length ns)) push ∙ ap (node_at (trees ns ++ t ∷ [])) (sym (trees_length ns)) ∙ at_end (trees ns) t ∙ e;
  }

  pub last_new : (u : Tree) → t ≡ u → IsLast ms (length ns) u
  last_new u e = record { node = node_new u e; last = sym longer }

  pub arguments_more : (is : List ℕ) (args : Arguments) → AreArguments ns is args → AreArguments ms is args
  arguments_more is args h = record {
    within = wider is h.within;
    shows = λ rest. ap (λ (ts : List Tree). trees_at ts is rest) push ∙ trees_more (trees ns) (t ∷ []) is rest (within is h.within) ∙ h.shows rest;
    empty = h.empty;
  }

  pub item_more : (i : node.Item) (j : Item) → IsItem ns i j → IsItem ms i j
  item_more i j h = record {
    within = wider (item_operands i) h.within;
    shows = λ loops rest. (let w = within (item_operands i) h.within in
        ap (λ (ts : List Tree). entry (node_at ts i.body) (loops_at ts i.loops loops) rest) push
        ∙ rw (at_more (trees ns) (t ∷ []) i.body w.0, loops_more (trees ns) (t ∷ []) i.loops loops w.1) (h.shows loops rest));
  }

  pub items_more : (is : List node.Item) (js : Items) → AreItems ns is js → AreItems ms is js
  items_more is js h = record {
    within = wider (flat_map item_operands is) h.within;
    shows = λ rest. ap (λ (ts : List Tree). entries_at ts is rest) push ∙ entries_more (trees ns) (t ∷ []) is rest (within (flat_map item_operands is) h.within) ∙ h.shows rest;
  }

  pub fields_more_ : (fs : List Field) (ps : Pairs) → AreFields ns fs ps → AreFields ms fs ps
  fields_more_ fs ps h = record {
    within = wider (flat_map field_operands fs) h.within;
    shows = λ rest. ap (λ (ts : List Tree). fields_at ts fs rest) push ∙ fields_more (trees ns) (t ∷ []) fs rest (within (flat_map field_operands fs) h.within) ∙ h.shows rest;
  }

  pub end_more_ : (e : Option ℕ) (b : Bound) → IsEnd ns e b → IsEnd ms e b
  end_more_ e b h = record {
    within = wider (given e) h.within;
    shows = ap (λ (ts : List Tree). end_at ts e) push ∙ end_more (trees ns) (t ∷ []) e (within (given e) h.within) ∙ h.shows;
  }

  part_more : (p : code.Part) (q : Part) → IsPart ns p q → IsPart ms p q
  part_more part.Body q h = h
  part_more (part.Over i p x) q h = (h.0, h.1, h.2, h.3, item_more i h.0 h.4)
  part_more (part.Only i p x o s) q h = (h.0, h.1, h.2, h.3, h.4, item_more i h.0 h.5, node_more o _ h.6)

  pub frame_more : (q : Pending) (f : Frame) → IsFrame ns q f → IsFrame ms q f
  frame_more (pending.Left p o i) f h = (h.0, h.1, node_more i _ h.2)
  frame_more (pending.Before p s) f h = h
  frame_more pending.Grouped f h = h
  frame_more (pending.Argued p x is) f h = (h.0, h.1, h.2, arguments_more is h.1 h.3)
  frame_more (pending.Listed from is q) f h = (h.0, h.1, h.2, items_more is h.0 h.3, part_more q h.1 h.4)
  frame_more (pending.Keyed from fs key) f h = (h.0, h.1, h.2, h.3, fields_more_ fs h.0 h.4)
  frame_more (pending.Indexed i from) f h = (h.0, h.1, node_more i _ h.2)
  frame_more (pending.Sliced i from e) f h = (h.0, h.1, h.2, h.3, node_more i _ h.4, end_more_ e h.1 h.5)

  stack_more : (qs : List Pending) (fs : List Frame) → IsStack ns qs fs → IsStack ms qs fs
  stack_more [] fs h = h
  stack_more (q ∷ qs) fs h = (h.0, h.1, h.2, frame_more q h.0 h.3, stack_more qs h.1 h.4)

  ordered_more : (k : ℕ) (ls : List Node) → IsOrdered k ls → AreBefore (k + length ls) (operands n.form) → IsOrdered k (ls ++ n ∷ [])
  ordered_more k [] h b = (before_more (k + 0) k (operands n.form) (omega arith) b, tt)
  ordered_more k (l ∷ ls) h b = (h.0, ordered_more (suc k) ls h.1 (before_more (k + suc (length ls)) (suc k + length ls) (operands n.form) (omega arith) b))

  pub shows_more : (qs : List Pending) (fs : List Frame) → Shows ns qs fs → AreBefore (length ns) (operands n.form) → Shows ms qs fs
  shows_more qs fs h b = record { stack = stack_more qs fs h.stack; ordered = ordered_more 0 ns h.ordered (before_more (length ns) (0 + length ns) (operands n.form) (omega arith) b) }

-- ---- one part more

trees_push : (ts : List Tree) (is : List ℕ) (i : ℕ) (rest : Trees) → trees_at ts (is ++ i ∷ []) rest ≡ trees_at ts is (tree (node_at ts i) rest)
trees_push ts [] i rest = refl
trees_push ts (j ∷ is) i rest = ap (tree (node_at ts j)) (trees_push ts is i rest)

loops_push : (ts : List Tree) (ls : List Loop) (l : Loop) (rest : Loops) → loops_at ts (ls ++ l ∷ []) rest ≡ loops_at ts ls (loop l.place l.name (node_at ts l.over) (test_at ts l.condition) rest)
loops_push ts [] l rest = refl
loops_push ts (m ∷ ls) l rest = ap (loop m.place m.name (node_at ts m.over) (test_at ts m.condition)) (loops_push ts ls l rest)

entries_push : (ts : List Tree) (is : List node.Item) (i : node.Item) (rest : Entries) → entries_at ts (is ++ i ∷ []) rest ≡ entries_at ts is (entry (node_at ts i.body) (loops_at ts i.loops no_loops) rest)
entries_push ts [] i rest = refl
entries_push ts (j ∷ is) i rest = ap (entry (node_at ts j.body) (loops_at ts j.loops no_loops)) (entries_push ts is i rest)

fields_push_ : (ts : List Tree) (fs : List Field) (f : Field) (rest : Fields) → fields_at ts (fs ++ f ∷ []) rest ≡ fields_at ts fs (field f.key (node_at ts f.value) rest)
fields_push_ ts [] f rest = refl
fields_push_ ts (g ∷ fs) f rest = ap (field g.key (node_at ts g.value)) (fields_push_ ts fs f rest)

mapped_push : {A : Type 0} (k : ℕ) (f : A → List ℕ) (xs : List A) (x : A) → AreBefore k (flat_map f xs) → AreBefore k (f x) → AreBefore k (flat_map f (xs ++ x ∷ []))
mapped_push k f [] x h g = before_both k (f x) [] g tt
mapped_push k f (y ∷ xs) x h g =
    before_both k (f y) (flat_map f (xs ++ x ∷ [])) (before_left k (f y) (flat_map f xs) h) (mapped_push k f xs x (before_right k (f y) (flat_map f xs) h) g)

is_nil_push : (is : List ℕ) (i : ℕ) → is_nil (is ++ i ∷ []) ≡ false
is_nil_push [] i = refl
is_nil_push (j ∷ is) i = refl

module _ (ns : List Node) where
  pub arguments_push : (is : List ℕ) (args : Arguments) (i : ℕ) (d : Derivation) (comma : ℕ) → AreArguments ns is args → IsNode ns i (tree_of d) → AreArguments ns (is ++ i ∷ []) (argument args d comma)
  arguments_push is args i d comma h n = record {
    within = before_both (length ns) is (i ∷ []) h.within (n.within, tt);
    shows = λ rest. trees_push (trees ns) is i rest ∙ ap (λ (t : Tree). trees_at (trees ns) is (tree t rest)) n.shows ∙ h.shows (tree (tree_of d) rest);
    empty = is_nil_push is i;
  }

  pub once_is : (i : ℕ) (d : Derivation) → IsNode ns i (tree_of d) → IsItem ns (record { body = i; loops = [] }) (once d)
  once_is i d n = record { within = (n.within, tt); shows = λ loops rest. ap (λ (t : Tree). entry t loops rest) n.shows }

  pub each_is : (i : node.Item) (j : Item) (p q : ℕ) (x : List ℕ) (r o : ℕ) (d : Derivation) → IsItem ns i j → IsNode ns o (tree_of d)
      → IsItem ns (record { body = i.body; loops = i.loops ++ record { place = p; name = x; over = o; condition = None } ∷ [] }) (each j p q x r d)
  each_is i j p q x r o d h n =
      let l : Loop = record { place = p; name = x; over = o; condition = None } in
      record {
        within = (h.within.0, mapped_push (length ns) loop_operands i.loops l h.within.1 (n.within, tt));
        shows = λ loops rest. ap (λ (ls : Loops). entry (node_at (trees ns) i.body) ls rest) (loops_push (trees ns) i.loops l loops ∙ ap (λ (t : Tree). loops_at (trees ns) i.loops (loop p x t no_test loops)) n.shows)
            ∙ h.shows (loop p x (tree_of d) no_test loops) rest;
      }

  pub each_if_is : (i : node.Item) (j : Item) (p q : ℕ) (x : List ℕ) (r o : ℕ) (d : Derivation) (s c : ℕ) (e : Derivation) → IsItem ns i j → IsNode ns o (tree_of d) → IsNode ns c (tree_of e)
      → IsItem ns (record { body = i.body; loops = i.loops ++ record { place = p; name = x; over = o; condition = Some (record { place = s; test = c }) } ∷ [] }) (each_if j p q x r d s e)
  each_if_is i j p q x r o d s c e h n m =
      let l : Loop = record { place = p; name = x; over = o; condition = Some (record { place = s; test = c }) } in
      record {
        within = (h.within.0, mapped_push (length ns) loop_operands i.loops l h.within.1 (n.within, (m.within, tt)));
        shows = λ loops rest. ap (λ (ls : Loops). entry (node_at (trees ns) i.body) ls rest)
            (loops_push (trees ns) i.loops l loops ∙ ap (λ (t : Tree). loops_at (trees ns) i.loops (loop p x t (test s (node_at (trees ns) c)) loops)) n.shows
            ∙ ap (λ (t : Tree). loops_at (trees ns) i.loops (loop p x (tree_of d) (test s t) loops)) m.shows)
            ∙ h.shows (loop p x (tree_of d) (test s (tree_of e)) loops) rest;
      }

  pub items_push : (is : List node.Item) (js : Items) (i : node.Item) (j : Item) (comma : ℕ) → AreItems ns is js → IsItem ns i j → AreItems ns (is ++ i ∷ []) (item js j comma)
  items_push is js i j comma h n = record {
    within = mapped_push (length ns) item_operands is i h.within n.within;
    shows = λ rest. entries_push (trees ns) is i rest ∙ ap (entries_at (trees ns) is) (n.shows no_loops rest) ∙ h.shows (entry_of j no_loops rest);
  }

  pub fields_push : (fs : List Field) (ps : Pairs) (p : ℕ) (key : List ℕ) (colon i : ℕ) (d : Derivation) (comma : ℕ) → AreFields ns fs ps → IsNode ns i (tree_of d)
      → AreFields ns (fs ++ record { key = key; value = i } ∷ []) (pair ps p key colon d comma)
  fields_push fs ps p key colon i d comma h n = record {
    within = mapped_push (length ns) field_operands fs (record { key = key; value = i }) h.within (n.within, tt);
    shows = λ rest. fields_push_ (trees ns) fs (record { key = key; value = i }) rest ∙ ap (λ (t : Tree). fields_at (trees ns) fs (field key t rest)) n.shows ∙ h.shows (field key (tree_of d) rest);
  }
