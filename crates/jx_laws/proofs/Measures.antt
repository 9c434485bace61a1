-- How many nodes an expression of literals has, and how deep its value is.
use Rattle.std.proofs.Common.{◌≡◌, ℕ, zero, suc, ◌≤◌, ℤ, pos, negsuc, Bool, List, [], ◌∷◌, map, Some, sym, ap, subst, ◌∙◌, arith, rules}
use Rattle.jx_syntax.specs.declared.operator.Sign.TheVariants as sign
use Rattle.jx_syntax.specs.declared.value.JxValue.{JxValue}
use Rattle.jx_syntax.specs.declared.value.JxValue.TheVariants as value
use Rattle.jx_syntax.specs.declared.value.JxValue.TheFolds.{the_lemmas}
use Rattle.jx_syntax.specs.declared.value.JxPair.{JxPair}
use Rattle.jx_syntax.specs.Tree.{Tree, Entries, Fields, no_entries, entry, no_loops, loop, no_fields, field, tree_of}
use Rattle.jx_syntax.specs.Tree as tree
use Rattle.jx_syntax.specs.Values.{value_of, items_of, pairs_of, paired, negated, behind_minus, levels, pair_levels, greatest}
use Rattle.jx_syntax.specs.ValueLaws.{ValuesAreWritten, ValuesReadBack}
use Rattle.jx_meaning.specs.Values.{Value, null, truth, number, text, list, object, values, pairs, plain, depth, items_depth, pairs_depth, count, items_count, pairs_count}
use Rattle.jx_meaning.specs.Meaning.{worth}
use Rattle.jx_values.specs.Kinds.{plain_pair}
use Rattle.jx_values.proofs.Plain.{plain-null, plain-truth, plain-number, plain-text, plain-list, plain-object}
use Rattle.jx_laws.specs.Literals.{nodes, entries_nodes, fields_nodes, number_nodes, most_nodes, items_most_nodes, pairs_most_nodes}
use Rattle.jx_laws.specs.Laws.{LiteralsEvaluate, NodesAreCounted, TextsEvaluateBack, ValuesEvaluateBack}
use Rattle.jx_laws.proofs.Literals.{no_value, same_value, mapped, joined-some, behind, is_made, tree-answers}

levels-list : (vs : List JxValue) → levels (value.List vs) ≡ suc (greatest (map levels vs))
levels-list vs = search (rules, the_lemmas)

levels-object : (ps : List JxPair) → levels (value.Object ps) ≡ suc (greatest (map pair_levels ps))
levels-object ps = search (rules, the_lemmas)

levels-pair : (p : JxPair) → pair_levels p ≡ levels p.value
levels-pair p = search (rules, the_lemmas)

-- an expression of literals beside its value
record Measured (t : Tree) (v : JxValue) : Type 0 where
  least : count (plain v) ≤ nodes t
  most : nodes t ≤ most_nodes (plain v)
  deep : depth (plain v) ≤ levels v

-- the same of the items of a list
record ItemsMeasured (es : Entries) (vs : List JxValue) : Type 0 where
  least : items_count (values (map plain vs)) ≤ entries_nodes es
  most : entries_nodes es ≤ items_most_nodes (values (map plain vs))
  deep : items_depth (values (map plain vs)) ≤ greatest (map levels vs)

-- the same of the keys of an object
record PairsMeasured (fs : Fields) (ps : List JxPair) : Type 0 where
  least : pairs_count (pairs (map plain_pair ps)) ≤ fields_nodes fs
  most : fields_nodes fs ≤ pairs_most_nodes (pairs (map plain_pair ps))
  deep : pairs_depth (pairs (map plain_pair ps)) ≤ greatest (map pair_levels ps)

-- by the value as plain data
measured : (t : Tree) (v : JxValue) (x : Value) → plain v ≡ x → count x ≤ nodes t → nodes t ≤ most_nodes x → depth x ≤ levels v → Measured t v
measured t v x e l m d = record {
  least = subst (λ (y : Value). count y ≤ nodes t) (sym e) l;
  most = subst (λ (y : Value). nodes t ≤ most_nodes y) (sym e) m;
  deep = subst (λ (y : Value). depth y ≤ levels v) (sym e) d;
}

null-measured : (at : ℕ) → Measured (tree.null at) value.Null
unfolding nodes most_nodes count depth
null-measured at = measured (tree.null at) value.Null null plain-null (omega arith) (omega arith) (omega arith)

truth-measured : (at : ℕ) (b : Bool) → Measured (tree.truth at b) (value.Truth b)
unfolding nodes most_nodes count depth
truth-measured at b = measured (tree.truth at b) (value.Truth b) (truth b) (plain-truth b) (omega arith) (omega arith) (omega arith)

text-measured : (at : ℕ) (t : List ℕ) → Measured (tree.text at t) (value.Text t)
unfolding nodes most_nodes count depth
text-measured at t = measured (tree.text at t) (value.Text t) (text t) (plain-text t) (omega arith) (omega arith) (omega arith)

one_node : (z : ℤ) → 1 ≤ number_nodes z
one_node (pos zero) = omega arith
one_node (pos (suc n)) = omega arith
one_node (negsuc n) = omega arith

number-measured : (at : ℕ) (z : ℤ) → Measured (tree.number at z) (value.Number z)
unfolding nodes most_nodes count depth
number-measured at z = measured (tree.number at z) (value.Number z) (number z) (plain-number z) (omega arith) (one_node z) (omega arith)

two_nodes : (k : ℕ) → 2 ≤ number_nodes (negated k)
two_nodes zero = omega arith
two_nodes (suc k) = omega arith

minus-measured : (at q k : ℕ) → Measured (tree.signed at sign.Minus (tree.number q (pos k))) (value.Number (negated k))
unfolding nodes most_nodes count depth
minus-measured at q k =
    measured (tree.signed at sign.Minus (tree.number q (pos k))) (value.Number (negated k)) (number (negated k)) (plain-number (negated k)) (omega arith) (two_nodes k) (omega arith)

signed-measured : (at : ℕ) (t : Tree) (v : JxValue) → behind_minus t ≡ Some v → Measured (tree.signed at sign.Minus t) v
signed-measured at t v h =
    let b = behind t v h in
    subst (λ (w : JxValue). Measured (tree.signed at sign.Minus t) w) b.3
    (subst (λ (u : Tree). Measured (tree.signed at sign.Minus u) (value.Number (negated b.1))) b.2 (minus-measured at b.0 b.1))

list-measured : (at : ℕ) (es : Entries) (vs : List JxValue) → ItemsMeasured es vs → Measured (tree.list at es) (value.List vs)
unfolding nodes most_nodes count depth
list-measured at es vs m =
    measured (tree.list at es) (value.List vs) (list (values (map plain vs))) (plain-list vs) (omega (arith, m.least)) (omega (arith, m.most)) (omega (arith, m.deep, levels-list vs))

object-measured : (at : ℕ) (fs : Fields) (ps : List JxPair) → PairsMeasured fs ps → Measured (tree.object at fs) (value.Object ps)
unfolding nodes most_nodes count depth
object-measured at fs ps m =
    measured (tree.object at fs) (value.Object ps) (object (pairs (map plain_pair ps))) (plain-object ps) (omega (arith, m.least)) (omega (arith, m.most)) (omega (arith, m.deep, levels-object ps))

no_items-measured : ItemsMeasured no_entries []
unfolding nodes most_nodes count depth
no_items-measured = record { least = omega arith; most = omega arith; deep = omega arith }

item-measured : (t : Tree) (es : Entries) (x : JxValue) (ys : List JxValue) → Measured t x → ItemsMeasured es ys → ItemsMeasured (entry t no_loops es) (x ∷ ys)
unfolding nodes most_nodes count depth
item-measured t es x ys m n = record {
  least = omega (arith, m.least, n.least);
  most = omega (arith, m.most, n.most);
  deep = omega (arith, m.deep, n.deep);
}

no_pairs-measured : PairsMeasured no_fields []
unfolding nodes most_nodes count depth
no_pairs-measured = record { least = omega arith; most = omega arith; deep = omega arith }

pair-measured : (key : List ℕ) (t : Tree) (fs : Fields) (x : JxValue) (ps : List JxPair) → Measured t x → PairsMeasured fs ps → PairsMeasured (field key t fs) (record { key = key; value = x } ∷ ps)
unfolding nodes most_nodes count depth
pair-measured key t fs x ps m n =
    let e = levels-pair (record { key = key; value = x }) in
    record {
      least = omega (arith, m.least, n.least);
      most = omega (arith, m.most, n.most);
      deep = omega (arith, m.deep, n.deep, e);
    }

mutual
  tree-measured : (t : Tree) (v : JxValue) → value_of t ≡ Some v → Measured t v
  tree-measured (tree.null at) v h = subst (Measured (tree.null at)) (same_value value.Null v h) (null-measured at)
  tree-measured (tree.truth at b) v h = subst (Measured (tree.truth at b)) (same_value (value.Truth b) v h) (truth-measured at b)
  tree-measured (tree.number at z) v h = subst (Measured (tree.number at z)) (same_value (value.Number z) v h) (number-measured at z)
  tree-measured (tree.text at t) v h = subst (Measured (tree.text at t)) (same_value (value.Text t) v h) (text-measured at t)
  tree-measured (tree.list at es) v h =
      let m = mapped value.List (items_of es) v h in
      subst (Measured (tree.list at es)) m.2 (list-measured at es m.0 (entries-measured es m.0 m.1))
  tree-measured (tree.object at fs) v h =
      let m = mapped value.Object (pairs_of fs) v h in
      subst (Measured (tree.object at fs)) m.2 (object-measured at fs m.0 (fields-measured fs m.0 m.1))
  tree-measured (tree.signed at sign.Minus t) v h = signed-measured at t v h
  tree-measured (tree.signed at sign.Plus t) v h = absurd (no_value v h)
  tree-measured (tree.signed at sign.Not t) v h = absurd (no_value v h)
  tree-measured (tree.name at x) v h = absurd (no_value v h)
  tree-measured (tree.call at x ts) v h = absurd (no_value v h)
  tree-measured (tree.index at a i) v h = absurd (no_value v h)
  tree-measured (tree.slice at a x y) v h = absurd (no_value v h)
  tree-measured (tree.operation at o a b) v h = absurd (no_value v h)

  entries-measured : (es : Entries) (vs : List JxValue) → items_of es ≡ Some vs → ItemsMeasured es vs
  entries-measured no_entries vs h = subst (ItemsMeasured no_entries) (same_value [] vs h) no_items-measured
  entries-measured (entry t no_loops es) vs h =
      let j = joined-some (value_of t) (items_of es) vs h in
      subst (ItemsMeasured (entry t no_loops es)) j.4 (item-measured t es j.0 j.1 (tree-measured t j.0 j.2) (entries-measured es j.1 j.3))
  entries-measured (entry t (loop p x l c ls) es) vs h = absurd (no_value vs h)

  fields-measured : (fs : Fields) (ps : List JxPair) → pairs_of fs ≡ Some ps → PairsMeasured fs ps
  fields-measured no_fields ps h = subst (PairsMeasured no_fields) (same_value [] ps h) no_pairs-measured
  fields-measured (field key t fs) ps h =
      let j = joined-some (paired key (value_of t)) (pairs_of fs) ps h in
      let m = mapped (λ (v : JxValue). let p : JxPair = record { key = key; value = v } in p) (value_of t) j.0 j.2 in
      subst (PairsMeasured (field key t fs)) (ap (λ (p : JxPair). p ∷ j.1) m.2 ∙ j.4)
      (pair-measured key t fs m.0 j.1 (tree-measured t m.0 m.1) (fields-measured fs j.1 j.3))

-- ---- the laws

pub nodes-are_counted : NodesAreCounted
nodes-are_counted t v h = let m = tree-measured t v h in (m.least, m.most)

pub literals-evaluate : LiteralsEvaluate
literals-evaluate t v s n h made deep fit =
    let m = tree-measured t v h in
    tree-answers t v s h n made.0 (is_made (plain v) made.1 made.2 deep (omega (arith, m.least, fit))) fit

pub texts-evaluate_back : ValuesReadBack → TextsEvaluateBack
texts-evaluate_back read v d s made w fit =
    let r = read v d made.0 w in
    let m = tree-measured (tree_of d) v r.1 in
    ap worth (literals-evaluate (tree_of d) v s 0 r.1 made (omega (arith, m.deep, r.0.1)) (omega (arith, fit)))

pub values-evaluate_back : ValuesReadBack → ValuesAreWritten → ValuesEvaluateBack
values-evaluate_back read written v made within few =
    let w = written v made.0 within in
    let r = read v w.0 made.0 w.1 in
    let m = tree-measured (tree_of w.0) v r.1 in
    (w.0, w.1, λ s. texts-evaluate_back read v w.0 s made w.1 (omega (arith, m.most, few)))
