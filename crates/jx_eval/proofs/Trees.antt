-- The trees of nodes in order.
use Rattle.std.proofs.Common.{◌≡◌, ℕ, zero, suc, ◌+◌, ◌<◌, ◌≤◌, List, [], ◌∷◌, ◌++◌, length, get_or, Option, Some, None, refl, sym, ap, ◌∙◌, append_assoc, arith}
use Rattle.std.proofs.lemmas.List.{length-append, append-nil, get_or_past}
use Rattle.std.specs.List.{flat_map}
use Rattle.jx_syntax.specs.declared.node.Condition.{Condition}
use Rattle.jx_syntax.specs.declared.node.Loop.{Loop}
use Rattle.jx_syntax.specs.declared.node.Field.{Field}
use Rattle.jx_syntax.specs.declared.node.Item as node
use Rattle.jx_syntax.specs.declared.node.Node.{Node}
use Rattle.jx_syntax.specs.declared.node.Form.{Form}
use Rattle.jx_syntax.specs.declared.node.Form.TheVariants as form
use Rattle.jx_syntax.specs.Tree.{Tree, Trees, Loops, Entries, Fields, null, call, list, object, signed, end, test, no_trees, no_loops, no_entries, no_fields, node_at, end_at, test_at, trees_at, loops_at, entries_at, fields_at, form_tree, trees_onto, operands, given, item_operands, loop_operands, condition_operands, field_operands, AreBefore, IsOrdered}
use Rattle.jx_eval.specs.Machine.{trees}

before-left : (k : ℕ) (xs ys : List ℕ) → AreBefore k (xs ++ ys) → AreBefore k xs
before-left k [] ys h = tt
before-left k (x ∷ xs) ys h = (h.0, before-left k xs ys h.1)

before-right : (k : ℕ) (xs ys : List ℕ) → AreBefore k (xs ++ ys) → AreBefore k ys
before-right k [] ys h = h
before-right k (x ∷ xs) ys h = before-right k xs ys h.1

-- ---- trees behind trees

at-more : (ts us : List Tree) (i : ℕ) → i < length ts → node_at (ts ++ us) i ≡ node_at ts i
at-more [] us i h = absurd (omega (arith, h))
at-more (t ∷ ts) us zero h = refl
at-more (t ∷ ts) us (suc i) h = at-more ts us i (omega (arith, h))

at-end : (ts : List Tree) (t : Tree) → node_at (ts ++ t ∷ []) (length ts) ≡ t
at-end [] t = refl
at-end (u ∷ ts) t = at-end ts t

end-more : (ts us : List Tree) (e : Option ℕ) → AreBefore (length ts) (given e) → end_at (ts ++ us) e ≡ end_at ts e
end-more ts us None h = refl
end-more ts us (Some i) h = ap end (at-more ts us i h.0)

test-more : (ts us : List Tree) (c : Option Condition) → AreBefore (length ts) (condition_operands c) → test_at (ts ++ us) c ≡ test_at ts c
test-more ts us None h = refl
test-more ts us (Some c) h = ap (test c.place) (at-more ts us c.test h.0)

trees-more : (ts us : List Tree) (is : List ℕ) (rest : Trees) → AreBefore (length ts) is → trees_at (ts ++ us) is rest ≡ trees_at ts is rest
trees-more ts us [] rest h = refl
trees-more ts us (i ∷ is) rest h = rw (at-more ts us i h.0, trees-more ts us is rest h.1) refl

loops-more : (ts us : List Tree) (ls : List Loop) (rest : Loops) → AreBefore (length ts) (flat_map loop_operands ls) → loops_at (ts ++ us) ls rest ≡ loops_at ts ls rest
loops-more ts us [] rest h = refl
loops-more ts us (l ∷ ls) rest h =
    let n = length ts in
    let c = before-left n (condition_operands l.condition) (flat_map loop_operands ls) h.1 in
    let r = before-right n (condition_operands l.condition) (flat_map loop_operands ls) h.1 in
    rw (at-more ts us l.over h.0, test-more ts us l.condition c, loops-more ts us ls rest r) refl

entries-more : (ts us : List Tree) (is : List node.Item) (rest : Entries) → AreBefore (length ts) (flat_map item_operands is) → entries_at (ts ++ us) is rest ≡ entries_at ts is rest
entries-more ts us [] rest h = refl
entries-more ts us (i ∷ is) rest h =
    let n = length ts in
    let l = before-left n (flat_map loop_operands i.loops) (flat_map item_operands is) h.1 in
    let r = before-right n (flat_map loop_operands i.loops) (flat_map item_operands is) h.1 in
    rw (at-more ts us i.body h.0, loops-more ts us i.loops no_loops l, entries-more ts us is rest r) refl

fields-more : (ts us : List Tree) (fs : List Field) (rest : Fields) → AreBefore (length ts) (flat_map field_operands fs) → fields_at (ts ++ us) fs rest ≡ fields_at ts fs rest
fields-more ts us [] rest h = refl
fields-more ts us (f ∷ fs) rest h = rw (at-more ts us f.value h.0, fields-more ts us fs rest h.1) refl

-- ---- the tree of a node

form-more : (ts us : List Tree) (p : ℕ) (f : Form) → AreBefore (length ts) (operands f) → form_tree (ts ++ us) p f ≡ form_tree ts p f
form-more ts us p form.Null h = refl
form-more ts us p (form.Truth b) h = refl
form-more ts us p (form.Number z) h = refl
form-more ts us p (form.Text t) h = refl
form-more ts us p (form.Name x) h = refl
form-more ts us p (form.Call x is) h = ap (call p x) (trees-more ts us is no_trees h)
form-more ts us p (form.List is) h = ap (list p) (entries-more ts us is no_entries h)
form-more ts us p (form.Object fs) h = ap (object p) (fields-more ts us fs no_fields h)
form-more ts us p (form.Index a i) h = rw (at-more ts us a h.0, at-more ts us i h.1.0) refl
form-more ts us p (form.Slice a x y) h =
    rw (at-more ts us a h.0, end-more ts us x (before-left (length ts) (given x) (given y) h.1), end-more ts us y (before-right (length ts) (given x) (given y) h.1)) refl
form-more ts us p (form.Signed s a) h = ap (signed p s) (at-more ts us a h.0)
form-more ts us p (form.Operation o a b) h = rw (at-more ts us a h.0, at-more ts us b h.1.0) refl

-- the trees made so far stay in front
onto-front : (ts : List Tree) (ns : List Node) → (more : List Tree) × (trees_onto ts ns ≡ ts ++ more)
unfolding trees_onto
onto-front ts [] = ([], sym (append-nil ts))
onto-front ts (n ∷ ns) =
    let t : Tree = form_tree ts n.place n.form in
    let r = onto-front (ts ++ t ∷ []) ns in
    (t ∷ r.0, r.1 ∙ append_assoc ts (t ∷ []) r.0)

onto-length : (ts : List Tree) (ns : List Node) → length (trees_onto ts ns) ≡ length ts + length ns
unfolding trees_onto
onto-length ts [] = omega arith
onto-length ts (n ∷ ns) = omega (arith, onto-length (ts ++ form_tree ts n.place n.form ∷ []) ns, length-append ts (form_tree ts n.place n.form ∷ []))

onto-at : (ts : List Tree) (ns : List Node) (i : ℕ) (n : Node) → IsOrdered (length ts) ns → i < length ns → n ≡ get_or ns i n → node_at (trees_onto ts ns) (length ts + i) ≡ form_tree (trees_onto ts ns) n.place n.form
unfolding trees_onto
onto-at ts [] i n o lt is = absurd (omega arith)
onto-at ts (m ∷ ns) zero n o lt is =
    let t : Tree = form_tree ts m.place m.form in
    let r = onto-front (ts ++ t ∷ []) ns in
    let len : length (ts ++ t ∷ []) ≡ length ts + 1 = omega (arith, length-append ts (t ∷ [])) in
    let stays : node_at ((ts ++ t ∷ []) ++ r.0) (length ts) ≡ t = at-more (ts ++ t ∷ []) r.0 (length ts) (omega arith) ∙ at-end ts t in
    let here : length ts + 0 ≡ length ts = omega arith in
    let grown : t ≡ form_tree (ts ++ (t ∷ r.0)) m.place m.form = sym (form-more ts (t ∷ r.0) m.place m.form o.0) in
    rw (is, here, r.1) (stays ∙ grown ∙ ap (λ (x : List Tree). form_tree x m.place m.form) (sym (append_assoc ts (t ∷ []) r.0)))
onto-at ts (m ∷ ns) (suc i) n o lt is =
    let t : Tree = form_tree ts m.place m.form in
    let len : length (ts ++ t ∷ []) ≡ suc (length ts) = omega (arith, length-append ts (t ∷ [])) in
    let o2 : IsOrdered (length (ts ++ t ∷ [])) ns = rw len o.1 in
    let next = onto-at (ts ++ t ∷ []) ns i n o2 (omega arith) is in
    let k : length ts + suc i ≡ length (ts ++ t ∷ []) + i = omega (arith, len) in
    rw k next

-- the tree of a node among all
pub tree-at : (ns : List Node) (i : ℕ) (n : Node) → IsOrdered 0 ns → i < length ns → n ≡ get_or ns i n → node_at (trees ns) i ≡ form_tree (trees ns) n.place n.form
tree-at ns i n o lt is = let k : i ≡ 0 + i = omega arith in ap (node_at (trees ns)) k ∙ onto-at [] ns i n o lt is

-- behind the last node
pub tree-past : (ns : List Node) (i : ℕ) → length ns ≤ i → node_at (trees ns) i ≡ null 0
tree-past ns i le = get_or_past (trees ns) i (null 0) (omega (arith, onto-length [] ns))
