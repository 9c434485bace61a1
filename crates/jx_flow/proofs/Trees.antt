-- The expression of a node is made of those of the nodes before it.
use Rattle.std.proofs.Common.{◌≡◌, ℕ, zero, suc, ◌+◌, ◌<◌, ◌≤◌, List, [], ◌∷◌, ◌++◌, length, get_or, take, Some, None, refl, sym, ap, subst, ◌∙◌, arith}
use Rattle.std.specs.List.{flat_map}
use Rattle.std.proofs.lemmas.List.{length-append}
use Rattle.jx_syntax.specs.declared.node.Field.{Field}
use Rattle.jx_syntax.specs.declared.node.Form.{Form}
use Rattle.jx_syntax.specs.declared.node.Form.TheVariants as form
use Rattle.jx_syntax.specs.declared.node.Node.{Node}
use Rattle.jx_syntax.specs.Tree.{Tree, Fields, no_fields, node_at, fields_at, form_tree, trees_onto, operands, field_operands, AreBefore, IsOrdered}
use Rattle.jx_flow.specs.Flow.{literal}
use Rattle.jx_flow.specs.Nodes.{tree_at, said, AreWithin}

at_more : (ts us : List Tree) (k : ℕ) → k < length ts → node_at (ts ++ us) k ≡ node_at ts k
at_more [] us k lt = absurd (omega arith)
at_more (t ∷ ts) us zero lt = refl
at_more (t ∷ ts) us (suc k) lt = at_more ts us k (omega arith)

at_last : (ts : List Tree) (t : Tree) → node_at (ts ++ t ∷ []) (length ts) ≡ t
at_last [] t = refl
at_last (u ∷ ts) t = at_last ts t

one_longer : (ts : List Tree) (t : Tree) → length (ts ++ t ∷ []) ≡ length ts + 1
one_longer ts t = length-append ts (t ∷ [])

-- what was made stays as more nodes come
stays : (ts : List Tree) (ns : List Node) (k : ℕ) → k < length ts → node_at (trees_onto ts ns) k ≡ node_at ts k
unfolding trees_onto
stays ts [] k lt = refl
stays ts (n ∷ ns) k lt =
    let t : Tree = form_tree ts n.place n.form in
    stays (ts ++ t ∷ []) ns k (omega (arith, one_longer ts t)) ∙ at_more ts (t ∷ []) k lt

-- a node's expression
made : (ts : List Tree) (ns : List Node) (i j : ℕ) (n : Node) → j ≡ length ts + i → i < length ns → n ≡ get_or ns i n
    → node_at (trees_onto ts ns) j ≡ form_tree (trees_onto ts (take i ns)) n.place n.form
unfolding trees_onto
made ts [] i j n e lt is = absurd (omega arith)
made ts (m ∷ ns) zero j n e lt is =
    let t : Tree = form_tree ts m.place m.form in
    let l : j ≡ length ts = omega (arith, e) in
    stays (ts ++ t ∷ []) ns j (omega (arith, one_longer ts t, l)) ∙ ap (node_at (ts ++ t ∷ [])) l ∙ at_last ts t ∙ ap (λ (x : Node). form_tree ts x.place x.form) (sym is)
made ts (m ∷ ns) (suc i) j n e lt is =
    let t : Tree = form_tree ts m.place m.form in
    made (ts ++ t ∷ []) ns i j n (omega (arith, e, one_longer ts t)) (omega arith) is

-- the expressions of the first nodes don't need the others
agrees : (ts : List Tree) (ns : List Node) (i k : ℕ) → k < length ts + i → i ≤ length ns → node_at (trees_onto ts (take i ns)) k ≡ node_at (trees_onto ts ns) k
unfolding trees_onto
agrees ts ns zero k lt le = sym (stays ts ns k (omega arith))
agrees ts [] (suc i) k lt le = absurd (omega arith)
agrees ts (n ∷ ns) (suc i) k lt le =
    let t : Tree = form_tree ts n.place n.form in
    agrees (ts ++ t ∷ []) ns i k (omega (arith, one_longer ts t)) (omega arith)

-- a node's operands stand before it
before : (k : ℕ) (ns : List Node) (i j : ℕ) (n : Node) → j ≡ k + i → IsOrdered k ns → i < length ns → n ≡ get_or ns i n → AreBefore j (operands n.form)
before k [] i j n e h lt is = absurd (omega arith)
before k (m ∷ ns) zero j n e h lt is =
    let at : k ≡ j = omega (arith, e) in
    let P : Node → Type 0 = λ (x : Node). AreBefore j (operands x.form) in
    let Q : ℕ → Type 0 = λ (q : ℕ). AreBefore q (operands m.form) in
    subst P (sym is) (subst Q at h.0)
before k (m ∷ ns) (suc i) j n e h lt is = before (suc k) ns i j n (omega (arith, e)) h.1 (omega arith) is

fields_agree : (ts us : List Tree) (j : ℕ) (fs : List Field) → AreBefore j (flat_map field_operands fs) → ((k : ℕ) → k < j → node_at ts k ≡ node_at us k)
    → fields_at ts fs no_fields ≡ fields_at us fs no_fields
fields_agree ts us j [] h same = refl
fields_agree ts us j (f ∷ fs) h same = rw (same f.value h.0, fields_agree ts us j fs h.1 same) refl

among : (j n : ℕ) (fs : List Field) → j ≤ n → AreBefore j (flat_map field_operands fs) → (k : ℕ) (d : Field) → k < length fs → (get_or fs k d).value < n
among j n [] le h k d lt = absurd (omega arith)
among j n (f ∷ fs) le h zero d lt = omega (arith, h.0, le)
among j n (f ∷ fs) le h (suc k) d lt = among j n fs le h.1 k d (omega (arith, lt))

object_operands : (ns : List Node) (i : ℕ) (n : Node) (fs : List Field) → IsOrdered 0 ns → i < length ns → n ≡ get_or ns i n → n.form ≡ form.Object fs
    → AreBefore i (flat_map field_operands fs)
object_operands ns i n fs h lt is e =
    let P : Form → Type 0 = λ (f : Form). AreBefore i (operands f) in
    subst P e (before 0 ns i i n (omega arith) h lt is)

-- the node of an object literal
pub literal_found : (ns : List Node) (i : ℕ) (n : Node) (fs : List Field) → IsOrdered 0 ns → i < length ns → n ≡ get_or ns i n → n.form ≡ form.Object fs
    → Some (said ns fs) ≡ literal (tree_at ns i)
literal_found ns i n fs h lt is e =
    let ts : List Tree = trees_onto [] (take i ns) in
    let t : tree_at ns i ≡ form_tree ts n.place (form.Object fs) = made [] ns i i n (omega arith) lt is ∙ ap (form_tree ts n.place) e in
    let same : fields_at ts fs no_fields ≡ said ns fs = fields_agree ts (trees_onto [] ns) i fs (object_operands ns i n fs h lt is e) (λ k l. agrees [] ns i k (omega (arith, l)) (omega (arith, lt))) in
    ap (λ (g : Fields). Some g) (sym same) ∙ ap literal (sym t)

-- the values of its fields are nodes
pub literal_within : (ns : List Node) (i : ℕ) (n : Node) (fs : List Field) → IsOrdered 0 ns → i < length ns → n ≡ get_or ns i n → n.form ≡ form.Object fs
    → AreWithin (length ns) fs
literal_within ns i n fs h lt is e = among i (length ns) fs (omega (arith, lt)) (object_operands ns i n fs h lt is e)

other : (ts : List Tree) (p : ℕ) (f : Form) → ((fs : List Field) → f ≡ form.Object fs → ⊥) → None ≡ literal (form_tree ts p f)
other ts p form.Null h = refl
other ts p (form.Truth b) h = refl
other ts p (form.Number z) h = refl
other ts p (form.Text t) h = refl
other ts p (form.Name x) h = refl
other ts p (form.Call x is) h = refl
other ts p (form.List is) h = refl
other ts p (form.Object fs) h = absurd (h fs refl)
other ts p (form.Index a i) h = refl
other ts p (form.Slice a x y) h = refl
other ts p (form.Signed s a) h = refl
other ts p (form.Operation o a b) h = refl

-- a node of another form is no object literal
pub no_literal : (ns : List Node) (i : ℕ) (n : Node) → i < length ns → n ≡ get_or ns i n → ((fs : List Field) → n.form ≡ form.Object fs → ⊥) → None ≡ literal (tree_at ns i)
no_literal ns i n lt is h = other (trees_onto [] (take i ns)) n.place n.form h ∙ ap literal (sym (made [] ns i i n (omega arith) lt is))
