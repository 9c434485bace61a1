-- Operators and signs get their operand.
use Rattle.std.proofs.Common.{◌≡◌, ℕ, suc, ◌<◌, ◌≤◌, List, [], ◌∷◌, ◌++◌, length, refl, sym, ap, subst, ◌∙◌}
use Rattle.std.proofs.lemmas.Bool.{lt-leb, le-leb}
use Rattle.jx_syntax.specs.declared.operator.Operator.{Operator}
use Rattle.jx_syntax.specs.declared.operator.Sign.{Sign}
use Rattle.jx_syntax.specs.declared.node.Form.TheVariants as form
use Rattle.jx_syntax.specs.declared.node.Node.{Node}
use Rattle.jx_syntax.specs.declared.pending.Pending.{Pending}
use Rattle.jx_syntax.specs.declared.pending.Pending.TheVariants as pending
use Rattle.jx_syntax.specs.Grammar.{Derivation, signed, operation, binds, sign_binds}
use Rattle.jx_syntax.specs.Reading.{Frame, left, before, depth, reduce}
use Rattle.jx_syntax.specs.Tree as tree
use Rattle.jx_syntax.specs.Tree.{Tree, tree_of, node_at}
use Rattle.jx_syntax.specs.Shown.{trees, IsLast, Shows}
use Rattle.jx_syntax.proofs.Nodes.{shows_more, last_new}
use Rattle.jx_syntax.proofs.Steps.{IsTop, is_top}

module _ (ns ms : List Node) (qs : List Pending) (operand k : ℕ) (fs : List Frame) (x : Derivation) where
  pub left_applied : (p : ℕ) (o : Operator) (i : ℕ) → Shows ns (pending.Left p o i ∷ qs) fs → IsLast ns operand (tree_of x) → ms ≡ ns ++ record { place = p; form = form.Operation o i operand } ∷ []
      → k ≤ binds o → (below : List Frame) × (whole : Derivation) × Shows ms qs below × (depth fs ≡ depth below) × IsLast ms (length ns) (tree_of whole) × (reduce k below whole ≡ reduce k fs x)
  unfolding reduce
  left_applied p o i h l e le =
      let t : IsTop ns (pending.Left p o i) qs fs = is_top ns (pending.Left p o i) qs fs h in
      let a : Derivation = t.is.0 in
      let n : Node = record { place = p; form = form.Operation o i operand } in
      let same : fs ≡ left a p o ∷ t.below = t.same ∙ ap (λ (f : Frame). f ∷ t.below) t.is.1 in
      let made : tree.operation p o (node_at (trees ns) i) (node_at (trees ns) operand) ≡ tree.operation p o (tree_of a) (tree_of x) =
      ap (λ (u : Tree). tree.operation p o u (node_at (trees ns) operand)) t.is.2.shows ∙ ap (tree.operation p o (tree_of a)) l.node.shows in (
        t.below,
        operation p o a x,
        subst (λ (ls : List Node). Shows ls qs t.below) (sym e) (shows_more ns n qs t.below t.rest (t.is.2.within, (l.node.within, tt))),
        ap depth same,
        subst (λ (ls : List Node). IsLast ls (length ns) (tree_of (operation p o a x))) (sym e) (last_new ns n (tree_of (operation p o a x)) made),
        sym (ap (λ (f : List Frame). reduce k f x) same ∙ rw (le-leb k (binds o) le) refl),
      )

  pub before_applied : (p : ℕ) (s : Sign) → Shows ns (pending.Before p s ∷ qs) fs → IsLast ns operand (tree_of x) → ms ≡ ns ++ record { place = p; form = form.Signed s operand } ∷ []
      → k ≤ sign_binds s → (below : List Frame) × (whole : Derivation) × Shows ms qs below × (depth fs ≡ suc (depth below)) × IsLast ms (length ns) (tree_of whole) × (reduce k below whole ≡ reduce k fs x)
  unfolding reduce
  before_applied p s h l e le =
      let t : IsTop ns (pending.Before p s) qs fs = is_top ns (pending.Before p s) qs fs h in
      let n : Node = record { place = p; form = form.Signed s operand } in
      let same : fs ≡ before p s ∷ t.below = t.same ∙ ap (λ (f : Frame). f ∷ t.below) t.is in (
        t.below,
        signed p s x,
        subst (λ (ls : List Node). Shows ls qs t.below) (sym e) (shows_more ns n qs t.below t.rest (l.node.within, tt)),
        ap depth same,
        subst (λ (ls : List Node). IsLast ls (length ns) (tree_of (signed p s x))) (sym e) (last_new ns n (tree_of (signed p s x)) (ap (tree.signed p s) l.node.shows)),
        sym (ap (λ (f : List Frame). reduce k f x) same ∙ rw (le-leb k (sign_binds s) le) refl),
      )

abbrev kept : List Frame → Derivation → List Frame × Derivation
kept fs x = (fs, x)

module _ (ns : List Node) (qs : List Pending) (k : ℕ) (fs : List Frame) (x : Derivation) where
  pub left_kept : (p : ℕ) (o : Operator) (i : ℕ) → Shows ns (pending.Left p o i ∷ qs) fs → binds o < k → reduce k fs x ≡ (fs, x)
  unfolding reduce
  left_kept p o i h lt =
      let t : IsTop ns (pending.Left p o i) qs fs = is_top ns (pending.Left p o i) qs fs h in
      let same : fs ≡ left t.is.0 p o ∷ t.below = t.same ∙ ap (λ (f : Frame). f ∷ t.below) t.is.1 in
      ap (λ (f : List Frame). reduce k f x) same ∙ rw (lt-leb k (binds o) lt) (ap (λ (f : List Frame). kept f x) (sym same))

  pub before_kept : (p : ℕ) (s : Sign) → Shows ns (pending.Before p s ∷ qs) fs → sign_binds s < k → reduce k fs x ≡ (fs, x)
  unfolding reduce
  before_kept p s h lt =
      let t : IsTop ns (pending.Before p s) qs fs = is_top ns (pending.Before p s) qs fs h in
      let same : fs ≡ before p s ∷ t.below = t.same ∙ ap (λ (f : Frame). f ∷ t.below) t.is in
      ap (λ (f : List Frame). reduce k f x) same ∙ rw (lt-leb k (sign_binds s) lt) (ap (λ (f : List Frame). kept f x) (sym same))

  pub none_kept : Shows ns [] fs → reduce k fs x ≡ (fs, x)
  unfolding reduce
  none_kept h = ap (λ (f : List Frame). reduce k f x) h.stack ∙ ap (λ (f : List Frame). kept f x) (sym h.stack)

  by_frame : (gs : List Frame) (f : Frame) → fs ≡ f ∷ gs → reduce k (f ∷ gs) x ≡ (f ∷ gs, x) → reduce k fs x ≡ (fs, x)
  by_frame gs f e h = ap (λ (l : List Frame). reduce k l x) e ∙ h ∙ ap (λ (l : List Frame). kept l x) (sym e)

  pub other_kept : (q : Pending) → Shows ns (q ∷ qs) fs → ((p : ℕ) (o : Operator) (i : ℕ) → q ≡ pending.Left p o i → ⊥) → ((p : ℕ) (s : Sign) → q ≡ pending.Before p s → ⊥) → reduce k fs x ≡ (fs, x)
  unfolding reduce
  other_kept (pending.Left p o i) h a b = absurd (a p o i refl)
  other_kept (pending.Before p s) h a b = absurd (b p s refl)
  other_kept pending.Grouped h a b = let t = is_top ns pending.Grouped qs fs h in by_frame t.below _ (t.same ∙ ap (λ (f : Frame). f ∷ t.below) t.is.1) refl
  other_kept (pending.Argued p y is) h a b = let t = is_top ns (pending.Argued p y is) qs fs h in by_frame t.below _ (t.same ∙ ap (λ (f : Frame). f ∷ t.below) t.is.2) refl
  other_kept (pending.Listed from is q) h a b = let t = is_top ns (pending.Listed from is q) qs fs h in by_frame t.below _ (t.same ∙ ap (λ (f : Frame). f ∷ t.below) t.is.2) refl
  other_kept (pending.Keyed from gs key) h a b = let t = is_top ns (pending.Keyed from gs key) qs fs h in by_frame t.below _ (t.same ∙ ap (λ (f : Frame). f ∷ t.below) t.is.3) refl
  other_kept (pending.Indexed i from) h a b = let t = is_top ns (pending.Indexed i from) qs fs h in by_frame t.below _ (t.same ∙ ap (λ (f : Frame). f ∷ t.below) t.is.1) refl
  other_kept (pending.Sliced i from e) h a b = let t = is_top ns (pending.Sliced i from e) qs fs h in by_frame t.below _ (t.same ∙ ap (λ (f : Frame). f ∷ t.below) t.is.3) refl
